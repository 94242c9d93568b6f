use Rattle.std.proofs.Common.{sym, refl, ◌∙◌}
use Rattle.fields.proofs.Exits.{exit}
use Rattle.job.specs.Reading.{in_flow, in_rulebook}
use Rattle.job.specs.declared.fault.Part.TheVariants.{Flow, Book}
use Rattle.job.proofs.Holding.{held_ok, held_err}
use Rattle.job.proofs.job.Job.read.Goals as goal

pub returns-in_err-flow : goal.returns-in_err-flow
returns-in_err-flow c =
    let h = held_err Flow _ _ c.read_flow.result _ (sym c.hold.ensures ∙ c.in_err-flow.was) c.read_flow.ensures in
    exit _ _ _ c.in_err-flow.field-0.0 c.from_residual.ensures.1 (in_flow h.0 h.2 h.1 refl)

pub returns-in_err-book : goal.returns-in_err-book
returns-in_err-book c =
    let n = held_ok Flow _ _ c.read_flow.result _ (sym c.hold.ensures ∙ c.in_ok-flow.was) c.read_flow.ensures in
    let h = held_err Book _ _ c.read_rulebook.result _ (sym c.hold-2.ensures ∙ c.in_err-book.was) c.read_rulebook.ensures in
    exit _ _ _ c.in_err-book.field-0.0 c.from_residual-in_err-book.ensures.1 (in_rulebook c.in_ok-flow.flow n h.0 h.2 h.1)
