use Rattle.std.proofs.Common.{ℕ, ◌+◌, List, ◌++◌, drop, refl, ap, ◌∙◌, arith}
use Rattle.report.specs.Lines.{equation_lines}
use Rattle.report.proofs.Pushing.{equations_more, equations_all}
use Rattle.report.proofs.printing.push_equations.Goals as goal

pub loop-i-preserved : goal.loop-i-preserved
loop-i-preserved c =
    let i = c.loop-i.i-counter in
    let rest = equation_lines (i + 1) (drop (i + 1) c.args.items.now) in
    ap (λ (b : List ℕ). b ++ rest) c.in_ok-writeln.ensures.bytes
    ∙ equations_more c.args.items.now i _ _ c.loop-i.invariant _ (record { form = 0; first = 0; second = 0 }) (omega arith) refl _ refl

pub returns : goal.returns
returns c = equations_all _ c.loop-i.i-counter _ _ c.loop-i.invariant (omega arith)
