use Rattle.std.proofs.lemmas.Result.{err_from_is_err_and}
use Rattle.std.proofs.Common.{◌∙◌}
use Rattle.session.proofs.Replaying.{sheet_made, sheet_refused}
use Rattle.session.proofs.session.Session.make.Goals as goal

pub returns-in_err-length-in-Sheet-clause-call : goal.returns-in_err-length-in-Sheet-clause-call
returns-in_err-length-in-Sheet-clause-call g c =
    let p = err_from_is_err_and c.from_residual-in_err-length-in-Sheet.result c.from_residual-in_err-length-in-Sheet.ensures.1 in
    rw (p.1, p.2) (λ ready. sheet_refused _ _ (g.met.S.Source.shows _ ready) _ c.args.self.now.board _ c.in-Sheet.field-0 _ _ c.in-Sheet.is (c.deref_mut.ensures.len ∙ c.args.step.long) (c.in_err-length-in-Sheet.ensures.call ready))

pub returns-in_ok-length-in-Sheet-clause-call : goal.returns-in_ok-length-in-Sheet-clause-call
returns-in_ok-length-in-Sheet-clause-call g c = λ ready.
    sheet_made _ _ (g.met.S.Source.shows _ ready) _ c.args.self.now.board _ c.in-Sheet.field-0 c.args.step.page.len _ _ _ _ _ c.in-Sheet.is c.args.step.long c.deref_mut.ensures.len c.sheet.auto.out c.truncate.ensures.items (c.in_ok-length-in-Sheet.ensures.call ready)
