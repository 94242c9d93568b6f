use Rattle.std.proofs.Common.{Err, sym, refl, ap, ◌∙◌}
use Rattle.std.proofs.lemmas.Result.{err_from_is_err_and}
use Rattle.session.proofs.Answering.{unpinned, pins}
use Rattle.session.proofs.session.Session.pin.Goals as goal

pub returns-in_err-at : goal.returns-in_err-at
returns-in_err-at g c =
    let p = err_from_is_err_and c.from_residual.result c.from_residual.ensures.1 in
    record { call = λ ready. unpinned _ _ (g.met.S.Source.shows _ ready) _ c.args.self.now.board _ _ _ p.0 p.1 (sym c.in_err-at.ensures.value ∙ ap Err (sym p.2)); kept = (refl, refl) }

pub returns : goal.returns
returns g c =
    record { call = λ ready. pins _ _ (g.met.S.Source.shows _ ready) _ c.args.self.now.board _ _ _ _ _ (sym c.in_ok-at.ensures.value) c.turned_at-turned.ensures.value c.pin_at.ensures; kept = (refl, refl) }
