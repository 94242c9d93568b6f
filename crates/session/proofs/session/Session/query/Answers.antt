use Rattle.std.proofs.Common.{Err, sym, ap, ◌∙◌}
use Rattle.std.proofs.lemmas.Result.{err_from_is_err_and}
use Rattle.session.proofs.Answering.{unasked, asks}
use Rattle.session.proofs.session.Session.query.Goals as goal

pub returns-in_err-at : goal.returns-in_err-at
returns-in_err-at g c ready =
    let p = err_from_is_err_and c.from_residual.result c.from_residual.ensures.1 in
    unasked _ _ (g.met.S.Source.shows _ ready) _ c.args.self.now.board _ _ _ p.0 p.1 (sym c.in_err-at.ensures.value ∙ ap Err (sym p.2))

pub returns : goal.returns
returns g c ready =
    asks _ _ (g.met.S.Source.shows _ ready) _ c.args.self.now.board _ _ _ _ _ _ _ _ (sym c.in_ok-at.ensures.value) c.turned_at.ensures.value (c.START.ensures ∙ g.D.Side.starts) c.waiting.ensures.value c.mark_of-mark.ensures c.pinned_at.ensures.value
