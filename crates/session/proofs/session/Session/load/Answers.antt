use Rattle.std.proofs.Common.{sym, refl, ◌∙◌}
use Rattle.session.proofs.Answering.{improper, too_many, loads}
use Rattle.session.proofs.session.Session.load.Goals as goal

pub returns-then-not-proper : goal.returns-then-not-proper
returns-then-not-proper g c =
    record { call = λ ready. improper _ _ (g.met.S.Source.shows _ ready) _ c.args.self.now.board _ (sym c.proper.ensures ∙ c.if-not-proper.true); kept = (refl, refl) }

pub returns-then-not-fits : goal.returns-then-not-fits
returns-then-not-fits g c =
    record { call = λ ready. too_many _ _ (g.met.S.Source.shows _ ready) _ c.args.self.now.board _ (sym c.proper.ensures ∙ c.if-not-proper.false) (sym c.fits.ensures ∙ c.if-not-fits.true); kept = (refl, refl) }

pub returns : goal.returns
returns g c =
    record { call = λ ready. loads _ _ (g.met.S.Source.shows _ ready) _ c.args.self.now.board _ _ (sym c.proper.ensures ∙ c.if-not-proper.false) (sym c.fits.ensures ∙ c.if-not-fits.false) c.begin.ensures; kept = (refl, refl) }
