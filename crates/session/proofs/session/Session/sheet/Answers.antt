use Rattle.std.proofs.Common.{sym, refl, ◌∙◌}
use Rattle.session.proofs.Answering.{unshown, too_short, shows_sheet, rest_kept}
use Rattle.session.proofs.session.Session.sheet.Goals as goal

pub returns-then-not-loaded : goal.returns-then-not-loaded
returns-then-not-loaded g c =
    record { call = λ ready. unshown _ _ (g.met.S.Source.shows _ ready) _ c.args.self.now.board _ (sym c.loaded.ensures.value ∙ c.if-not-loaded.true); rest = refl }

pub returns-then-length-out : goal.returns-then-length-out
returns-then-length-out g c =
    record { call = λ ready. too_short _ _ (g.met.S.Source.shows _ ready) _ c.args.self.now.board _ _ _ _ (sym c.loaded.ensures.value ∙ c.if-not-loaded.false) c.write-length.ensures.wrote c.if-length-out.true; rest = refl }

pub returns : goal.returns
returns g c =
    record {
      call = λ ready. shows_sheet _ _ (g.met.S.Source.shows _ ready) _ c.args.self.now.board _ _ _ _ _ _ (sym c.loaded.ensures.value ∙ c.if-not-loaded.false) c.write-length.ensures.wrote c.if-length-out.false c.write.ensures.wrote;
      rest = rest_kept _ _ _ _ c.write.ensures.wrote;
    }
