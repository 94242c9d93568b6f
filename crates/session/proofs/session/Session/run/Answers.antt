use Rattle.std.proofs.Common.{ℕ, ◌-◌, sym, refl, ap, ◌∙◌, ap₂, arith}
use Rattle.refinement.specs.Taking.{ran}
use Rattle.session.proofs.Answering.{not_run, runs}
use Rattle.session.proofs.Counting.{taken_few}
use Rattle.session.proofs.session.Session.run.Goals as goal

pub returns-then-not-loaded : goal.returns-then-not-loaded
returns-then-not-loaded g c =
    record { call = λ ready. not_run _ _ (g.met.S.Source.shows _ ready) _ c.args.self.now.board _ (sym c.loaded.ensures.value ∙ c.if-not-loaded.true); kept = (refl, refl) }

pub overflow_cast-taken : goal.overflow_cast-taken
overflow_cast-taken g c =
    let few = taken_few (g.S.Source.answers c.args.self.now.source) g.D.Side.FIXPOINT c.from.result c.args.self.now.board c.run.new.board _ _ _ c.run.ensures c.taken-taken.ensures.value c.taken.ensures.value c.saturating_sub-taken.ensures in
    omega (arith, few, c.from.ensures)

pub returns : goal.returns
returns g c =
    record {
      call = λ ready. runs (g.S.Source.answers c.args.self.now.source) _ (g.met.S.Source.shows _ ready) g.D.Side.FIXPOINT c.args.self.now.board c.args.budget c.run.new.board _ _ c.waiting.result (sym c.loaded.ensures.value ∙ c.if-not-loaded.false) (c.run.ensures ∙ ap (λ (k : ℕ). ran (g.S.Source.answers c.args.self.now.source) g.D.Side.FIXPOINT k c.args.self.now.board) c.from.ensures)
          c.waiting.ensures.value (c.saturating_sub-taken.ensures ∙ ap₂ (λ (m n : ℕ). m - n) c.taken.ensures.value c.taken-taken.ensures.value) (c.saturating_sub-looks.ensures ∙ ap₂ (λ (m n : ℕ). m - n) c.looks.ensures.value c.looks-looks.ensures.value);
      kept = (refl, refl);
    }
