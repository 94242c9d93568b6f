use Rattle.std.proofs.Common.{◌≡◌, Bool, true, false, ◌||◌, sym, refl, ap, ◌∙◌}
use Rattle.table.specs.Records.{repeated, same_transition, same_divergence, same_label}
use Rattle.table.proofs.Ranges.{four, transitions_small, divergences_small, labels_small, transitions_same}
use Rattle.table.proofs.lists.Records.any_repeated.Goals as goal
use Rattle.table.proofs.lists.Records.any_repeated.Goals.{then-repeats, else-repeats}

pub repeats-requires-clause-small : goal.repeats-requires-clause-small
repeats-requires-clause-small c k x h =
    let d = four _ _ _ _ c.requires.inside in
    let p = transitions_small c.args.self.now.counts d.0 c.args.self.now.transitions.now d.1 k x h in (p.0, p.1)

pub repeats-requires-else-repeats-clause-small : goal.repeats-requires-else-repeats-clause-small
repeats-requires-else-repeats-clause-small c =
    let d = four _ _ _ _ c.requires.inside in divergences_small c.args.self.now.counts d.0 c.args.self.now.divergences.now d.2

pub repeats-requires-else-repeats-2-clause-small : goal.repeats-requires-else-repeats-2-clause-small
repeats-requires-else-repeats-2-clause-small c =
    let d = four _ _ _ _ c.requires.inside in labels_small c.args.self.now.counts d.0 c.args.self.now.labels.now d.3

-- what an `or` of two answers is, where the second is asked after the first answered false
asked_true : (a x y v : Bool) → v ≡ a → a ≡ true → a ≡ x → v ≡ (x || y)
asked_true a x y v e d f = e ∙ d ∙ ap (λ b. b || y) (sym d ∙ f)

asked_false : (a x y v : Bool) → v ≡ y → a ≡ false → a ≡ x → v ≡ (x || y)
asked_false a x y v e d f = e ∙ ap (λ b. b || y) (sym d ∙ f)

pub returns-then-repeats-2 : goal.returns-then-repeats-2
returns-then-repeats-2 c =
    let r = c.args.self.now in
    let d = four _ _ _ _ c.requires.inside in
    let first = c.repeats.ensures ∙ transitions_same r.counts d.0 r.transitions.now d.1 in
    let two : c.if-repeats.value ≡ (repeated same_transition r.transitions.now || repeated same_divergence r.divergences.now) = elim c.if-repeats.branch [
      | then-repeats w ↦ asked_true _ _ (repeated same_divergence r.divergences.now) _ w.value-is w.if-repeats.true first
      | else-repeats w ↦ asked_false _ _ _ _ (w.value-is ∙ w.repeats-else-repeats.ensures) w.if-repeats.false first
    ] in
    asked_true _ _ (repeated same_label r.labels.now) _ refl c.if-repeats-2.true two

pub returns-else-repeats-2 : goal.returns-else-repeats-2
returns-else-repeats-2 c =
    let r = c.args.self.now in
    let d = four _ _ _ _ c.requires.inside in
    let first = c.repeats.ensures ∙ transitions_same r.counts d.0 r.transitions.now d.1 in
    let two : c.if-repeats.value ≡ (repeated same_transition r.transitions.now || repeated same_divergence r.divergences.now) = elim c.if-repeats.branch [
      | then-repeats w ↦ asked_true _ _ (repeated same_divergence r.divergences.now) _ w.value-is w.if-repeats.true first
      | else-repeats w ↦ asked_false _ _ _ _ (w.value-is ∙ w.repeats-else-repeats.ensures) w.if-repeats.false first
    ] in
    asked_false _ _ _ _ c.repeats-else-repeats-2.ensures c.if-repeats-2.false two
