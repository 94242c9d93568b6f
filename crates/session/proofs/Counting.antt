-- A run takes at most as many pairs as it may.
use Rattle.std.proofs.Common.{◌≡◌, ℕ, zero, suc, ◌+◌, ◌-◌, ◌*◌, ◌/◌, ◌%◌, ◌≤◌, Bool, ◌&&◌, eqb, length, get_or, Some, None, Option, refl, ap, ◌∙◌, arith}
use Rattle.std.proofs.lemmas.Bool.{cond_both}
use Rattle.records.specs.declared.Fixpoint.{Fixpoint}
use Rattle.records.specs.declared.Form.{Form}
use Rattle.records.specs.declared.Form.TheVariants.{True, False, Atom, Or, And, Diamond, Box}
use Rattle.semantics.specs.Equations.{nth}
use Rattle.lts.specs.Source.{Answers}
use Rattle.board.specs.Each.{each}
use Rattle.board.specs.State.{State, place, pair?, front, waiting, looked, with_taken}
use Rattle.board.specs.Turning.{turn, spent, put, lower, strike}
use Rattle.refinement.specs.Sides.{counted, may_turn}
use Rattle.refinement.specs.Taking.{hit, hit_from, swept, visit_form, visit, walk, take_next, ran}

-- as many pairs are taken as before
abbrev Same : State → State → Type 0
Same σ τ = τ.taken ≡ σ.taken

turn_same : (at : ℕ) (σ : State) → Same σ (turn at σ)
unfolding turn
turn_same at σ = cond_both (get_or σ.turned at _) σ _ (Same σ) (λ _. refl) (λ _. refl)

lower_same : (may : Bool) (at : ℕ) (σ : State) → Same σ (lower may at σ)
unfolding lower spent
lower_same may at σ =
    let τ = put at (get_or σ.counts at 0 - 1) σ in
    cond_both (may && eqb (get_or τ.counts at 1) 0) (turn at τ) τ (Same σ) (λ _. turn_same at τ) (λ _. refl)

module _ (A : Answers) (d : Fixpoint) where
  hit_same : (s j : ℕ) (σ : State) → Same σ (hit A d s j σ)
  unfolding hit strike
  hit_same s j σ =
      let r = nth σ.book j in
      let may = may_turn d r.form (A.divergent s r.first) in
      let at = place σ s j in
      cond_both (pair? σ s j) _ σ (Same σ) (λ _. cond_both (counted d r.form) (lower may at σ) (turn at σ) (Same σ) (λ _. lower_same may at σ) (λ _. turn_same at σ)) (λ _. refl)

  from_same : (o : Option ℕ) (j : ℕ) (σ : State) → Same σ (hit_from A d o j σ)
  from_same (Some u) j σ = hit_same u j σ
  from_same None j σ = refl

  swept_same : (s a j n : ℕ) (σ : State) → Same σ (swept A d s a j n σ)
  unfolding each
  swept_same s a j zero σ = refl
  swept_same s a j (suc n) σ = from_same (A.predecessor s a n) j (looked (swept A d s a j n σ)) ∙ swept_same s a j n σ

  form_same : (s j : ℕ) (f : Form) (a : ℕ) (σ : State) → Same σ (visit_form A d s j f a σ)
  form_same s j True a σ = refl
  form_same s j False a σ = refl
  form_same s j Atom a σ = refl
  form_same s j Or a σ = hit_same s j (looked σ)
  form_same s j And a σ = hit_same s j (looked σ)
  form_same s j Diamond a σ = swept_same s a j (A.in_degree s a) σ
  form_same s j Box a σ = swept_same s a j (A.in_degree s a) σ

  visit_same : (s p : ℕ) (σ : State) → Same σ (visit A d s p σ)
  unfolding visit
  visit_same s p σ = let r = nth σ.book (p / 2) in form_same s (p / 2) r.form r.first σ

  walk_same : (s k q : ℕ) (σ : State) → Same σ (walk A d s k q σ)
  unfolding walk
  walk_same s zero q σ = refl
  walk_same s (suc k) zero σ = refl
  walk_same s (suc k) (suc p) σ = walk_same s k (get_or σ.next p 0) (visit A d s p σ) ∙ visit_same s p σ

  taken_one : (σ : State) → (take_next A d σ).taken ≡ σ.taken + 1
  unfolding take_next
  taken_one σ = let n = length σ.book in walk_same (front σ / n) (2 * n) (get_or σ.head (front σ % n) 0) (with_taken (looked σ) (σ.taken + 1))

  pub ran_few : (k : ℕ) (σ : State) → (ran A d k σ).taken - σ.taken ≤ k
  unfolding ran
  ran_few zero σ = omega arith
  ran_few (suc k) σ =
      cond_both (waiting σ) (ran A d k (take_next A d σ)) σ (λ (τ : State). τ.taken - σ.taken ≤ suc k)
      (λ _. let a = taken_one σ in let b = ran_few k (take_next A d σ) in omega arith) (λ _. omega arith)

  -- the pairs taken in a run, by what was taken before and after
  pub taken_few : (k : ℕ) (σ τ : State) (before after n : ℕ) → τ ≡ ran A d k σ → before ≡ σ.taken → after ≡ τ.taken → n ≡ after - before → n ≤ k
  taken_few k σ τ before after n e f g h = let a = ap (λ (υ : State). υ.taken) e in let b = ran_few k σ in omega arith
