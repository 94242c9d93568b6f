-- Running: pairs taken one after another, and when none waits.
use Rattle.std.proofs.Common.{◌≡◌, ℕ, zero, suc, ◌+◌, ◌*◌, ◌<◌, ◌≤◌, true, false, not, ◌&&◌, ◌⊎◌, List, [], ◌∷◌, ◌++◌, map, length, sym, refl, ap, ◌∙◌, subst₂, inl, inr, append_assoc, append-nil, arith}
use Rattle.std.proofs.lemmas.Bool.{both_ways, ltb-false, and_left, and_right, not-true, not_from_true, not_from_false, cases_Bool, cond_both}
use Rattle.std.proofs.lemmas.List.{take_all}
use Rattle.board.specs.State.{State, waiting}
use Rattle.lts.specs.Source.{Answers, Shows}
use Rattle.records.specs.declared.Fixpoint.{Fixpoint}
use Rattle.refinement.proofs.Tables.{among_elem}
use Rattle.refinement.proofs.Taking.{Took, next_pair, take_one}
use Rattle.refinement.specs.Represents.{Shown, pair_at}
use Rattle.refinement.specs.Taking.{ran, take_next}
use Rattle.semantics.proofs.Everywhere.{every_at, every_from}
use Rattle.semantics.specs.Equations.{cost}
use Rattle.semantics.specs.Lts.{Lts}
use Rattle.semantics.specs.Plain.{Takes, among, costs, settled, turned, waits}
use Rattle.semantics.specs.declared.Equation.{Equation}
use Rattle.semantics.specs.declared.Pair.{Pair}

module _ (A : Answers) (F : Lts) (shows : Shows A F) (d : Fixpoint) (B : List Equation) (pins : List Pair) where
  -- with all taken, every pair that has turned is among them
  none_waits : (σ : State) (taken : List Pair) (seen : ℕ) → Shown F d σ B pins taken seen → waiting σ ≡ false → settled F d B pins taken ≡ true
  unfolding settled waits
  none_waits σ taken seen h e =
      every_from F.states _ (λ s l. every_from (length B) _ (λ i k. one s i l k (cases_Bool (among s i taken))))
    where
      all : taken ≡ map (pair_at (length B)) σ.work
      all = sym h.done ∙ ap (map (pair_at (length B))) (take_all σ.taken σ.work (ltb-false σ.taken (length σ.work) e))

      one : (s i : ℕ) → s < F.states → i < length B → (among s i taken ≡ true) ⊎ (among s i taken ≡ false) → not (turned F d B pins taken s i && not (among s i taken)) ≡ true
      one s i l k (inl f) = not_from_false (turned F d B pins taken s i && not (among s i taken)) (and_right (turned F d B pins taken s i) (not (among s i taken)) (not_from_true (among s i taken) f))
      one s i l k (inr f) =
          let a : turned F d B pins taken s i ≡ false =
          sym (h.turned s i l k) ∙ sym (h.listed.exact (s * length B + i)) ∙ sym (among_elem (length B) s i σ.work k) ∙ ap (among s i) (sym all) ∙ f in
          not_from_false (turned F d B pins taken s i && not (among s i taken)) (and_left (turned F d B pins taken s i) (not (among s i taken)) a)

  some_waits : (σ : State) (taken : List Pair) (seen : ℕ) → Shown F d σ B pins taken seen → waiting σ ≡ true → settled F d B pins taken ≡ false
  unfolding settled
  some_waits σ taken seen h e = go (cases_Bool (settled F d B pins taken))
    where
      t : Took A F d σ B pins taken seen
      t = take_one A F shows d σ B pins taken seen h e

      go : (settled F d B pins taken ≡ true) ⊎ (settled F d B pins taken ≡ false) → settled F d B pins taken ≡ false
      go (inl f) =
          let s = (next_pair σ B).state in
          let i = (next_pair σ B).variable in
          let a : not (waits F d B pins taken s i) ≡ true = every_at (length B) _ (every_at F.states _ f s t.state_low) i t.variable_low in
          absurd (both_ways (waits F d B pins taken s i) (not-true (waits F d B pins taken s i) a) t.waited)
      go (inr f) = f

  pub settled_is : (σ : State) (taken : List Pair) (seen : ℕ) → Shown F d σ B pins taken seen → settled F d B pins taken ≡ not (waiting σ)
  settled_is σ taken seen h = go (cases_Bool (waiting σ))
    where
      go : (waiting σ ≡ true) ⊎ (waiting σ ≡ false) → settled F d B pins taken ≡ not (waiting σ)
      go (inl e) = some_waits σ taken seen h e ∙ sym (not_from_true (waiting σ) e)
      go (inr e) = none_waits σ taken seen h e ∙ sym (not_from_false (waiting σ) e)

  -- what a run of at most k makes of it
  pub record Ran (k : ℕ) (σ τ : State) (taken : List Pair) (seen : ℕ) : Type 0 where
    pub chosen : List Pair
    pub takes : Takes F d B pins taken chosen
    pub few : length chosen ≤ k
    pub full : settled F d B pins (taken ++ chosen) ≡ false → length chosen ≡ k
    pub number : τ.taken ≡ σ.taken + length chosen
    pub shown : Shown F d τ B pins (taken ++ chosen) (seen + costs F B chosen)

  ran_none : (k : ℕ) (σ : State) (taken : List Pair) (seen : ℕ) → Shown F d σ B pins taken seen → (settled F d B pins taken ≡ false → 0 ≡ k) → Ran k σ σ taken seen
  unfolding Takes costs
  ran_none k σ taken seen h full =
      record {
        chosen = [];
        takes = tt;
        few = omega arith;
        full = λ e. full (ap (settled F d B pins) (sym (append-nil taken)) ∙ e);
        number = omega arith;
        shown = subst₂ (λ (ps : List Pair) (l : ℕ). Shown F d σ B pins ps l) (sym (append-nil taken)) (omega arith) h;
      }

  pub runs : (k : ℕ) (σ : State) (taken : List Pair) (seen : ℕ) → Shown F d σ B pins taken seen → Ran k σ (ran A d k σ) taken seen
  unfolding ran Takes costs
  runs zero σ taken seen h = ran_none zero σ taken seen h (λ _. refl)
  runs (suc k) σ taken seen h = cond_both (waiting σ) (ran A d k (take_next A d σ)) σ (λ (τ : State). Ran (suc k) σ τ taken seen) (λ e. go (take_one A F shows d σ B pins taken seen h e) (runs k)) (λ e. ran_none (suc k) σ taken seen h (λ f. absurd (both_ways (settled F d B pins taken) f (none_waits σ taken seen h e))))
    where
      p : Pair
      p = next_pair σ B

      go : Took A F d σ B pins taken seen → ((σ : State) (taken : List Pair) (seen : ℕ) → Shown F d σ B pins taken seen → Ran k σ (ran A d k σ) taken seen) → Ran (suc k) σ (ran A d k (take_next A d σ)) taken seen
      go t before =
          let c = cost F B p.state p.variable in
          let r = before (take_next A d σ) (taken ++ (p ∷ [])) (seen + c) t.shown in
          let joined : taken ++ (p ∷ []) ++ r.chosen ≡ taken ++ (p ∷ r.chosen) = append_assoc taken (p ∷ []) r.chosen in
          record {
            chosen = p ∷ r.chosen;
            takes = (t.state_low, t.variable_low, t.waited, r.takes);
            few = let a = r.few in omega arith;
            full = λ e. ap suc (r.full (ap (settled F d B pins) joined ∙ e));
            number = let a = r.number in let b = t.counted_up in omega arith;
            shown = subst₂ (λ (ps : List Pair) (l : ℕ). Shown F d (ran A d k (take_next A d σ)) B pins ps l) joined (omega arith) r.shown;
          }
