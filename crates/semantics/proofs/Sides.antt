-- Both sides as one: the pairs that have left the starting value grow under one monotone step.
use Rattle.std.proofs.Common.{◌≡◌, ℕ, zero, suc, ◌*◌, Bool, true, false, cond, not, List, length, sym, refl, ap, ◌∙◌, arith}
use mathlib.Core.Bool.{beq}
use mathlib.Core.Path.{fun_ext}
use Rattle.std.proofs.lemmas.Bool.{both_ways}
use Rattle.records.specs.declared.Fixpoint.{Fixpoint}
use Rattle.records.specs.declared.Fixpoint.TheVariants.{Greatest, Least}
use Rattle.semantics.specs.declared.Equation.{Equation}
use Rattle.semantics.specs.declared.Pair.{Pair}
use Rattle.semantics.specs.Lts.{Lts}
use Rattle.semantics.specs.Equations.{Marking, true_at, rounds, solution, start}
use Rattle.semantics.specs.Plain.{among}
use Rattle.semantics.specs.Law.{Sound, Closed, Within}
use Rattle.semantics.proofs.Markings.{Named, true_at_mono}
use Rattle.semantics.proofs.Bools.{true_by, false_by, not_by}
use Rattle.semantics.proofs.Fix.{iter}

-- the starting marking, turned at the pairs of T
abbrev pub mark : Fixpoint → Marking → Marking
mark d T s i = cond (T s i) (not (start d)) (start d)

abbrev pub off : Fixpoint → Bool → Bool
off d b = not (beq b (start d))

unfoldable pub step : Lts → Fixpoint → List Equation → Marking → Marking
step F d B T s i = off d (true_at F B (mark d T) s i)

pub mark_off : (d : Fixpoint) (b : Bool) → cond (off d b) (not (start d)) (start d) ≡ b
mark_off Greatest true = refl
mark_off Greatest false = refl
mark_off Least true = refl
mark_off Least false = refl

mark_flip : (a b : Bool) → (a ≡ true → b ≡ true) → cond b false true ≡ true → cond a false true ≡ true
mark_flip false b h e = refl
mark_flip true true h e = e
mark_flip true false h e = absurd (both_ways false refl (h refl))

off_flip : (a b : Bool) → (b ≡ true → a ≡ true) → off Greatest a ≡ true → off Greatest b ≡ true
off_flip a false h e = refl
off_flip true true h e = e
off_flip false true h e = absurd (both_ways false refl (h refl))

mark_keep : (a b : Bool) → (a ≡ true → b ≡ true) → cond a true false ≡ true → cond b true false ≡ true
mark_keep true b h e = rw (h refl)
mark_keep false b h e = absurd (both_ways false refl e)

off_keep : (a b : Bool) → (a ≡ true → b ≡ true) → off Least a ≡ true → off Least b ≡ true
off_keep true b h e = rw (h refl)
off_keep false b h e = absurd (both_ways false refl e)

pub step_mono : (F : Lts) (d : Fixpoint) (B : List Equation) → Named B → (X Y : Marking) → Within F B X Y → Within F B (step F d B X) (step F d B Y)
unfolding step
step_mono F Greatest B names X Y h s i l k =
    off_flip (true_at F B (mark Greatest X) s i) (true_at F B (mark Greatest Y) s i) (true_at_mono F B names (mark Greatest Y) (mark Greatest X) (λ s i l k. mark_flip (X s i) (Y s i) (h s i l k)) s i l k)
step_mono F Least B names X Y h s i l k =
    off_keep (true_at F B (mark Least X) s i) (true_at F B (mark Least Y) s i) (true_at_mono F B names (mark Least X) (mark Least Y) (λ s i l k. mark_keep (X s i) (Y s i) (h s i l k)) s i l k)

-- The sides are two

pub least_greatest : Least ≡ Greatest → ⊥
least_greatest e = let z : ◌≡◌ {A = ℕ} 0 1 = cc in omega arith

pub greatest_least : Greatest ≡ Least → ⊥
greatest_least e = let z : ◌≡◌ {A = ℕ} 0 1 = cc in omega arith

-- T has the pinned pairs, and whatever a step adds to it
pub record Prefixed (F : Lts) (d : Fixpoint) (B : List Equation) (pins : List Pair) (T : Marking) : Type 0 where
  pub pinned : Within F B (λ s i. among s i pins) T
  pub stepped : Within F B (step F d B T) T

unmark : (t : Bool) → cond t false true ≡ true → t ≡ false
unmark true e = absurd (both_ways false refl e)
unmark false e = refl

pub unmark_least : (t : Bool) → cond t true false ≡ true → t ≡ true
unmark_least true e = refl
unmark_least false e = e

-- where turning excludes X, X is on
pub not_turned : (x t : Bool) → (t ≡ true → not x ≡ true) → x ≡ true → cond t false true ≡ true
not_turned x false f e = refl
not_turned true true f e = f refl
not_turned false true f e = e

mark_not : (b : Bool) → cond (not b) false true ≡ b
mark_not true = refl
mark_not false = refl

mark_same : (b : Bool) → cond b true false ≡ b
mark_same true = refl
mark_same false = refl

module _ (F : Lts) (B : List Equation) (pins : List Pair) where
  pub sound_prefixed : (X : Marking) → Sound F B pins X → Prefixed F Greatest B pins (λ s i. not (X s i))
  unfolding step
  sound_prefixed X h =
      let e : mark Greatest (λ s i. not (X s i)) ≡ X = fun_ext (λ s. fun_ext (λ i. mark_not (X s i))) in
      record {
        pinned = λ s i l k q. not_by (X s i) (λ x. both_ways (among s i pins) (h.unpinned s i l k x) q);
        stepped = λ s i l k q. not_by (X s i) (λ x. both_ways (true_at F B (mark Greatest (λ s i. not (X s i))) s i) (off_false _ q) (ap (λ (M : Marking). true_at F B M s i) e ∙ h.supported s i l k x));
      }
    where
      off_false : (b : Bool) → off Greatest b ≡ true → b ≡ false
      off_false true e = absurd (both_ways false refl e)
      off_false false e = refl

  pub prefixed_sound : (T : Marking) → Prefixed F Greatest B pins T → Sound F B pins (mark Greatest T)
  unfolding step
  prefixed_sound T h = record {
    unpinned = λ s i l k x. false_by (among s i pins) (λ q. both_ways (T s i) (unmark (T s i) x) (h.pinned s i l k q));
    supported = λ s i l k x. true_by (true_at F B (mark Greatest T) s i) (λ q. both_ways (T s i) (unmark (T s i) x) (h.stepped s i l k (off_of _ q)));
  }
    where
      off_of : (b : Bool) → b ≡ false → off Greatest b ≡ true
      off_of true e = absurd (both_ways true e refl)
      off_of false e = refl

  pub closed_prefixed : (X : Marking) → Closed F B pins X → Prefixed F Least B pins X
  unfolding step
  closed_prefixed X h =
      let e : mark Least X ≡ X = fun_ext (λ s. fun_ext (λ i. mark_same (X s i))) in
      record {
        pinned = h.pinned_in;
        stepped = λ s i l k q. h.true_in s i l k (ap (λ (M : Marking). true_at F B M s i) (sym e) ∙ off_true _ q);
      }
    where
      off_true : (b : Bool) → off Least b ≡ true → b ≡ true
      off_true true e = refl
      off_true false e = e

  pub prefixed_closed : (T : Marking) → Prefixed F Least B pins T → Closed F B pins (mark Least T)
  unfolding step
  prefixed_closed T h = record {
    pinned_in = λ s i l k q. mark_same (T s i) ∙ h.pinned s i l k q;
    true_in = λ s i l k q. mark_same (T s i) ∙ h.stepped s i l k (off_of _ q);
  }
    where
      off_of : (b : Bool) → b ≡ true → off Least b ≡ true
      off_of true e = refl
      off_of false e = e

-- the rounds from the starting marking, as rounds of the step
rounds_mark : (F : Lts) (d : Fixpoint) (B : List Equation) (k : ℕ) → rounds F B (λ s i. start d) k ≡ mark d (iter (step F d B) k)
unfolding rounds iter step
rounds_mark F d B zero = refl
rounds_mark F d B (suc k) = ap (true_at F B) (rounds_mark F d B k) ∙ fun_ext (λ s. fun_ext (λ i. sym (mark_off d (true_at F B (mark d (iter (step F d B) k)) s i))))

pub solution_mark : (F : Lts) (d : Fixpoint) (B : List Equation) → solution F d B ≡ mark d (iter (step F d B) (F.states * length B))
unfolding solution
solution_mark F d B = rounds_mark F d B (F.states * length B)
