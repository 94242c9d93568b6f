-- The solution by iteration solves the equations, and is the greatest or the least that does.
use Rattle.std.proofs.Common.{◌≡◌, ◌*◌, Bool, cond, not, List, [], length, sym, ap, ◌∙◌, subst}
use Rattle.records.specs.declared.Fixpoint.{Fixpoint}
use Rattle.records.specs.declared.Fixpoint.TheVariants.{Greatest, Least}
use Rattle.semantics.specs.declared.Equation.{Equation}
use Rattle.semantics.specs.Lts.{Lts}
use Rattle.semantics.specs.Equations.{Marking, true_at, start, solution}
use Rattle.semantics.specs.Plain.{book_of}
use Rattle.semantics.specs.Law.{Each, Within, Extreme, SolvedByRounds}
use Rattle.semantics.proofs.Bools.{same_bool}
use Rattle.semantics.proofs.Markings.{Named}
use Rattle.semantics.proofs.Fix.{iter, iter_up, iter_below, iter_closed}
use Rattle.semantics.proofs.Sides.{mark, mark_off, step, step_mono, not_turned, unmark_least, greatest_least, least_greatest, Prefixed, sound_prefixed, closed_prefixed, solution_mark}
use Rattle.semantics.proofs.Kept.{book_named}

module _ (F : Lts) (d : Fixpoint) (B : List Equation) (names : Named B) where
  -- the pairs that have turned after all rounds
  abbrev last : Marking
  last = iter (step F d B) (F.states * length B)

  last_steps : Each F B (λ s i. step F d B last s i ≡ last s i)
  unfolding iter
  last_steps s i l k =
      let mono = step_mono F d B names in
      same_bool (step F d B last s i) (last s i) (iter_closed F.states (length B) (step F d B) mono s i l k) (iter_up F.states (length B) (step F d B) mono (F.states * length B) s i l k)

  solves : Each F B (λ s i. true_at F B (solution F d B) s i ≡ solution F d B s i)
  unfolding step
  solves s i l k =
      let t = true_at F B (mark d last) s i in
      ap (λ (X : Marking). true_at F B X s i) (solution_mark F d B) ∙ sym (mark_off d t) ∙ ap (λ (b : Bool). cond b (not (start d)) (start d)) (last_steps s i l k) ∙ ap (λ (X : Marking). X s i) (sym (solution_mark F d B))

  last_below : (T : Marking) → Prefixed F d B [] T → Within F B last T
  last_below T t = iter_below F.states (length B) (step F d B) (step_mono F d B names) T t.stepped (F.states * length B)

extreme : (F : Lts) (d : Fixpoint) (B : List Equation) → Named B → Extreme F d B
extreme F Greatest B names = record {
  solves = solves F Greatest B names;
  greatest = λ _ X x. subst (λ (Y : Marking). Within F B X Y) (sym (solution_mark F Greatest B))
      (λ s i l k. not_turned (X s i) (last F Greatest B names s i) (last_below F Greatest B names (λ s i. not (X s i)) (sound_prefixed F B [] X x) s i l k));
  least = λ e. absurd (greatest_least e);
}
extreme F Least B names = record {
  solves = solves F Least B names;
  greatest = λ e. absurd (least_greatest e);
  least = λ _ X x. subst (λ (Y : Marking). Within F B Y X) (sym (solution_mark F Least B))
      (λ s i l k e. last_below F Least B names X (closed_prefixed F B [] X x) s i l k (unmark_least (last F Least B names s i) e));
}

pub solved_by_rounds : SolvedByRounds
solved_by_rounds F d rs e = extreme F d (book_of rs) (book_named F rs e)
