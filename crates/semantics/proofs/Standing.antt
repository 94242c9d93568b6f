-- The laws of the standing marks and the looks of one session.
use Rattle.std.proofs.Common.{◌≡◌, ℕ, ◌*◌, ◌≤◌, Bool, true, false, cond, not, ◌&&◌, List, [], length, sym, refl, ap, ◌∙◌, arith}
use Rattle.std.proofs.lemmas.Bool.{both_ways, or_left, or_right}
use Rattle.records.specs.declared.Fixpoint.{Fixpoint}
use Rattle.records.specs.declared.Fixpoint.TheVariants.{Greatest, Least}
use Rattle.semantics.specs.declared.Equation.{Equation}
use Rattle.semantics.specs.declared.Pair.{Pair}
use Rattle.semantics.specs.Lts.{Lts}
use Rattle.semantics.specs.Equations.{Marking, solution, start}
use Rattle.semantics.specs.Plain.{among, decided, turned, waits, settled, standing, no_book, book}
use Rattle.semantics.specs.Law.{Each, Within, most_looks, Stands, AlwaysStands}
use Rattle.semantics.proofs.Everywhere.{every_at}
use Rattle.semantics.proofs.Fix.{iter, iter_below, iter_closed}
use Rattle.semantics.proofs.Bools.{same_bool}
use Rattle.semantics.proofs.Sides.{step, step_mono, not_turned, unmark_least, greatest_least, least_greatest, Prefixed, sound_prefixed, prefixed_sound, closed_prefixed, prefixed_closed, solution_mark}
use Rattle.semantics.proofs.Looks.{costs_bound}
use Rattle.semantics.proofs.Kept.{Kept, turned_below, keeps}

-- In one reached session

module _ (F : Lts) (d : Fixpoint) (B : List Equation) (pins taken : List Pair) (looks : ℕ) (h : Kept F d B pins taken looks) where
  -- where no pair waits, what has turned was taken
  turned_taken : settled F d B pins taken ≡ true → Within F B (turned F d B pins taken) (λ s i. among s i taken)
  unfolding settled waits
  turned_taken e s i l k q =
      taken_if (turned F d B pins taken s i) (among s i taken) (every_at (length B) _ (every_at F.states _ e s l) i k) q
    where
      taken_if : (a b : Bool) → not (a && not b) ≡ true → a ≡ true → b ≡ true
      taken_if a true w q = refl
      taken_if true false w q = w
      taken_if false false w q = q

  pub turned_prefixed : settled F d B pins taken ≡ true → Prefixed F d B pins (turned F d B pins taken)
  unfolding turned decided step
  turned_prefixed e = record {
    pinned = λ s i l k q. or_left (among s i pins) (step F d B (λ s i. among s i taken) s i) q;
    stepped = λ s i l k q. or_right (among s i pins) (step F d B (λ s i. among s i taken) s i)
        (step_mono F d B h.names (turned F d B pins taken) (λ s i. among s i taken) (turned_taken e) s i l k q);
  }

  pub turned_in : (T : Marking) → Prefixed F d B pins T → Within F B (turned F d B pins taken) T
  turned_in T t = turned_below F d B pins taken h.names T t (h.forced T t)

  pub taken_turned : settled F d B pins taken ≡ true → Each F B (λ s i. among s i taken ≡ turned F d B pins taken s i)
  taken_turned e s i l k = same_bool (among s i taken) (turned F d B pins taken s i) (h.forced (turned F d B pins taken) (turned_prefixed e) s i l k) (turned_taken e s i l k)

  is_solution : settled F d B pins taken ≡ true → pins ≡ [] → Each F B (λ s i. standing F d B pins taken s i ≡ solution F d B s i)
  unfolding standing among
  is_solution e none s i l k =
      let N = F.states in
      let n = length B in
      let mono = step_mono F d B h.names in
      let T : Marking = iter (step F d B) (N * n) in
      let t : Prefixed F d B pins T = record {
        pinned = λ s i l k q. absurd (both_ways false refl (ap (λ (ps : List Pair). among s i ps) (sym none) ∙ q));
        stepped = iter_closed N n (step F d B) mono;
      } in
      let same : turned F d B pins taken s i ≡ T s i = same_bool (turned F d B pins taken s i) (T s i) (turned_in T t s i l k)
      (iter_below N n (step F d B) mono (turned F d B pins taken) (turned_prefixed e).stepped (N * n) s i l k) in
      ap (λ (b : Bool). cond b (not (start d)) (start d)) same ∙ ap (λ (M : Marking). M s i) (sym (solution_mark F d B))

  looks_bound : looks ≤ most_looks F B
  looks_bound = let a = h.summed in let b = costs_bound F B taken h.once h.inside in omega arith

pub stands : (F : Lts) (d : Fixpoint) (B : List Equation) (pins taken : List Pair) (looks : ℕ) → Kept F d B pins taken looks → Stands F d B pins taken looks
unfolding standing
stands F Greatest B pins taken looks h = record {
  sized = h.sized;
  above = λ _ X x s i l k e. not_turned (X s i) (turned F Greatest B pins taken s i) (turned_in F Greatest B pins taken looks h (λ s i. not (X s i)) (sound_prefixed F B pins X x) s i l k) e;
  sound = λ _ e. prefixed_sound F B pins (turned F Greatest B pins taken) (turned_prefixed F Greatest B pins taken looks h e);
  below = λ e. absurd (greatest_least e);
  closed = λ e. absurd (greatest_least e);
  once = h.once;
  summed = h.summed;
  bound = looks_bound F Greatest B pins taken looks h;
  solved = is_solution F Greatest B pins taken looks h;
}
stands F Least B pins taken looks h = record {
  sized = h.sized;
  above = λ e. absurd (least_greatest e);
  sound = λ e. absurd (least_greatest e);
  below = λ _ X x s i l k e. turned_in F Least B pins taken looks h X (closed_prefixed F B pins X x) s i l k (unmark_least (turned F Least B pins taken s i) e);
  closed = λ _ e. prefixed_closed F B pins (turned F Least B pins taken) (turned_prefixed F Least B pins taken looks h e);
  once = h.once;
  summed = h.summed;
  bound = looks_bound F Least B pins taken looks h;
  solved = is_solution F Least B pins taken looks h;
}

pub always_stands : AlwaysStands
always_stands F d es B pins taken looks r = stands F d B pins taken looks (keeps F d no_book (book B pins taken looks) es tt r)
