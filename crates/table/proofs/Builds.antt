-- The lists of a table are made from its records.
use Rattle.std.proofs.Common.{◌≡◌, ℕ, ◌+◌, ◌*◌, ◌/◌, ◌%◌, ◌<◌, ◌≤◌, Bool, true, false, cond, ◌&&◌, eqb, ltb, List, length, get_or, map, sym, refl, ap, ◌∙◌, ap₂, mul-zero, zero-mul, mul-one, arith}
use Rattle.std.proofs.lemmas.Nat.{div-mul-add, mod-mul-add, div-add-mod'}
use Rattle.std.proofs.lemmas.Bool.{and_parts, and_from, lt-ltb, ltb-true, eqb-true, eq-eqb, both_ways}
use Rattle.std.proofs.lemmas.List.{get_or-map}
use lib.ListN.{length-map}
use Rattle.records.specs.declared.Counts.{Counts}
use Rattle.records.specs.declared.Transition.{Transition}
use Rattle.semantics.specs.Lts.{sum, one}
use Rattle.semantics.proofs.Sums.{sum_eq, sum_swap, sum_single}
use Rattle.semantics.proofs.Counting.{one_is, one_not}
use Rattle.semantics.proofs.Places.{one_place, place_below, row_below, column_below}
use Rattle.lts.specs.declared.sets.SmallSet.{SmallSet}
use Rattle.sorting.specs.Sorting.{key_of, value_of, hits, before, pairs, found, start, row, Rising, Under, Counted, Sorted}
use Rattle.sorting.proofs.Sorts.{before_all}
use Rattle.sorting.proofs.Starts.{start_before, row_hits, rows_rise}
use Rattle.table.specs.Records.{has, each, repeated, is_transition, same_transition, transition_inside}
use Rattle.table.specs.TableAnswers.{held_transitions, Leaving, Stored, zero_transition, arrival, departure}
use Rattle.table.proofs.Listing.{each_at, repeated_from}
use Rattle.table.proofs.Once.{count_once}

-- 1 where the record is the transition from s on a to t
abbrev pub times : Transition → ℕ → ℕ → ℕ → ℕ
times x s a t = one x.action a * one x.target t * one x.source s

-- how often the transition is listed
unfoldable pub listed : List Transition → ℕ → ℕ → ℕ → ℕ
listed ts s a t = sum (length ts) (λ k. times (get_or ts k zero_transition) s a t)

times_is : (x : Transition) (s a t : ℕ) → times x s a t ≡ cond (is_transition s a t x) 1 0
times_is x s a t = go (eqb x.source s) (eqb x.action a) (eqb x.target t)
  where
    go : (p q r : Bool) → cond q 1 0 * cond r 1 0 * cond p 1 0 ≡ cond (p && q && r) 1 0
    go true true true = refl
    go true true false = refl
    go true false true = refl
    go true false false = refl
    go false true true = refl
    go false true false = refl
    go false false true = refl
    go false false false = refl

-- two records that pass are the same
both_pass : (s a t : ℕ) (x y : Transition) → is_transition s a t x ≡ true → is_transition s a t y ≡ true → same_transition x y ≡ true
both_pass s a t x y e d =
    let p = and_parts (eqb x.source s && eqb x.action a) (eqb x.target t) e in
    let q = and_parts (eqb x.source s) (eqb x.action a) p.0 in
    let u = and_parts (eqb y.source s && eqb y.action a) (eqb y.target t) d in
    let v = and_parts (eqb y.source s) (eqb y.action a) u.0 in
    and_from (eqb x.source y.source && eqb x.action y.action) (eqb x.target y.target)
    (and_from (eqb x.source y.source) (eqb x.action y.action)
    (eq-eqb x.source y.source (eqb-true x.source s q.0 ∙ sym (eqb-true y.source s v.0)))
    (eq-eqb x.action y.action (eqb-true x.action a q.1 ∙ sym (eqb-true y.action a v.1))))
    (eq-eqb x.target y.target (eqb-true x.target t p.1 ∙ sym (eqb-true y.target t u.1)))

-- a transition is listed once or not at all, where no record is repeated
pub listed_once : (ts : List Transition) → repeated same_transition ts ≡ false → (s a t : ℕ) → listed ts s a t ≡ cond (has (is_transition s a t) ts) 1 0
unfolding listed
listed_once ts once s a t =
    sum_eq (length ts) (λ k. times (get_or ts k zero_transition) s a t) (λ k. cond (is_transition s a t (get_or ts k zero_transition)) 1 0) (λ k h. times_is (get_or ts k zero_transition) s a t) ∙
    count_once (is_transition s a t) ts zero_transition (λ k j h l e d.
    both_ways (repeated same_transition ts) once
    (repeated_from same_transition ts k j zero_transition h l (both_pass s a t (get_or ts k zero_transition) (get_or ts j zero_transition) e d)))

pub inside_at : (c : Counts) (ts : List Transition) → each (transition_inside c) ts ≡ true → (k : ℕ) → k < length ts →
    ((get_or ts k zero_transition).source < c.states) × ((get_or ts k zero_transition).action < c.actions) × ((get_or ts k zero_transition).target < c.states)
inside_at c ts e k h =
    let x = get_or ts k zero_transition in
    let d = and_parts (ltb x.source c.states && ltb x.action c.actions) (ltb x.target c.states) (each_at (transition_inside c) ts e k zero_transition h) in
    let b = and_parts (ltb x.source c.states) (ltb x.action c.actions) d.0 in
    (ltb-true x.source c.states b.0, ltb-true x.action c.actions b.1, ltb-true x.target c.states d.1)

module _ (c : Counts) (ts : List Transition) (inside : each (transition_inside c) ts ≡ true) (arrivals departures : List (ℕ × ℕ)) (ends sources degrees : List ℕ)
    (arrived : arrivals ≡ map (arrival c.states) ts) (departed : departures ≡ map (departure c.states) ts)
    (sorted : Sorted arrivals (c.actions * c.states) ends sources)
    (counted : Counted departures (c.actions * c.states) degrees) where
  abbrev n : ℕ
  n = c.states

  abbrev actions : ℕ
  actions = c.actions

  abbrev t_of : ℕ → Transition
  t_of k = get_or ts k zero_transition

  abbrev m : ℕ
  m = length arrivals

  lenA : length arrivals ≡ length ts
  lenA = ap length arrived ∙ length-map ts (arrival n)

  lenD : length departures ≡ length ts
  lenD = ap length departed ∙ length-map ts (departure n)

  arrive : (k : ℕ) → k < length ts → get_or arrivals k (0, 0) ≡ arrival n (t_of k)
  arrive k h = ap (λ xs. get_or xs k (0, 0)) arrived ∙ get_or-map (arrival n) ts k zero_transition (0, 0) h

  depart : (k : ℕ) → k < length ts → get_or departures k (0, 0) ≡ departure n (t_of k)
  depart k h = ap (λ xs. get_or xs k (0, 0)) departed ∙ get_or-map (departure n) ts k zero_transition (0, 0) h

  key_is : (k : ℕ) → k < length ts → key_of arrivals k ≡ (t_of k).action * n + (t_of k).target
  key_is k h = ap (λ (p : ℕ × ℕ). p.0) (arrive k h)

  value_is : (k : ℕ) → k < length ts → value_of arrivals k ≡ (t_of k).source
  value_is k h = ap (λ (p : ℕ × ℕ). p.1) (arrive k h)

  leave_is : (k : ℕ) → k < length ts → key_of departures k ≡ (t_of k).action * n + (t_of k).source
  leave_is k h = ap (λ (p : ℕ × ℕ). p.0) (depart k h)

  keys_under : (k : ℕ) → k < m → key_of arrivals k < actions * n
  keys_under k h =
      let l : k < length ts = omega (arith, lenA) in
      let d = inside_at c ts inside k l in
      omega (arith, key_is k l, place_below (t_of k).action (t_of k).target actions n d.1 d.2)

  start_is : (i : ℕ) → i ≤ actions * n → start ends i ≡ before (key_of arrivals) m i
  start_is = start_before (key_of arrivals) m ends (actions * n) sorted.ends_at

  row_is : (i : ℕ) → i < actions * n → row ends i ≡ hits (key_of arrivals) i m
  row_is = row_hits (key_of arrivals) m ends (actions * n) sorted.ends_at

  built_rising : Rising ends
  built_rising = rows_rise (key_of arrivals) m ends (actions * n) sorted.ends_at sorted.rows

  built_whole : start ends (actions * n) ≡ length sources
  built_whole = start_is (actions * n) (omega arith) ∙ before_all (key_of arrivals) m (actions * n) keys_under ∙ sym sorted.room

  built_named : Under n sources
  built_named = λ k h.
      let pos : 0 < length ts = omega (arith, sorted.room, lenA) in
      sorted.under n (omega (arith, (inside_at c ts inside 0 pos).0)) (λ j l. let q : j < length ts = omega (arith, lenA) in omega (arith, value_is j q, (inside_at c ts inside j q).0)) k h

  pairs_listed : (s a t : ℕ) → t < n → pairs (key_of arrivals) (value_of arrivals) (a * n + t) s m ≡ listed ts s a t
  unfolding pairs listed
  pairs_listed s a t ht =
      ap (λ w. sum w (λ k. one (key_of arrivals k) (a * n + t) * one (value_of arrivals k) s)) lenA ∙
      sum_eq (length ts) (λ k. one (key_of arrivals k) (a * n + t) * one (value_of arrivals k) s) (λ k. times (t_of k) s a t)
      (λ k h.
      let x = t_of k in
      ap₂ (λ (p q : ℕ). one p (a * n + t) * one q s) (key_is k h) (value_is k h) ∙
      ap (λ v. v * one x.source s) (one_place x.action x.target n (a * n + t) (inside_at c ts inside k h).2 ∙
      ap₂ (λ (p q : ℕ). one x.action p * one x.target q) (div-mul-add a n t ht) (mod-mul-add a n t ht)))

  -- the transitions that are held are those that are listed
  pub held_listed : (s a t : ℕ) → a < actions → t < n → held_transitions n actions ends sources s a t ≡ listed ts s a t
  unfolding held_transitions found
  held_listed s a t ha ht =
      let i = a * n + t in
      let hi : i < actions * n = place_below a t actions n ha ht in
      ap (λ b. cond b (sum (row ends i) (λ k. one (get_or sources (start ends i + k) 0) s)) 0) (and_from (ltb a actions) (ltb t n) (lt-ltb a actions ha) (lt-ltb t n ht)) ∙
      ap (λ w. sum w (λ k. one (get_or sources (start ends i + k) 0) s)) (row_is i hi) ∙
      ap (λ b. sum (hits (key_of arrivals) i m) (λ k. one (get_or sources (b + k) 0) s)) (start_is i (omega arith)) ∙
      sorted.found_in i s hi ∙ pairs_listed s a t ht

  leaves_listed : (s a : ℕ) → s < n → hits (key_of departures) (a * n + s) (length departures) ≡ sum n (λ t. listed ts s a t)
  unfolding hits listed
  leaves_listed s a hs =
      ap (λ w. sum w (λ k. one (key_of departures k) (a * n + s))) lenD ∙
      sum_eq (length ts) (λ k. one (key_of departures k) (a * n + s)) (λ k. sum n (λ t. times (t_of k) s a t))
      (λ k h.
      let x = t_of k in
      ap (λ v. one v (a * n + s)) (leave_is k h) ∙ one_place x.action x.source n (a * n + s) (inside_at c ts inside k h).0 ∙
      ap₂ (λ (p q : ℕ). one x.action p * one x.source q) (div-mul-add a n s hs) (mod-mul-add a n s hs) ∙
      sym (only (one x.action a) x.target (one x.source s) (inside_at c ts inside k h).2)) ∙
      sum_swap (length ts) n (λ k t. times (t_of k) s a t)
    where
      only : (p b q : ℕ) → b < n → sum n (λ t. p * one b t * q) ≡ p * q
      only p b q h =
          sum_single n b (λ t. p * one b t * q) h (λ t l d. ap (λ v. p * v * q) (one_not b t (λ e. d (sym e))) ∙ ap (λ v. v * q) (mul-zero p) ∙ zero-mul q) ∙
          ap (λ v. p * v * q) (one_is b b refl) ∙ ap (λ v. v * q) (mul-one p)

  built_leaving : Leaving n actions ends sources degrees
  built_leaving i h =
      let l : i < actions * n = omega (arith, counted.size) in
      let a = i / n in
      let s = i % n in
      counted.counts_at i l ∙ ap (λ j. hits (key_of departures) j (length departures)) (sym (div-add-mod' i n)) ∙ leaves_listed s a (column_below i actions n l) ∙
      sum_eq n (λ t. listed ts s a t) (λ t. held_transitions n actions ends sources s a t) (λ t ht. sym (held_listed s a t (row_below i actions n l) ht))

  pub built_stored : (gaps marks : List SmallSet) → n ≤ 1024 → 1 ≤ actions → actions ≤ 64 → c.atoms ≤ 64 → length ts ≤ 2048 → length gaps ≡ n → length marks ≡ n →
      Stored n actions c.atoms ends sources degrees gaps marks
  built_stored gaps marks few some_one most few_marks short gap_states mark_states = record {
    few_states = few;
    some_action = some_one;
    few_actions = most;
    few_atoms = few_marks;
    rows = sorted.rows;
    rising = built_rising;
    whole = built_whole;
    few_transitions = omega (arith, sorted.room, lenA);
    named = built_named;
    places = counted.size;
    leaving = built_leaving;
    gap_states = gap_states;
    mark_states = mark_states;
  }
