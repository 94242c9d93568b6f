-- A table's answers show the system that it holds.
use Rattle.std.specs.Prelude.{◌≡◌, ℕ, zero, suc, ◌+◌, ◌-◌, ◌*◌, ◌/◌, ◌<◌, ◌≤◌, Bool, true, false, cond, ◌&&◌, List, length, is_some, Some, None, nat_lt, slice_index, slice_index_or, refl}
use Rattle.std.proofs.Math.Path.{sym, ap}
use Rattle.std.proofs.Common.{◌∙◌, ⊎_elim, arith, add-one, add-mul}
use Rattle.std.proofs.lemmas.Bool.{cases_lt, lt-ltb, le-ltb, and_from, and_left, and_right, and_parts, ltb-true}
use Rattle.std.proofs.lemmas.Nat.{mul-le, div-mul-add, mod-mul-add}
use Rattle.semantics.specs.Lts.{Lts, sum, into, out_of, on, all, one}
use Rattle.semantics.proofs.Sums.{sum_eq, sum_swap, sum_const, sum_at, sum_zeros, sum_grid, sum_split, sum_more, sum_zero, sum_front}
use Rattle.semantics.proofs.Counting.{one_not}
use Rattle.semantics.proofs.Degrees.{on_in, always_balanced}
use Rattle.semantics.proofs.Places.{place_below}
use Rattle.lts.specs.declared.sets.SmallSet.{SmallSet}
use Rattle.lts.specs.Sets.{member}
use Rattle.lts.specs.Source.{one_if, Predecessors, Shows}
use Rattle.lts.proofs.Bounds.{below_by}
use Rattle.sorting.specs.Sorting.{start, row, Rising}
use Rattle.sorting.proofs.Starts.{start_zero, start_next, row_is}
use Rattle.table.specs.TableAnswers.{empty_set, in_set, held_transitions, held_lts, Stored, place_of, at_place, table_in, table_out, table_on, table_predecessor, table_answers}

-- each row begins where the rows before it end
start_sum : (ends : List ℕ) → Rising ends → (i : ℕ) → i ≤ length ends → start ends i ≡ sum i (row ends)
start_sum ends rise zero h = start_zero ends ∙ sym (sum_zero (row ends))
start_sum ends rise (suc i) h =
    ap (start ends) (sym (add-one i)) ∙
    omega (arith, start_next ends i, row_is ends i, start_sum ends rise i (omega arith), rise i (omega arith), sum_more i (row ends)) ∙
    ap (λ k. sum k (row ends)) (add-one i)

-- places

next_row : (n actions a : ℕ) → a < actions → a * n + n ≤ actions * n
next_row n actions a h = omega (arith, mul-le (a + 1) n actions n (omega arith) (omega arith), add-mul a 1 n)

set_within : (n most : ℕ) (sets : List SmallSet) (s i : ℕ) → in_set n most sets s i ≡ true → (s < n) × (i < most)
set_within n most sets s i e =
    let d = and_parts (nat_lt s n) (nat_lt i most && member (slice_index_or sets s empty_set) i) e in
    let h = and_parts (nat_lt i most) (member (slice_index_or sets s empty_set) i) d.1 in
    (ltb-true s n d.0, ltb-true i most h.0)

some_cond : (b : Bool) (x : ℕ) → is_some (cond b (Some x) None) ≡ b
some_cond true x = refl
some_cond false x = refl

module _ (n actions atoms : ℕ) (ends sources degrees : List ℕ) (gaps marks : List SmallSet) (x : Stored n actions atoms ends sources degrees gaps marks) where
  abbrev T : Lts
  T = held_lts n actions atoms ends sources gaps marks

  -- the sources in row i
  abbrev o : ℕ → ℕ → ℕ
  o i k = slice_index sources (start ends i + k)

  row_within : (i k : ℕ) → i < actions * n → k < row ends i → start ends i + k < length sources
  row_within i k hi hk =
      omega (
        arith,
        start_sum ends x.rising i (omega (arith, x.rows)),
        sum_more i (row ends),
        sum_front (i + 1) (actions * n) (row ends) (omega arith),
        start_sum ends x.rising (actions * n) (omega (arith, x.rows)),
        x.whole,
      )

  -- the transitions into t are a row

  in_row : (s a t : ℕ) → a < actions → t < n → T.transitions s a t ≡ sum (row ends (a * n + t)) (λ k. one (o (a * n + t) k) s)
  unfolding held_transitions
  in_row s a t ha ht =
      ap (λ b. cond b (sum (row ends (a * n + t)) (λ k. one (o (a * n + t) k) s)) 0) (and_from (nat_lt a actions) (nat_lt t n) (lt-ltb a actions ha) (lt-ltb t n ht))

  none_on : (s a t : ℕ) → actions ≤ a → T.transitions s a t ≡ 0
  unfolding held_transitions
  none_on s a t h = ap (λ b. cond b (sum (row ends (a * n + t)) (λ k. one (o (a * n + t) k) s)) 0) (and_left (nat_lt a actions) (nat_lt t n) (le-ltb a actions h))

  none_to : (s a t : ℕ) → n ≤ t → T.transitions s a t ≡ 0
  unfolding held_transitions
  none_to s a t h = ap (λ b. cond b (sum (row ends (a * n + t)) (λ k. one (o (a * n + t) k) s)) 0) (and_right (nat_lt a actions) (nat_lt t n) (le-ltb t n h))

  named_within : (a t k : ℕ) → a < actions → t < n → k < row ends (a * n + t) → o (a * n + t) k < n
  named_within a t k ha ht h = x.named (start ends (a * n + t) + k) (row_within (a * n + t) k (place_below a t actions n ha ht) h)

  none_from : (s a t : ℕ) → n ≤ s → T.transitions s a t ≡ 0
  none_from s a t h =
      ⊎_elim
      (λ (ha : a < actions).
      ⊎_elim
      (λ (ht : t < n).
      in_row s a t ha ht ∙
      sum_zeros (row ends (a * n + t)) (λ k. one (o (a * n + t) k) s)
      (λ k l. one_not (o (a * n + t) k) s (λ e. omega (arith, named_within a t k ha ht l))))
      (λ (ht : n ≤ t). none_to s a t ht)
      (cases_lt t n))
      (λ (ha : actions ≤ a). none_on s a t ha)
      (cases_lt a actions)

  into_row : (t a : ℕ) → a < actions → t < n → into T t a ≡ row ends (a * n + t)
  unfolding into
  into_row t a ha ht =
      let i = a * n + t in
      sum_eq n (λ s. T.transitions s a t) (λ s. sum (row ends i) (λ k. one (o i k) s)) (λ s l. in_row s a t ha ht) ∙
      sum_swap n (row ends i) (λ s k. one (o i k) s) ∙
      sum_eq (row ends i) (λ k. sum n (λ s. one (o i k) s)) (λ _. 1) (λ k l. sum_at n (o i k) (λ _. 1) (named_within a t k ha ht l)) ∙
      omega (arith, sum_const (row ends i) 1)

  into_off : (t a : ℕ) → actions ≤ a → into T t a ≡ 0
  unfolding into
  into_off t a h = sum_zeros n (λ s. T.transitions s a t) (λ s l. none_on s a t h)

  into_away : (t a : ℕ) → n ≤ t → into T t a ≡ 0
  unfolding into
  into_away t a h = sum_zeros n (λ s. T.transitions s a t) (λ s l. none_to s a t h)

  -- the answers

  placed : {X : Type 0} (a s : ℕ) (f : ℕ → X) (d z : X) → (a < actions → s < n → f (a * n + s) ≡ z) → (actions ≤ a → d ≡ z) → (n ≤ s → d ≡ z) → at_place (place_of n actions a s) f d ≡ z
  placed {X = X} a s f d z inside off away =
      ⊎_elim
      (λ (ha : a < actions).
      ⊎_elim
      (λ (hs : s < n). choose (and_from (nat_lt a actions) (nat_lt s n) (lt-ltb a actions ha) (lt-ltb s n hs)) ∙ inside ha hs)
      (λ (hs : n ≤ s). choose (and_right (nat_lt a actions) (nat_lt s n) (le-ltb s n hs)) ∙ away hs)
      (cases_lt s n))
      (λ (ha : actions ≤ a). choose (and_left (nat_lt a actions) (nat_lt s n) (le-ltb a actions ha)) ∙ off ha)
      (cases_lt a actions)
    where
      choose : {b : Bool} → (nat_lt a actions && nat_lt s n) ≡ b → at_place (place_of n actions a s) f d ≡ at_place (cond b (Some (a * n + s)) None) f d
      choose e = ap (λ b. at_place (cond b (Some (a * n + s)) None) f d) e

  in_is : (t a : ℕ) → table_in n actions ends t a ≡ into T t a
  in_is t a =
      placed a t _ 0 (into T t a) (λ ha ht. sym (row_is ends (a * n + t)) ∙ sym (into_row t a ha ht)) (λ ha. sym (into_off t a ha)) (λ ht. sym (into_away t a ht))

  out_off : (s a : ℕ) → actions ≤ a → out_of T s a ≡ 0
  unfolding out_of
  out_off s a h = sum_zeros n (λ t. T.transitions s a t) (λ t l. none_on s a t h)

  out_away : (s a : ℕ) → n ≤ s → out_of T s a ≡ 0
  unfolding out_of
  out_away s a h = sum_zeros n (λ t. T.transitions s a t) (λ t l. none_from s a t h)

  out_is : (s a : ℕ) → table_out n actions degrees s a ≡ out_of T s a
  unfolding out_of
  out_is s a =
      placed a s (λ i. slice_index degrees i) 0 (sum n (λ t. T.transitions s a t))
      (λ ha hs.
      x.leaving (a * n + s) (omega (arith, place_below a s actions n ha hs, x.places)) ∙
      ap (λ k. sum n (λ t. T.transitions k ((a * n + s) / n) t)) (mod-mul-add a n s hs) ∙
      ap (λ k. sum n (λ t. T.transitions s k t)) (div-mul-add a n s hs))
      (λ ha. sym (out_off s a ha)) (λ hs. sym (out_away s a hs))

  on_rows : (a : ℕ) → a < actions → on T a ≡ sum n (λ t. row ends (a * n + t))
  on_rows a ha = sym (on_in T a) ∙ sum_eq n (λ t. into T t a) (λ t. row ends (a * n + t)) (λ t l. into_row t a ha l)

  on_off : (a : ℕ) → actions ≤ a → on T a ≡ 0
  unfolding on
  on_off a h = sum_zeros n (λ t. into T t a) (λ t l. into_off t a h)

  transitions_is : (a : ℕ) → table_on n actions ends a ≡ on T a
  transitions_is a =
      ⊎_elim
      (λ (ha : a < actions).
      ap (λ b. cond b (start ends (a * n + n) - start ends (a * n)) 0) (lt-ltb a actions ha) ∙
      omega (
        arith,
        next_row n actions a ha,
        on_rows a ha,
        start_sum ends x.rising (a * n) (omega (arith, next_row n actions a ha, x.rows)),
        start_sum ends x.rising (a * n + n) (omega (arith, next_row n actions a ha, x.rows)),
        sum_split (a * n) n (row ends),
      ))
      (λ (ha : actions ≤ a). ap (λ b. cond b (start ends (a * n + n) - start ends (a * n)) 0) (le-ltb a actions ha) ∙ sym (on_off a ha))
      (cases_lt a actions)

  predecessor_is : (t a k : ℕ) → table_predecessor n actions ends sources t a k ≡ cond (nat_lt k (into T t a)) (Some (o (a * n + t) k)) None
  predecessor_is t a k =
      placed a t _ None _
      (λ ha ht. ap (λ r. cond (nat_lt k r) (Some (o (a * n + t) k)) None) (sym (row_is ends (a * n + t)) ∙ sym (into_row t a ha ht)))
      (λ ha. none (into_off t a ha)) (λ ht. none (into_away t a ht))
    where
      none : into T t a ≡ 0 → None ≡ cond (nat_lt k (into T t a)) (Some (o (a * n + t) k)) None
      none e = sym (ap (λ r. cond (nat_lt k r) (Some (o (a * n + t) k)) None) e ∙ ap (λ b. cond b (Some (o (a * n + t) k)) None) (le-ltb k 0 (omega arith)))

  predecessors : Predecessors T (table_predecessor n actions ends sources)
  predecessors = record {
    there = λ t a k. ap is_some (predecessor_is t a k) ∙ some_cond (nat_lt k (into T t a)) _;
    times = λ t a s.
        sum_eq (into T t a) _ (λ k. one (o (a * n + t) k) s)
        (λ k l. ap (λ p. one_if p s) (predecessor_is t a k ∙ ap (λ b. cond b (Some (o (a * n + t) k)) None) (lt-ltb k (into T t a) l))) ∙
        ⊎_elim
        (λ (ha : a < actions).
        ⊎_elim
        (λ (ht : t < n). ap (λ m. sum m (λ k. one (o (a * n + t) k) s)) (into_row t a ha ht) ∙ sym (in_row s a t ha ht))
        (λ (ht : n ≤ t). ap (λ m. sum m (λ k. one (o (a * n + t) k) s)) (into_away t a ht) ∙ sum_zero _ ∙ sym (none_to s a t ht))
        (cases_lt t n))
        (λ (ha : actions ≤ a). ap (λ m. sum m (λ k. one (o (a * n + t) k) s)) (into_off t a ha) ∙ sum_zero _ ∙ sym (none_on s a t ha))
        (cases_lt a actions);
  }

  all_is : all T ≡ length sources
  unfolding all
  all_is =
      sum_eq actions (on T) (λ a. sum n (λ t. row ends (a * n + t))) (λ a l. on_rows a l) ∙
      sym (sum_grid actions n (row ends)) ∙ sym (start_sum ends x.rising (actions * n) (omega (arith, x.rows))) ∙ x.whole

  pub table_shows : Shows (table_answers n actions atoms ends sources degrees gaps marks) T
  table_shows = record {
    states = refl;
    actions = refl;
    atoms = refl;
    divergent = λ s a. ap (λ m. in_set m actions gaps s a) x.gap_states;
    holds = λ p s. ap (λ m. in_set m atoms marks s p) x.mark_states;
    out_degree = out_is;
    in_degree = in_is;
    transitions = transitions_is;
    predecessor = predecessors;
    bounded = record {
      few_states = omega (arith, x.few_states);
      some_action = x.some_action;
      few_actions = x.few_actions;
      few_atoms = x.few_atoms;
      few_transitions = omega (arith, all_is, x.few_transitions);
      transitions_within = λ s a t p.
          (below_by (T.transitions s a t) s n p (none_from s a t), below_by (T.transitions s a t) a actions p (none_on s a t), below_by (T.transitions s a t) t n p (none_to s a t));
      divergent_within = λ s a e. set_within n actions gaps s a e;
      holds_within = λ p s e. let d = set_within n atoms marks s p e in (d.1, d.0);
    };
    balanced = always_balanced T;
  }
