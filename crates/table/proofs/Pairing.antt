-- Records as pairs of numbers: repeated where their pairs are.
use Rattle.std.proofs.Common.{◌≡◌, ℕ, ◌+◌, ◌<◌, ◌≤◌, Bool, true, cond, ◌&&◌, eqb, ltb, leb, List, [], ◌∷◌, length, get_or, take, set, Some, None, sym, ap, ◌∙◌, ap₂, not-suc-le-zero, arith}
use Rattle.std.proofs.lemmas.List.{get_or-set_same, get_or-set_other, get_or-take, length-take-le}
use Rattle.std.proofs.lemmas.Bool.{and_from, le-leb, lt-ltb}
use Rattle.semantics.proofs.Everywhere.{some_at, some_from, every_from}
use Rattle.semantics.proofs.Bools.{same_bool}
use Rattle.sorting.specs.Sorting.{key_of, value_of}
use Rattle.sorting.specs.Repetition.{repeats, small, repeated_answer}
use Rattle.table.specs.Records.{repeated}
use Rattle.table.proofs.Listing.{repeated_at, repeated_from}

first : {X : Type 0} (xs : List X) → 0 < length xs → X
first [] h = absurd (not-suc-le-zero h)
first (x ∷ xs) h = x

module _ {X : Type 0} (key value : X → ℕ) (xs : List X) (ps : List (ℕ × ℕ)) (len : length ps ≡ length xs)
    (is : (k : ℕ) (d : X) → k < length xs → (key_of ps k ≡ key (get_or xs k d)) × (value_of ps k ≡ value (get_or xs k d))) where
  abbrev same : X → X → Bool
  same x y = eqb (key x) (key y) && eqb (value x) (value y)

  pairs_same : (k j : ℕ) (d : X) → k < length xs → j < length xs →
      (eqb (key_of ps k) (key_of ps j) && eqb (value_of ps k) (value_of ps j)) ≡ same (get_or xs k d) (get_or xs j d)
  pairs_same k j d hk hj =
      ap₂ (λ (x y : ℕ). eqb x y && eqb (value_of ps k) (value_of ps j)) (is k d hk).0 (is j d hj).0 ∙
      ap₂ (λ (x y : ℕ). eqb (key (get_or xs k d)) (key (get_or xs j d)) && eqb x y) (is k d hk).1 (is j d hj).1

  up : repeats ps ≡ true → repeated same xs ≡ true
  unfolding repeats
  up e =
      let w = some_at (length ps) _ e in
      let j = w.0 in
      let v = some_at j _ w.2 in
      let k = v.0 in
      let hj : j < length xs = omega (arith, w.1) in
      let d = first xs (omega arith) in
      repeated_from same xs k j d v.1 hj (sym (pairs_same k j d (omega (arith, v.1)) hj) ∙ v.2)

  down : repeated same xs ≡ true → repeats ps ≡ true
  unfolding repeats
  down e =
      let w = repeated_at same xs e in
      let k = w.0 in
      let j = w.1 in
      let d = first xs (omega (arith, w.3)) in
      some_from (length ps) j _ (omega (arith, w.3)) (some_from j k _ w.2 (pairs_same k j d (omega (arith, w.2, w.3)) w.3 ∙ w.4 d))

  pub repeats_same : repeats ps ≡ repeated same xs
  repeats_same = same_bool (repeats ps) (repeated same xs) up down

  pub pairs_small : length xs ≤ 2048 → ((k : ℕ) (d : X) → k < length xs → (key (get_or xs k d) < 1024) × (value (get_or xs k d) < 65536)) → small ps ≡ true
  unfolding small
  pairs_small few low =
      and_from (leb (length ps) 2048) _ (le-leb (length ps) 2048 (omega arith))
      (every_from (length ps) _ (λ k h.
      let l : k < length xs = omega arith in
      let d = first xs (omega arith) in
      and_from (ltb (key_of ps k) 1024) (ltb (value_of ps k) 65536)
      (lt-ltb (key_of ps k) 1024 (omega (arith, (is k d l).0, (low k d l).0))) (lt-ltb (value_of ps k) 65536 (omega (arith, (is k d l).1, (low k d l).1)))))

-- what is answered of the front of a list of pairs
pub front_repeated : {X : Type 0} (key value : X → ℕ) (xs : List X) (ps : List (ℕ × ℕ)) (m : ℕ) → m ≡ length xs → m ≤ length ps →
    ((k : ℕ) (d : X) → k < length xs → (key_of ps k ≡ key (get_or xs k d)) × (value_of ps k ≡ value (get_or xs k d))) →
    length xs ≤ 2048 → ((k : ℕ) (d : X) → k < length xs → (key (get_or xs k d) < 1024) × (value (get_or xs k d) < 65536)) →
    repeated_answer (take m ps) ≡ Some (repeated (λ x y. eqb (key x) (key y) && eqb (value x) (value y)) xs)
front_repeated {X = X} key value xs ps m same room is few low =
    ap (λ b. cond b (Some (repeats (take m ps))) None) (pairs_small key value xs (take m ps) len front few low) ∙
    ap (λ b. Some b) (repeats_same key value xs (take m ps) len front)
  where
    len : length (take m ps) ≡ length xs
    len = length-take-le m ps room ∙ same

    front : (k : ℕ) (d : X) → k < length xs → (key_of (take m ps) k ≡ key (get_or xs k d)) × (value_of (take m ps) k ≡ value (get_or xs k d))
    front k d h =
        let e : get_or (take m ps) k (0, 0) ≡ get_or ps k (0, 0) = get_or-take m ps k (0, 0) (omega arith) in
        (ap (λ (p : ℕ × ℕ). p.0) e ∙ (is k d h).0, ap (λ (p : ℕ × ℕ). p.1) e ∙ (is k d h).1)
