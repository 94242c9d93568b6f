-- A pair stands twice where its row has its value twice.
use Rattle.std.proofs.Common.{◌≡◌, ℕ, ◌+◌, ◌*◌, ◌<◌, ◌≤◌, true, eqb, ltb, leb, List, length, get_or, sym, refl, ap, ◌∙◌, ap₂, ⊎_elim, one-mul, zero-mul, arith}
use Rattle.std.proofs.lemmas.Bool.{cases_eq, and_parts, and_from, eq-eqb, eqb-true, ltb-true, leb-true}
use Rattle.semantics.specs.Lts.{one}
use Rattle.semantics.proofs.Counting.{one_is, one_not, one_few, one_same, two_in, two_of}
use Rattle.semantics.proofs.Everywhere.{some_at, some_from, every_at}
use Rattle.semantics.proofs.Bools.{same_bool}
use Rattle.sorting.specs.Sorting.{key_of, value_of, pairs, found, start, row}
use Rattle.sorting.specs.Repetition.{repeats, small, twice, some_twice}

-- the product of two counts, of which each is at most one
both_is : (x i y s : ℕ) → x ≡ i → y ≡ s → one x i * one y s ≡ 1
both_is x i y s e d = ap₂ (λ (p q : ℕ). p * q) (one_is x i e) (one_is y s d)

both_few : (x i y s : ℕ) → one x i * one y s ≤ 1
both_few x i y s =
    ⊎_elim
    (λ (e : x ≡ i). omega (arith, ap (λ p. p * one y s) (one_is x i e), one-mul (one y s), one_few y s))
    (λ (e : x ≡ i → ⊥). omega (arith, ap (λ p. p * one y s) (one_not x i e), zero-mul (one y s)))
    (cases_eq x i)

both_same : (x i y s : ℕ) → 1 ≤ one x i * one y s → (x ≡ i) × (y ≡ s)
both_same x i y s h =
    ⊎_elim
    (λ (e : x ≡ i). (e, one_same y s (omega (arith, ap (λ p. p * one y s) (one_is x i e), one-mul (one y s)))))
    (λ (e : x ≡ i → ⊥). absurd (omega (arith, ap (λ p. p * one y s) (one_not x i e), zero-mul (one y s))))
    (cases_eq x i)

-- a number twice in a row, by counting

twice_found : (items : List ℕ) (b c : ℕ) → twice items b c ≡ true → (s : ℕ) × (2 ≤ found items b c s)
unfolding twice found
twice_found items b c e =
    let w = some_at c _ e in
    let j = w.0 in
    let v = some_at j _ w.2 in
    let k = v.0 in
    let s = get_or items (b + j) 0 in
    (s, two_in c k j (λ k. one (get_or items (b + k) 0) s) v.1 w.1 (omega (arith, one_is (get_or items (b + k) 0) s (eqb-true (get_or items (b + k) 0) s v.2))) (omega (arith, one_is s s refl)))

found_twice : (items : List ℕ) (b c s : ℕ) → 2 ≤ found items b c s → twice items b c ≡ true
unfolding twice found
found_twice items b c s h =
    let w = two_of c (λ k. one (get_or items (b + k) 0) s) (λ k. one_few (get_or items (b + k) 0) s) h in
    let k = w.0 in
    let j = w.1 in
    some_from c j _ w.3 (some_from j k _ w.2
    (eq-eqb (get_or items (b + k) 0) (get_or items (b + j) 0) (one_same (get_or items (b + k) 0) s w.4 ∙ sym (one_same (get_or items (b + j) 0) s w.5))))

module _ (ps : List (ℕ × ℕ)) (ends items : List ℕ)
    (keyed : (k : ℕ) → k < length ps → key_of ps k < length ends)
    (found_in : (i s : ℕ) → i < length ends → found items (start ends i) (row ends i) s ≡ pairs (key_of ps) (value_of ps) i s (length ps)) where
  down : repeats ps ≡ true → some_twice ends items ≡ true
  unfolding repeats some_twice pairs
  down e =
      let m = length ps in
      let w = some_at m _ e in
      let j = w.0 in
      let v = some_at j _ w.2 in
      let k = v.0 in
      let i = key_of ps j in
      let s = value_of ps j in
      let same = and_parts (eqb (key_of ps k) i) (eqb (value_of ps k) s) v.2 in
      let two = two_in m k j (λ k. one (key_of ps k) i * one (value_of ps k) s) v.1 w.1
      (omega (arith, both_is (key_of ps k) i (value_of ps k) s (eqb-true (key_of ps k) i same.0) (eqb-true (value_of ps k) s same.1)))
      (omega (arith, both_is i i s s refl refl)) in
      some_from (length ends) i _ (keyed j w.1) (found_twice items (start ends i) (row ends i) s (omega (arith, found_in i s (keyed j w.1))))

  up : some_twice ends items ≡ true → repeats ps ≡ true
  unfolding repeats some_twice pairs
  up e =
      let m = length ps in
      let w = some_at (length ends) _ e in
      let i = w.0 in
      let t = twice_found items (start ends i) (row ends i) w.2 in
      let s = t.0 in
      let v = two_of m (λ k. one (key_of ps k) i * one (value_of ps k) s) (λ k. both_few (key_of ps k) i (value_of ps k) s) (omega (arith, t.1, found_in i s w.1)) in
      let k = v.0 in
      let j = v.1 in
      let p = both_same (key_of ps k) i (value_of ps k) s v.4 in
      let q = both_same (key_of ps j) i (value_of ps j) s v.5 in
      some_from m j _ v.3 (some_from j k _ v.2
      (and_from (eqb (key_of ps k) (key_of ps j)) (eqb (value_of ps k) (value_of ps j))
      (eq-eqb (key_of ps k) (key_of ps j) (p.0 ∙ sym q.0)) (eq-eqb (value_of ps k) (value_of ps j) (p.1 ∙ sym q.1))))

  pub rows_tell : some_twice ends items ≡ repeats ps
  rows_tell = same_bool (some_twice ends items) (repeats ps) up down

-- what a test of size says
pub small_parts : (ps : List (ℕ × ℕ)) → small ps ≡ true → (length ps ≤ 2048) × ((k : ℕ) → k < length ps → (key_of ps k < 1024) × (value_of ps k < 65536))
unfolding small
small_parts ps e =
    let d = and_parts (leb (length ps) 2048) _ e in (
      leb-true (length ps) 2048 d.0,
      (λ k h.
          let f = and_parts (ltb (key_of ps k) 1024) (ltb (value_of ps k) 65536) (every_at (length ps) _ d.1 k h) in
          (ltb-true (key_of ps k) 1024 f.0, ltb-true (value_of ps k) 65536 f.1)),
    )
