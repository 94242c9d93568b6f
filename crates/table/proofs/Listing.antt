-- Lists of records: a test of each, of some, and of two that are the same.
use Rattle.std.proofs.Common.{◌≡◌, ℕ, zero, suc, ◌+◌, ◌<◌, ◌≤◌, Bool, true, false, ◌&&◌, ◌||◌, ◌⊎◌, List, [], ◌∷◌, length, get_or, take, sym, refl, ap, ◌∙◌, subst, inl, inr, ⊎_elim, le_of_suc-le-suc, not-suc-le-zero, add-one, arith}
use Rattle.std.specs.List.{list_all}
use Rattle.std.proofs.lemmas.List.{get_or_default}
use Rattle.std.proofs.lemmas.Bool.{and_parts, or_cases, or_left, or_right, both_ways, cases_lt}
use Rattle.semantics.proofs.Bools.{same_bool}
use Rattle.table.specs.Records.{has, each, repeated}

-- each

pub each_at : {X : Type 0} (test : X → Bool) (xs : List X) → each test xs ≡ true → (k : ℕ) (d : X) → k < length xs → test (get_or xs k d) ≡ true
unfolding each
each_at test [] e k d h = absurd (not-suc-le-zero h)
each_at test (x ∷ xs) e zero d h = (and_parts (test x) (each test xs) e).0
each_at test (x ∷ xs) e (suc k) d h = each_at test xs (and_parts (test x) (each test xs) e).1 k d (le_of_suc-le-suc h)

pub each_is : {X : Type 0} (test : X → Bool) (xs : List X) → list_all test xs ≡ each test xs
unfolding each
each_is test [] = refl
each_is test (x ∷ xs) = ap (λ b. test x && b) (each_is test xs)

-- has

pub has_at : {X : Type 0} (test : X → Bool) (xs : List X) → has test xs ≡ true → (k : ℕ) × (k < length xs) × ((d : X) → test (get_or xs k d) ≡ true)
unfolding has
has_at {X = X} test [] e = absurd (both_ways false refl e)
has_at {X = X} test (x ∷ xs) e = go (has_at test xs) (or_cases (test x) (has test xs) e)
  where
    go : (has test xs ≡ true → (k : ℕ) × (k < length xs) × ((d : X) → test (get_or xs k d) ≡ true)) → (test x ≡ true) ⊎ (has test xs ≡ true) →
        (k : ℕ) × (k < suc (length xs)) × ((d : X) → test (get_or (x ∷ xs) k d) ≡ true)
    go later (inl q) = (0, omega arith, (λ d. q))
    go later (inr q) = let w = later q in (suc w.0, omega (arith, w.1), w.2)

pub has_from : {X : Type 0} (test : X → Bool) (xs : List X) (k : ℕ) (d : X) → k < length xs → test (get_or xs k d) ≡ true → has test xs ≡ true
unfolding has
has_from test [] k d h e = absurd (not-suc-le-zero h)
has_from test (x ∷ xs) zero d h e = or_left (test x) (has test xs) e
has_from test (x ∷ xs) (suc k) d h e = or_right (test x) (has test xs) (has_from test xs k d (le_of_suc-le-suc h) e)

-- one more record
has_next : {X : Type 0} (test : X → Bool) (xs : List X) (k : ℕ) (x : X) → k < length xs → x ≡ get_or xs k x → has test (take (suc k) xs) ≡ (has test (take k xs) || test x)
unfolding has
has_next test [] k x h is = absurd (not-suc-le-zero h)
has_next test (y ∷ ys) zero x h is = last (test y) ∙ ap test (sym is)
  where
    last : (b : Bool) → (b || false) ≡ b
    last true = refl
    last false = refl
has_next test (y ∷ ys) (suc k) x h is = ap (λ b. test y || b) (has_next test ys k x (le_of_suc-le-suc h) is) ∙ sym (assoc (test y) (has test (take k ys)) (test x))
  where
    assoc : (a b c : Bool) → ((a || b) || c) ≡ (a || (b || c))
    assoc true b c = refl
    assoc false b c = refl

pub has_more : {X : Type 0} (test : X → Bool) (xs : List X) (k : ℕ) (x : X) → k < length xs → x ≡ get_or xs k x → has test (take (k + 1) xs) ≡ (has test (take k xs) || test x)
has_more test xs k x h is = ap (λ n. has test (take n xs)) (add-one k) ∙ has_next test xs k x h is

-- repeated

pub repeated_at : {X : Type 0} (same : X → X → Bool) (xs : List X) → repeated same xs ≡ true →
    (k j : ℕ) × (k < j) × (j < length xs) × ((d : X) → same (get_or xs k d) (get_or xs j d) ≡ true)
unfolding repeated
repeated_at {X = X} same [] e = absurd (both_ways false refl e)
repeated_at {X = X} same (x ∷ xs) e = go (repeated_at same xs) (or_cases (has (same x) xs) (repeated same xs) e)
  where
    go : (repeated same xs ≡ true → (k j : ℕ) × (k < j) × (j < length xs) × ((d : X) → same (get_or xs k d) (get_or xs j d) ≡ true)) →
        (has (same x) xs ≡ true) ⊎ (repeated same xs ≡ true) →
        (k j : ℕ) × (k < j) × (j < suc (length xs)) × ((d : X) → same (get_or (x ∷ xs) k d) (get_or (x ∷ xs) j d) ≡ true)
    go later (inl q) = let w = has_at (same x) xs q in (0, suc w.0, omega arith, omega (arith, w.1), w.2)
    go later (inr q) = let w = later q in (suc w.0, suc w.1, omega (arith, w.2), omega (arith, w.3), w.4)

pub repeated_from : {X : Type 0} (same : X → X → Bool) (xs : List X) (k j : ℕ) (d : X) → k < j → j < length xs → same (get_or xs k d) (get_or xs j d) ≡ true → repeated same xs ≡ true
unfolding repeated
repeated_from same [] k j d h l e = absurd (not-suc-le-zero l)
repeated_from same (x ∷ xs) k zero d h l e = absurd (not-suc-le-zero h)
repeated_from same (x ∷ xs) zero (suc j) d h l e = or_left (has (same x) xs) (repeated same xs) (has_from (same x) xs j d (le_of_suc-le-suc l) e)
repeated_from same (x ∷ xs) (suc k) (suc j) d h l e = or_right (has (same x) xs) (repeated same xs) (repeated_from same xs k j d (le_of_suc-le-suc h) (le_of_suc-le-suc l) e)

-- two tests that agree on the records of the list
pub repeated_eq : {X : Type 0} (f g : X → X → Bool) (xs : List X) →
    ((k j : ℕ) (d : X) → k < length xs → j < length xs → f (get_or xs k d) (get_or xs j d) ≡ g (get_or xs k d) (get_or xs j d)) → repeated f xs ≡ repeated g xs
unfolding repeated
repeated_eq {X = X} f g [] e = refl
repeated_eq {X = X} f g (x ∷ xs) e = same_bool (repeated f (x ∷ xs)) (repeated g (x ∷ xs)) (over f g e) (over g f (λ k j d h l. sym (e k j d h l)))
  where
    over : (f g : X → X → Bool) → ((k j : ℕ) (d : X) → k < suc (length xs) → j < suc (length xs) → f (get_or (x ∷ xs) k d) (get_or (x ∷ xs) j d) ≡ g (get_or (x ∷ xs) k d) (get_or (x ∷ xs) j d)) →
        repeated f (x ∷ xs) ≡ true → repeated g (x ∷ xs) ≡ true
    over f g e q =
        let w = repeated_at f (x ∷ xs) q in
        repeated_from g (x ∷ xs) w.0 w.1 x w.2 w.3 (sym (e w.0 w.1 x (omega (arith, w.2, w.3)) w.3) ∙ w.4 x)
