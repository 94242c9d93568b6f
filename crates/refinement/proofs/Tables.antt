-- Lists by place, and the places of pairs.
use Rattle.std.proofs.Common.{◌≡◌, ℕ, zero, suc, ◌+◌, ◌*◌, ◌/◌, ◌%◌, ◌<◌, Bool, true, false, cond, ◌&&◌, ◌||◌, eqb, ◌⊎◌, List, [], ◌∷◌, ◌++◌, map, length, get_or, take, set, sym, refl, ap, ◌∙◌, subst, ap₂, inl, inr, arith}
use Rattle.std.proofs.lemmas.Bool.{eqb-true, eq-eqb, ne_eqb, and_parts, and_from, or_from, or_parts, or_left, or_right, cond-true, cond-false, cases_Bool, both_ways, eqb-false}
use Rattle.std.proofs.lemmas.List.{get_or-set_same, get_or-set_other}
use Rattle.std.proofs.lemmas.Nat.{div-mul-add, mod-mul-add, div-add-mod'}
use Rattle.refinement.specs.Represents.{Distinct, elem, pair_at}
use Rattle.semantics.proofs.Bools.{same_bool}
use Rattle.semantics.specs.Plain.{among}

pub eqb_same : (a : ℕ) → eqb a a ≡ true
eqb_same a = eq-eqb a a refl

pub eqb_sym : (a b : ℕ) → eqb a b ≡ eqb b a
eqb_sym a b = same_bool (eqb a b) (eqb b a) (λ e. eq-eqb b a (sym (eqb-true a b e))) (λ e. eq-eqb a b (sym (eqb-true b a e)))

-- one place written
pub get_d_set : {X : Type 0} (xs : List X) (p q : ℕ) (y z : X) → p < length xs → get_or (set xs p y) q z ≡ cond (eqb p q) y (get_or xs q z)
get_d_set {X} xs p q y z l = go (cases_Bool (eqb p q))
  where
    go : (eqb p q ≡ true) ⊎ (eqb p q ≡ false) → get_or (set xs p y) q z ≡ cond (eqb p q) y (get_or xs q z)
    go (inl e) =
        let f : p ≡ q = eqb-true p q e in
        subst (λ (q : ℕ). get_or (set xs p y) q z ≡ y) f (get_or-set_same xs p y z l) ∙ sym (cond-true (eqb p q) y (get_or xs q z) e)
    go (inr e) = get_or-set_other xs p q y z (λ f. eqb-false p q e (sym f)) ∙ sym (cond-false (eqb p q) y (get_or xs q z) e)

-- the places of pairs

pub place_eqb : (n s i t j : ℕ) → i < n → j < n → eqb (s * n + i) (t * n + j) ≡ (eqb s t && eqb i j)
place_eqb n s i t j l k = same_bool (eqb (s * n + i) (t * n + j)) (eqb s t && eqb i j) there back
  where
    there : eqb (s * n + i) (t * n + j) ≡ true → (eqb s t && eqb i j) ≡ true
    there e =
        let f : s * n + i ≡ t * n + j = eqb-true (s * n + i) (t * n + j) e in
        let a : s ≡ t = sym (div-mul-add s n i l) ∙ ap (λ (x : ℕ). x / n) f ∙ div-mul-add t n j k in
        let b : i ≡ j = sym (mod-mul-add s n i l) ∙ ap (λ (x : ℕ). x % n) f ∙ mod-mul-add t n j k in
        and_from (eqb s t) (eqb i j) (eq-eqb s t a) (eq-eqb i j b)

    back : (eqb s t && eqb i j) ≡ true → eqb (s * n + i) (t * n + j) ≡ true
    back e =
        let p = and_parts (eqb s t) (eqb i j) e in
        eq-eqb (s * n + i) (t * n + j) (ap₂ (λ (s i : ℕ). s * n + i) (eqb-true s t p.0) (eqb-true i j p.1))

pub place_low : (N n s i : ℕ) → s < N → i < n → s * n + i < N * n
place_low zero n s i l k = absurd (omega arith)
place_low (suc N) n zero i l k = omega arith
place_low (suc N) n (suc s) i l k = let a : s * n + i < N * n = place_low N n s i (omega arith) k in omega arith

-- membership

pub elem_push : (q : ℕ) (xs : List ℕ) (x : ℕ) → elem q (xs ++ (x ∷ [])) ≡ (elem q xs || eqb x q)
unfolding elem
elem_push q [] x = or_false (eqb x q)
  where
    or_false : (b : Bool) → (b || false) ≡ b
    or_false true = refl
    or_false false = refl
elem_push q (y ∷ ys) x = ap (λ (b : Bool). eqb y q || b) (elem_push q ys x) ∙ or_assoc (eqb y q) (elem q ys) (eqb x q)
  where
    or_assoc : (a b c : Bool) → (a || (b || c)) ≡ (a || b || c)
    or_assoc true b c = refl
    or_assoc false b c = refl

pub distinct_push : (xs : List ℕ) (x : ℕ) → Distinct xs → elem x xs ≡ false → Distinct (xs ++ (x ∷ []))
unfolding elem Distinct
distinct_push [] x h e = (refl, tt)
distinct_push (y ∷ ys) x h e =
    let a = or_parts (eqb y x) (elem x ys) e in
    (elem_push y ys x ∙ or_from (elem y ys) (eqb x y) h.0 (eqb_sym x y ∙ a.0), distinct_push ys x h.1 a.1)

pub elem_at : (xs : List ℕ) (k z : ℕ) → k < length xs → elem (get_or xs k z) xs ≡ true
unfolding elem
elem_at [] k z l = absurd (omega arith)
elem_at (x ∷ xs) zero z l = or_left (eqb x x) (elem x xs) (eqb_same x)
elem_at (x ∷ xs) (suc k) z l = or_right (eqb x (get_or xs k z)) (elem (get_or xs k z) xs) (elem_at xs k z (omega arith))

elem_none : (q x : ℕ) (xs : List ℕ) → elem q xs ≡ true → elem x xs ≡ false → eqb x q ≡ false
elem_none q x xs h e = ne_eqb x q (λ f. both_ways (elem x xs) e (ap (λ (y : ℕ). elem y xs) f ∙ h))

-- what stands at k is not before it
pub elem_before : (xs : List ℕ) (k z : ℕ) → Distinct xs → k < length xs → elem (get_or xs k z) (take k xs) ≡ false
unfolding elem Distinct
elem_before [] k z h l = absurd (omega arith)
elem_before (x ∷ xs) zero z h l = refl
elem_before (x ∷ xs) (suc k) z h l =
    let m : k < length xs = omega arith in
    or_from (eqb x (get_or xs k z)) (elem (get_or xs k z) (take k xs)) (elem_none (get_or xs k z) x xs (elem_at xs k z m) h.0) (elem_before xs k z h.1 m)

-- and the pairs at places
pub among_elem : (n s i : ℕ) (xs : List ℕ) → i < n → among s i (map (pair_at n) xs) ≡ elem (s * n + i) xs
unfolding elem among
among_elem n s i [] l = refl
among_elem n s i (x ∷ xs) l = ap₂ (λ (a b : Bool). a || b) (same_bool (eqb (x / n) s && eqb (x % n) i) (eqb x (s * n + i)) there back) (among_elem n s i xs l)
  where
    there : (eqb (x / n) s && eqb (x % n) i) ≡ true → eqb x (s * n + i) ≡ true
    there e =
        let p = and_parts (eqb (x / n) s) (eqb (x % n) i) e in
        eq-eqb x (s * n + i) (sym (div-add-mod' x n) ∙ ap₂ (λ (s i : ℕ). s * n + i) (eqb-true (x / n) s p.0) (eqb-true (x % n) i p.1))

    back : eqb x (s * n + i) ≡ true → (eqb (x / n) s && eqb (x % n) i) ≡ true
    back e =
        let f : x ≡ s * n + i = eqb-true x (s * n + i) e in
        and_from (eqb (x / n) s) (eqb (x % n) i) (eq-eqb (x / n) s (ap (λ (y : ℕ). y / n) f ∙ div-mul-add s n i l)) (eq-eqb (x % n) i (ap (λ (y : ℕ). y % n) f ∙ mod-mul-add s n i l))
