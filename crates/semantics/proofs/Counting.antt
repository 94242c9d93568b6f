-- Counting by sums of `one`.
use Rattle.std.proofs.Common.{◌≡◌, ℕ, zero, suc, ◌<◌, ◌≤◌, Bool, true, false, cond, eqb, ap, ⊎_elim, arith}
use Rattle.std.proofs.lemmas.Bool.{eq-eqb, ne_eqb, cases_eq, cases_lt}
use Rattle.std.proofs.lemmas.Bool.Decides.{nat_tests}
use Rattle.semantics.specs.Lts.{sum, one}
use Rattle.semantics.proofs.Sums.{sum_first, sum_part}

pub one_is : (x y : ℕ) → x ≡ y → one x y ≡ 1
one_is x y e = ap {B = ℕ} (λ b. cond b 1 0) (eq-eqb x y e)

pub one_not : (x y : ℕ) → (x ≡ y → ⊥) → one x y ≡ 0
one_not x y e = ap {B = ℕ} (λ b. cond b 1 0) (ne_eqb x y e)

pub one_few : (x y : ℕ) → one x y ≤ 1
one_few x y = small (eqb x y)
  where
    small : (b : Bool) → cond b 1 0 ≤ 1
    small true = omega arith
    small false = omega arith

pub eqb_sym : (x y : ℕ) → eqb x y ≡ eqb y x
eqb_sym x y = grind (arith, nat_tests)

-- what is counted is equal
pub one_same : (x y : ℕ) → 1 ≤ one x y → x ≡ y
one_same x y h = ⊎_elim (λ (e : x ≡ y). e) (λ (e : x ≡ y → ⊥). absurd (omega (arith, one_not x y e))) (cases_eq x y)

-- two terms that are not 0
pub two_in : (n k j : ℕ) (f : ℕ → ℕ) → k < j → j < n → 1 ≤ f k → 1 ≤ f j → 2 ≤ sum n f
two_in n k j f hk hj fk fj = omega (arith, sum_first n j f hj, sum_part j k f hk)

pub one_of : (n : ℕ) (f : ℕ → ℕ) → 1 ≤ sum n f → (k : ℕ) × (k < n) × (1 ≤ f k)
unfolding sum
one_of zero f h = absurd (omega arith)
one_of (suc n) f h =
    ⊎_elim
    (λ (l : 0 < sum n f). let w = one_of n f (omega arith) in (w.0, omega (arith, w.1), w.2))
    (λ (l : sum n f ≤ 0). (n, omega arith, omega arith))
    (cases_lt 0 (sum n f))

pub two_of : (n : ℕ) (f : ℕ → ℕ) → ((k : ℕ) → f k ≤ 1) → 2 ≤ sum n f → (k j : ℕ) × (k < j) × (j < n) × (1 ≤ f k) × (1 ≤ f j)
unfolding sum
two_of zero f small h = absurd (omega arith)
two_of (suc n) f small h =
    ⊎_elim
    (λ (l : 1 < sum n f). let w = two_of n f small (omega arith) in (w.0, w.1, w.2, omega (arith, w.3), w.4, w.5))
    (λ (l : sum n f ≤ 1). let w = one_of n f (omega (arith, small n)) in (w.0, n, w.1, omega arith, w.2, omega arith))
    (cases_lt 1 (sum n f))
