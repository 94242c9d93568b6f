-- Tests of every number, or of some number, below n.
use Rattle.std.proofs.Common.{◌≡◌, ℕ, zero, suc, ◌+◌, ◌<◌, ◌≤◌, Bool, true, false, ◌&&◌, ◌||◌, ltb, ◌⊎◌, sym, refl, ap, ◌∙◌, ap₂, inl, inr, ⊎_elim, add-one, arith}
use Rattle.std.proofs.lemmas.Bool.{and_parts, and_from, or_cases, or_left, or_right, both_ways, cases_Bool, cases_lt}
use Rattle.std.proofs.lemmas.Bool.Decides.{nat_tests}
use Rattle.semantics.specs.Lts.{sum, some, every}
use Rattle.semantics.proofs.Sums.{below_suc}

pub every_at : (n : ℕ) (f : ℕ → Bool) → every n f ≡ true → (k : ℕ) → k < n → f k ≡ true
unfolding every
every_at zero f e = λ k l. absurd (omega arith)
every_at (suc n) f e = let p = and_parts (every n f) (f n) e in below_suc n (λ k. f k ≡ true) (every_at n f p.0) p.1

pub every_from : (n : ℕ) (f : ℕ → Bool) → ((k : ℕ) → k < n → f k ≡ true) → every n f ≡ true
unfolding every
every_from zero f h = refl
every_from (suc n) f h = and_from (every n f) (f n) (every_from n f (λ k l. h k (omega arith))) (h n (omega arith))

pub every_eq : (n : ℕ) (f g : ℕ → Bool) → ((k : ℕ) → f k ≡ g k) → every n f ≡ every n g
unfolding every
every_eq zero f g e = refl
every_eq (suc n) f g e = ap₂ (λ (a b : Bool). a && b) (every_eq n f g e) (e n)

-- some term is more than 0 where the sum is
pub some_sum : (n : ℕ) (f : ℕ → ℕ) → some n (λ t. ltb 0 (f t)) ≡ ltb 0 (sum n f)
unfolding some sum
some_sum zero f = refl
some_sum (suc n) f = ap (λ (b : Bool). b || ltb 0 (f n)) (some_sum n f) ∙ either (sum n f) (f n)
  where
    either : (x y : ℕ) → (ltb 0 x || ltb 0 y) ≡ ltb 0 (x + y)
    either x y = grind (arith, nat_tests)

pub some_at : (n : ℕ) (f : ℕ → Bool) → some n f ≡ true → (k : ℕ) × (k < n) × (f k ≡ true)
unfolding some
some_at zero f e = absurd (both_ways false refl e)
some_at (suc n) f e = go (some_at n f) (or_cases (some n f) (f n) e)
  where
    go : (some n f ≡ true → (k : ℕ) × (k < n) × (f k ≡ true)) → (some n f ≡ true) ⊎ (f n ≡ true) → (k : ℕ) × (k < suc n) × (f k ≡ true)
    go before (inl q) = let b = before q in (b.0, omega arith, b.2)
    go before (inr q) = (n, omega arith, q)

pub some_from : (n k : ℕ) (f : ℕ → Bool) → k < n → f k ≡ true → some n f ≡ true
unfolding some
some_from zero k f h e = absurd (omega arith)
some_from (suc n) k f h e =
    ⊎_elim
    (λ (l : k < n). or_left (some n f) (f n) (some_from n k f l e))
    (λ (l : n ≤ k). or_right (some n f) (f n) (let q : k ≡ n = omega arith in ap f (sym q) ∙ e))
    (cases_lt k n)

pub some_none : (n : ℕ) (f : ℕ → Bool) → ((k : ℕ) → k < n → f k ≡ false) → some n f ≡ false
some_none n f none =
    ⊎_elim (λ (q : some n f ≡ true). let w = some_at n f q in absurd (both_ways (f w.0) (none w.0 w.1) w.2)) (λ (q : some n f ≡ false). q) (cases_Bool (some n f))

pub some_more : (n : ℕ) (f : ℕ → Bool) → some (n + 1) f ≡ (some n f || f n)
unfolding some
some_more n f = rw add-one

pub some_zero : (f : ℕ → Bool) → some 0 f ≡ false
unfolding some
some_zero f = refl
