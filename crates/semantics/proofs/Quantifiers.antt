-- What some and every say, of transitions above all.
use Rattle.std.proofs.Common.{◌≡◌, ℕ, zero, suc, ◌<◌, ◌≤◌, Bool, true, false, ◌&&◌, ◌||◌, eqb, ltb, ◌⊎◌, refl, inl, inr, arith}
use Rattle.std.proofs.lemmas.Bool.{both_ways, and_parts, and_from, and_cases, or_cases, or_left, or_right, ltb-true, lt-ltb, eqb-true, eq-eqb, cases_lt}
use Rattle.semantics.specs.Lts.{some, every}
use Rattle.semantics.proofs.Everywhere.{every_at, every_from, some_at, some_from}

pub every_not : (n : ℕ) (f : ℕ → Bool) → every n f ≡ false → (k : ℕ) × (k < n) × (f k ≡ false)
unfolding every
every_not zero f e = absurd (both_ways true e refl)
every_not (suc n) f e = go (every_not n f) (and_cases (every n f) (f n) e)
  where
    go : (every n f ≡ false → (k : ℕ) × (k < n) × (f k ≡ false)) → (every n f ≡ false) ⊎ (f n ≡ false) → (k : ℕ) × (k < suc n) × (f k ≡ false)
    go before (inl q) = let b = before q in (b.0, omega arith, b.2)
    go before (inr q) = (n, omega arith, q)

-- with f t transitions to t

pub some_step : (n : ℕ) (f : ℕ → ℕ) (g : ℕ → Bool) → some n (λ t. ltb 0 (f t) && g t) ≡ true → (t : ℕ) × (t < n) × (0 < f t) × (g t ≡ true)
some_step n f g e =
    let a = some_at n (λ t. ltb 0 (f t) && g t) e in
    let b = and_parts (ltb 0 (f a.0)) (g a.0) a.2 in
    (a.0, a.1, ltb-true 0 (f a.0) b.0, b.1)

pub step_some : (n : ℕ) (f : ℕ → ℕ) (g : ℕ → Bool) (t : ℕ) → t < n → 0 < f t → g t ≡ true → some n (λ t. ltb 0 (f t) && g t) ≡ true
step_some n f g t l h e = some_from n t (λ t. ltb 0 (f t) && g t) l (and_from (ltb 0 (f t)) (g t) (lt-ltb 0 (f t) h) e)

pub every_step : (n : ℕ) (f : ℕ → ℕ) (g : ℕ → Bool) → every n (λ t. eqb 0 (f t) || g t) ≡ true → (t : ℕ) → t < n → 0 < f t → g t ≡ true
every_step n f g e t l h = go (or_cases (eqb 0 (f t)) (g t) (every_at n (λ t. eqb 0 (f t) || g t) e t l))
  where
    go : (eqb 0 (f t) ≡ true) ⊎ (g t ≡ true) → g t ≡ true
    go (inl q) = let z = eqb-true 0 (f t) q in absurd (omega arith)
    go (inr q) = q

pub step_every : (n : ℕ) (f : ℕ → ℕ) (g : ℕ → Bool) → ((t : ℕ) → t < n → 0 < f t → g t ≡ true) → every n (λ t. eqb 0 (f t) || g t) ≡ true
step_every n f g h = every_from n (λ t. eqb 0 (f t) || g t) (λ t l. go t l (cases_lt 0 (f t)))
  where
    go : (t : ℕ) → t < n → (0 < f t) ⊎ (f t ≤ 0) → (eqb 0 (f t) || g t) ≡ true
    go t l (inl p) = or_right (eqb 0 (f t)) (g t) (h t l p)
    go t l (inr p) = or_left (eqb 0 (f t)) (g t) (eq-eqb 0 (f t) (omega arith))
