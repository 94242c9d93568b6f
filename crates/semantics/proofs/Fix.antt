-- A monotone operator on markings of an n by m grid, and its least fixed point by rounds.
use Rattle.std.proofs.Common.{◌≡◌, ℕ, zero, suc, ◌*◌, ◌<◌, ◌≤◌, Bool, true, false, cond, ◌⊎◌, refl, inl, inr, arith}
use Rattle.std.proofs.lemmas.Bool.{cases_lt, both_ways}
use Rattle.semantics.specs.Equations.{Marking}
use Rattle.semantics.proofs.Sums.{grid, grid_le, grid_tight, grid_const}
use Rattle.semantics.proofs.Markings.{Le}

abbrev pub one_if : Bool → ℕ
one_if b = cond b 1 0

one_if_le : (a b : Bool) → (a ≡ true → b ≡ true) → one_if a ≤ one_if b
one_if_le true b h = rw (h refl) (omega arith)
one_if_le false true h = omega arith
one_if_le false false h = omega arith

le_one_if : (a b : Bool) → one_if a ≤ one_if b → a ≡ true → b ≡ true
le_one_if a true h e = refl
le_one_if true false h e = absurd (omega arith)
le_one_if false false h e = e

one_if_one : (b : Bool) → one_if b ≤ 1
one_if_one true = omega arith
one_if_one false = omega arith

unfoldable pub size : ℕ → ℕ → Marking → ℕ
size n m X = grid n m (λ s i. one_if (X s i))

size_le : (n m : ℕ) (X Y : Marking) → Le n m X Y → size n m X ≤ size n m Y
unfolding size
size_le n m X Y h = grid_le n m _ _ (λ s i l k. one_if_le (X s i) (Y s i) (h s i l k))

pub size_tight : (n m : ℕ) (X Y : Marking) → Le n m X Y → size n m Y ≤ size n m X → Le n m Y X
unfolding size
size_tight n m X Y h t s i l k = le_one_if (Y s i) (X s i) (grid_tight n m (λ s i. one_if (X s i)) (λ s i. one_if (Y s i)) (λ s i l k. one_if_le (X s i) (Y s i) (h s i l k)) t s i l k)

pub size_all : (n m : ℕ) → size n m (λ s i. true) ≡ n * m
unfolding size
size_all n m = let a = grid_const n m 1 in omega arith

size_most : (n m : ℕ) (X : Marking) → size n m X ≤ n * m
unfolding size
size_most n m X =
    let a = grid_le n m (λ s i. one_if (X s i)) (λ s i. 1) (λ s i l k. one_if_one (X s i)) in
    let b = grid_const n m 1 in
    omega arith

unfoldable pub iter : (Marking → Marking) → ℕ → Marking
iter step zero = λ s i. false
iter step (suc k) = step (iter step k)

module _ (n m : ℕ) (step : Marking → Marking) (mono : (X Y : Marking) → Le n m X Y → Le n m (step X) (step Y)) where
  pub iter_below : (T : Marking) → Le n m (step T) T → (k : ℕ) → Le n m (iter step k) T
  unfolding iter
  iter_below T h zero = λ s i l k e. absurd (both_ways false refl e)
  iter_below T h (suc k) = λ s i l j e. h s i l j (mono (iter step k) T (iter_below T h k) s i l j e)

  pub iter_up : (k : ℕ) → Le n m (iter step k) (iter step (suc k))
  unfolding iter
  iter_up zero = λ s i l k e. absurd (both_ways false refl e)
  iter_up (suc k) = mono (iter step k) (iter step (suc k)) (iter_up k)

  at_rest : (k : ℕ) → (k ≤ size n m (iter step k)) ⊎ Le n m (iter step (suc k)) (iter step k)
  unfolding iter
  at_rest zero = inl (omega arith)
  at_rest (suc k) = go (at_rest k)
    where
      grown : (size n m (iter step k) < size n m (iter step (suc k))) ⊎ (size n m (iter step (suc k)) ≤ size n m (iter step k)) → k ≤ size n m (iter step k) → (suc k ≤ size n m (iter step (suc k))) ⊎ Le n m (iter step (suc (suc k))) (iter step (suc k))
      grown (inl l) h = inl (omega arith)
      grown (inr l) h = inr (mono (iter step (suc k)) (iter step k) (size_tight n m (iter step k) (iter step (suc k)) (iter_up k) l))

      go : (k ≤ size n m (iter step k)) ⊎ Le n m (iter step (suc k)) (iter step k) → (suc k ≤ size n m (iter step (suc k))) ⊎ Le n m (iter step (suc (suc k))) (iter step (suc k))
      go (inl h) = grown (cases_lt (size n m (iter step k)) (size n m (iter step (suc k)))) h
      go (inr h) = inr (mono (iter step (suc k)) (iter step k) h)

  -- n * m rounds are enough
  pub iter_closed : Le n m (step (iter step (n * m))) (iter step (n * m))
  unfolding iter
  iter_closed = go (at_rest (n * m))
    where
      go : (n * m ≤ size n m (iter step (n * m))) ⊎ Le n m (iter step (suc (n * m))) (iter step (n * m)) → Le n m (iter step (suc (n * m))) (iter step (n * m))
      go (inl h) =
          let a = size_most n m (iter step (suc (n * m))) in
          size_tight n m (iter step (n * m)) (iter step (suc (n * m))) (iter_up (n * m)) (omega arith)
      go (inr h) = h
