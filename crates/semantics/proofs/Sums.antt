-- Sums over the numbers below n, and over a grid.
use Rattle.std.proofs.Common.{◌≡◌, ℕ, zero, suc, ◌+◌, ◌*◌, ◌<◌, ◌≤◌, Bool, true, false, cond, ◌&&◌, eqb, ◌⊎◌, sym, refl, ap, ◌∙◌, subst, ap₂, inl, inr, ⊎_elim, add-zero, add-suc, mul_comm, add-mul, add_comm, zero-mul, add-one, arith}
use Rattle.std.proofs.lemmas.Bool.{eq-eqb, ne_eqb, cases_eq, cases_lt, cond-true, cond-false}
use Rattle.std.proofs.lemmas.Bool.Decides.{nat_tests}
use Rattle.semantics.specs.Lts.{sum}

pub sum_le : (n : ℕ) (f g : ℕ → ℕ) → ((k : ℕ) → k < n → f k ≤ g k) → sum n f ≤ sum n g
unfolding sum
sum_le zero f g h = omega arith
sum_le (suc n) f g h =
    let a : sum n f ≤ sum n g = sum_le n f g (λ k l. h k (omega arith)) in
    let b : f n ≤ g n = h n (omega arith) in
    omega arith

pub sum_eq : (n : ℕ) (f g : ℕ → ℕ) → ((k : ℕ) → k < n → f k ≡ g k) → sum n f ≡ sum n g
unfolding sum
sum_eq zero f g h = refl
sum_eq (suc n) f g h = ap₂ (λ (a b : ℕ). a + b) (sum_eq n f g (λ k l. h k (omega arith))) (h n (omega arith))

-- what holds of each number below n, and of n
pub below_suc : (n : ℕ) (P : ℕ → Type 0) → ((k : ℕ) → k < n → P k) → P n → (k : ℕ) → k < suc n → P k
below_suc n P below here k l = go (cases_lt k n)
  where
    go : (k < n) ⊎ (n ≤ k) → P k
    go (inl m) = below k m
    go (inr m) = let e : k ≡ n = omega arith in subst P (sym e) here

-- where each term is at most its match, and the sums are not apart, no term is
pub sum_tight : (n : ℕ) (f g : ℕ → ℕ) → ((k : ℕ) → k < n → f k ≤ g k) → sum n g ≤ sum n f → (k : ℕ) → k < n → g k ≤ f k
unfolding sum
sum_tight zero f g h t = λ k l. omega arith
sum_tight (suc n) f g h t =
    let below : (j : ℕ) → j < n → f j ≤ g j = λ j m. h j (omega arith) in
    let a : sum n f ≤ sum n g = sum_le n f g below in
    let b : f n ≤ g n = h n (omega arith) in
    let c : sum n g ≤ sum n f = omega arith in
    below_suc n (λ k. g k ≤ f k) (sum_tight n f g below c) (omega arith)

pub sum_first : (n i : ℕ) (f : ℕ → ℕ) → i < n → sum i f + f i ≤ sum n f
unfolding sum
sum_first zero i f l = omega arith
sum_first (suc n) i f l =
    below_suc n (λ i. sum i f + f i ≤ sum n f + f n) (λ i m. let a = sum_first n i f m in omega arith) (omega arith) i l

pub sum_plus : (n : ℕ) (f g : ℕ → ℕ) → sum n (λ k. f k + g k) ≡ sum n f + sum n g
unfolding sum
sum_plus zero f g = refl
sum_plus (suc n) f g = let a = sum_plus n f g in omega arith

pub sum_const : (n c : ℕ) → sum n (λ k. c) ≡ n * c
unfolding sum
sum_const zero c = omega arith
sum_const (suc n) c = let a = sum_const n c in omega arith

pub sum_times : (n c : ℕ) (f : ℕ → ℕ) → sum n (λ k. c * f k) ≡ c * sum n f
unfolding sum
sum_times zero c f = omega arith
sum_times (suc n) c f = let a = sum_times n c f in omega arith

pub sum_swap : (n m : ℕ) (f : ℕ → ℕ → ℕ) → sum n (λ s. sum m (λ i. f s i)) ≡ sum m (λ i. sum n (λ s. f s i))
unfolding sum
sum_swap zero m f = let a = sum_const m 0 in omega arith
sum_swap (suc n) m f = ap (λ (a : ℕ). a + sum m (f n)) (sum_swap n m f) ∙ sym (sum_plus m (λ i. sum n (λ s. f s i)) (f n))

-- the terms of one index
pub sum_none : (n j : ℕ) (f : ℕ → ℕ) → n ≤ j → sum n (λ i. cond (eqb j i) (f i) 0) ≡ 0
sum_none n j f l =
    let a = sum_eq n (λ i. cond (eqb j i) (f i) 0) (λ i. 0) (λ i m. cond-false (eqb j i) (f i) 0 (ne_eqb j i (λ e. omega arith))) in
    let b = sum_const n 0 in
    omega arith

pub sum_at : (n j : ℕ) (f : ℕ → ℕ) → j < n → sum n (λ i. cond (eqb j i) (f i) 0) ≡ f j
unfolding sum
sum_at zero j f l = omega arith
sum_at (suc n) j f l = go (sum_at n j f) (cases_lt j n)
  where
    go : (j < n → sum n (λ i. cond (eqb j i) (f i) 0) ≡ f j) → (j < n) ⊎ (n ≤ j) → sum n (λ i. cond (eqb j i) (f i) 0) + cond (eqb j n) (f n) 0 ≡ f j
    go before (inl m) =
        let a = before m in
        let b = cond-false (eqb j n) (f n) 0 (ne_eqb j n (λ e. omega arith)) in
        omega arith
    go before (inr m) =
        let e : j ≡ n = omega arith in
        let a = sum_none n j f m in
        let b = cond-true (eqb j n) (f n) 0 (eq-eqb j n e) in
        let c : f j ≡ f n = ap f e in
        omega arith

pub sum_at_le : (n j c : ℕ) → sum n (λ i. cond (eqb j i) c 0) ≤ c
sum_at_le n j c = go (cases_lt j n)
  where
    go : (j < n) ⊎ (n ≤ j) → sum n (λ i. cond (eqb j i) c 0) ≤ c
    go (inl m) = omega (arith, sum_at n j (λ i. c) m)
    go (inr m) = omega (arith, sum_none n j (λ i. c) m)

-- Sums over the pairs (s, i) with s below n and i below m

abbrev pub grid : ℕ → ℕ → (ℕ → ℕ → ℕ) → ℕ
grid n m f = sum n (λ s. sum m (λ i. f s i))

pub grid_le : (n m : ℕ) (f g : ℕ → ℕ → ℕ) → ((s i : ℕ) → s < n → i < m → f s i ≤ g s i) → grid n m f ≤ grid n m g
grid_le n m f g h = sum_le n _ _ (λ s l. sum_le m (f s) (g s) (λ i k. h s i l k))

pub grid_eq : (n m : ℕ) (f g : ℕ → ℕ → ℕ) → ((s i : ℕ) → s < n → i < m → f s i ≡ g s i) → grid n m f ≡ grid n m g
grid_eq n m f g h = sum_eq n _ _ (λ s l. sum_eq m (f s) (g s) (λ i k. h s i l k))

pub grid_tight : (n m : ℕ) (f g : ℕ → ℕ → ℕ) → ((s i : ℕ) → s < n → i < m → f s i ≤ g s i) → grid n m g ≤ grid n m f → (s i : ℕ) → s < n → i < m → g s i ≤ f s i
grid_tight n m f g h t s i l k =
    let rows = sum_tight n (λ s. sum m (f s)) (λ s. sum m (g s)) (λ s l. sum_le m (f s) (g s) (λ i k. h s i l k)) t s l in
    sum_tight m (f s) (g s) (λ i k. h s i l k) rows i k

pub grid_plus : (n m : ℕ) (f g : ℕ → ℕ → ℕ) → grid n m (λ s i. f s i + g s i) ≡ grid n m f + grid n m g
grid_plus n m f g = sum_eq n _ _ (λ s l. sum_plus m (f s) (g s)) ∙ sum_plus n (λ s. sum m (f s)) (λ s. sum m (g s))

pub grid_const : (n m c : ℕ) → grid n m (λ s i. c) ≡ n * (m * c)
grid_const n m c = sum_eq n _ _ (λ s l. sum_const m c) ∙ sum_const n (m * c)

pub grid_at : (n m t j : ℕ) (f : ℕ → ℕ → ℕ) → t < n → j < m → grid n m (λ s i. cond (eqb t s && eqb j i) (f s i) 0) ≡ f t j
grid_at n m t j f l k = sum_eq n _ _ (λ s _. row (eqb t s) s) ∙ sum_at n t (λ s. f s j) l
  where
    row : (b : Bool) (s : ℕ) → sum m (λ i. cond (b && eqb j i) (f s i) 0) ≡ cond b (f s j) 0
    row true s = sum_at m j (f s) k
    row false s = let a = sum_const m 0 in omega arith

-- One term, one more term, a front, and a grid by rows

pub sum_zero : (f : ℕ → ℕ) → sum 0 f ≡ 0
unfolding sum
sum_zero f = refl

pub sum_more : (n : ℕ) (f : ℕ → ℕ) → sum (n + 1) f ≡ sum n f + f n
unfolding sum
sum_more n f = rw add-one

pub sum_zeros : (n : ℕ) (f : ℕ → ℕ) → ((k : ℕ) → k < n → f k ≡ 0) → sum n f ≡ 0
sum_zeros n f e = omega (arith, sum_eq n f (λ _. 0) e, sum_const n 0)

-- all but one are 0
pub sum_single : (n i : ℕ) (f : ℕ → ℕ) → i < n → ((k : ℕ) → k < n → (k ≡ i → ⊥) → f k ≡ 0) → sum n f ≡ f i
sum_single n i f h e = sum_eq n f (λ k. cond (eqb i k) (f k) 0) each ∙ sum_at n i f h
  where
    each : (k : ℕ) → k < n → f k ≡ cond (eqb i k) (f k) 0
    each k l = ⊎_elim (λ (q : k ≡ i). grind (arith, nat_tests)) (λ (q : k ≡ i → ⊥). e k l q ∙ grind (arith, nat_tests)) (cases_eq k i)

-- one term is at most the whole, and so is a front
pub sum_part : (n i : ℕ) (f : ℕ → ℕ) → i < n → f i ≤ sum n f
sum_part n i f h = omega (arith, sum_first n i f h)

pub sum_front : (k n : ℕ) (f : ℕ → ℕ) → k ≤ n → sum k f ≤ sum n f
sum_front k n f h =
    ⊎_elim (λ (q : k ≡ n). omega (arith, ap (λ m. sum m f) q)) (λ (q : k ≡ n → ⊥). omega (arith, sum_first n k f (omega arith))) (cases_eq k n)

pub sum_split : (m n : ℕ) (f : ℕ → ℕ) → sum (m + n) f ≡ sum m f + sum n (λ j. f (m + j))
unfolding sum
sum_split m zero f = rw add-zero (omega arith)
sum_split m (suc n) f = rw add-suc (omega (arith, sum_split m n f))

pub sum_head : (n : ℕ) (f : ℕ → ℕ) → sum (n + 1) f ≡ f 0 + sum n (λ k. f (1 + k))
unfolding sum
sum_head n f = ap (λ x. sum x f) (add_comm n 1) ∙ omega (arith, sum_split 1 n f)

pub sum_grid : (m n : ℕ) (f : ℕ → ℕ) → sum (m * n) f ≡ sum m (λ i. sum n (λ j. f (i * n + j)))
unfolding sum
sum_grid zero n f = ap (λ x. sum x f) (zero-mul n)
sum_grid (suc m) n f =
    let e : suc m * n ≡ m * n + n = omega (arith, add-mul m 1 n) in
    ap (λ x. sum x f) e ∙ omega (arith, sum_split (m * n) n f, sum_grid m n f)

pub sum_product : (m n : ℕ) (f g : ℕ → ℕ) → sum m (λ i. sum n (λ j. f i * g j)) ≡ sum m f * sum n g
sum_product m n f g =
    sum_eq m (λ i. sum n (λ j. f i * g j)) (λ i. sum n g * f i) (λ i h. sum_times n (f i) g ∙ mul_comm (f i) (sum n g)) ∙
    sum_times m (sum n g) f ∙ mul_comm (sum n g) (sum m f)

pub sum_each : (m n : ℕ) (f g : ℕ → ℕ) → sum m (λ i. sum n (λ j. f i + g j)) ≡ n * sum m f + m * sum n g
sum_each m n f g =
    sum_eq m (λ i. sum n (λ j. f i + g j)) (λ i. n * f i + sum n g) (λ i h. sum_plus n (λ _. f i) g ∙ omega (arith, sum_const n (f i))) ∙
    sum_plus m (λ i. n * f i) (λ _. sum n g) ∙ omega (arith, sum_times m n f, sum_const m (sum n g))

-- column v of f, and row u of g
pub sum_cross : (m n u v : ℕ) (f g : ℕ → ℕ) → u < m → v < n →
    sum m (λ i. sum n (λ j. cond (eqb v j) (f i) 0 + cond (eqb u i) (g j) 0)) ≡ sum m f + sum n g
sum_cross m n u v f g hu hv =
    sum_eq m (λ i. sum n (λ j. cond (eqb v j) (f i) 0 + cond (eqb u i) (g j) 0)) (λ i. f i + cond (eqb u i) (sum n g) 0)
    (λ i h. sum_plus n (λ j. cond (eqb v j) (f i) 0) (λ j. cond (eqb u i) (g j) 0) ∙ omega (arith, sum_at n v (λ _. f i) hv, row n (eqb u i) g)) ∙
    sum_plus m f (λ i. cond (eqb u i) (sum n g) 0) ∙ omega (arith, sum_at m u (λ _. sum n g) hu)
  where
    row : (n : ℕ) (b : Bool) (g : ℕ → ℕ) → sum n (λ j. cond b (g j) 0) ≡ cond b (sum n g) 0
    row n true g = refl
    row n false g = sum_zeros n (λ _. 0) (λ k h. refl)
