-- The characteristic equations describe their model.
use Rattle.std.proofs.Common.{◌≡◌, ℕ, zero, suc, ◌+◌, ◌<◌, List, [], ◌∷◌, ◌++◌, length, refl, subst, inl, inr, arith, length-append}
use Rattle.semantics.specs.declared.Equation.{Equation}
use Rattle.semantics.specs.Lts.{Lts, sum}
use Rattle.semantics.specs.Equations.{nth}
use Rattle.semantics.proofs.Sums.{below_suc}
use Rattle.semantics.proofs.Members.{In}
use Rattle.semantics.proofs.Describes.{Part, fence, may, must, Disjunction, one, either, Conjunction, by_atom, by_diamond, by_box, by_and, Right, Describes}
use Rattle.semantics.proofs.Characteristic.{parts, union, ors, leaf, helpers, extra, weight, head, rest, base, heads, blocks, characteristic}
use Rattle.semantics.proofs.Targets.{Solid, parts_right, parts_of}

-- B has the equations es from position k on
abbrev Holds : List Equation → ℕ → List Equation → Type 0
Holds B k [] = Unit {0}
Holds B k (e ∷ es) = (nth B k ≡ e) × Holds B (suc k) es

holds_cons : (B : List Equation) (x : Equation) (k : ℕ) (es : List Equation) → Holds B k es → Holds (x ∷ B) (suc k) es
unfolding nth
holds_cons B x k [] h = tt
holds_cons B x k (e ∷ es) h = (h.0, holds_cons B x (suc k) es h.1)

holds_self : (B : List Equation) → Holds B 0 B
unfolding nth
holds_self [] = tt
holds_self (e ∷ B) = (refl, holds_cons B e 0 B (holds_self B))

holds_left : (B : List Equation) (k : ℕ) (xs ys : List Equation) → Holds B k (xs ++ ys) → Holds B k xs
holds_left B k [] ys h = tt
holds_left B k (x ∷ xs) ys h = (h.0, holds_left B (suc k) xs ys h.1)

holds_right : (B : List Equation) (k : ℕ) (xs ys : List Equation) (m : ℕ) → length xs ≡ m → Holds B k (xs ++ ys) → Holds B (k + m) ys
holds_right B k [] ys m e h = subst (λ (k : ℕ). Holds B k ys) (omega arith) h
holds_right B k (x ∷ xs) ys m e h =
    let same : suc k + length xs ≡ k + m = omega arith in
    subst (λ (k : ℕ). Holds B k ys) same (holds_right B (suc k) xs ys (length xs) refl h.1)

-- Lengths

length_ors : (k t : ℕ) (ts : List ℕ) → length (ors k t ts) ≡ length ts
length_ors k t [] = refl
length_ors k t (u ∷ ts) = let a = length_ors (suc k) u ts in omega arith

length_helpers : (k : ℕ) (p : Part) → length (helpers k p) ≡ extra p
length_helpers k (fence i) = refl
length_helpers k (may a t) = refl
length_helpers k (must a []) = refl
length_helpers k (must a (t ∷ ts)) = length_ors k t ts

length_rest : (i k : ℕ) (ps : List Part) → length (rest i k ps) ≡ weight ps
length_rest i k [] = refl
length_rest i k (p ∷ ps) =
    let next = suc (suc k) + extra p in
    let a = length-append (helpers (suc (suc k)) p) (rest i next ps) in
    let b = length_helpers (suc (suc k)) p in
    let c = length_rest i next ps in
    omega arith

length_heads : (M : Lts) (i : ℕ) → length (heads M i) ≡ i
length_heads M zero = refl
length_heads M (suc i) =
    let a = length-append (heads M i) (head i (base M i) (parts M i) ∷ []) in
    let b = length_heads M i in
    omega arith

length_blocks : (M : Lts) (i : ℕ) → length (blocks M i) ≡ sum i (λ k. weight (parts M k))
unfolding sum
length_blocks M zero = refl
length_blocks M (suc i) =
    let a = length-append (blocks M i) (rest i (base M i) (parts M i)) in
    let b = length_blocks M i in
    let c = length_rest i (base M i) (parts M i) in
    omega arith

pub length_characteristic : (M : Lts) → length (characteristic M) ≡ M.states + sum M.states (λ k. weight (parts M k))
length_characteristic M =
    let a = length-append (heads M M.states) (blocks M M.states) in
    let b = length_heads M M.states in
    let c = length_blocks M M.states in
    omega arith

-- Reading one state's equations

module _ (M : Lts) (B : List Equation) (i : ℕ) where
  read_union : (k t : ℕ) (ts : List ℕ) → ((u : ℕ) → In u (t ∷ ts) → u < M.states) → Holds B k (ors k t ts) → Disjunction B M.states (union k t ts) (t ∷ ts)
  read_union k t [] low h = one (low t (inl refl))
  read_union k t (u ∷ ts) low h = either {ts = t ∷ []} h.0 (one (low t (inl refl))) (read_union (suc k) u ts (λ v x. low v (inr x)) h.1)

  read_leaf : (j k : ℕ) (p : Part) → Right M i p → Solid p → nth B j ≡ leaf k p → Holds B k (helpers k p) → Conjunction B M.states j (p ∷ [])
  read_leaf j k (fence i) r s e h = by_atom e
  read_leaf j k (may a t) r s e h = by_diamond e r.1
  read_leaf j k (must a []) r s e h = absurd (omega arith)
  read_leaf j k (must a (t ∷ ts)) r s e h = by_box e (read_union k t ts (λ u x. ((r.2 u).0 x).0) h)

  read : (ps : List Part) (j k : ℕ) → ((p : Part) → In p ps → Right M i p × Solid p) → nth B j ≡ head i k ps → Holds B k (rest i k ps) → Conjunction B M.states j (ps ++ fence i ∷ [])
  read [] j k r e h = by_atom e
  read (p ∷ ps) j k r e h =
      let after = suc (suc k) in
      let next = after + extra p in
      let here = r p (inl refl) in
      by_and {ps = p ∷ []} e
      (read_leaf k after p here.0 here.1 h.0 (holds_left B after (helpers after p) (rest i next ps) h.1.1))
      (read ps (suc k) next (λ q x. r q (inr x)) h.1.0 (holds_right B after (helpers after p) (rest i next ps) (extra p) (length_helpers after p) h.1.1))

-- Where they stand

heads_at : (M : Lts) (B : List Equation) (m : ℕ) → Holds B 0 (heads M m) → (i : ℕ) → i < m → nth B i ≡ head i (base M i) (parts M i)
heads_at M B zero h i l = absurd (omega arith)
heads_at M B (suc m) h i l =
    let more = head m (base M m) (parts M m) ∷ [] in
    let same : 0 + m ≡ m = omega arith in
    below_suc m (λ i. nth B i ≡ head i (base M i) (parts M i)) (heads_at M B m (holds_left B 0 (heads M m) more h))
    (subst (λ (k : ℕ). nth B k ≡ head m (base M m) (parts M m)) same (holds_right B 0 (heads M m) more m (length_heads M m) h).0) i l

blocks_at : (M : Lts) (B : List Equation) (m : ℕ) → Holds B M.states (blocks M m) → (i : ℕ) → i < m → Holds B (base M i) (rest i (base M i) (parts M i))
blocks_at M B zero h i l = absurd (omega arith)
blocks_at M B (suc m) h i l =
    let more = rest m (base M m) (parts M m) in
    below_suc m (λ i. Holds B (base M i) (rest i (base M i) (parts M i))) (blocks_at M B m (holds_left B M.states (blocks M m) more h))
    (holds_right B M.states (blocks M m) more (sum m (λ k. weight (parts M k))) (length_blocks M m) h) i l

pub describes : (M : Lts) → Describes M (characteristic M)
describes M i l =
    let n = M.states in
    let B = characteristic M in
    let all = holds_self B in
    let first = holds_left B 0 (heads M n) (blocks M n) all in
    let same : 0 + n ≡ n = omega arith in
    let second : Holds B n (blocks M n) = subst (λ (k : ℕ). Holds B k (blocks M n)) same (holds_right B 0 (heads M n) (blocks M n) n (length_heads M n) all) in
    (parts M i ++ fence i ∷ [], read M B i (parts M i) i (base M i) (parts_right M i) (heads_at M B n first i l) (blocks_at M B n second i l), parts_of M i)
