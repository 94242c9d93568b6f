-- The characteristic equations are well-formed, and characterise their model.
use Rattle.std.proofs.Common.{◌≡◌, ℕ, zero, suc, ◌+◌, ◌<◌, ◌≤◌, true, eqb, ltb, List, [], ◌∷◌, ◌++◌, length, Some, refl, inl, inr, arith}
use Rattle.std.proofs.lemmas.Bool.{and_from, lt-ltb}
use Rattle.records.specs.declared.Form.TheVariants.{Atom}
use Rattle.semantics.specs.declared.Equation.{Equation}
use Rattle.semantics.specs.Lts.{Lts, sum}
use Rattle.semantics.specs.Equations.{equation, nth}
use Rattle.semantics.specs.Plain.{well_formed}
use Rattle.semantics.specs.Preorder.{fenced_by, Characterised}
use Rattle.semantics.proofs.Sums.{sum_first}
use Rattle.semantics.proofs.Members.{In}
use Rattle.semantics.proofs.Describes.{Part, fence, may, must, Right}
use Rattle.semantics.proofs.Characteristic.{parts, union, ors, leaf, helpers, extra, weight, head, rest, base, heads, blocks, characteristic}
use Rattle.semantics.proofs.Targets.{Solid, parts_right, weight_all}
use Rattle.semantics.proofs.Reading.{length_characteristic, describes}
use Rattle.semantics.proofs.Characterises.{characterises}

module _ (M : Lts) (V : ℕ) (enough : M.states ≤ V) where
  -- well-formed, among V variables
  abbrev Fine : Equation → Type 0
  Fine e = well_formed (fenced_by M M) V (Some e.form) e.first e.second ≡ true

  abbrev AllFine : List Equation → Type 0
  AllFine [] = Unit {0}
  AllFine (e ∷ es) = Fine e × AllFine es

  fine_append : (xs ys : List Equation) → AllFine xs → AllFine ys → AllFine (xs ++ ys)
  fine_append [] ys h k = k
  fine_append (x ∷ xs) ys h k = (h.0, fine_append xs ys h.1 k)

  fine_nth : (es : List Equation) → AllFine es → (i : ℕ) → i < length es → Fine (nth es i)
  unfolding nth
  fine_nth [] h i l = absurd (omega arith)
  fine_nth (e ∷ es) h zero l = h.0
  fine_nth (e ∷ es) h (suc i) l = fine_nth es h.1 i (omega arith)

  fine_atom : (i : ℕ) → i < M.states → Fine (equation Atom i 0)
  unfolding well_formed
  fine_atom i l = and_from (ltb i M.states) (eqb 0 0) (lt-ltb i M.states l) refl

  -- Of one state

  union_low : (k t : ℕ) (ts : List ℕ) → t < M.states → k + length ts ≤ V → union k t ts < V
  union_low k t [] l h = omega arith
  union_low k t (u ∷ ts) l h = omega arith

  fine_ors : (k t : ℕ) (ts : List ℕ) → ((u : ℕ) → In u (t ∷ ts) → u < M.states) → k + length ts ≤ V → AllFine (ors k t ts)
  unfolding well_formed
  fine_ors k t [] low h = tt
  fine_ors k t (u ∷ ts) low h =
      let a : t < M.states = low t (inl refl) in
      let b : union (suc k) u ts < V = union_low (suc k) u ts (low u (inr (inl refl))) (omega arith) in
      (and_from (ltb t V) (ltb (union (suc k) u ts) V) (lt-ltb t V (omega arith)) (lt-ltb (union (suc k) u ts) V b), fine_ors (suc k) u ts (λ v x. low v (inr x)) (omega arith))

  module _ (i : ℕ) (l : i < M.states) where
    fine_leaf : (k : ℕ) (p : Part) → Right M i p → Solid p → k + extra p ≤ V → Fine (leaf k p)
    unfolding well_formed
    fine_leaf k (fence j) r s h = fine_atom j (omega arith)
    fine_leaf k (may a t) r s h = and_from (ltb a M.actions) (ltb t V) (lt-ltb a M.actions r.0) (lt-ltb t V (omega arith))
    fine_leaf k (must a []) r s h = absurd (omega arith)
    fine_leaf k (must a (t ∷ ts)) r s h =
        and_from (ltb a M.actions) (ltb (union k t ts) V) (lt-ltb a M.actions r.0) (lt-ltb (union k t ts) V (union_low k t ts ((r.2 t).0 (inl refl)).0 h))

    fine_helpers : (k : ℕ) (p : Part) → Right M i p → k + extra p ≤ V → AllFine (helpers k p)
    fine_helpers k (fence j) r h = tt
    fine_helpers k (may a t) r h = tt
    fine_helpers k (must a []) r h = tt
    fine_helpers k (must a (t ∷ ts)) r h = fine_ors k t ts (λ u x. ((r.2 u).0 x).0) h

    fine_head : (k : ℕ) (ps : List Part) → k + weight ps ≤ V → Fine (head i k ps)
    unfolding well_formed
    fine_head k [] h = fine_atom i l
    fine_head k (p ∷ ps) h = and_from (ltb k V) (ltb (suc k) V) (lt-ltb k V (omega arith)) (lt-ltb (suc k) V (omega arith))

    fine_rest : (k : ℕ) (ps : List Part) → ((p : Part) → In p ps → Right M i p × Solid p) → k + weight ps ≤ V → AllFine (rest i k ps)
    fine_rest k [] r h = tt
    fine_rest k (p ∷ ps) r h =
        let after = suc (suc k) in
        let next = after + extra p in
        let here = r p (inl refl) in (
          fine_leaf after p here.0 here.1 (omega arith),
          (fine_head next ps (omega arith), fine_append (helpers after p) (rest i next ps) (fine_helpers after p here.0 (omega arith)) (fine_rest next ps (λ q x. r q (inr x)) (omega arith))),
        )

  -- Of all states

  module _ (room : (i : ℕ) → i < M.states → base M i + weight (parts M i) ≤ V) where
    fine_heads : (m : ℕ) → m ≤ M.states → AllFine (heads M m)
    fine_heads zero l = tt
    fine_heads (suc m) l =
        fine_append (heads M m) (head m (base M m) (parts M m) ∷ []) (fine_heads m (omega arith)) (fine_head m l (base M m) (parts M m) (room m l), tt)

    fine_blocks : (m : ℕ) → m ≤ M.states → AllFine (blocks M m)
    fine_blocks zero l = tt
    fine_blocks (suc m) l =
        fine_append (blocks M m) (rest m (base M m) (parts M m)) (fine_blocks m (omega arith)) (fine_rest m l (base M m) (parts M m) (parts_right M m) (room m l))

pub characterised : Characterised
characterised M = (characteristic M, characterises M B enough (omega (arith, long, weight_all M)) (fine_nth M (length B) enough B fine) (describes M))
  where
    B : List Equation
    B = characteristic M

    long : length B ≡ M.states + sum M.states (λ k. weight (parts M k))
    long = length_characteristic M

    enough : M.states ≤ length B
    enough = omega (arith, long)

    room : (i : ℕ) → i < M.states → base M i + weight (parts M i) ≤ length B
    room i l = omega (arith, long, sum_first M.states i (λ k. weight (parts M k)) l)

    fine : AllFine M (length B) enough B
    fine = fine_append M (length B) enough (heads M M.states) (blocks M M.states) (fine_heads M (length B) enough room M.states (omega arith)) (fine_blocks M (length B) enough room M.states (omega arith))
