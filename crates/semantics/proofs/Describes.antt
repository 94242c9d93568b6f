-- How equations are read as the characteristic formula of each state of a model.
use Rattle.std.proofs.Common.{◌≡◌, ℕ, ◌<◌, true, false, ◌↔◌, List, [], ◌∷◌, ◌++◌}
use Rattle.records.specs.declared.Form.TheVariants.{Atom, Or, And, Diamond, Box}
use Rattle.semantics.specs.declared.Equation.{Equation}
use Rattle.semantics.specs.Lts.{Lts}
use Rattle.semantics.specs.Equations.{equation, nth}
use Rattle.semantics.specs.Preorder.{Relation}
use Rattle.semantics.proofs.Members.{In}

-- a conjunct of a state's formula: the atom i; <a> t; [a] of the disjunction of ts
pub data Part : Type 0 where
  fence : (i : ℕ) → Part
  may : (a t : ℕ) → Part
  must : (a : ℕ) (ts : List ℕ) → Part

-- variable u is the disjunction of the variables ts of states, by equations Or; n states
pub data Disjunction (B : List Equation) (n : ℕ) : ℕ → List ℕ → Type 0 where
  one : {t : ℕ} → t < n → Disjunction B n t (t ∷ [])
  either : {u v w : ℕ} {ts us : List ℕ} → nth B u ≡ equation Or v w → Disjunction B n v ts → Disjunction B n w us → Disjunction B n u (ts ++ us)

-- variable j is the conjunction of the parts ps, by equations And
pub data Conjunction (B : List Equation) (n : ℕ) : ℕ → List Part → Type 0 where
  by_atom : {j i : ℕ} → nth B j ≡ equation Atom i 0 → Conjunction B n j (fence i ∷ [])
  by_diamond : {j a t : ℕ} → nth B j ≡ equation Diamond a t → t < n → Conjunction B n j (may a t ∷ [])
  by_box : {j a u : ℕ} {ts : List ℕ} → nth B j ≡ equation Box a u → Disjunction B n u ts → Conjunction B n j (must a ts ∷ [])
  by_and : {j k l : ℕ} {ps qs : List Part} → nth B j ≡ equation And k l → Conjunction B n k ps → Conjunction B n l qs → Conjunction B n j (ps ++ qs)

-- a part that the formula of state i may have
abbrev pub Right : Lts → ℕ → Part → Type 0
Right M i (fence j) = j ≡ i
Right M i (may a t) = (a < M.actions) × (t < M.states) × (0 < M.transitions i a t)
Right M i (must a ts) = (a < M.actions) × (M.divergent i a ≡ false) × ((t : ℕ) → In t ts ↔ ((t < M.states) × (0 < M.transitions i a t)))

-- ps are the parts of state i's formula, in any order, and more than once if need be
pub record Parts (M : Lts) (i : ℕ) (ps : List Part) : Type 0 where
  pub right : (p : Part) → In p ps → Right M i p
  pub fences : In (fence i) ps
  pub mays : (a t : ℕ) → a < M.actions → t < M.states → 0 < M.transitions i a t → In (may a t) ps
  pub musts : (a t : ℕ) → a < M.actions → M.divergent i a ≡ false → t < M.states → 0 < M.transitions i a t → (ts : List ℕ) × In (must a ts) ps

abbrev pub Describes : Lts → List Equation → Type 0
Describes M B = (i : ℕ) → i < M.states → (ps : List Part) × Conjunction B M.states i ps × Parts M i ps

-- what a part asks of the state s' of F under R
abbrev pub Meets : Lts → Relation → ℕ → Part → Type 0
Meets F R s' (fence i) = F.holds i s' ≡ true
Meets F R s' (may a t) = (t' : ℕ) × (t' < F.states) × (0 < F.transitions s' a t') × (R t t' ≡ true)
Meets F R s' (must a ts) =
    (F.divergent s' a ≡ false) × ((t' : ℕ) → t' < F.states → 0 < F.transitions s' a t' → (t : ℕ) × In t ts × (R t t' ≡ true))
