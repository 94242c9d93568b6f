-- The characteristic equations of a model: the states' equations, then a block of helpers for each state.
use Rattle.std.proofs.Common.{ℕ, zero, suc, ◌+◌, Bool, true, false, cond, ltb, List, [], ◌∷◌, ◌++◌, length}
use Rattle.records.specs.declared.Form.TheVariants.{Atom, Or, And, Diamond, Box}
use Rattle.semantics.specs.declared.Equation.{Equation}
use Rattle.semantics.specs.Lts.{Lts, sum}
use Rattle.semantics.specs.Equations.{equation, no_equation}
use Rattle.semantics.proofs.Describes.{Part, fence, may, must}

-- The parts of a state's formula, but for its fence

-- the states below n to which f has a transition
abbrev pub targets : (ℕ → ℕ) → ℕ → List ℕ
targets f zero = []
targets f (suc n) = cond (ltb 0 (f n)) (n ∷ targets f n) (targets f n)

abbrev pub mays : ℕ → List ℕ → List Part
mays a [] = []
mays a (t ∷ ts) = may a t ∷ mays a ts

-- a box where there is a transition, and no divergence
abbrev pub boxes : Bool → ℕ → List ℕ → List Part
boxes d a [] = []
boxes true a (t ∷ ts) = []
boxes false a (t ∷ ts) = must a (t ∷ ts) ∷ []

abbrev pub on_action : Lts → ℕ → ℕ → List Part
on_action M i a = let ts = targets (M.transitions i a) M.states in mays a ts ++ boxes (M.divergent i a) a ts

-- on the actions below k
abbrev pub parts_below : Lts → ℕ → ℕ → List Part
parts_below M i zero = []
parts_below M i (suc a) = on_action M i a ++ parts_below M i a

abbrev pub parts : Lts → ℕ → List Part
parts M i = parts_below M i M.actions

-- Their equations, with the helpers from position k on

-- the disjunction of t and ts: its variable, and its equations
abbrev pub union : ℕ → ℕ → List ℕ → ℕ
union k t [] = t
union k t (u ∷ ts) = k

abbrev pub ors : ℕ → ℕ → List ℕ → List Equation
ors k t [] = []
ors k t (u ∷ ts) = equation Or t (union (suc k) u ts) ∷ ors (suc k) u ts

-- one part: its equation, and its helpers
abbrev pub leaf : ℕ → Part → Equation
leaf k (fence i) = equation Atom i 0
leaf k (may a t) = equation Diamond a t
leaf k (must a []) = no_equation
leaf k (must a (t ∷ ts)) = equation Box a (union k t ts)

abbrev pub helpers : ℕ → Part → List Equation
helpers k (fence i) = []
helpers k (may a t) = []
helpers k (must a []) = []
helpers k (must a (t ∷ ts)) = ors k t ts

abbrev pub extra : Part → ℕ
extra (fence i) = 0
extra (may a t) = 0
extra (must a []) = 0
extra (must a (t ∷ ts)) = length ts

-- how many helpers
abbrev pub weight : List Part → ℕ
weight [] = 0
weight (p ∷ ps) = 2 + extra p + weight ps

-- the conjunction of ps and the fence of i: its equation, and its helpers
abbrev pub head : ℕ → ℕ → List Part → Equation
head i k [] = equation Atom i 0
head i k (p ∷ ps) = equation And k (suc k)

abbrev pub rest : ℕ → ℕ → List Part → List Equation
rest i k [] = []
rest i k (p ∷ ps) =
    let next = suc (suc k) + extra p in
    leaf (suc (suc k)) p ∷ (head i next ps ∷ (helpers (suc (suc k)) p ++ rest i next ps))

-- Of all states

-- where the block of state i begins
abbrev pub base : Lts → ℕ → ℕ
base M i = M.states + sum i (λ k. weight (parts M k))

abbrev pub heads : Lts → ℕ → List Equation
heads M zero = []
heads M (suc i) = heads M i ++ (head i (base M i) (parts M i) ∷ [])

abbrev pub blocks : Lts → ℕ → List Equation
blocks M zero = []
blocks M (suc i) = blocks M i ++ rest i (base M i) (parts M i)

abbrev pub characteristic : Lts → List Equation
characteristic M = heads M M.states ++ blocks M M.states
