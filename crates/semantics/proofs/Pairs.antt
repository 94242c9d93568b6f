-- Lists of pairs: what one more does, and sums over a list as sums over the grid.
use Rattle.std.proofs.Common.{◌≡◌, ℕ, ◌+◌, ◌*◌, ◌<◌, ◌≤◌, Bool, true, false, cond, ◌&&◌, ◌||◌, eqb, List, [], ◌∷◌, ◌++◌, length, sym, refl, ap, ◌∙◌, ap₂, arith}
use Rattle.std.proofs.lemmas.Bool.{eqb-true, eq-eqb, and_parts, and_from, or_parts, or_from}
use Rattle.semantics.specs.declared.Equation.{Equation}
use Rattle.semantics.specs.declared.Pair.{Pair}
use Rattle.semantics.specs.Lts.{Lts}
use Rattle.semantics.specs.Equations.{cost}
use Rattle.semantics.specs.Plain.{among, costs}
use Rattle.semantics.specs.Law.{Once}
use Rattle.semantics.proofs.Sums.{grid, grid_eq, grid_plus, grid_const, grid_at}
use Rattle.semantics.proofs.Bools.{same_bool, or_none, or_assoc}
use Rattle.semantics.proofs.Fix.{size, size_all, size_tight}

abbrev pub is : Pair → ℕ → ℕ → Bool
is p s i = eqb p.state s && eqb p.variable i

pub is_at : (p : Pair) (s i : ℕ) → is p s i ≡ true → (p.state ≡ s) × (p.variable ≡ i)
is_at p s i e =
    let a = and_parts (eqb p.state s) (eqb p.variable i) e in
    (eqb-true p.state s a.0, eqb-true p.variable i a.1)

pub is_self : (p : Pair) → is p p.state p.variable ≡ true
is_self p = and_from (eqb p.state p.state) (eqb p.variable p.variable) (eq-eqb p.state p.state refl) (eq-eqb p.variable p.variable refl)

eqb_sym : (a b : ℕ) → eqb a b ≡ eqb b a
eqb_sym a b = same_bool (eqb a b) (eqb b a) (λ e. eq-eqb b a (sym (eqb-true a b e))) (λ e. eq-eqb a b (sym (eqb-true b a e)))

is_sym : (p q : Pair) → is p q.state q.variable ≡ is q p.state p.variable
is_sym p q = ap₂ (λ (a b : Bool). a && b) (eqb_sym p.state q.state) (eqb_sym p.variable q.variable)

-- each pair lies in the session
abbrev pub Inside : ℕ → ℕ → List Pair → Type 0
Inside n m [] = Unit {0}
Inside n m (p ∷ ps) = (p.state < n) × (p.variable < m) × Inside n m ps

pub inside_push : (n m : ℕ) (ps : List Pair) (p : Pair) → Inside n m ps → p.state < n → p.variable < m → Inside n m (ps ++ p ∷ [])
inside_push n m [] p h l k = (l, k, tt)
inside_push n m (q ∷ ps) p h l k = (h.0, h.1, inside_push n m ps p h.2 l k)

pub among_push : (s i : ℕ) (ps : List Pair) (p : Pair) → among s i (ps ++ p ∷ []) ≡ (among s i ps || is p s i)
unfolding among
among_push s i [] p = or_none false (is p s i)
among_push s i (q ∷ ps) p = ap (λ (b : Bool). is q s i || b) (among_push s i ps p) ∙ or_assoc (is q s i) (among s i ps) (is p s i)

pub among_append : (s i : ℕ) (ps qs : List Pair) → among s i (ps ++ qs) ≡ (among s i ps || among s i qs)
unfolding among
among_append s i [] qs = refl
among_append s i (p ∷ ps) qs = ap (λ (b : Bool). is p s i || b) (among_append s i ps qs) ∙ or_assoc (is p s i) (among s i ps) (among s i qs)

pub once_push : (ps : List Pair) (p : Pair) → Once ps → among p.state p.variable ps ≡ false → Once (ps ++ p ∷ [])
unfolding among Once
once_push [] p h e = (refl, tt)
once_push (q ∷ ps) p h e =
    let a = or_parts (is q p.state p.variable) (among p.state p.variable ps) e in (
      among_push q.state q.variable ps p ∙ or_from (among q.state q.variable ps) (is p q.state q.variable) h.0 (is_sym p q ∙ a.0),
      once_push ps p h.1 a.1,
    )

pub costs_push : (F : Lts) (B : List Equation) (ps : List Pair) (p : Pair) → costs F B (ps ++ p ∷ []) ≡ costs F B ps + cost F B p.state p.variable
unfolding costs
costs_push F B [] p = omega arith
costs_push F B (q ∷ ps) p = let a = costs_push F B ps p in omega arith

or_split : (a b : Bool) (c : ℕ) → (a ≡ true → b ≡ false) → cond (a || b) c 0 ≡ cond a c 0 + cond b c 0
or_split true b c h = rw (h refl) (omega arith)
or_split false b c h = omega arith

-- A weight summed over a list of pairs is its sum over the grid, at the pairs of the list

unfoldable pub total : (ℕ → ℕ → ℕ) → List Pair → ℕ
total w [] = 0
total w (p ∷ ps) = w p.state p.variable + total w ps

pub total_grid : (n m : ℕ) (w : ℕ → ℕ → ℕ) (ps : List Pair) → Once ps → Inside n m ps → total w ps ≡ grid n m (λ s i. cond (among s i ps) (w s i) 0)
unfolding total among Once
total_grid n m w [] h k = let a = grid_const n m 0 in omega arith
total_grid n m w (p ∷ ps) h k =
    let rest : ℕ → ℕ → ℕ = λ s i. cond (among s i ps) (w s i) 0 in
    let first : ℕ → ℕ → ℕ = λ s i. cond (is p s i) (w s i) 0 in
    let apart : (s i : ℕ) → is p s i ≡ true → among s i ps ≡ false = λ s i e. let a = is_at p s i e in ap₂ (λ (s i : ℕ). among s i ps) (sym a.0) (sym a.1) ∙ h.0 in
    let a : grid n m (λ s i. cond (among s i (p ∷ ps)) (w s i) 0) ≡ grid n m (λ s i. first s i + rest s i) = grid_eq n m _ _ (λ s i _ _. or_split (is p s i) (among s i ps) (w s i) (apart s i)) in
    let b : grid n m (λ s i. first s i + rest s i) ≡ grid n m first + grid n m rest = grid_plus n m first rest in
    let c : grid n m first ≡ w p.state p.variable = grid_at n m p.state p.variable w k.0 k.1 in
    let e : total w ps ≡ grid n m rest = total_grid n m w ps h.1 k.2 in
    sym (a ∙ b ∙ ap₂ (λ (x y : ℕ). x + y) c (sym e))

costs_total : (F : Lts) (B : List Equation) (ps : List Pair) → costs F B ps ≡ total (cost F B) ps
unfolding costs total
costs_total F B [] = refl
costs_total F B (p ∷ ps) = ap (λ (n : ℕ). cost F B p.state p.variable + n) (costs_total F B ps)

pub costs_grid : (F : Lts) (B : List Equation) (ps : List Pair) → Once ps → Inside F.states (length B) ps →
    costs F B ps ≡ grid F.states (length B) (λ s i. cond (among s i ps) (cost F B s i) 0)
costs_grid F B ps h k = costs_total F B ps ∙ total_grid F.states (length B) (cost F B) ps h k

length_total : (ps : List Pair) → length ps ≡ total (λ s i. 1) ps
unfolding total
length_total [] = refl
length_total (p ∷ ps) = let a = length_total ps in omega arith

-- a list that has no pair twice, and as many as the grid, has them all
pub full : (n m : ℕ) (ps : List Pair) → Once ps → Inside n m ps → n * m ≤ length ps → (s i : ℕ) → s < n → i < m → among s i ps ≡ true
unfolding size
full n m ps h k l s i a b =
    let x = length_total ps in
    let y = total_grid n m (λ s i. 1) ps h k in
    let z = size_all n m in
    size_tight n m (λ s i. among s i ps) (λ s i. true) (λ s i _ _ _. refl) (omega arith) s i a b refl
