-- The cost of all pairs together.
use Rattle.std.proofs.Common.{◌≡◌, ℕ, ◌+◌, ◌*◌, ◌≤◌, Bool, true, false, cond, eqb, List, length, arith}
use Rattle.records.specs.declared.Form.{Form}
use Rattle.records.specs.declared.Form.TheVariants.{True, False, Atom, Or, And, Diamond, Box}
use Rattle.semantics.specs.declared.Equation.{Equation}
use Rattle.semantics.specs.declared.Pair.{Pair}
use Rattle.semantics.specs.Lts.{Lts, sum, into, on}
use Rattle.semantics.specs.Equations.{nth, looks_of, cost}
use Rattle.semantics.specs.Plain.{among, costs}
use Rattle.semantics.specs.Law.{Once, junction, crossings, most_looks}
use Rattle.semantics.proofs.Sums.{sum_le, sum_eq, sum_plus, sum_const, sum_times, sum_swap, sum_at_le, grid, grid_le, grid_plus, grid_const}
use Rattle.semantics.proofs.Pairs.{Inside, costs_grid}

pair_looks : (F : Lts) (n x y : ℕ) → grid F.states n (λ s i. cond (eqb x i) 1 0 + cond (eqb y i) 1 0) ≤ 2 * F.states * 1 + 0
pair_looks F n x y =
    let N = F.states in
    let a = grid_plus N n (λ s i. cond (eqb x i) 1 0) (λ s i. cond (eqb y i) 1 0) in
    let one : (j : ℕ) → grid N n (λ s i. cond (eqb j i) 1 0) ≤ sum N (λ s. 1) = λ j. sum_le N _ (λ s. 1) (λ s _. sum_at_le n j 1) in
    let b = one x in
    let c = one y in
    let e = sum_const N 1 in
    omega arith

-- what all pairs look at because of one equation
equation_looks : (F : Lts) (n : ℕ) (f : Form) (x y : ℕ) → grid F.states n (λ s i. looks_of F s i f x y) ≤ 2 * F.states * junction f + crossings F f x
unfolding on
equation_looks F n True x y = omega (arith, grid_const F.states n 0)
equation_looks F n False x y = omega (arith, grid_const F.states n 0)
equation_looks F n Atom x y = omega (arith, grid_const F.states n 0)
equation_looks F n Or x y = pair_looks F n x y
equation_looks F n And x y = pair_looks F n x y
equation_looks F n Diamond a j = omega (arith, sum_le F.states _ (λ s. into F s a) (λ s _. sum_at_le n j (into F s a)))
equation_looks F n Box a j = omega (arith, sum_le F.states _ (λ s. into F s a) (λ s _. sum_at_le n j (into F s a)))

all_costs : (F : Lts) (B : List Equation) → grid F.states (length B) (cost F B) ≤ most_looks F B
unfolding cost most_looks
all_costs F B =
    let N = F.states in
    let n = length B in
    let look : ℕ → ℕ → ℕ → ℕ = λ s i j. looks_of F s i (nth B j).form (nth B j).first (nth B j).second in
    let a : grid N n (λ s i. 1 + sum n (look s i)) ≡ grid N n (λ s i. 1) + grid N n (λ s i. sum n (look s i)) = grid_plus N n (λ s i. 1) (λ s i. sum n (look s i)) in
    let b : grid N n (λ s i. 1) ≡ N * (n * 1) = grid_const N n 1 in
    let c : grid N n (λ s i. sum n (look s i)) ≡ sum N (λ s. sum n (λ j. sum n (λ i. look s i j))) = sum_eq N _ _ (λ s _. sum_swap n n (look s)) in
    let e : sum N (λ s. sum n (λ j. sum n (λ i. look s i j))) ≡ sum n (λ j. sum N (λ s. sum n (λ i. look s i j))) = sum_swap N n (λ s j. sum n (λ i. look s i j)) in
    let g : sum n (λ j. sum N (λ s. sum n (λ i. look s i j))) ≤ sum n (λ j. 2 * N * junction (nth B j).form + crossings F (nth B j).form (nth B j).first) = sum_le n _ _ (λ j _. equation_looks F n (nth B j).form (nth B j).first (nth B j).second) in
    let h : sum n (λ j. 2 * N * junction (nth B j).form + crossings F (nth B j).form (nth B j).first) ≡ sum n (λ j. 2 * N * junction (nth B j).form) + sum n (λ j. crossings F (nth B j).form (nth B j).first) = sum_plus n _ _ in
    let k : sum n (λ j. 2 * N * junction (nth B j).form) ≡ 2 * N * sum n (λ j. junction (nth B j).form) = sum_times n (2 * N) (λ j. junction (nth B j).form) in
    omega arith

some_or_none : (b : Bool) (c : ℕ) → cond b c 0 ≤ c
some_or_none true c = omega arith
some_or_none false c = omega arith

pub costs_bound : (F : Lts) (B : List Equation) (ps : List Pair) → Once ps → Inside F.states (length B) ps → costs F B ps ≤ most_looks F B
costs_bound F B ps h k =
    let a = costs_grid F B ps h k in
    let b = grid_le F.states (length B) (λ s i. cond (among s i ps) (cost F B s i) 0) (cost F B) (λ s i _ _. some_or_none (among s i ps) (cost F B s i)) in
    let c = all_costs F B in
    omega arith
