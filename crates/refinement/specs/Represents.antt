-- When a board is a plain session.
use Rattle.std.specs.Prelude.{◌≡◌, ℕ, ◌+◌, ◌*◌, ◌/◌, ◌%◌, ◌<◌, ◌≤◌, Bool, true, false, cond, ◌||◌, List, [], ◌∷◌, map, length, take, Some, ◌==◌, slice_index, slice_index_or}
use Rattle.board.specs.Links.{linked}
use Rattle.board.specs.State.{State}
use Rattle.records.specs.declared.Fixpoint.{Fixpoint}
use Rattle.refinement.specs.Sides.{counted}
use Rattle.semantics.specs.Equations.{nth}
use Rattle.semantics.specs.Law.{Once}
use Rattle.semantics.specs.Lts.{Lts, sum}
use Rattle.semantics.specs.Plain.{Plain, among, book, costs, no_book, turned, well_formed}
use Rattle.semantics.specs.declared.Equation.{Equation}
use Rattle.records.specs.declared.Form.{Form}
use Rattle.records.specs.declared.Form.TheVariants.{And, Atom, Box, Diamond, False, Or, True}
use Rattle.semantics.specs.declared.Pair.{Pair}

-- the pair at a place, with n equations
abbrev pub pair_at : ℕ → ℕ → Pair
pair_at n q = record { state = q / n; variable = q % n }

-- the operands of a pair's equation that are not yet taken, with one for each transition
abbrev pub left : Lts → List Pair → ℕ → Form → ℕ → ℕ → ℕ
left F taken s True x y = 0
left F taken s False x y = 0
left F taken s Atom x y = 0
left F taken s Or x y = cond (among s x taken) 0 1 + cond (among s y taken) 0 1
left F taken s And x y = cond (among s x taken) 0 1 + cond (among s y taken) 0 1
left F taken s Diamond a y = sum F.states (λ t. cond (among t y taken) 0 (F.transitions s a t))
left F taken s Box a y = sum F.states (λ t. cond (among t y taken) 0 (F.transitions s a t))

unfoldable pub elem : ℕ → List ℕ → Bool
elem q [] = false
elem q (x ∷ xs) = x == q || elem q xs

unfoldable pub Distinct : List ℕ → Type 0
Distinct [] = Unit {0}
Distinct (x ∷ xs) = (elem x xs ≡ false) × Distinct xs

-- the worklist has the places that have turned, each once
pub record Listed (σ : State) : Type 0 where
  pub exact : (q : ℕ) → elem q σ.work ≡ slice_index_or σ.turned q false
  pub once : Distinct σ.work

pub record Shown (F : Lts) (d : Fixpoint) (σ : State) (B : List Equation) (pins taken : List Pair) (seen : ℕ) : Type 0 where
  pub loaded : σ.loaded ≡ true
  pub states : σ.states ≡ F.states
  pub book : σ.book ≡ B
  pub head : σ.head ≡ (linked B).head
  pub next : σ.next ≡ (linked B).next
  pub formed : (j : ℕ) → j < length B → well_formed F (length B) (Some (nth B j).form) (nth B j).first (nth B j).second ≡ true
  pub small : F.states * length B ≤ 8192
  pub few_equations : length B ≤ 1024
  pub turned_long : length σ.turned ≡ F.states * length B
  pub pinned_long : length σ.pinned ≡ F.states * length B
  pub counts_long : length σ.counts ≡ F.states * length B
  pub turned : (s i : ℕ) → s < F.states → i < length B → slice_index_or σ.turned (s * length B + i) false ≡ turned F d B pins taken s i
  pub pinned : (s i : ℕ) → s < F.states → i < length B → slice_index_or σ.pinned (s * length B + i) false ≡ among s i pins
  pub counts : (s i : ℕ) → s < F.states → i < length B → counted d (nth B i).form ≡ true → slice_index σ.counts (s * length B + i) ≡ left F taken s (nth B i).form (nth B i).first (nth B i).second
  pub listed : Listed σ
  pub few : σ.taken ≤ length σ.work
  pub done : map (pair_at (length B)) (take σ.taken σ.work) ≡ taken
  pub once : Once taken
  pub summed : seen ≡ costs F B taken
  pub looks : σ.looks ≡ seen

abbrev pub Represents : Lts → Fixpoint → State → Plain → Type 0
Represents F d σ no_book = σ.loaded ≡ false
Represents F d σ (book B pins taken looks) = Shown F d σ B pins taken looks
