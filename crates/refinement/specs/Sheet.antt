-- The sheet of a board.
use Rattle.std.specs.Prelude.{ℕ, zero, suc, Bool, false, cond, not, List, [], ◌∷◌, ◌++◌, length, codes, decimal, slice_index_or}
use Rattle.records.specs.declared.Fixpoint.{Fixpoint}
use Rattle.semantics.specs.Lts.{sum}
use Rattle.semantics.specs.Equations.{start}
use Rattle.semantics.specs.Plain.{share, letter}
use Rattle.board.specs.State.{State, place, waiting}

-- whether the pair at a place is on
abbrev pub on_at : Fixpoint → State → ℕ → Bool
on_at d σ at = cond (slice_index_or σ.turned at false) (not (start d)) (start d)

-- the states at which variable i is on, among the first n
unfoldable pub on_below : Fixpoint → State → ℕ → ℕ → ℕ
on_below d σ i n = sum n (λ s. cond (on_at d σ (place σ s i)) 1 0)

-- the line of variable i with m states marked
abbrev pub line : (N i m : ℕ) → List ℕ
line N i m = codes "V," ++ decimal i ++ codes "," ++ decimal m ++ codes "," ++ decimal (share N m) ++ 10 ∷ []

-- the lines of the variables below i
unfoldable pub lines_below : Fixpoint → State → ℕ → List ℕ
lines_below d σ zero = []
lines_below d σ (suc i) = lines_below d σ i ++ line σ.states i (on_below d σ i σ.states)

-- the first line
abbrev pub top : Fixpoint → State → List ℕ
top d σ =
    codes "M," ++ letter d ++ codes "," ++ decimal σ.states ++ codes "," ++ decimal (length σ.book) ++ codes "," ++ cond (not (waiting σ)) (codes "1") (codes "0") ++ codes "," ++ decimal σ.looks ++ 10 ∷ []

unfoldable pub sheet_of : Fixpoint → State → List ℕ
sheet_of d σ = top d σ ++ lines_below d σ (length σ.book)
