-- One equation more in the list.
use Rattle.std.specs.Prelude.{◌≡◌, ℕ, List, [], ◌∷◌, ◌++◌, length, Some, None, Result, MatchResult}
use Rattle.records.specs.declared.EquationRecord.{EquationRecord}
use Rattle.fields.specs.declared.fault.Fault.{Fault}
use Rattle.lines.specs.Lent.{Filled}
use Rattle.rulebook_text.specs.Rulebooks.{Numbered, misplaced, equations_of}
use Rattle.rulebook_text.specs.declared.equation.Rulebook.{Rulebook}

-- the list holds the equations, n of them
pub record Row (before : List EquationRecord) (rs : List Numbered) (after : List EquationRecord) (n : ℕ) : Type 0 where
  pub filled : Filled before (equations_of rs) after
  pub count : n ≡ length rs

-- However the list was filled, the equation is put behind the others, or it has no place and nothing changes.
pub record Puts {X : Type 0} (list list' : List EquationRecord) (n : ℕ) (book : Rulebook) (x : Numbered) (line : ℕ) (r : Result X Fault) : Type 0 where
  pub puts : (before : List EquationRecord) (rs : List Numbered) → Row before rs list n → MatchResult r
      (λ _. (misplaced (length before) book rs x ≡ None) × Filled before (equations_of (rs ++ x ∷ [])) list')
      (λ f. (misplaced (length before) book rs x ≡ Some (f.cause, f.field)) × (f.line ≡ line) × Filled before (equations_of rs) list')
