-- Rulebook texts: a line R with the side and the number of equations, and then that many lines Q, in turn.
use Rattle.std.specs.Prelude.{ℕ, cond, ◌||◌, ◌++◌, codes, decimal, List, [], ◌∷◌, length, Some, None, Option, Result, ◌==◌, nat_lt, slice_index}
use Rattle.std.proofs.Math.Utf8.{encode}
use Rattle.records.specs.Letters.{side_letter}
use Rattle.records.specs.declared.EquationRecord.{EquationRecord}
use Rattle.records.specs.declared.Fixpoint.{Fixpoint}
use Rattle.records.specs.declared.Fixpoint.TheVariants.{Greatest, Least}
use Rattle.fields.specs.declared.fault.Cause.{Cause}
use Rattle.fields.specs.declared.fault.Cause.TheVariants.{Full, Turn}
use Rattle.lines.specs.Kinds.{byte, number, Kind, made, checked}
use Rattle.lines.specs.Texts.{Grammar}
use Rattle.rulebook_text.specs.declared.equation.Rulebook.{Rulebook}

-- R,side,n
abbrev pub rulebook_kind : Fixpoint → Kind Rulebook
rulebook_kind d = record {
  slots = byte 82 ∷ byte (side_letter d) ∷ number 1 1025 ∷ [];
  make = λ ns. record { side = d; equations = slice_index ns 0 };
}

-- the first line of a rulebook text, without the byte 10 that ends it
abbrev pub head_text : Rulebook → List ℕ
head_text b = codes "R," ++ (encode (side_letter b.side) ++ (codes "," ++ decimal b.equations))

-- an equation that a line says, and its number there
abbrev pub Numbered : Type 0
Numbered = ℕ × EquationRecord

-- the first number past those of the first place: t and f do not use it
abbrev pub first_past : ℕ → ℕ
first_past c = cond (c == 116 || c == 102) 1 65536

-- t, f and A do not use the second place
abbrev pub second_past : ℕ → ℕ
second_past c = cond (c == 116 || (c == 102 || c == 65)) 1 65536

-- Q,i,form,first,second; a place that the form does not use is 0
abbrev pub equation_kind : ℕ → Kind Numbered
equation_kind c = record {
  slots = byte 81 ∷ number 0 65536 ∷ byte c ∷ number 0 (first_past c) ∷ number 0 (second_past c) ∷ [];
  make = λ ns. (slice_index ns 0, record { form = c; first = slice_index ns 1; second = slice_index ns 2 });
}

-- what these fields say as an equation of that form
abbrev pub as_equation : ℕ → (index first second : List ℕ) → Result Numbered (Cause × ℕ)
as_equation c i x y = let k = equation_kind c in made k.make (checked 1 k.slots ((81 ∷ []) ∷ i ∷ (c ∷ []) ∷ x ∷ y ∷ []))

-- t f A | & < [
abbrev pub equation_kinds : List (Kind Numbered)
equation_kinds =
    equation_kind 116 ∷ equation_kind 102 ∷ equation_kind 65 ∷ equation_kind 124 ∷ equation_kind 38 ∷ equation_kind 60 ∷ equation_kind 91 ∷ []

-- after as many as the first line says, an equation is extra; else its number is the next one, and the list has a place
abbrev pub misplaced : (room : ℕ) → Rulebook → List Numbered → Numbered → Option (Cause × ℕ)
misplaced room b rs x =
    cond (nat_lt (length rs) b.equations) (cond (x.0 == length rs) (cond (nat_lt (length rs) room) None (Some (Full, 0))) (Some (Turn, 2))) (Some (Turn, 0))

-- an equation is missing
abbrev pub unfinished : Rulebook → List Numbered → Option Cause
unfinished b rs = cond (nat_lt (length rs) b.equations) (Some Turn) None

-- Rulebook texts, for a reader whose list has so many places
abbrev pub rulebook_grammar : ℕ → Grammar Rulebook Numbered
rulebook_grammar room = record {
  heads = rulebook_kind Greatest ∷ rulebook_kind Least ∷ [];
  bodies = λ b. equation_kinds;
  misplaced = misplaced room;
  unfinished = unfinished;
}

-- the equations without their numbers
abbrev pub equations_of : List Numbered → List EquationRecord
equations_of [] = []
equations_of (x ∷ xs) = x.1 ∷ equations_of xs
