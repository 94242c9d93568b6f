-- The forms of lines: a letter, and then numbers, but for the side of a rulebook and the form of an equation.
use Rattle.std.specs.Prelude.{◌≡◌, ℕ, Bool, false, ◌||◌, List, [], ◌∷◌, Some, None, Option}
use Rattle.std.specs.Borrow.{Bor}
use Rattle.fields.specs.Pieces.{pieces}
use Rattle.records.specs.Letters.{side_letter, form_letter}
use Rattle.lines.specs.Kinds.{Slot, byte, number, fits}
use Rattle.lines.specs.declared.line.Line.{Line}
use Rattle.lines.specs.declared.line.Line.TheVariants.{Flow, Transition, Divergence, Label, Rulebook, Equation}

-- the fields of a line, its letter first
abbrev pub fields_of : Line → List (List ℕ)
fields_of (Flow s a p) = (70 ∷ []) ∷ s.now ∷ a.now ∷ p.now ∷ []
fields_of (Transition s a t) = (84 ∷ []) ∷ s.now ∷ a.now ∷ t.now ∷ []
fields_of (Divergence s a) = (85 ∷ []) ∷ s.now ∷ a.now ∷ []
fields_of (Label p s) = (80 ∷ []) ∷ p.now ∷ s.now ∷ []
fields_of (Rulebook d n) = (82 ∷ []) ∷ (side_letter d ∷ []) ∷ n.now ∷ []
fields_of (Equation i c x y) = (81 ∷ []) ∷ i.now ∷ (form_letter c ∷ []) ∷ x.now ∷ y.now ∷ []

-- the line is these fields
pub record LineOf (fs : List (List ℕ)) (l : Line) : Type 0 where
  pub fields : fs ≡ fields_of l

-- a field that is some number, or should be
abbrev pub any : Slot
any = number 0 0

-- an equation of that form
abbrev pub equation_slots : ℕ → List Slot
equation_slots c = byte 81 ∷ any ∷ byte c ∷ any ∷ any ∷ []

-- F,n,n,n  T,n,n,n  U,n,n  P,n,n  R,G,n  R,L,n  and Q,n,form,n,n for each form
abbrev pub forms : List (List Slot)
forms =
    (byte 70 ∷ any ∷ any ∷ any ∷ []) ∷ (byte 84 ∷ any ∷ any ∷ any ∷ []) ∷ (byte 85 ∷ any ∷ any ∷ []) ∷ (byte 80 ∷ any ∷ any ∷ [])
    ∷ (byte 82 ∷ byte 71 ∷ any ∷ []) ∷ (byte 82 ∷ byte 76 ∷ any ∷ [])
    ∷ equation_slots 116 ∷ equation_slots 102 ∷ equation_slots 65 ∷ equation_slots 124 ∷ equation_slots 38 ∷ equation_slots 60 ∷ equation_slots 91 ∷ []

-- whether fields are of one of the forms
abbrev pub fits_one : List (List Slot) → List (List ℕ) → Bool
fits_one [] fs = false
fits_one (ss ∷ sss) fs = fits ss fs || fits_one sss fs

-- the fields that are still to be read, of what is left of a line
abbrev pub unread : Option (Bor (List ℕ)) → List (List ℕ)
unread None = []
unread (Some rest) = pieces 44 rest.now
