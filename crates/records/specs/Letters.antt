-- The characters that stand for a side and for the form of an equation.
use Rattle.std.specs.Prelude.{◌≡◌, ℕ, cond, Some, None, Option, Result, MatchResult, ◌==◌, ◌≢◌}
use Rattle.records.specs.declared.Fixpoint.{Fixpoint}
use Rattle.records.specs.declared.Fixpoint.TheVariants.{Greatest, Least}
use Rattle.records.specs.declared.Form.{Form}
use Rattle.records.specs.declared.Form.TheVariants.{True, False, Atom, Or, And, Diamond, Box}
use Rattle.records.specs.declared.UnknownLetter.{UnknownLetter}

-- the letter of a side: G or L
abbrev pub side_letter : Fixpoint → ℕ
side_letter Greatest = 71
side_letter Least = 76

-- the side that a character names, or none that it names
abbrev pub NamesSide : ℕ → Result Fixpoint UnknownLetter → Type 0
NamesSide c r = MatchResult r (λ d. c ≡ side_letter d) (λ e. ((d : Fixpoint) → c ≢ side_letter d) × (e.0 ≡ c))

-- the form that a character names, by its code: t f A | & < [
abbrev pub form_of : ℕ → Option Form
form_of c =
    cond (c == 116) (Some True)
    (cond (c == 102) (Some False)
    (cond (c == 65) (Some Atom)
    (cond (c == 124) (Some Or)
    (cond (c == 38) (Some And)
    (cond (c == 60) (Some Diamond)
    (cond (c == 91) (Some Box) None))))))

-- the character of a form
abbrev pub form_letter : Form → ℕ
form_letter True = 116
form_letter False = 102
form_letter Atom = 65
form_letter Or = 124
form_letter And = 38
form_letter Diamond = 60
form_letter Box = 91

-- the form that a character names, or that it names none
abbrev pub NamesForm : ℕ → Result Form UnknownLetter → Type 0
NamesForm c r = MatchResult r (λ f. form_of c ≡ Some f) (λ e. (form_of c ≡ None) × (e.0 ≡ c))
