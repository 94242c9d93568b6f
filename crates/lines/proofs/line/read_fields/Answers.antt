use Rattle.std.proofs.Common.{◌≡◌, ◌≢◌, ℕ, false, [], ◌∷◌, Ok, Err, Result, is_ok, ap, ◌∙◌, rules}
use Rattle.std.proofs.lemmas.Bool.{true≢false}
use Rattle.records.specs.Letters.{side_letter, NamesSide}
use Rattle.records.specs.declared.Fixpoint.{Fixpoint}
use Rattle.records.specs.declared.Fixpoint.TheVariants.{Greatest, Least}
use Rattle.records.specs.declared.UnknownLetter.{UnknownLetter}
use Rattle.lines.specs.Forms.{forms, fits_one, unread}
use Rattle.lines.proofs.Shapes.{no_side}
use Rattle.lines.proofs.line.read_fields.Goals as goal

no_name : (c : ℕ) (r : Result Fixpoint UnknownLetter) → NamesSide c r → is_ok r ≡ false → (d : Fixpoint) → c ≢ side_letter d
no_name c (Ok d) n e = absurd (true≢false e)
no_name c (Err e) n h = n.0

pub returns-in_err-ok-in-R : goal.returns-in_err-ok-in-R
returns-in_err-ok-in-R c =
    let letter = c.in_ok-only_char-in-R.field-0 in
    let fields : unread c.args.fields.now.rest ≡ (82 ∷ []) ∷ (letter ∷ []) ∷ unread c.next_field-in-R.new.self.rest = search rules in
    let none = no_name letter c.try_from.result c.try_from.ensures (search rules) in
    rw c.from_residual-in_err-ok-in-R.ensures (ap (fits_one forms) fields ∙ no_side letter _ (none Greatest) (none Least))
