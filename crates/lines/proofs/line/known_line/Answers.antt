use Rattle.std.proofs.Common.{◌++◌, ap, ◌∙◌}
use Rattle.lines.specs.Forms.{forms, fits_one, fields_of, unread}
use Rattle.lines.proofs.Shapes.{unended}
use Rattle.lines.proofs.line.known_line.Goals as goal

pub returns-in-Some : goal.returns-in-Some
returns-in-Some c =
    let l = c.in_ok-line.line in
    ap (fits_one forms) (c.in_ok-line.ensures ∙ ap (λ rest. fields_of l ++ unread rest) c.in-Some.is) ∙ unended l c.in-Some.field-0.now
