use Rattle.std.proofs.Common.{rules}
use Rattle.refinement.specs.Sheet.{sheet_of}
use Rattle.sheet.proofs.Inks.{pen_then, pen_left}
use Rattle.sheet.proofs.lines.write.Goals as goal

pub returns-clause-wrote : goal.returns-clause-wrote
unfolding sheet_of
returns-clause-wrote g c =
    let w = pen_then c.put_top.ensures.wrote c.put_lines.ensures.wrote in
    let same = w.same in
    pen_left _ w (search (rules, same))
