use Rattle.std.proofs.Common.{decimal, ap}
use Rattle.sheet.proofs.Inks.{pen_then, pen_same}
use Rattle.sheet.proofs.lines.put_line.Goals as goal

pub returns-clause-wrote : goal.returns-clause-wrote
returns-clause-wrote c =
    let v = c.bytes.ensures in
    let i = c.number.ensures.wrote in
    let w = c.bytes-2.ensures in
    let m = c.number-2.ensures.wrote in
    let x = c.bytes-3.ensures in
    let s = pen_same (ap decimal c.share.ensures) c.number-3.ensures.wrote in
    pen_then (pen_then (pen_then (pen_then (pen_then (pen_then v i) w) m) x) s) c.bytes-4.ensures
