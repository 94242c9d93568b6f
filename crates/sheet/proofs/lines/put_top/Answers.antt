use Rattle.std.proofs.Common.{decimal, ap}
use Rattle.sheet.proofs.Inks.{pen_then, pen_same}
use Rattle.sheet.proofs.lines.put_top.Goals as goal

pub returns-clause-wrote : goal.returns-clause-wrote
returns-clause-wrote g c =
    let m = c.bytes.ensures in
    let l = pen_same c.letter.ensures c.bytes-2.ensures in
    let x = c.bytes-3.ensures in
    let s = pen_same (ap decimal c.states.ensures.value) c.number.ensures.wrote in
    let y = c.bytes-4.ensures in
    let n = pen_same (ap decimal c.equations.ensures.value) c.number-2.ensures.wrote in
    let z = c.bytes-5.ensures in
    let w = pen_same c.settled_digit.ensures c.bytes-6.ensures in
    let u = c.bytes-7.ensures in
    let k = pen_same (ap decimal c.looks.ensures.value) c.number-3.ensures.wrote in
    pen_then (pen_then (pen_then (pen_then (pen_then (pen_then (pen_then (pen_then (pen_then (pen_then m l) x) s) y) n) z) w) u) k) c.bytes-8.ensures
