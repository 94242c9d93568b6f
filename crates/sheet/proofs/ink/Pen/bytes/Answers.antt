use Rattle.std.proofs.Common.{ℕ, length-take, take_all, arith, sym}
use Rattle.std.proofs.lemmas.List.{take_more}
use Rattle.sheet.proofs.Inks.{pen_none, pen_then, pen_same}
use Rattle.sheet.proofs.ink.Pen.bytes.Goals as goal

pub loop-b-init : goal.loop-b-init
loop-b-init c = pen_none _

pub byte-requires : goal.byte-requires
byte-requires c = omega (arith, c.loop-b.invariant.wrote.next, length-take {A = ℕ})

pub loop-b-preserved : goal.loop-b-preserved
loop-b-preserved c = pen_same (sym (take_more c.args.bytes.now c.loop-b.b-index 0 c.loop-b-test.true)) (pen_then c.loop-b.invariant c.byte.ensures)

pub returns : goal.returns
returns c = pen_same (take_all _ _ c.loop-b-test.false) c.loop-b.invariant
