use Rattle.std.proofs.Common.{take}
use Rattle.sheet.specs.Pens.{Inked}
use Rattle.sheet.proofs.ink.Pen.bytes.Given as goal

abbrev pub invariant-loop-b : goal.invariant-loop-b
invariant-loop-b l = Inked l.initial.self l.self (take l.b-index l.bytes)
