use Rattle.std.proofs.Common.{◌+◌, ◌*◌, ◌≤◌}
use Rattle.refinement.specs.Sheet.{lines_below}
use Rattle.sheet.specs.Pens.{Inked}
use Rattle.sheet.proofs.lines.put_lines.Given as goal

abbrev pub invariant-loop-i : goal.invariant-loop-i
invariant-loop-i g l = record { wrote : Inked l.initial.pen l.pen (lines_below g.D.Side.FIXPOINT l.board l.i); within : l.pen.at ≤ l.initial.pen.at + 70 * l.i }
