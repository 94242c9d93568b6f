use Rattle.lines.proofs.Ranging.{Sofar}
use Rattle.lines.proofs.numbers.all_within.Given as goal

abbrev pub invariant-loop-i : goal.invariant-loop-i
invariant-loop-i g l = Sofar l.numerals l.numbers l.i
