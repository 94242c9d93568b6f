use Rattle.sorting.proofs.Stamps.{Stamped}
use Rattle.sorting.proofs.repeats.row_repeats.Given as goal

abbrev pub invariant-loop-v : goal.invariant-loop-v
invariant-loop-v l = Stamped l.row 0 l.v-index l.stamps l.stamp
