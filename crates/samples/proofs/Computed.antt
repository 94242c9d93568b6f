-- The definitions, computed.
use Rattle.std.proofs.Common.{refl}
use Rattle.semantics.specs.Lts.{sum, into, on}
use Rattle.joined.specs.Joined.{joined_transitions}
use Rattle.table.specs.Records.{has}
use Rattle.table.specs.Table.{table_lts}
use Rattle.samples.specs.Samples.{TwoQueues, TwoLoops}

pub two_queues : TwoQueues
unfolding sum into on joined_transitions
two_queues = record { unshared = refl; shared = refl; from_0_to_3 = refl }

pub two_loops : TwoLoops
unfolding has table_lts joined_transitions
two_loops = refl
