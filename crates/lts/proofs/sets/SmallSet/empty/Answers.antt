use Rattle.lts.proofs.Bits.{zero_bit}
use Rattle.lts.proofs.sets.SmallSet.empty.Goals as goal

pub returns : goal.returns
returns c = zero_bit
