use Rattle.lts.proofs.Bits.{with_bit}
use Rattle.lts.proofs.sets.SmallSet.with.Goals as goal

pub returns-then-i-lt64 : goal.returns-then-i-lt64
returns-then-i-lt64 c = with_bit c.args.self.bits c.args.i c.if-i-lt64.true
