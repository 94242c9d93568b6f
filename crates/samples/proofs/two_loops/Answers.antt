use Rattle.samples.proofs.Computed.{two_loops}
use Rattle.samples.proofs.two_loops.Goals as goal

pub returns : goal.returns
returns c = two_loops
