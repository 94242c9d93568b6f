use Rattle.samples.proofs.Computed.{two_queues}
use Rattle.samples.proofs.two_queues.Goals as goal

pub returns : goal.returns
returns c = two_queues
