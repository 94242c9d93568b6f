use Rattle.std.proofs.Common.{refl}
use Rattle.semantics.proofs.laws.marked_runs.Goals as goal
use Rattle.semantics.proofs.Computed.{marked_runs}

pub returns : goal.returns
returns c = record { answer = refl; law = marked_runs }
