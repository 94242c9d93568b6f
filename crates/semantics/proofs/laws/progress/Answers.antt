use Rattle.std.proofs.Common.{refl}
use Rattle.semantics.proofs.laws.progress.Goals as goal
use Rattle.semantics.proofs.Choosing.{progress}

pub returns : goal.returns
returns c = record { answer = refl; law = progress }
