use Rattle.std.proofs.Common.{refl}
use Rattle.semantics.proofs.laws.comparisons.Goals as goal
use Rattle.semantics.proofs.Computed.{comparisons}

pub returns : goal.returns
returns c = record { answer = refl; law = comparisons }
