use Rattle.std.proofs.Common.{refl}
use Rattle.semantics.proofs.laws.solved_by_rounds.Goals as goal
use Rattle.semantics.proofs.Solving.{solved_by_rounds}

pub returns : goal.returns
returns c = record { answer = refl; law = solved_by_rounds }
