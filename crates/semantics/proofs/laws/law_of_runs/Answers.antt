use Rattle.std.proofs.Common.{refl}
use Rattle.semantics.proofs.laws.law_of_runs.Goals as goal
use Rattle.semantics.proofs.Runs.{all_runs}

pub returns : goal.returns
returns c = record { answer = refl; law = all_runs }
