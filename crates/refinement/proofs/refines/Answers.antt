use Rattle.std.proofs.Common.{refl}
use Rattle.refinement.proofs.refines.Goals as goal
use Rattle.refinement.proofs.Refining.{refines}

pub returns : goal.returns
returns c = record { answer = refl; law = refines }
