use Rattle.std.proofs.Common.{refl}
use Rattle.semantics.proofs.laws.characterised.Goals as goal
use Rattle.semantics.proofs.WellFormed.{characterised}

pub returns : goal.returns
returns c = record { answer = refl; law = characterised }
