use Rattle.std.proofs.Common.{refl}
use Rattle.semantics.proofs.laws.always_stands.Goals as goal
use Rattle.semantics.proofs.Standing.{always_stands}

pub returns : goal.returns
returns c = record { answer = refl; law = always_stands }
