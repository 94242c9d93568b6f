use Rattle.std.proofs.Common.{refl}
use Rattle.semantics.proofs.laws.always_balanced.Goals as goal
use Rattle.semantics.proofs.Degrees.{always_balanced}

pub returns : goal.returns
returns c = record { answer = refl; law = always_balanced }
