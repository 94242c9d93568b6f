use Rattle.std.proofs.Common.{refl}
use Rattle.semantics.proofs.laws.agree.Goals as goal
use Rattle.semantics.proofs.Agreeing.{agree}

pub returns : goal.returns
returns c = record { answer = refl; law = agree }
