use Rattle.std.proofs.Common.{refl}
use Rattle.semantics.proofs.laws.related_by_rounds.Goals as goal
use Rattle.semantics.proofs.Preorder.{related_by_rounds}

pub returns : goal.returns
returns c = record { answer = refl; law = related_by_rounds }
