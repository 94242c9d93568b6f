use Rattle.std.proofs.Common.{refl}
use Rattle.semantics.proofs.laws.is_preorder.Goals as goal
use Rattle.semantics.proofs.Order.{is_preorder}

pub returns : goal.returns
returns c = record { answer = refl; law = is_preorder }
