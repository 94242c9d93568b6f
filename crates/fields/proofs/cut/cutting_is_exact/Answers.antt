use Rattle.std.proofs.Common.{refl}
use Rattle.fields.proofs.Joining.{pieced}
use Rattle.fields.proofs.cut.cutting_is_exact.Goals as goal

pub returns : goal.returns
returns c = record { answer = refl; law = pieced }
