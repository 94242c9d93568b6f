use Rattle.std.proofs.Common.{refl}
use Rattle.flow_text.proofs.Walking.{exact_flow}
use Rattle.flow_text.proofs.flow.flow_reading_is_exact.Goals as goal

pub returns : goal.returns
returns c = record { answer = refl; law = exact_flow }
