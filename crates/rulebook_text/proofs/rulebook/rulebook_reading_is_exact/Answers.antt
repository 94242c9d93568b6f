use Rattle.std.proofs.Common.{refl}
use Rattle.rulebook_text.proofs.Walking.{exact_rulebook}
use Rattle.rulebook_text.proofs.rulebook.rulebook_reading_is_exact.Goals as goal

pub returns : goal.returns
returns c = record { answer = refl; law = exact_rulebook }
