use Rattle.std.proofs.Common.{refl}
use Rattle.job.proofs.Splitting.{one_outcome}
use Rattle.job.proofs.job.job_reading_is_exact.Goals as goal

pub returns : goal.returns
returns c = record { answer = refl; law = one_outcome }
