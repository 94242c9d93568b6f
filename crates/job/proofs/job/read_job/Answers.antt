use Rattle.std.proofs.lemmas.Result.{MatchResult-weaker}
use Rattle.job.specs.Reading.{in_text}
use Rattle.job.proofs.job.read_job.Goals as goal

pub returns : goal.returns
returns c =
    let cut = c.in_ok-job.ensures in
    MatchResult-weaker c.read.result c.read.ensures
    (λ p a. record { sized = cut.0; flow_text = _; rulebook_text = _; splits = cut.1; accepts = a })
    (λ e x. in_text cut.0 _ _ cut.1 x)
