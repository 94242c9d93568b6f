use Rattle.std.proofs.Common.{◌∙◌}
use Rattle.session.proofs.Replaying.{begun_over}
use Rattle.session.proofs.replay.replay_new.Goals as goal

pub returns-in-Ok : goal.returns-in-Ok
returns-in-Ok g c =
    let made = c.in_ok-session.ensures in
    let moved = c.in-Ok.ensures in
    record {
      kept = (moved.kept.0 ∙ made.kept.0, moved.kept.1 ∙ made.kept.1);
      law = λ ready. begun_over g.S.Source.ready g.S.Source.meaning _ _ _ _ _ _ _ made.kept.0 made.new moved.law ready;
    }

pub returns-in-Err : goal.returns-in-Err
returns-in-Err g c =
    let made = c.in_ok-session.ensures in
    let moved = c.in-Err.ensures in
    record { kept = (moved.kept.0 ∙ made.kept.0, moved.kept.1 ∙ made.kept.1); law = λ ready. tt }
