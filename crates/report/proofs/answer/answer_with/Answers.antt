use Rattle.std.proofs.Common.{arith}
use Rattle.std.proofs.lemmas.Result.{IfOk-weaker}
use Rattle.report.specs.Answers.{refused}
use Rattle.report.proofs.Accounts.{faults_of, enough, answered}
use Rattle.report.proofs.answer.answer_with.Goals as goal

pub slice_bounds-push_rulebook-end : goal.slice_bounds-push_rulebook-end
slice_bounds-push_rulebook-end c = omega (arith, enough _ _ _ _ _ _ _ c.in-Ok.ensures)

pub returns-in-Err : goal.returns-in-Err
returns-in-Err c = IfOk-weaker c.format.result _ _ (λ s e. refused c.in-Err.fault (faults_of _ _ _ _ _ _ c.in-Err.ensures) e) c.format.ensures.ok

pub returns-in_ok-push_rulebook-in-Ok : goal.returns-in_ok-push_rulebook-in-Ok
returns-in_ok-push_rulebook-in-Ok c = answered _ _ _ _ _ _ _ c.in-Ok.ensures _ _ c.in_ok-out-in-Ok.ensures c.in_ok-push_rulebook-in-Ok.ensures
