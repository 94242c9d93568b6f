use Rattle.std.proofs.Common.{length, rules}
use Rattle.report.proofs.Accounts.{with_all_room}
use Rattle.std.proofs.lemmas.Result.{IfOk-weaker}
use Rattle.report.proofs.answer.answer.Goals as goal

pub returns : goal.returns
returns c =
    IfOk-weaker c.answer_with.result _ _
    (λ s h. with_all_room (length c.deref_mut.result.now) (length c.deref_mut-2.result.now) (length c.deref_mut-3.result.now) (length c.deref_mut-4.result.now) (search rules) (search rules) (search rules) (search rules) _ _ h)
    c.answer_with.ensures
