use Rattle.std.proofs.Common.{arith}
use Rattle.std.proofs.lemmas.Grind.{common_steps}
use Rattle.table.proofs.Verdicts.{some_refuses}
use Rattle.table.proofs.Table.new.Goals as goal

pub returns-in_err-check : goal.returns-in_err-check
returns-in_err-check c = let h = some_refuses _ _ _ _ _ c.in_err-check.ensures in grind (arith, common_steps, h)
