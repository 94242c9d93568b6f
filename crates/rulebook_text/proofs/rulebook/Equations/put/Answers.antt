use Rattle.std.proofs.Common.{arith}
use Rattle.rulebook_text.proofs.Walking.{put_next}
use Rattle.rulebook_text.proofs.rulebook.Equations.put.Goals as goal

pub returns-clause-put : goal.returns-clause-put
returns-clause-put c = record { puts = λ before rs row. put_next before rs _ _ row c.args.book c.args.x (omega (arith, c.from.ensures)) (omega (arith, c.from-2.ensures)) (omega arith) }
