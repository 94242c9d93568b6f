use Rattle.std.proofs.Common.{sym, ◌∙◌}
use Rattle.fields.proofs.Cutting.{pieces_none, pieces_first}
use Rattle.fields.proofs.cut.cut.Goals as goal

pub returns-in_err-at-clause-pieces : goal.returns-in_err-at-clause-pieces
returns-in_err-at-clause-pieces c = rw c.from_residual.ensures (pieces_none _ _ (sym c.first_at.ensures ∙ c.in_err-at.was))

pub returns-clause-pieces : goal.returns-clause-pieces
returns-clause-pieces c = pieces_first _ _ _ (sym c.first_at.ensures ∙ c.in_ok-at.was)
