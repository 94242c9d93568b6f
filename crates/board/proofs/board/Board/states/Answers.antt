use Rattle.board.proofs.Rooms.{bounded}
use Rattle.board.proofs.board.Board.states.Goals as goal

pub returns-clause-bounds : goal.returns-clause-bounds
returns-clause-bounds c = bounded _ _ c.self.view_is c.self.invariant
