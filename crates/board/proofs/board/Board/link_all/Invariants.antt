use Rattle.std.proofs.Common.{◌≡◌}
use Rattle.board.specs.Each.{each}
use Rattle.board.specs.Links.{relink}
use Rattle.board.proofs.board.Board.link_all.Given as goal

abbrev pub invariant-loop-p : goal.invariant-loop-p
invariant-loop-p l = l.self ≡ each l.p relink l.initial.self
