use Rattle.std.proofs.Common.{map, vec_items, arith, rules}
use Rattle.std.proofs.lemmas.List.{length-map}
use Rattle.board.specs.View.{turned_in}
use Rattle.board.proofs.Rooms.{unturned_le}
use Rattle.board.proofs.board.Board.new.Goals as goal

pub invariant_of-result : goal.invariant_of-result
invariant_of-result c =
    let a = simp length-map at (unturned_le (map turned_in (vec_items c.in_ok-cells.cells))) in
    record { few_states = search rules; few_equations = search rules; few_cells = search rules; wide = search rules; counted = search rules; equations_room = search rules; cells_room = search rules; counts_room = search rules; work_room = search rules; head_room = search rules; next_room = search rules; turns_fit = omega (arith, c.in_ok-work.ensures.len, c.in_ok-cells.ensures.len, c.in_ok-cells.cells.ok.0) }
