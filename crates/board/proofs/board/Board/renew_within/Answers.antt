use Rattle.std.proofs.Common.{◌*◌, ◌≤◌, length, map, vec_items, refl, mul-le-mul_right, arith}
use Rattle.std.proofs.lemmas.List.{length-map}
use Rattle.board.specs.View.{turned_in, pinned_in, link_number}
use Rattle.board.proofs.Cells.{map_replicate}
use Rattle.board.proofs.Rooms.{unturned_le}
use Rattle.board.proofs.Relinking.{fresh_by}
use Rattle.board.proofs.board.Board.renew_within.Goals as goal

pub invariant_of-self : goal.invariant_of-self
invariant_of-self c =
    let a = simp length-map at (unturned_le (map turned_in (vec_items c.refill.new.v))) in
    let m : c.args.states * length c.args.records.now ≤ 8192 * length c.args.records.now = mul-le-mul_right (length c.args.records.now) c.requires.few_states in
    record { few_states = omega arith; few_equations = omega arith; few_cells = omega arith; wide = omega arith; counted = omega arith; equations_room = omega arith; cells_room = omega arith; counts_room = omega arith; work_room = omega arith; head_room = omega arith; next_room = omega arith; turns_fit = omega arith }

pub returns : goal.returns
returns c =
    let cells = c.refill.ensures.items in
    fresh_by c.args.states (length c.args.records.now) c.args.records.now _ _ _ _ _ _ _ _
    c.fill.ensures.items refl (rw cells (map_replicate turned_in _ _)) (rw cells (map_replicate pinned_in _ _)) c.refill-2.ensures.items c.clear.ensures.items (rw c.refill-3.ensures.items (map_replicate link_number _ _)) (rw c.clear-2.ensures.items) c.link_all.ensures
