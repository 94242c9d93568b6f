use Rattle.std.proofs.Common.{◌≡◌, take, vec_items, vec_len, vec_capacity}
use Rattle.semantics.specs.Plain.{book_of}
use Rattle.board.proofs.renewing.fill.Given as goal

abbrev pub invariant-loop-written : goal.invariant-loop-written
invariant-loop-written l = (vec_items l.equations ≡ book_of (take l.written-index l.records)) × (vec_len l.equations ≡ l.written-index) × (vec_capacity l.equations ≡ vec_capacity l.initial.equations)
