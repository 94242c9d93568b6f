use Rattle.std.proofs.Common.{◌≡◌, ◌≤◌, length, map, take, vec_items, vec_len, vec_capacity}
use Rattle.session.specs.Pages.{page_room}
use Rattle.session.proofs.steps.pages.Given as goal

abbrev pub invariant-loop-call : goal.invariant-loop-call
invariant-loop-call l = record { lengths : map vec_len (vec_items l.pages) ≡ map page_room (take l.call-index l.calls); long : vec_len l.pages ≡ l.call-index; room : length l.calls ≤ vec_capacity l.pages }
