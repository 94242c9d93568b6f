use Rattle.std.proofs.Common.{◌≡◌, ℕ, ◌<◌, ◌&&◌, ◌||◌, eqb, ltb, length, get_or, take}
use Rattle.lts.specs.Sets.{member}
use Rattle.table.specs.Records.{has}
use Rattle.table.specs.TableAnswers.{empty_set}
use Rattle.table.proofs.entries.note.Given as goal

abbrev pub invariant-loop-entry : goal.invariant-loop-entry
invariant-loop-entry g l =
    (s i : ℕ) → s < length l.sets →
    member (get_or l.sets s empty_set) i ≡
    (member (get_or l.initial.sets s empty_set) i || (ltb i 64 && has (λ x. eqb (g.E.Entry.key x) s && eqb (g.E.Entry.value x) i) (take l.entry-index l.entries)))
