use Rattle.std.proofs.Common.{◌≡◌, ℕ, ◌<◌, ◌≤◌, false, length, get_or}
use Rattle.sorting.specs.Sorting.{start, row}
use Rattle.sorting.specs.Repetition.{twice}
use Rattle.sorting.proofs.repeats.some_row_repeats.Given as goal

abbrev pub invariant-loop-to : goal.invariant-loop-to
invariant-loop-to l =
    (l.stamp ≡ l.to-index) ×
    (l.from ≡ start l.ends l.to-index) ×
    (length l.stamps ≡ 65536) ×
    ((v : ℕ) → v < length l.stamps → get_or l.stamps v 0 ≤ l.stamp) ×
    ((i : ℕ) → i < l.to-index → twice l.items (start l.ends i) (row l.ends i) ≡ false)
