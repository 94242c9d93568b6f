use Rattle.std.proofs.Common.{◌≡◌, ℕ, ◌<◌, length, get_or}
use Rattle.sorting.specs.Sorting.{key_of, value_of}
use Rattle.table.proofs.entries.repeats.Given as goal

abbrev pub invariant-loop-k : goal.invariant-loop-k
invariant-loop-k g l =
    (length l.pairs ≡ 2048) ×
    ((k : ℕ) (d : g.row.E.Denot) → k < l.k → (key_of l.pairs k ≡ g.E.Entry.key (get_or l.entries k d)) × (value_of l.pairs k ≡ g.E.Entry.value (get_or l.entries k d)))
