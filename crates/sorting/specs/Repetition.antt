-- Whether a list has something twice.
use Rattle.std.specs.Prelude.{ℕ, ◌+◌, Bool, cond, ◌&&◌, List, length, Some, None, Option, ◌==◌, nat_eq, nat_le, nat_lt, slice_index}
use Rattle.semantics.specs.Lts.{some, every}
use Rattle.sorting.specs.Sorting.{key_of, value_of, start, row}

-- whether some pair stands at two places
unfoldable pub repeats : List (ℕ × ℕ) → Bool
repeats ps = some (length ps) (λ j. some j (λ k. (key_of ps k == key_of ps j) && value_of ps k == value_of ps j))

-- at most 2,048 pairs, with keys below 1,024 and values below 65,536
unfoldable pub small : List (ℕ × ℕ) → Bool
small ps = nat_le (length ps) 2048 && every (length ps) (λ k. nat_lt (key_of ps k) 1024 && nat_lt (value_of ps k) 65536)

-- what `repeated` answers: nothing of larger pairs
abbrev pub repeated_answer : List (ℕ × ℕ) → Option Bool
repeated_answer ps = cond (small ps) (Some (repeats ps)) None

-- whether some number stands at two of the c places from b on
unfoldable pub twice : List ℕ → ℕ → ℕ → Bool
twice xs b c = some c (λ j. some j (λ k. nat_eq (slice_index xs (b + k)) (slice_index xs (b + j))))

-- whether some row has a number twice
unfoldable pub some_twice : (ends items : List ℕ) → Bool
some_twice ends items = some (length ends) (λ i. twice items (start ends i) (row ends i))
