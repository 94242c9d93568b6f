-- Sets of numbers below 64: of actions, or of atoms.
use Rattle.std.specs.Prelude.{ℕ, ◌/◌, ◌%◌, ◌^◌, Bool, not, ◌||◌, ◌==◌, nat_lt}
use Rattle.semantics.specs.Lts.{every}
use Rattle.lts.specs.declared.sets.SmallSet.{SmallSet}

-- bit i of a number
unfoldable pub bit : ℕ → ℕ → Bool
bit bits i = bits / 2 ^ i % 2 == 1

-- whether i is in the set
abbrev pub member : SmallSet → ℕ → Bool
member set i = bit set.bits i

-- the set that has i where bit i of a number is 1
abbrev pub set_of : ℕ → SmallSet
set_of bits = record { bits = bits }

-- whether every number in the set is below n
unfoldable pub all_below : SmallSet → ℕ → Bool
all_below set n = every 64 (λ i. not (member set i) || nat_lt i n)
