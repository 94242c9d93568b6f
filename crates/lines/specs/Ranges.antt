-- Numbers that fields spell, and whether each is in its range.
use Rattle.std.specs.Prelude.{ℕ, Bool, cond, ◌&&◌, List, [], ◌∷◌, map, Some, None, Ok, Option, Result, nat_le, nat_lt}
use Rattle.fields.specs.declared.fault.Cause.{Cause}
use Rattle.fields.specs.declared.fault.Cause.TheVariants.{Range}
use Rattle.lines.specs.Kinds.{unless}
use Rattle.lines.specs.declared.numbers.Numeral.{Numeral}

abbrev pub in_range : Numeral → Bool
in_range x = nat_le x.limits.low x.value && nat_lt x.value x.limits.past

-- the place of the first number outside its range
abbrev pub first_outside : List Numeral → Option ℕ
first_outside [] = None
first_outside (x ∷ xs) = cond (in_range x) (first_outside xs) (Some x.at)

-- the numbers, or what is at fault in them
abbrev pub ranged : List Numeral → Result (List ℕ) (Cause × ℕ)
ranged xs = unless (first_outside xs) Range (Ok (map (λ x. x.value) xs))
