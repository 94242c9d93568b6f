-- Number fields: one to five base-ten digits.
use Rattle.std.specs.Prelude.{◌≡◌, ℕ, ◌+◌, ◌-◌, ◌*◌, Bool, true, ◌&&◌, List, [], ◌∷◌, length, nat_le, nat_lt}

-- 0 to 9
abbrev pub digit? : ℕ → Bool
digit? b = nat_le 48 b && nat_le b 57

-- every byte is a digit
unfoldable pub digits? : List ℕ → Bool
digits? [] = true
digits? (b ∷ bs) = digit? b && digits? bs

-- the digits in base ten, behind those of n
unfoldable pub value_after : ℕ → List ℕ → ℕ
value_after n [] = n
value_after n (b ∷ bs) = value_after (n * 10 + (b - 48)) bs

-- the number that the digits are in base ten
unfoldable pub value : List ℕ → ℕ
value bs = value_after 0 bs

-- one to five digits, and nothing else
unfoldable pub number? : List ℕ → Bool
number? bs = nat_lt 0 (length bs) && (nat_le (length bs) 5 && digits? bs)

-- the field spells the number; zeros may lead
pub record Spells (bs : List ℕ) (n : ℕ) : Type 0 where
  pub well_formed : number? bs ≡ true
  pub valued : n ≡ value bs
