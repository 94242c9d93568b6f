-- Kinds of lines: what stands in each field of a line, what the line says, and which of its fields is at fault.
use Rattle.std.specs.Prelude.{◌≡◌, ℕ, suc, ◌<◌, ◌≤◌, Bool, true, false, cond, not, ◌&&◌, ◌||◌, ◌⊎◌, List, [], ◌∷◌, length, Some, None, Ok, Err, Option, Result, MatchResult, ◌==◌, nat_le, nat_lt}
use Rattle.fields.specs.Pieces.{joined, Clear}
use Rattle.fields.specs.Numbers.{number?, value, Spells}
use Rattle.fields.specs.declared.fault.Cause.{Cause}
use Rattle.fields.specs.declared.fault.Fault.{Fault}
use Rattle.fields.specs.declared.fault.Cause.TheVariants.{Form, Malformed, Range}

-- what stands in a field: one byte, or a number from low to below past
pub data Slot : Type 0 where
  byte : ℕ → Slot
  number : (low past : ℕ) → Slot

-- a kind of line: what stands in its fields, and what its numbers make
pub record Kind (R : Type 0) : Type 0 where
  pub slots : List Slot
  pub make : List ℕ → R

-- What a line says

-- the fields of a line: they hold no comma and, joined by commas, they are the line
pub record Fields (line : List ℕ) (fs : List (List ℕ)) : Type 0 where
  pub some : 0 < length fs
  pub whole : joined 44 fs ≡ line
  pub clear : Clear 44 fs

-- each byte stands in its field, and the other fields spell the numbers, each within its range
abbrev pub Spelt : List Slot → List (List ℕ) → List ℕ → Type 0
Spelt [] [] [] = Unit {0}
Spelt [] [] (n ∷ ns) = ⊥
Spelt [] (f ∷ fs) ns = ⊥
Spelt (byte b ∷ ss) [] ns = ⊥
Spelt (byte b ∷ ss) (f ∷ fs) ns = (f ≡ b ∷ []) × Spelt ss fs ns
Spelt (number low past ∷ ss) [] ns = ⊥
Spelt (number low past ∷ ss) (f ∷ fs) [] = ⊥
Spelt (number low past ∷ ss) (f ∷ fs) (n ∷ ns) = Spells f n × (low ≤ n) × (n < past) × Spelt ss fs ns

-- the line is of the kind, and its numbers make x
pub record SaysAs {R : Type 0} (k : Kind R) (line : List ℕ) (x : R) : Type 0 where
  pub fields : List (List ℕ)
  pub cut : Fields line fields
  pub numbers : List ℕ
  pub spelt : Spelt k.slots fields numbers
  pub made : x ≡ k.make numbers

-- the line says x in one of the kinds
abbrev pub Says : {R : Type 0} → List (Kind R) → List ℕ → R → Type 0
Says [] line x = ⊥
Says (k ∷ ks) line x = SaysAs k line x ⊎ Says ks line x

-- What is at fault in a line

-- whether the field is that byte alone
abbrev pub is_byte : ℕ → List ℕ → Bool
is_byte b [] = false
is_byte b (c ∷ []) = c == b
is_byte b (c ∷ d ∷ cs) = false

-- whether there are as many fields, and each byte stands in its field
abbrev pub fits : List Slot → List (List ℕ) → Bool
fits [] [] = true
fits [] (f ∷ fs) = false
fits (byte b ∷ ss) [] = false
fits (byte b ∷ ss) (f ∷ fs) = is_byte b f && fits ss fs
fits (number low past ∷ ss) [] = false
fits (number low past ∷ ss) (f ∷ fs) = fits ss fs

-- the first field that should be a number and is not, the first field being field k
abbrev pub malformed : ℕ → List Slot → List (List ℕ) → Option ℕ
malformed k [] fs = None
malformed k (byte b ∷ ss) [] = None
malformed k (byte b ∷ ss) (f ∷ fs) = malformed (suc k) ss fs
malformed k (number low past ∷ ss) [] = None
malformed k (number low past ∷ ss) (f ∷ fs) = cond (number? f) (malformed (suc k) ss fs) (Some k)

-- the first field whose number is outside its range
abbrev pub outside : ℕ → List Slot → List (List ℕ) → Option ℕ
outside k [] fs = None
outside k (byte b ∷ ss) [] = None
outside k (byte b ∷ ss) (f ∷ fs) = outside (suc k) ss fs
outside k (number low past ∷ ss) [] = None
outside k (number low past ∷ ss) (f ∷ fs) = cond (nat_le low (value f) && nat_lt (value f) past) (outside (suc k) ss fs) (Some k)

-- the numbers of the fields
abbrev pub numbers_of : List Slot → List (List ℕ) → List ℕ
numbers_of [] fs = []
numbers_of (byte b ∷ ss) [] = []
numbers_of (byte b ∷ ss) (f ∷ fs) = numbers_of ss fs
numbers_of (number low past ∷ ss) [] = []
numbers_of (number low past ∷ ss) (f ∷ fs) = value f ∷ numbers_of ss fs

-- a fault at that field, or else what follows
abbrev pub unless : {X : Type 0} → Option ℕ → Cause → Result X (Cause × ℕ) → Result X (Cause × ℕ)
unless (Some k) why r = Err (why, k)
unless None why r = r

-- the numbers of the fields from field k on; a malformed one goes before one that is outside its range
abbrev pub checked : ℕ → List Slot → List (List ℕ) → Result (List ℕ) (Cause × ℕ)
checked k ss fs = unless (malformed k ss fs) Malformed (unless (outside k ss fs) Range (Ok (numbers_of ss fs)))

abbrev pub made : {X Y E : Type 0} → (X → Y) → Result X E → Result Y E
made f (Ok x) = Ok (f x)
made f (Err e) = Err e

-- what fields say in one of the kinds, or what is at fault in them, and at which field: 0 for fields of no such kind
abbrev pub says : {R : Type 0} → List (Kind R) → List (List ℕ) → Result R (Cause × ℕ)
says [] fs = Err (Form, 0)
says (k ∷ ks) fs = cond (fits k.slots fs) (made k.make (checked 1 k.slots fs)) (says ks fs)

-- the result of a reader of line `line` is what is said there
abbrev pub Reports : {R : Type 0} → Result R (Cause × ℕ) → ℕ → Result R Fault → Type 0
Reports said line r = MatchResult r (λ x. said ≡ Ok x) (λ f. (said ≡ Err (f.cause, f.field)) × (f.line ≡ line))

-- The two agree, where the kinds are told apart

-- whether no fields are of both kinds: they differ in number, or in the byte of a field
abbrev pub differ : List Slot → List Slot → Bool
differ [] [] = false
differ [] (t ∷ ts) = true
differ (s ∷ ss) [] = true
differ (byte b ∷ ss) (byte c ∷ ts) = not (b == c) || differ ss ts
differ (byte b ∷ ss) (number low past ∷ ts) = differ ss ts
differ (number low past ∷ ss) (t ∷ ts) = differ ss ts

abbrev pub differs : {R : Type 0} → List Slot → List (Kind R) → Bool
differs ss [] = true
differs ss (k ∷ ks) = differ ss k.slots && differs ss ks

-- whether no fields are of two of the kinds
abbrev pub told_apart : {R : Type 0} → List (Kind R) → Bool
told_apart [] = true
told_apart (k ∷ ks) = differs k.slots ks && told_apart ks
