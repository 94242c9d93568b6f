-- Tests: what makes one true or false, and when two are the same.
use Rattle.std.proofs.Common.{◌≡◌, Bool, true, false, not, ◌||◌, sym, refl}
use Rattle.std.proofs.lemmas.Bool.{both_ways}

pub same_bool : (a b : Bool) → (a ≡ true → b ≡ true) → (b ≡ true → a ≡ true) → a ≡ b
same_bool true b f g = sym (f refl)
same_bool false true f g = g refl
same_bool false false f g = refl

pub true_by : (b : Bool) → (b ≡ false → ⊥) → b ≡ true
true_by true h = refl
true_by false h = absurd (h refl)

pub false_by : (b : Bool) → (b ≡ true → ⊥) → b ≡ false
false_by true h = absurd (h refl)
false_by false h = refl

pub not_by : (b : Bool) → (b ≡ true → ⊥) → not b ≡ true
not_by true h = absurd (h refl)
not_by false h = refl

pub not_not : (b : Bool) → not (not b) ≡ b
not_not true = refl
not_not false = refl

-- not a || b: where a, there b

pub unless : (a b : Bool) → (a ≡ true → b ≡ true) → (not a || b) ≡ true
unless true b f = f refl
unless false b f = refl

pub unless_at : (a b : Bool) → (not a || b) ≡ true → a ≡ true → b ≡ true
unless_at true b e q = e
unless_at false b e q = absurd (both_ways false refl q)

-- three in a row

pub or_second : (a b : Bool) → a ≡ false → (a || b) ≡ true → b ≡ true
or_second true b h e = absurd (both_ways true h refl)
or_second false b h e = e

pub or_none : (a b : Bool) → (a || (b || false)) ≡ (a || b)
or_none true b = refl
or_none false true = refl
or_none false false = refl

pub or_assoc : (a b c : Bool) → (a || (b || c)) ≡ (a || b || c)
or_assoc true b c = refl
or_assoc false b c = refl
