-- A lent list that is filled from its front.
use Rattle.std.specs.Prelude.{◌≡◌, ℕ, ◌≤◌, min, Bool, ◌⊎◌, List, length, take, Decides}
use Rattle.std.specs.List.{ContainsAt as Has}
use Rattle.fields.specs.Faults.{fault}
use Rattle.fields.specs.declared.fault.Fault.{Fault}
use Rattle.fields.specs.declared.fault.Cause.TheVariants.{Repeated, Full}

-- a test of equality that is true to it
abbrev pub Lawful : {X : Type 0} → (X → X → Bool → Type 0) → Type 0
Lawful {X} same = (x y : X) (b : Bool) → same x y b → Decides b (x ≡ y)

-- x stands among the first of the list already, or they fill it
abbrev pub Unplaced : {X : Type 0} → List X → ℕ → ℕ → X → ℕ → Fault → Type 0
Unplaced list used most x line f =
    ((f ≡ fault Repeated line 0) × Has (take used list) x) ⊎ ((f ≡ fault Full line 0) × (Has (take used list) x → ⊥) × (min (length list) most ≤ used))
