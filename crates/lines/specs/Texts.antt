-- Texts of a first line and more lines: what a text says, and its first fault.
use Rattle.std.specs.Prelude.{◌≡◌, ℕ, ◌+◌, ◌-◌, ◌<◌, ◌≤◌, cond, ◌&&◌, ◌↔◌, List, [], ◌∷◌, ◌++◌, length, take, Some, None, Ok, Err, Option, Result, nat_le, nat_lt}
use Rattle.fields.specs.Pieces.{pieces, ended, Clear}
use Rattle.fields.specs.Faults.{fault}
use Rattle.fields.specs.declared.fault.Cause.{Cause}
use Rattle.fields.specs.declared.fault.Cause.TheVariants.{Size, Form}
use Rattle.fields.specs.declared.fault.Fault.{Fault}
use Rattle.lines.specs.Kinds.{Kind, Says, says}

-- The lines that a text may have. Its first line says a head, each other one a record.
pub record Grammar (H R : Type 0) : Type 0 where
  pub heads : List (Kind H)
  pub bodies : H → List (Kind R)
  -- why a record cannot follow those before it, and at which field
  pub misplaced : H → List R → R → Option (Cause × ℕ)
  -- why the text cannot end after these records
  pub unfinished : H → List R → Option Cause

-- What a text says

-- a text of 1 to 32,768 bytes
abbrev pub Sized : List ℕ → Type 0
Sized text = (0 < length text) × (length text ≤ 32768)

-- the lines of a text, each ended by byte 10
pub record Lines (text : List ℕ) (ls : List (List ℕ)) : Type 0 where
  pub whole : ended 10 ls ≡ text
  pub clear : Clear 10 ls

-- each line says its record
abbrev pub EachSays : {R : Type 0} → List (Kind R) → List (List ℕ) → List R → Type 0
EachSays ks [] [] = Unit {0}
EachSays ks [] (r ∷ rs) = ⊥
EachSays ks (l ∷ ls) [] = ⊥
EachSays ks (l ∷ ls) (r ∷ rs) = Says ks l r × EachSays ks ls rs

-- none of rs is misplaced after those before it, the first of which are `before`
abbrev pub Placed : {H R : Type 0} → Grammar H R → H → List R → List R → Type 0
Placed g h before [] = Unit {0}
Placed g h before (r ∷ rs) = (g.misplaced h before r ≡ None) × Placed g h (before ++ r ∷ []) rs

-- the text says the head and the records
pub record Reads {H R : Type 0} (g : Grammar H R) (text : List ℕ) (h : H) (rs : List R) : Type 0 where
  pub sized : Sized text
  pub first : List ℕ
  pub others : List (List ℕ)
  pub lines : Lines text (first ∷ others)
  pub head : Says g.heads first h
  pub body : EachSays (g.bodies h) others rs
  pub placed : Placed g h [] rs
  pub finished : g.unfinished h rs ≡ None

-- the lines before that of the fault, but for the first, say the records
pub record Earlier {H R : Type 0} (g : Grammar H R) (text : List ℕ) (f : Fault) (rs : List R) : Type 0 where
  pub none : f.line ≤ 1 → rs ≡ []
  pub some : 2 ≤ f.line → (first : List ℕ) × (others : List (List ℕ)) × (h : H) × (pieces 10 text ≡ first ∷ others) × Says g.heads first h × EachSays (g.bodies h) (take (f.line - 2) others) rs × Placed g h [] rs

-- The first fault

-- a text is read, or is refused after the records of the lines before its fault
pub data Outcome (H R : Type 0) : Type 0 where
  accepted : H → List R → Outcome H R
  refused : Fault → List R → Outcome H R

abbrev pub refused_at : {H R : Type 0} → ℕ → Cause × ℕ → List R → Outcome H R
refused_at line e rs = refused (fault e.0 line e.1) rs

abbrev pub at_end : {H R : Type 0} → H → List R → ℕ → Option Cause → Outcome H R
at_end h rs line None = accepted h rs
at_end h rs line (Some why) = refused (fault why line 0) rs

-- what stands after the last byte 10 is at that line: nothing, or a line that is not ended
abbrev pub last : {H R : Type 0} → Grammar H R → H → List R → ℕ → List ℕ → Outcome H R
last g h rs line [] = at_end h rs line (g.unfinished h rs)
last g h rs line (b ∷ bs) = refused (fault Form line 0) rs

-- what follows where there is a value, or where there is an error
abbrev pub by_result : {X E Y : Type 0} → Result X E → (X → Y) → (E → Y) → Y
by_result (Ok x) good bad = good x
by_result (Err e) good bad = bad e

-- what follows where there is a value, or where there is none
abbrev pub by_option : {X Y : Type 0} → Option X → (X → Y) → Y → Y
by_option (Some x) some none = some x
by_option None some none = none

-- the lines from that one on, after the records of those before: the first at fault decides
unfoldable pub body : {H R : Type 0} → Grammar H R → H → List R → ℕ → List (List ℕ) → Outcome H R
body g h rs line [] = refused (fault Form line 0) rs
body g h rs line (l ∷ []) = last g h rs line l
body g h rs line (l ∷ m ∷ ls) =
    by_result (says (g.bodies h) (pieces 44 l))
    (λ r. by_option (g.misplaced h rs r) (λ e. refused_at line e rs) (body g h (rs ++ r ∷ []) (line + 1) (m ∷ ls)))
    (λ e. refused_at line e rs)

-- the whole text from its first line on
unfoldable pub whole : {H R : Type 0} → Grammar H R → List (List ℕ) → Outcome H R
whole g [] = refused (fault Form 1 0) []
whole g (l ∷ []) = refused (fault Form 1 0) []
whole g (l ∷ m ∷ ls) = by_result (says g.heads (pieces 44 l)) (λ h. body g h [] 2 (m ∷ ls)) (λ e. refused_at 1 e [])

-- what becomes of a text
unfoldable pub outcome : {H R : Type 0} → Grammar H R → List ℕ → Outcome H R
outcome g text = cond (nat_lt 0 (length text) && nat_le (length text) 32768) (whole g (pieces 10 text)) (refused (fault Size 0 0) [])

-- Reading and fault

-- A text is accepted exactly where it says a head and records, which are then the only ones; where it is refused, the lines
-- before its fault, but for the first, say the records that are told with the fault.
pub record Exact {H R : Type 0} (g : Grammar H R) : Type 0 where
  pub accepts : (text : List ℕ) (h : H) (rs : List R) → (outcome g text ≡ accepted h rs) ↔ Reads g text h rs
  pub single : (text : List ℕ) (h h' : H) (rs rs' : List R) → Reads g text h rs → Reads g text h' rs' → (h ≡ h') × (rs ≡ rs')
  pub earlier : (text : List ℕ) (f : Fault) (rs : List R) → outcome g text ≡ refused f rs → Earlier g text f rs
