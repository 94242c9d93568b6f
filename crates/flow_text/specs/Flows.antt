-- Flow texts: a line F with the counts, and then lines T, U and P within them.
use Rattle.std.specs.Prelude.{◌≡◌, ℕ, min, Bool, false, cond, ◌&&◌, ◌||◌, List, [], ◌∷◌, ◌++◌, length, Some, None, Option, Result, MatchResult, ◌==◌, nat_lt, slice_index}
use Rattle.records.specs.declared.Counts.{Counts}
use Rattle.records.specs.declared.Transition as transition
use Rattle.records.specs.declared.Divergence as divergence
use Rattle.records.specs.declared.Label as label
use Rattle.fields.specs.declared.fault.Cause.{Cause}
use Rattle.fields.specs.declared.fault.Cause.TheVariants.{Repeated, Full}
use Rattle.fields.specs.declared.fault.Fault.{Fault}
use Rattle.lines.specs.Kinds.{byte, number, Kind}
use Rattle.lines.specs.Lent.{Filled}
use Rattle.lines.specs.Texts.{Grammar}
use Rattle.flow_text.specs.declared.record.Record.{Record}
use Rattle.flow_text.specs.declared.record.Record.TheVariants.{Transition, Divergence, Label}
use Rattle.flow_text.specs.declared.counts.Flow.{Flow}

-- The kinds of lines

-- F,states,actions,atoms
abbrev pub flow_kind : Kind Counts
flow_kind = record {
  slots = byte 70 ∷ number 1 1025 ∷ number 1 65 ∷ number 0 65 ∷ [];
  make = λ ns. record { states = slice_index ns 0; actions = slice_index ns 1; atoms = slice_index ns 2 };
}

-- T,s,a,t: a transition from s on a to t
abbrev pub transition_kind : Counts → Kind Record
transition_kind n = record {
  slots = byte 84 ∷ number 0 n.states ∷ number 0 n.actions ∷ number 0 n.states ∷ [];
  make = λ ns. Transition (record { source = slice_index ns 0; action = slice_index ns 1; target = slice_index ns 2 });
}

-- U,s,a: s is divergent on a
abbrev pub divergence_kind : Counts → Kind Record
divergence_kind n = record {
  slots = byte 85 ∷ number 0 n.states ∷ number 0 n.actions ∷ [];
  make = λ ns. Divergence (record { state = slice_index ns 0; action = slice_index ns 1 });
}

-- P,p,s: atom p holds at s
abbrev pub label_kind : Counts → Kind Record
label_kind n = record {
  slots = byte 80 ∷ number 0 n.atoms ∷ number 0 n.states ∷ [];
  make = λ ns. Label (record { atom = slice_index ns 0; state = slice_index ns 1 });
}

abbrev pub record_kinds : Counts → List (Kind Record)
record_kinds n = transition_kind n ∷ divergence_kind n ∷ label_kind n ∷ []

-- The records of each kind, in their order

abbrev pub transitions_of : List Record → List transition.Transition
transitions_of [] = []
transitions_of (Transition x ∷ rs) = x ∷ transitions_of rs
transitions_of (Divergence x ∷ rs) = transitions_of rs
transitions_of (Label x ∷ rs) = transitions_of rs

abbrev pub divergences_of : List Record → List divergence.Divergence
divergences_of [] = []
divergences_of (Transition x ∷ rs) = divergences_of rs
divergences_of (Divergence x ∷ rs) = x ∷ divergences_of rs
divergences_of (Label x ∷ rs) = divergences_of rs

abbrev pub labels_of : List Record → List label.Label
labels_of [] = []
labels_of (Transition x ∷ rs) = labels_of rs
labels_of (Divergence x ∷ rs) = labels_of rs
labels_of (Label x ∷ rs) = x ∷ labels_of rs

-- Where a record may stand

abbrev pub same_transition : transition.Transition → transition.Transition → Bool
same_transition x y = x.source == y.source && (x.action == y.action && x.target == y.target)

abbrev pub same_divergence : divergence.Divergence → divergence.Divergence → Bool
same_divergence x y = x.state == y.state && x.action == y.action

abbrev pub same_label : label.Label → label.Label → Bool
same_label x y = x.atom == y.atom && x.state == y.state

-- whether x stands in the list
unfoldable pub among : {X : Type 0} → (X → X → Bool) → List X → X → Bool
among same [] x = false
among same (y ∷ ys) x = same y x || among same ys x

-- after these of its kind, and with room for so many, a record is repeated, or finds no place
abbrev pub place : {X : Type 0} → (X → X → Bool) → ℕ → List X → X → Option (Cause × ℕ)
place same room xs x = cond (among same xs x) (Some (Repeated, 0)) (cond (nat_lt (length xs) room) None (Some (Full, 0)))

-- how many records of each kind a reader may take
pub record Room : Type 0 where
  pub transitions : ℕ
  pub divergences : ℕ
  pub labels : ℕ

-- at most 2,048, 1,024 and 2,048, and what the lent lists hold
abbrev pub room : (transitions divergences labels : ℕ) → Room
room ts us ps = record { transitions = min ts 2048; divergences = min us 1024; labels = min ps 2048 }

abbrev pub misplaced : Room → List Record → Record → Option (Cause × ℕ)
misplaced most rs (Transition x) = place same_transition most.transitions (transitions_of rs) x
misplaced most rs (Divergence x) = place same_divergence most.divergences (divergences_of rs) x
misplaced most rs (Label x) = place same_label most.labels (labels_of rs) x

-- Flow texts, for a reader with so much room
abbrev pub flow_grammar : Room → Grammar Counts Record
flow_grammar most = record {
  heads = flow_kind ∷ [];
  bodies = record_kinds;
  misplaced = λ n. misplaced most;
  unfinished = λ n rs. None;
}

-- What the reader leaves in the lists

-- what the lent lists hold
pub record Lent : Type 0 where
  pub transitions : List transition.Transition
  pub divergences : List divergence.Divergence
  pub labels : List label.Label

abbrev pub lent : List transition.Transition → List divergence.Divergence → List label.Label → Lent
lent ts us ps = record { transitions = ts; divergences = us; labels = ps }

abbrev pub room_in : Lent → Room
room_in l = room (length l.transitions) (length l.divergences) (length l.labels)

-- the lists hold the records, each kind in its list
pub record Holds (before after : Lent) (rs : List Record) : Type 0 where
  pub transitions : Filled before.transitions (transitions_of rs) after.transitions
  pub divergences : Filled before.divergences (divergences_of rs) after.divergences
  pub labels : Filled before.labels (labels_of rs) after.labels

-- the list holds xs, and n is how many they are
pub record Row {X : Type 0} (before xs after : List X) (n : ℕ) : Type 0 where
  pub filled : Filled before xs after
  pub count : n ≡ length xs

-- the lists hold the records, and the flow says how many of each kind
pub record Kept (before after : Lent) (flow : Flow) (rs : List Record) : Type 0 where
  pub transitions : Row before.transitions (transitions_of rs) after.transitions flow.transitions
  pub divergences : Row before.divergences (divergences_of rs) after.divergences flow.divergences
  pub labels : Row before.labels (labels_of rs) after.labels flow.labels

-- However the lists were filled, the record is put behind the others, or it has no place and nothing changes.
pub record Puts {X : Type 0} (lists lists' : Lent) (flow flow' : Flow) (x : Record) (line : ℕ) (r : Result X Fault) : Type 0 where
  pub puts : (before : Lent) (rs : List Record) → Kept before lists flow rs → MatchResult r
      (λ _. (misplaced (room_in before) rs x ≡ None) × Kept before lists' flow' (rs ++ x ∷ []))
      (λ f. (misplaced (room_in before) rs x ≡ Some (f.cause, f.field)) × (f.line ≡ line) × Kept before lists' flow' rs)
