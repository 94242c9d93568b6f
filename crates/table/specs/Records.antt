-- The records of a flow text: what a list of them has, and when one is outside its range.
use Rattle.std.specs.Prelude.{ℕ, Bool, true, false, ◌&&◌, ◌||◌, List, [], ◌∷◌, ◌==◌, nat_le, nat_lt}
use Rattle.records.specs.declared.Counts.{Counts}
use Rattle.records.specs.declared.Transition.{Transition}
use Rattle.records.specs.declared.Divergence.{Divergence}
use Rattle.records.specs.declared.Label.{Label}

-- whether some record of the list passes the test
unfoldable pub has : {X : Type 0} → (X → Bool) → List X → Bool
has test [] = false
has test (x ∷ xs) = test x || has test xs

-- whether every record of the list passes the test
unfoldable pub each : {X : Type 0} → (X → Bool) → List X → Bool
each test [] = true
each test (x ∷ xs) = test x && each test xs

-- whether some record of the list comes again after it
unfoldable pub repeated : {X : Type 0} → (X → X → Bool) → List X → Bool
repeated same [] = false
repeated same (x ∷ xs) = has (same x) xs || repeated same xs

-- the record T,s,a,t, the record U,s,a and the record P,p,s
abbrev pub is_transition : (s a t : ℕ) → Transition → Bool
is_transition s a t x = x.source == s && x.action == a && x.target == t

abbrev pub is_divergence : (s a : ℕ) → Divergence → Bool
is_divergence s a x = x.state == s && x.action == a

abbrev pub is_label : (p s : ℕ) → Label → Bool
is_label p s x = x.state == s && x.atom == p

-- two records that say the same
abbrev pub same_transition : Transition → Transition → Bool
same_transition x y = is_transition y.source y.action y.target x

abbrev pub same_divergence : Divergence → Divergence → Bool
same_divergence x y = is_divergence y.state y.action x

abbrev pub same_label : Label → Label → Bool
same_label x y = is_label y.atom y.state x

-- the counts of a flow text: 1 to 1,024 states, 1 to 64 actions, 0 to 64 atoms
abbrev pub counts_inside : Counts → Bool
counts_inside c = nat_lt 0 c.states && nat_le c.states 1024 && (nat_lt 0 c.actions && nat_le c.actions 64) && nat_le c.atoms 64

-- a record's numbers are below the counts
abbrev pub transition_inside : Counts → Transition → Bool
transition_inside c x = nat_lt x.source c.states && nat_lt x.action c.actions && nat_lt x.target c.states

abbrev pub divergence_inside : Counts → Divergence → Bool
divergence_inside c x = nat_lt x.state c.states && nat_lt x.action c.actions

abbrev pub label_inside : Counts → Label → Bool
label_inside c x = nat_lt x.atom c.atoms && nat_lt x.state c.states
