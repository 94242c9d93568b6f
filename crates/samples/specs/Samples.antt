-- Small systems, on which the definitions compute.
use Rattle.std.specs.Prelude.{◌≡◌, false, List, [], ◌∷◌, nat_eq}
use Rattle.records.specs.declared.Counts.{Counts}
use Rattle.records.specs.declared.Transition.{Transition}
use Rattle.records.specs.declared.Divergence.{Divergence}
use Rattle.records.specs.declared.Label.{Label}
use Rattle.semantics.specs.Lts.{Lts, on}
use Rattle.lts.specs.Sets.{member, set_of}
use Rattle.lts.specs.Queue.{queue_lts}
use Rattle.joined.specs.Joined.{joined_lts}
use Rattle.fenced.specs.Fenced.{fenced_lts, set_at}
use Rattle.table.specs.Table.{table_lts}

-- a queue for one message, which action 0 puts and action 1 takes
abbrev pub one_message : Lts
one_message = queue_lts 1 2 0 1

-- two of them, with no action shared, and with put shared
abbrev pub apart : Lts
apart = joined_lts one_message one_message (λ a. false)

abbrev pub together : Lts
together = joined_lts one_message one_message (λ a. nat_eq a 0)

-- put has 4 transitions where it is not shared; where it is, 1, from both empty to both full
pub record TwoQueues : Type 0 where
  pub unshared : on apart 0 ≡ 4
  pub shared : on together 0 ≡ 1
  pub from_0_to_3 : together.transitions 0 0 3 ≡ 1

-- one state with a transition to itself
abbrev pub loop : Lts
loop = table_lts record { states = 1; actions = 1; atoms = 0 } (record { source = 0; action = 0; target = 0 } ∷ []) [] []

-- two of them with no action shared: either moves, and both ways lead from the one state to itself
abbrev pub TwoLoops : Type 0
TwoLoops = (joined_lts loop loop (λ a. false)).transitions 0 0 0 ≡ 2

-- Nested sources: a queue beside a fenced layer over a table joined to a queue

abbrev pub sample_counts : Counts
sample_counts = record { states = 2; actions = 3; atoms = 1 }

-- T,0,1,1 and T,1,2,0
abbrev pub sample_transitions : List Transition
sample_transitions = record { source = 0; action = 1; target = 1 } ∷ record { source = 1; action = 2; target = 0 } ∷ []

-- U,1,1
abbrev pub sample_divergences : List Divergence
sample_divergences = record { state = 1; action = 1 } ∷ []

-- P,0,0
abbrev pub sample_labels : List Label
sample_labels = record { atom = 0; state = 0 } ∷ []

-- the table and a queue share action 1; the fence is the actions 0 and 1; the outer queue shares action 2 with them
abbrev pub nested_lts : Lts
nested_lts =
    joined_lts (queue_lts 2 3 2 0)
    (fenced_lts (joined_lts (table_lts sample_counts sample_transitions sample_divergences sample_labels) (queue_lts 1 3 1 2) (member (set_of 2))) 1 (set_at (set_of 3 ∷ [])))
    (member (set_of 4))
