-- The tests of the lists of a flow text.
use Rattle.std.specs.Prelude.{Bool, ◌&&◌, ◌||◌, length, Option, nat_le}
use Rattle.semantics.specs.Lts.{Lts}
use Rattle.table.specs.declared.TableRefusal.{TableRefusal}
use Rattle.table.specs.declared.lists.Records.{Records}
use Rattle.table.specs.Records.{each, repeated, same_transition, same_divergence, same_label, counts_inside, transition_inside, divergence_inside, label_inside}
use Rattle.table.specs.Table.{table_lts, table_refusal}

-- no list is over its limit
abbrev pub few : Records → Bool
few r = nat_le (length r.transitions.now) 2048 && nat_le (length r.divergences.now) 1024 && nat_le (length r.labels.now) 2048

-- every number is in its range
abbrev pub inside : Records → Bool
inside r = counts_inside r.counts && each (transition_inside r.counts) r.transitions.now && each (divergence_inside r.counts) r.divergences.now && each (label_inside r.counts) r.labels.now

-- some record is repeated
abbrev pub again : Records → Bool
again r = repeated same_transition r.transitions.now || repeated same_divergence r.divergences.now || repeated same_label r.labels.now

-- why the records are refused, and the system that they describe
abbrev pub refusal_of : Records → Option TableRefusal
refusal_of r = table_refusal r.counts r.transitions.now r.divergences.now r.labels.now

abbrev pub lts_of : Records → Lts
lts_of r = table_lts r.counts r.transitions.now r.divergences.now r.labels.now
