use Rattle.std.proofs.Common.{◌≡◌, ℕ, List, length}
use Rattle.flow_text.specs.Flows.{Lent, lent}
use Rattle.flow_text.specs.Filling.{Sofar, flow}
use Rattle.flow_text.proofs.lists.fill.Given as goal

abbrev pub invariant-loop-line : goal.invariant-loop-line
invariant-loop-line l = record {
  sofar : (text : List ℕ) (before : Lent) →
      Sofar text before (lent l.initial.transitions.places.now l.initial.divergences.places.now l.initial.labels.places.now) (flow l.counts l.initial.transitions.used l.initial.divergences.used l.initial.labels.used) l.initial.lines.rest.now l.initial.lines.count →
      Sofar text before (lent l.transitions.places.now l.divergences.places.now l.labels.places.now) (flow l.counts l.transitions.used l.divergences.used l.labels.used) l.lines.rest.now l.lines.count;
  names : (l.transitions.places.ghost_name ≡ l.initial.transitions.places.ghost_name) × (l.divergences.places.ghost_name ≡ l.initial.divergences.places.ghost_name) × (l.labels.places.ghost_name ≡ l.initial.labels.places.ghost_name);
}

abbrev pub decreases-loop-line : goal.decreases-loop-line
decreases-loop-line l = length l.lines.rest.now
