use Rattle.std.proofs.Common.{◌≡◌, ◌+◌, ◌≤◌, length}
use Rattle.rulebook_text.proofs.Walking.{Sofar}
use Rattle.rulebook_text.proofs.rulebook.read_rulebook.Given as goal

abbrev pub invariant-loop-line : goal.invariant-loop-line
invariant-loop-line l = record {
  sofar : Sofar l.text l.initial.equations.list.now l.equations.list.now l.book l.lines.rest.now l.lines.count l.equations.done;
  few : l.lines.count + length l.lines.rest.now ≤ length l.text;
  name : l.equations.list.ghost_name ≡ l.initial.equations.list.ghost_name;
}

abbrev pub decreases-loop-line : goal.decreases-loop-line
decreases-loop-line l = length l.lines.rest.now
