-- How a fenced source computes its answers, from those of what it holds. That they are those of `fenced_lts` is
-- proved, so a reader can pass over this file.
use Rattle.std.specs.Prelude.{ℕ, Bool, not, ◌&&◌, ◌||◌, List, length, nat_lt}
use Rattle.semantics.specs.Lts.{every}
use Rattle.lts.specs.Source.{Answers}
use Rattle.lts.specs.declared.sets.SmallSet.{SmallSet}
use Rattle.fenced.specs.Fenced.{set_at}

-- a is not active at s, or lies in the set
abbrev pub keeps : Answers → (set : ℕ → Bool) → (s a : ℕ) → Bool
keeps A set s a = not (A.divergent s a || nat_lt 0 (A.out_degree s a)) || set a

abbrev pub fenced_answers : Answers → List SmallSet → Answers
fenced_answers A sets = record {
  states = A.states;
  actions = A.actions;
  atoms = length sets;
  divergent = A.divergent;
  holds = λ i s. nat_lt i (length sets) && (nat_lt s A.states && every A.actions (keeps A (set_at sets i) s));
  out_degree = A.out_degree;
  in_degree = A.in_degree;
  transitions = A.transitions;
  predecessor = A.predecessor;
}
