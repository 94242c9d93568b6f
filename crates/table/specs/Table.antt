-- What a table means, and when it is refused.
use Rattle.std.specs.Prelude.{◌≡◌, ℕ, cond, ◌&&◌, ◌||◌, List, length, Some, None, Option, nat_le}
use Rattle.records.specs.declared.Counts.{Counts}
use Rattle.records.specs.declared.Transition.{Transition}
use Rattle.records.specs.declared.Divergence.{Divergence}
use Rattle.records.specs.declared.Label.{Label}
use Rattle.semantics.specs.Lts.{Lts}
use Rattle.table.specs.declared.TableRefusal.{TableRefusal}
use Rattle.table.specs.declared.TableRefusal.TheVariants.{Limit, Range, Repeated, Memory}
use Rattle.table.specs.Records.{has, each, repeated, is_transition, is_divergence, is_label, same_transition, same_divergence, same_label, counts_inside, transition_inside, divergence_inside, label_inside}

-- the system that the records describe: one transition where the list has it, else none; divergent, or an atom holds,
-- exactly where a record says so
unfoldable pub table_lts : Counts → List Transition → List Divergence → List Label → Lts
table_lts c ts us ps = record {
  states = c.states;
  actions = c.actions;
  atoms = c.atoms;
  transitions = λ s a t. cond (has (is_transition s a t) ts) 1 0;
  divergent = λ s a. has (is_divergence s a) us;
  holds = λ p s. has (is_label p s) ps;
}

-- why a table is refused, but for want of memory: first a list over its limit, then a number outside its range, then
-- a record that is repeated
unfoldable pub table_refusal : Counts → List Transition → List Divergence → List Label → Option TableRefusal
table_refusal c ts us ps =
    cond (nat_le (length ts) 2048 && nat_le (length us) 1024 && nat_le (length ps) 2048)
    (cond (counts_inside c && each (transition_inside c) ts && each (divergence_inside c) us && each (label_inside c) ps)
    (cond (repeated same_transition ts || repeated same_divergence us || repeated same_label ps) (Some Repeated) None)
    (Some Range)) (Some Limit)

-- a refusal is the one that the records ask for; memory is wanting only where they ask for none
abbrev pub Refuses : Option TableRefusal → TableRefusal → Type 0
Refuses why Limit = why ≡ Some Limit
Refuses why Range = why ≡ Some Range
Refuses why Repeated = why ≡ Some Repeated
Refuses why Memory = why ≡ None

-- the number of each refusal; want of memory has none
abbrev pub table_refusal_number : TableRefusal → Option ℕ
table_refusal_number Limit = Some 6
table_refusal_number Range = Some 4
table_refusal_number Repeated = Some 5
table_refusal_number Memory = None
