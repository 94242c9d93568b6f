-- How a table holds its system and computes its answers. That they are those of `table_lts` is proved, so a reader can
-- pass over this file.
use Rattle.std.specs.Prelude.{◌≡◌, ℕ, ◌+◌, ◌-◌, ◌*◌, ◌/◌, ◌%◌, ◌<◌, ◌≤◌, Bool, cond, ◌&&◌, List, length, Some, None, vec_items, Option, nat_lt, slice_index, slice_index_or}
use Rattle.semantics.specs.Lts.{Lts, sum, one}
use Rattle.lts.specs.declared.sets.SmallSet.{SmallSet}
use Rattle.lts.specs.Source.{Answers}
use Rattle.lts.specs.Sets.{member}
use Rattle.sorting.specs.Sorting.{start, row, Rising, Under}
use Rattle.records.specs.declared.Transition.{Transition}
use Rattle.table.specs.declared.Table.{Table}

-- the set past the end of a list
abbrev pub empty_set : SmallSet
empty_set = record { bits = 0 }

-- whether set s of n sets has i, below most
abbrev pub in_set : (n most : ℕ) (sets : List SmallSet) → ℕ → ℕ → Bool
in_set n most sets s i = nat_lt s n && (nat_lt i most && member (slice_index_or sets s empty_set) i)

-- row a * n + t has the sources of the transitions on a into t
unfoldable pub held_transitions : (n actions : ℕ) (ends sources : List ℕ) → ℕ → ℕ → ℕ → ℕ
held_transitions n actions ends sources s a t =
    cond (nat_lt a actions && nat_lt t n) (sum (row ends (a * n + t)) (λ k. one (slice_index sources (start ends (a * n + t) + k)) s)) 0

-- the system that the lists hold
abbrev pub held_lts : (n actions atoms : ℕ) (ends sources : List ℕ) (gaps marks : List SmallSet) → Lts
held_lts n actions atoms ends sources gaps marks = record {
  states = n;
  actions = actions;
  atoms = atoms;
  transitions = held_transitions n actions ends sources;
  divergent = λ s a. in_set n actions gaps s a;
  holds = λ p s. in_set n atoms marks s p;
}

-- place a * n + s has the number of transitions on a from s
abbrev pub Leaving : (n actions : ℕ) (ends sources degrees : List ℕ) → Type 0
Leaving n actions ends sources degrees = (i : ℕ) → i < length degrees → slice_index degrees i ≡ sum n (λ t. held_transitions n actions ends sources (i % n) (i / n) t)

-- What the lists keep to.
pub record Stored (n actions atoms : ℕ) (ends sources degrees : List ℕ) (gaps marks : List SmallSet) : Type 0 where
  pub few_states : n ≤ 1024
  pub some_action : 1 ≤ actions
  pub few_actions : actions ≤ 64
  pub few_atoms : atoms ≤ 64
  pub rows : length ends ≡ actions * n
  pub rising : Rising ends
  pub whole : start ends (actions * n) ≡ length sources
  pub few_transitions : length sources ≤ 65535
  pub named : Under n sources
  pub places : length degrees ≡ actions * n
  pub leaving : Leaving n actions ends sources degrees
  pub gap_states : length gaps ≡ n
  pub mark_states : length marks ≡ n

-- How it is made

abbrev pub zero_transition : Transition
zero_transition = record { source = 0; action = 0; target = 0 }

-- the row of a transition by its action and one end, and its other end
abbrev pub arrival : ℕ → Transition → ℕ × ℕ
arrival n x = (x.action * n + x.target, x.source)

abbrev pub departure : ℕ → Transition → ℕ × ℕ
departure n x = (x.action * n + x.source, x.target)

-- The answers

-- the place of action a and state s, where there is one
abbrev pub place_of : (n actions a s : ℕ) → Option ℕ
place_of n actions a s = cond (nat_lt a actions && nat_lt s n) (Some (a * n + s)) None

-- f of the place, or else d
abbrev pub at_place : {X : Type 0} → Option ℕ → (ℕ → X) → X → X
at_place (Some i) f d = f i
at_place None f d = d

abbrev pub table_out : (n actions : ℕ) (degrees : List ℕ) (s a : ℕ) → ℕ
table_out n actions degrees s a = at_place (place_of n actions a s) (λ i. slice_index degrees i) 0

abbrev pub table_in : (n actions : ℕ) (ends : List ℕ) (t a : ℕ) → ℕ
table_in n actions ends t a = at_place (place_of n actions a t) (λ i. slice_index ends i - start ends i) 0

abbrev pub table_on : (n actions : ℕ) (ends : List ℕ) (a : ℕ) → ℕ
table_on n actions ends a = cond (nat_lt a actions) (start ends (a * n + n) - start ends (a * n)) 0

abbrev pub table_predecessor : (n actions : ℕ) (ends sources : List ℕ) (t a k : ℕ) → Option ℕ
table_predecessor n actions ends sources t a k =
    at_place (place_of n actions a t) (λ i. cond (nat_lt k (slice_index ends i - start ends i)) (Some (slice_index sources (start ends i + k))) None) None

abbrev pub table_answers : (n actions atoms : ℕ) (ends sources degrees : List ℕ) (gaps marks : List SmallSet) → Answers
table_answers n actions atoms ends sources degrees gaps marks = record {
  states = n;
  actions = actions;
  atoms = atoms;
  divergent = λ s a. in_set (length gaps) actions gaps s a;
  holds = λ p s. in_set (length marks) atoms marks s p;
  out_degree = table_out n actions degrees;
  in_degree = table_in n actions ends;
  transitions = table_on n actions ends;
  predecessor = table_predecessor n actions ends sources;
}

-- the same of a value of the type
abbrev pub table_means : Table → Lts
table_means x = held_lts x.counts.states x.counts.actions x.counts.atoms (vec_items x.rows.ends) (vec_items x.rows.items) (vec_items x.gaps) (vec_items x.marks)

abbrev pub table_says : Table → Answers
table_says x = table_answers x.counts.states x.counts.actions x.counts.atoms (vec_items x.rows.ends) (vec_items x.rows.items) (vec_items x.degrees) (vec_items x.gaps) (vec_items x.marks)

abbrev pub TableReady : Table → Type 0
TableReady x = Stored x.counts.states x.counts.actions x.counts.atoms (vec_items x.rows.ends) (vec_items x.rows.items) (vec_items x.degrees) (vec_items x.gaps) (vec_items x.marks)
