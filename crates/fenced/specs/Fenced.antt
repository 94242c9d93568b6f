-- The same system under other atoms: atom i holds at a state when every action on which the state has a transition or
-- is divergent lies in set i.
use Rattle.std.specs.Prelude.{ℕ, Bool, cond, not, ◌&&◌, ◌||◌, List, Some, None, Option, nat_le, nat_lt, slice_index_or}
use Rattle.semantics.specs.Lts.{Lts, every, active}
use Rattle.lts.specs.declared.sets.SmallSet.{SmallSet}
use Rattle.lts.specs.Sets.{member}
use Rattle.fenced.specs.declared.FenceRefusal.{FenceRefusal}
use Rattle.fenced.specs.declared.FenceRefusal.TheVariants.{Sets}

-- only the actions below the action count are looked at, so those from it on have no effect
unfoldable pub fenced_holds : Lts → (n : ℕ) (sets : ℕ → ℕ → Bool) → (i s : ℕ) → Bool
fenced_holds F n sets i s = nat_lt i n && (nat_lt s F.states && every F.actions (λ a. not (active F s a) || sets i a))

-- the system with the atoms of n sets, of which set i has action a where sets i a is true
abbrev pub fenced_lts : Lts → (n : ℕ) (sets : ℕ → ℕ → Bool) → Lts
fenced_lts F n sets = record {
  states = F.states;
  actions = F.actions;
  atoms = n;
  transitions = F.transitions;
  divergent = F.divergent;
  holds = fenced_holds F n sets;
}

-- the empty set, which a list has past its end
abbrev pub no_actions : SmallSet
no_actions = record { bits = 0 }

-- the actions of set i of a list
abbrev pub set_at : List SmallSet → ℕ → ℕ → Bool
set_at sets i = member (slice_index_or sets i no_actions)

-- why so many sets are refused
abbrev pub fence_refusal : (sets : ℕ) → Option FenceRefusal
fence_refusal sets = cond (nat_le sets 64) None (Some Sets)

-- the number of each refusal
abbrev pub fence_refusal_number : FenceRefusal → ℕ
fence_refusal_number Sets = 9
