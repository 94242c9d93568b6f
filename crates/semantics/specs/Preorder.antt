-- The prebisimulation preorder between a model and a checked system, and equations that characterise a model.
use Rattle.std.specs.Prelude.{◌≡◌, ℕ, zero, suc, ◌+◌, ◌*◌, ◌<◌, ◌≤◌, Bool, true, false, not, ◌&&◌, ◌||◌, ◌↔◌, List, length, Some, ◌==◌, nat_lt}
use Rattle.records.specs.declared.Fixpoint.TheVariants.{Greatest}
use Rattle.semantics.specs.declared.Equation.{Equation}
use Rattle.semantics.specs.Lts.{Lts, sum, some, every, on, active}
use Rattle.semantics.specs.Equations.{nth, solution}
use Rattle.semantics.specs.Plain.{well_formed}

-- The preorder

-- which state of the model has which state of the checked system
abbrev pub Relation : Type 0
Relation = ℕ → ℕ → Bool

-- on action a, each transition of s in M has one of s' in C, to states that R relates
abbrev pub Follows : Lts → Lts → Relation → ℕ → ℕ → ℕ → Type 0
Follows M C R a s s' =
    (t : ℕ) → t < M.states → 0 < M.transitions s a t → (t' : ℕ) × (t' < C.states) × (0 < C.transitions s' a t') × (R t t' ≡ true)

-- the checked state s' does what R asks for the model's state s, on every action of the model
pub record Matches (M C : Lts) (R : Relation) (s s' : ℕ) : Type 0 where
  pub forth : (a : ℕ) → a < M.actions → Follows M C R a s s'
  -- where s is defined, so is s', and s has a transition for each of s'
  pub defined : (a : ℕ) → a < M.actions → M.divergent s a ≡ false → C.divergent s' a ≡ false
  pub back : (a : ℕ) → a < M.actions → M.divergent s a ≡ false → Follows C M (λ t' t. R t t') a s' s

-- a prebisimulation: states that it relates match
pub record Prebisimulation (M C : Lts) (R : Relation) : Type 0 where
  pub matched_at : (s s' : ℕ) → s < M.states → s' < C.states → R s s' ≡ true → Matches M C R s s'

-- some prebisimulation relates the two states
pub record Related (M C : Lts) (s s' : ℕ) : Type 0 where
  pub relation : Relation
  pub prebisimulation : Prebisimulation M C relation
  pub relates : relation s s' ≡ true

-- the relation is a preorder between systems with the same actions
pub record IsPreorder : Type 0 where
  pub reflexive : (M : Lts) (s : ℕ) → Related M M s s
  pub transitive : (M C D : Lts) (s s' s'' : ℕ) → C.actions ≡ M.actions → s' < C.states → Related M C s s' → Related C D s' s'' → Related M D s s''

-- The same by rounds

unfoldable pub follows : Lts → Lts → Relation → ℕ → ℕ → ℕ → Bool
follows M C R a s s' = every M.states (λ t. (0 == M.transitions s a t) || some C.states (λ t'. nat_lt 0 (C.transitions s' a t') && R t t'))

unfoldable pub matches : Lts → Lts → Relation → ℕ → ℕ → Bool
matches M C R s s' =
    every M.actions (λ a. follows M C R a s s' && (M.divergent s a || (not (C.divergent s' a) && follows C M (λ t' t. R t t') a s' s)))

-- each round keeps the pairs that match under the relation before it
unfoldable pub matched : Lts → Lts → ℕ → Relation
matched M C zero = λ s s'. true
matched M C (suc k) = matches M C (matched M C k)

unfoldable pub related : Lts → Lts → Relation
related M C = matched M C (M.states * C.states)

-- the rounds give the largest prebisimulation
abbrev pub RelatedByRounds : Type 0
RelatedByRounds = (M C : Lts) (s s' : ℕ) → s < M.states → s' < C.states → (related M C s s' ≡ true) ↔ Related M C s s'

-- Characteristic equations

-- the system with n atoms of its own: atom i holds where every active action lies in set i
abbrev pub fenced : Lts → ℕ → (ℕ → ℕ → Bool) → Lts
fenced F n sets = record {
  states = F.states;
  actions = F.actions;
  atoms = n;
  transitions = F.transitions;
  divergent = F.divergent;
  holds = λ i s. every F.actions (λ a. not (active F s a) || sets i a);
}

-- the system with an atom for each state of the model: its set is what the state is active on
abbrev pub fenced_by : Lts → Lts → Lts
fenced_by M C = fenced C M.states (active M)

-- variable s of the equations is state s of the model, and helpers follow; each equation is well-formed
pub record Characterises (M : Lts) (B : List Equation) : Type 0 where
  pub variables : M.states ≤ length B
  pub bound : length B ≤ M.states + 4 * sum M.actions (on M)
  pub formed : (i : ℕ) → i < length B → well_formed (fenced_by M M) (length B) (Some (nth B i).form) (nth B i).first (nth B i).second ≡ true
  pub solves : (C : Lts) → C.actions ≡ M.actions → (s s' : ℕ) → s < M.states → s' < C.states →
      (solution (fenced_by M C) Greatest B s' s ≡ true) ↔ Related M C s s'

-- every model has them
abbrev pub Characterised : Type 0
Characterised = (M : Lts) → (B : List Equation) × Characterises M B
