-- Small comparisons, and the equations that characterise one state.
use Rattle.std.specs.Prelude.{◌≡◌, Bool, true, false, cond, not, ◌&&◌, ◌||◌, List, [], ◌∷◌, ◌==◌}
use Rattle.records.specs.declared.Fixpoint.TheVariants.{Greatest}
use Rattle.records.specs.declared.Form.TheVariants.{Atom, And, Diamond, Box}
use Rattle.semantics.specs.declared.Equation.{Equation}
use Rattle.semantics.specs.Lts.{Lts}
use Rattle.semantics.specs.Equations.{equation, solution}
use Rattle.semantics.specs.MarkedRuns.{single}
use Rattle.semantics.specs.Preorder.{related, fenced_by}

-- whether state 0 of the model relates to state 0 of the checked system
abbrev pub below : Lts → Lts → Bool
below M C = related M C 0 0

-- four states: 0 goes on action 0 to 1, which has the action 1 and then the action 2, or else is divergent on that
abbrev pub late : Bool → Lts
late d = record {
  states = 4;
  actions = 3;
  atoms = 0;
  transitions = λ s a t. cond ((s == 0 && a == 0 && t == 1) || (s == 1 && a == 1 && t == 2) || (s == 1 && a == 2 && t == 3 && not d)) 1 0;
  divergent = λ s a. d && s == 1 && (a == 2);
  holds = λ p s. false;
}

-- four states: 0 goes on action 0 to 1, which has the action 1, and to 2, which has the action 2
abbrev pub early : Lts
early = record {
  states = 4;
  actions = 3;
  atoms = 0;
  transitions = λ s a t. cond ((s == 0 && a == 0 && (t == 1 || t == 2)) || (s == 1 && a == 1 && t == 3) || (s == 2 && a == 2 && t == 3)) 1 0;
  divergent = λ s a. false;
  holds = λ p s. false;
}

-- equations that characterise a state with a transition to itself: both modalities and the fence
abbrev pub loop_equations : List Equation
loop_equations = equation And 1 2 ∷ equation Diamond 0 0 ∷ equation And 3 4 ∷ equation Box 0 0 ∷ equation Atom 0 0 ∷ []

abbrev pub loop_solved : Lts → Bool
loop_solved C = solution (fenced_by (single 1 false) C) Greatest loop_equations 0 0

pub record Comparisons : Type 0 where
  -- divergent without transitions: below a state with a transition, and below a divergent one
  pub divergent_moves : below (single 0 true) (single 1 false) ≡ true
  pub divergent_diverges : below (single 0 true) (single 1 true) ≡ true
  -- defined without transitions: below itself alone
  pub defined_moves : below (single 0 false) (single 1 false) ≡ false
  pub defined_diverges : below (single 0 false) (single 0 true) ≡ false
  pub defined_same : below (single 0 false) (single 0 false) ≡ true
  -- a transition is followed, however many there are
  pub not_followed : below (single 1 true) (single 0 false) ≡ false
  pub followed_by_two : below (single 1 true) (single 2 false) ≡ true
  pub two_followed : below (single 2 false) (single 1 false) ≡ true
  -- a choice that is made early is not one that is made late
  pub late_early : below (late false) early ≡ false
  pub early_late : below early (late false) ≡ false
  -- a model that leaves action 2 open
  pub open_late : below (late true) (late false) ≡ true
  pub late_open : below (late false) (late true) ≡ false
  pub open_early : below (late true) early ≡ false
  -- what the equations of a loop hold of
  pub loop : loop_solved (single 1 false) ≡ true
  pub loop_three : loop_solved (single 3 false) ≡ true
  pub loop_none : loop_solved (single 0 false) ≡ false
  pub loop_divergent : loop_solved (single 1 true) ≡ false
