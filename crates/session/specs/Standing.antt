-- What a session stands for, and what a call of it does.
use Rattle.std.specs.Prelude.{List, [], ◌∷◌, ◌++◌, Result}
use Rattle.records.specs.declared.Fixpoint.{Fixpoint}
use Rattle.semantics.specs.declared.Pair.{Pair}
use Rattle.semantics.specs.declared.Call.{Call}
use Rattle.semantics.specs.declared.Answer.{Answer}
use Rattle.semantics.specs.declared.Refusal.{Refusal}
use Rattle.semantics.specs.Lts.{Lts}
use Rattle.semantics.specs.Plain.{PlainCall, PlainAnswer, Plain, no_book, Event, Leads}
use Rattle.semantics.specs.Calls.{Makes}
use Rattle.semantics.specs.Law.{LawOfRuns}
use Rattle.board.specs.State.{State}
use Rattle.refinement.specs.Represents.{Represents}

-- a session with this board stands for the plain session p after the history es: the history leads from a new session
-- to p, and the board represents p
pub record StandsFor (F : Lts) (d : Fixpoint) (σ : State) (es : List Event) (p : Plain) : Type 0 where
  pub leads : Leads F d no_book es p
  pub represents : Represents F d σ p

-- a call that took these pairs and gave this answer
abbrev pub event : PlainCall → List Pair → PlainAnswer → Event
event c ps a = record { call = c; chosen = ps; answer = a }

-- a call takes the board from σ to τ and gives the answer a: whatever history the session stood for, it now stands for
-- that history and this call, with some choice of waiting pairs
pub record Answers (F : Lts) (d : Fixpoint) (σ : State) (c : PlainCall) (a : PlainAnswer) (τ : State) : Type 0 where
  pub continues : (es : List Event) (p : Plain) → StandsFor F d σ es p →
      (ps : List Pair) × (q : Plain) × StandsFor F d τ (es ++ event c ps a ∷ []) q

-- a list of calls takes the board from σ to τ and gives the answers: whatever history the session stood for, it now stands
-- for that history and events with these calls and answers, of which the whole law over runs holds
pub record Replays (F : Lts) (d : Fixpoint) (σ : State) (calls : List Call) (answers : List (Result Answer Refusal)) (τ : State) : Type 0 where
  pub continues : (es : List Event) (p : Plain) → StandsFor F d σ es p →
      (more : List Event) × (q : Plain) × Makes more calls answers × StandsFor F d τ (es ++ more) q × LawOfRuns F d (es ++ more) q

-- the same of a new session: the calls and answers are a history from the start
pub record Begins (F : Lts) (d : Fixpoint) (calls : List Call) (answers : List (Result Answer Refusal)) (τ : State) : Type 0 where
  pub history : List Event
  pub plain : Plain
  pub makes : Makes history calls answers
  pub stands : StandsFor F d τ history plain
  pub law : LawOfRuns F d history plain
