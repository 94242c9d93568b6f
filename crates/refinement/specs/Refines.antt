-- The board refines the plain session.
use Rattle.std.specs.Prelude.{◌≡◌, List}
use Rattle.records.specs.declared.Fixpoint.{Fixpoint}
use Rattle.semantics.specs.declared.Pair.{Pair}
use Rattle.semantics.specs.Lts.{Lts}
use Rattle.semantics.specs.Plain.{PlainCall, Plain, no_book, answer_to, after, Allowed}
use Rattle.lts.specs.Source.{Answers, Shows}
use Rattle.board.specs.State.{State, blank}
use Rattle.refinement.specs.Calls.{stepped, told_by}
use Rattle.refinement.specs.Represents.{Represents}

-- some pairs that the plain session may take make its answer and the session after it the board's
pub record Refined (A : Answers) (F : Lts) (d : Fixpoint) (σ : State) (p : Plain) (c : PlainCall) : Type 0 where
  pub chosen : List Pair
  pub allowed : Allowed F d p c chosen
  pub answered : told_by A d σ c (stepped A d σ c) ≡ answer_to F d p c chosen
  pub represents : Represents F d (stepped A d σ c) (after F d p c chosen)

-- a board with no book is a session with no book, and every call keeps a board and its plain session together
pub record Refines : Type 0 where
  pub blank : (F : Lts) (d : Fixpoint) → Represents F d blank no_book
  pub call : (A : Answers) (F : Lts) → Shows A F → (d : Fixpoint) (σ : State) (p : Plain) → Represents F d σ p → (c : PlainCall) → Refined A F d σ p c
