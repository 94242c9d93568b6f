-- What a board answers to each call, and what it is after.
use Rattle.std.specs.Prelude.{◌-◌, false, cond, not, ◌&&◌, length, nat_le, slice_index_or}
use Rattle.records.specs.declared.Fixpoint.{Fixpoint}
use Rattle.semantics.specs.Lts.{Lts}
use Rattle.semantics.specs.Plain.{book_of, proper, fits, mark_of, PlainCall, load, pin, run, query, sheet, PlainAnswer, refused, loaded, pinned, ran, told, written}
use Rattle.lts.specs.Source.{Answers}
use Rattle.board.specs.State.{State, place, pair?, waiting}
use Rattle.board.specs.Turning.{pin_at}
use Rattle.refinement.specs.Sheet.{on_at, sheet_of}
use Rattle.refinement.specs.Taking.{begun}
use Rattle.refinement.specs.Taking as taking

-- the system as far as a refusal looks at it
abbrev pub sized : Answers → Lts
sized A = record { states = A.states; actions = A.actions; atoms = A.atoms; transitions = λ s a t. 0; divergent = A.divergent; holds = A.holds }

-- the board after a call
unfoldable pub stepped : Answers → Fixpoint → State → PlainCall → State
stepped A d σ (load rs) = cond (proper (sized A) rs && fits (sized A) rs) (begun A d (book_of rs)) σ
stepped A d σ (pin s i) = cond (σ.loaded && pair? σ s i) (pin_at (place σ s i) σ) σ
stepped A d σ (run k) = cond σ.loaded (taking.ran A d k σ) σ
stepped A d σ (query s i) = σ
stepped A d σ (sheet room) = σ

-- what it answers; `τ` is the board after the call
unfoldable pub told_by : Answers → Fixpoint → State → PlainCall → State → PlainAnswer
told_by A d σ (load rs) τ = cond (proper (sized A) rs) (cond (fits (sized A) rs) loaded (refused 12)) (refused 13)
told_by A d σ (pin s i) τ = cond σ.loaded (cond (pair? σ s i) (pinned (not (slice_index_or σ.turned (place σ s i) false))) (refused 11)) (refused 10)
told_by A d σ (run k) τ = cond σ.loaded (ran (not (waiting τ)) (τ.taken - σ.taken) (τ.looks - σ.looks)) (refused 10)
told_by A d σ (query s i) τ =
    cond σ.loaded
    (cond (pair? σ s i) (told (mark_of d (on_at d σ (place σ s i)) (not (waiting σ))) (slice_index_or σ.pinned (place σ s i) false)) (refused 11))
    (refused 10)
told_by A d σ (sheet room) τ = cond σ.loaded (cond (nat_le (length (sheet_of d σ)) room) (written (sheet_of d σ)) (refused 16)) (refused 10)
