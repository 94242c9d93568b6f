-- Sessions, before and after a call.
use Rattle.std.specs.Prelude.{◌≡◌}
use Rattle.records.specs.declared.Fixpoint.{Fixpoint}
use Rattle.semantics.specs.Lts.{Lts}
use Rattle.semantics.specs.Plain.{PlainCall, PlainAnswer}
use Rattle.session.specs.declared.session.Session.{Session}
use Rattle.session.specs.Standing.{Answers}

-- the source and the side stay
abbrev pub Kept : {S D : Type 0} → Session S D → Session S D → Type 0
Kept x y = (y.source ≡ x.source) × (y.side ≡ x.side)

-- over a source that is ready, a call takes the session x to y and gives the answer a
abbrev pub Answered : {S D : Type 0} → (S → Type 0) → (S → Lts) → Fixpoint → Session S D → PlainCall → PlainAnswer → Session S D → Type 0
Answered ready meaning d x c a y = ready x.source → Answers (meaning x.source) d x.board c a y.board
