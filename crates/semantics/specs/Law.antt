-- What holds after every history of calls.
use Rattle.std.specs.Prelude.{◌≡◌, ℕ, ◌+◌, ◌*◌, ◌<◌, ◌≤◌, true, false, not, ◌⊎◌, ◌↔◌, List, [], ◌∷◌, ◌++◌, length}
use Rattle.records.specs.declared.Fixpoint.{Fixpoint}
use Rattle.records.specs.declared.Fixpoint.TheVariants.{Greatest, Least}
use Rattle.records.specs.declared.EquationRecord.{EquationRecord}
use Rattle.records.specs.declared.Form.{Form}
use Rattle.records.specs.declared.Form.TheVariants.{True, False, Atom, Or, And, Diamond, Box}
use Rattle.semantics.specs.declared.Equation.{Equation}
use Rattle.semantics.specs.declared.Pair.{Pair}
use Rattle.semantics.specs.Lts.{Lts, sum, on}
use Rattle.semantics.specs.Equations.{nth, Marking, true_at, start, solution}
use Rattle.semantics.specs.Plain.{among, changed, settled, standing, costs, Takes, book_of, proper, mark_of, page, Plain, no_book, book, PlainCall, run, query, sheet, PlainAnswer, refused, loaded, pinned, ran, told, written, answer_to, after, Allowed, Event, Leads}

-- what holds at every pair of a session
abbrev pub Each : Lts → List Equation → (ℕ → ℕ → Type 0) → Type 0
Each F B P = (s i : ℕ) → s < F.states → i < length B → P s i

-- Sound and closed markings

-- each pair of the one marking is one of the other
abbrev pub Within : Lts → List Equation → Marking → Marking → Type 0
Within F B X Y = Each F B (λ s i. X s i ≡ true → Y s i ≡ true)

-- a sound marking has no pinned pair, and each of its pairs has a true equation under it
pub record Sound (F : Lts) (B : List Equation) (pins : List Pair) (X : Marking) : Type 0 where
  pub unpinned : Each F B (λ s i. X s i ≡ true → among s i pins ≡ false)
  pub supported : Within F B X (true_at F B X)

-- a closed marking has every pinned pair, and every pair whose equation is true under it
pub record Closed (F : Lts) (B : List Equation) (pins : List Pair) (X : Marking) : Type 0 where
  pub pinned_in : Within F B (λ s i. among s i pins) X
  pub true_in : Within F B (true_at F B X) X

-- The solution by iteration

-- it solves the equations, every sound marking lies within the greatest, and every closed one contains the least
pub record Extreme (F : Lts) (d : Fixpoint) (B : List Equation) : Type 0 where
  pub solves : Each F B (λ s i. true_at F B (solution F d B) s i ≡ solution F d B s i)
  pub greatest : d ≡ Greatest → (X : Marking) → Sound F B [] X → Within F B X (solution F d B)
  pub least : d ≡ Least → (X : Marking) → Closed F B [] X → Within F B (solution F d B) X

-- it is so for every book that records spell properly
abbrev pub SolvedByRounds : Type 0
SolvedByRounds = (F : Lts) (d : Fixpoint) (rs : List EquationRecord) → proper F rs ≡ true → Extreme F d (book_of rs)

-- How many looks there are

-- no pair stands twice
unfoldable pub Once : List Pair → Type 0
Once [] = Unit {0}
Once (p ∷ ps) = (among p.state p.variable ps ≡ false) × Once ps

-- 1 for | and &
abbrev pub junction : Form → ℕ
junction True = 0
junction False = 0
junction Atom = 0
junction Or = 1
junction And = 1
junction Diamond = 0
junction Box = 0

-- the transitions on the action of < or [
abbrev pub crossings : Lts → Form → ℕ → ℕ
crossings F True a = 0
crossings F False a = 0
crossings F Atom a = 0
crossings F Or a = 0
crossings F And a = 0
crossings F Diamond a = on F a
crossings F Box a = on F a

-- states × equations, twice the states for each equation | and &, and the transitions on the action of each equation < and [
unfoldable pub most_looks : Lts → List Equation → ℕ
most_looks F B =
    let N = F.states in
    let n = length B in
    let junctions = sum n (λ j. junction (nth B j).form) in
    let crossed = sum n (λ j. crossings F (nth B j).form (nth B j).first) in
    N * n + 2 * N * junctions + crossed

-- The standing marks and the looks

-- a book of the size that load accepts
pub record Sized (F : Lts) (B : List Equation) : Type 0 where
  pub at_least_1 : 1 ≤ length B
  pub at_most_1024 : length B ≤ 1024
  pub at_most_8192 : F.states * length B ≤ 8192

-- what holds of the marks and the looks of a session with a book
pub record Stands (F : Lts) (d : Fixpoint) (B : List Equation) (pins taken : List Pair) (looks : ℕ) : Type 0 where
  pub sized : Sized F B
  -- greatest: every sound marking lies within the standing marks, and settled marks are sound
  pub above : d ≡ Greatest → (X : Marking) → Sound F B pins X → Within F B X (standing F d B pins taken)
  pub sound : d ≡ Greatest → settled F d B pins taken ≡ true → Sound F B pins (standing F d B pins taken)
  -- least: every closed marking contains the standing marks, and settled marks are closed
  pub below : d ≡ Least → (X : Marking) → Closed F B pins X → Within F B (standing F d B pins taken) X
  pub closed : d ≡ Least → settled F d B pins taken ≡ true → Closed F B pins (standing F d B pins taken)
  -- no pair is taken twice, and the looks are the summed cost of the pairs taken
  pub once : Once taken
  pub summed : looks ≡ costs F B taken
  pub bound : looks ≤ most_looks F B
  -- settled marks without pins are the solution by iteration
  pub solved : settled F d B pins taken ≡ true → pins ≡ [] → Each F B (λ s i. standing F d B pins taken s i ≡ solution F d B s i)

-- a session with a book stands, whatever history has led to it
abbrev pub AlwaysStands : Type 0
AlwaysStands =
    (F : Lts) (d : Fixpoint) (es : List Event) (B : List Equation) (pins taken : List Pair) (looks : ℕ) →
    Leads F d no_book es (book B pins taken looks) → Stands F d B pins taken looks

-- Two settled sessions

-- the same pairs are pinned, however often and in whatever order
abbrev pub SamePins : Lts → List Equation → List Pair → List Pair → Type 0
SamePins F B pins pins' = Each F B (λ s i. among s i pins ≡ among s i pins')

-- the same marks and looks, so the same answers to query and the same sheet
pub record Alike (F : Lts) (d : Fixpoint) (B : List Equation) (pins taken : List Pair) (looks : ℕ) (pins' taken' : List Pair) (looks' : ℕ) : Type 0 where
  pub same_marks : Each F B (λ s i. standing F d B pins taken s i ≡ standing F d B pins' taken' s i)
  pub same_looks : looks ≡ looks'
  pub same_query : (s i : ℕ) → answer_to F d (book B pins taken looks) (query s i) [] ≡ answer_to F d (book B pins' taken' looks') (query s i) []
  pub same_sheet : page F d B pins taken looks ≡ page F d B pins' taken' looks'

-- two settled sessions over one system and one side, with one book and the same pinned pairs, are alike
abbrev pub Agree : Type 0
Agree =
    (F : Lts) (d : Fixpoint) (es es' : List Event) (B : List Equation) (pins taken pins' taken' : List Pair) (looks looks' : ℕ) →
    Leads F d no_book es (book B pins taken looks) → Leads F d no_book es' (book B pins' taken' looks') →
    settled F d B pins taken ≡ true → settled F d B pins' taken' ≡ true →
    SamePins F B pins pins' →
    Alike F d B pins taken looks pins' taken' looks'

-- Progress

-- how a session with a book goes on, whether a history has led to it or not
pub record GoesOn (F : Lts) (d : Fixpoint) (B : List Equation) (pins taken : List Pair) (looks : ℕ) : Type 0 where
  -- whichever waiting pairs a run has taken first, within its number, it can be completed
  pub chooses : (k : ℕ) (ps : List Pair) → Takes F d B pins taken ps → length ps ≤ k →
      (more : List Pair) × Allowed F d (book B pins taken looks) (run k) (ps ++ more)
  -- a run that may take as many pairs as there are ends settled
  pub settles : (k : ℕ) (ps : List Pair) → F.states * length B ≤ k → Allowed F d (book B pins taken looks) (run k) ps →
      settled F d B pins (taken ++ ps) ≡ true

-- every call of every session has a choice of pairs that is allowed, and sessions with a book go on
pub record Progress : Type 0 where
  pub allowed : (F : Lts) (d : Fixpoint) (p : Plain) (c : PlainCall) → (ps : List Pair) × Allowed F d p c ps
  pub goes_on : (F : Lts) (d : Fixpoint) (B : List Equation) (pins taken : List Pair) (looks : ℕ) → GoesOn F d B pins taken looks

-- The whole

-- the looks reported, after one answer more
abbrev pub reported_then : ℕ → PlainAnswer → ℕ
reported_then n (refused number) = n
reported_then n loaded = 0
reported_then n (pinned now?) = n
reported_then n (ran settled? pairs looks) = n + looks
reported_then n (told mark pin?) = n
reported_then n (written bytes) = n

-- the looks reported after the events of a history, from n on
unfoldable pub reported_from : ℕ → List Event → ℕ
reported_from n [] = n
reported_from n (e ∷ es) = reported_from (reported_then n e.answer) es

-- the looks that the answers to run in a history sum to, since the last accepted load
abbrev pub reported : List Event → ℕ
reported es = reported_from 0 es

-- query, sheet and refused calls change nothing
pub record Unchanged (F : Lts) (d : Fixpoint) (p : Plain) : Type 0 where
  pub when_queried : (s i : ℕ) (ps : List Pair) → after F d p (query s i) ps ≡ p
  pub when_shown : (room : ℕ) (ps : List Pair) → after F d p (sheet room) ps ≡ p
  pub when_refused : (c : PlainCall) (ps : List Pair) (number : ℕ) → answer_to F d p c ps ≡ refused number → after F d p c ps ≡ p

-- a call that is made now gives this answer and leaves this session, whatever it may take
pub record Gives (F : Lts) (d : Fixpoint) (p : Plain) (c : PlainCall) (a : PlainAnswer) (q : Plain) : Type 0 where
  pub gives : (ps : List Pair) → Allowed F d p c ps → answer_to F d p c ps ≡ a
  pub leaves : (ps : List Pair) → Allowed F d p c ps → after F d p c ps ≡ q

-- what holds of a session with a book to which the history es has led
pub record BookLaw (F : Lts) (d : Fixpoint) (es : List Event) (B : List Equation) (pins taken : List Pair) (looks : ℕ) : Type 0 where
  pub stands : Stands F d B pins taken looks
  -- the answers to run have reported these looks
  pub reports : reported es ≡ looks
  -- a pair's mark is the opposite of the starting mark just where the pair is pinned or its equation,
  -- read under the starting marking changed at the pairs taken, gives that opposite
  pub turns : Each F B (λ s i. (standing F d B pins taken s i ≡ not (start d)) ↔ ((among s i pins ≡ true) ⊎ (true_at F B (changed d taken) s i ≡ not (start d))))
  -- query tells these marks, sheet writes them and the reported looks, and both change nothing
  pub queries : Each F B (λ s i.
      Gives F d (book B pins taken looks) (query s i) (told (mark_of d (standing F d B pins taken s i) (settled F d B pins taken)) (among s i pins)) (book B pins taken looks))
  pub sheets : (room : ℕ) → length (page F d B pins taken (reported es)) ≤ room →
      Gives F d (book B pins taken looks) (sheet room) (written (page F d B pins taken (reported es))) (book B pins taken looks)
  -- every other history that settles this book with these pins shows the same
  pub agrees : (es' : List Event) (pins' taken' : List Pair) (looks' : ℕ) → Leads F d no_book es' (book B pins' taken' looks') →
      settled F d B pins taken ≡ true → settled F d B pins' taken' ≡ true →
      SamePins F B pins pins' →
      Alike F d B pins taken looks pins' taken' looks' × (reported es ≡ reported es')
  pub goes_on : GoesOn F d B pins taken looks

-- the law over runs: the history es of calls, choices and answers leads from a new session to q, and all that follows from that
pub record LawOfRuns (F : Lts) (d : Fixpoint) (es : List Event) (q : Plain) : Type 0 where
  pub leads : Leads F d no_book es q
  pub allowed : (c : PlainCall) → (ps : List Pair) × Allowed F d q c ps
  pub unchanged : Unchanged F d q
  pub with_book : (B : List Equation) (pins taken : List Pair) (looks : ℕ) → q ≡ book B pins taken looks → BookLaw F d es B pins taken looks

-- it holds of every history
abbrev pub AllRuns : Type 0
AllRuns = (F : Lts) (d : Fixpoint) (es : List Event) (q : Plain) → Leads F d no_book es q → LawOfRuns F d es q
