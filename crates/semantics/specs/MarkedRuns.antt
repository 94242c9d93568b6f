-- Small runs with every call, the pairs that the runs take, and every answer.
use Rattle.std.specs.Prelude.{◌≡◌, ℕ, Bool, true, false, cond, ◌&&◌, ◌||◌, List, [], ◌∷◌, ◌++◌, length, replicate, codes, ◌==◌, slice_index}
use Prim.Native.String.{String}
use Rattle.records.specs.declared.Fixpoint.{Fixpoint}
use Rattle.records.specs.declared.Fixpoint.TheVariants.{Greatest, Least}
use Rattle.records.specs.declared.EquationRecord.{EquationRecord}
use Rattle.semantics.specs.declared.Pair.{Pair}
use Rattle.semantics.specs.declared.Mark.TheVariants.{Lost, Held, Open}
use Rattle.semantics.specs.Lts.{Lts}
use Rattle.semantics.specs.Plain.{pair, PlainCall, load, pin, run, query, sheet, PlainAnswer, refused, loaded, pinned, ran, told, written, Plain, no_book, Event, Leads}
use Rattle.semantics.specs.Preorder.{related}

-- How runs are written

-- an equation record, its form as a text of one character
abbrev pub entry : String → ℕ → ℕ → EquationRecord
entry form x y = record { form = slice_index (codes form) 0; first = x; second = y }

-- a call that takes no pair, with its answer
abbrev pub asks : PlainCall → PlainAnswer → Event
asks c a = record { call = c; chosen = []; answer = a }

-- a run with the number of pairs that it may take, those that it takes, and its answer
abbrev pub runs : ℕ → List Pair → PlainAnswer → Event
runs k ps a = record { call = run k; chosen = ps; answer = a }

-- a line of a sheet
abbrev pub line : String → List ℕ
line s = codes s ++ 10 ∷ []

-- a new session can make this history
pub record Happens (F : Lts) (d : Fixpoint) (es : List Event) : Type 0 where
  pub end : Plain
  pub leads : Leads F d no_book es end

-- a new session can not make it: some run takes what it may not
pub record Never (F : Lts) (d : Fixpoint) (es : List Event) : Type 0 where
  pub not : Happens F d es → ⊥

-- Systems

-- four states: 0 goes to 1 on action 0, and 1 goes to 2 on action 1 and to 3 on action 2; atom 0 holds but at 2
abbrev pub chain : Lts
chain = record {
  states = 4;
  actions = 3;
  atoms = 1;
  transitions = λ s a t. cond ((s == 0 && a == 0 && t == 1) || (s == 1 && a == 1 && t == 2) || (s == 1 && a == 2 && t == 3)) 1 0;
  divergent = λ s a. false;
  holds = λ p s. (p == 0) && (s == 0 || s == 1 || s == 3);
}

-- one state and one action: m transitions to itself, divergent or not
abbrev pub single : ℕ → Bool → Lts
single m diverges = record { states = 1; actions = 1; atoms = 0; transitions = λ s a t. m; divergent = λ s a. diverges; holds = λ p s. false }

-- n states without transitions; the one atom holds at state 0 alone
abbrev pub still : ℕ → Lts
still n = record { states = n; actions = 1; atoms = 1; transitions = λ s a t. 0; divergent = λ s a. false; holds = λ p s. (p == 0) && (s == 0) }

-- state 0 goes to 1 and to 2 on the one action; the atom holds at 1; 2 is divergent
abbrev pub fork : Lts
fork = record { states = 3; actions = 1; atoms = 1; transitions = λ s a t. cond (s == 0 && (t == 1 || t == 2)) 1 0; divergent = λ s a. (s == 2); holds = λ p s. (s == 1) }

-- n equations t
abbrev pub truths : ℕ → List EquationRecord
truths n = replicate n (entry "t" 0 0)

-- The runs

-- four states and seven equations: everything that can be reached keeps atom 0
abbrev pub reachable : List EquationRecord
reachable = entry "&" 1 2 ∷ entry "A" 0 0 ∷ entry "&" 3 4 ∷ entry "[" 0 0 ∷ entry "&" 5 6 ∷ entry "[" 1 0 ∷ entry "[" 2 0 ∷ []

-- the first pairs to be taken, in one order
abbrev pub first_four : List Pair
first_four = pair 2 1 ∷ pair 2 0 ∷ pair 1 5 ∷ pair 1 4 ∷ []

-- and the others
abbrev pub last_five : List Pair
last_five = pair 1 2 ∷ pair 1 0 ∷ pair 0 3 ∷ pair 0 2 ∷ pair 0 0 ∷ []

-- the sheet when all are taken
abbrev pub settled_sheet : List ℕ
settled_sheet =
    line "M,G,4,7,1,17" ++ line "V,0,1,250" ++ line "V,1,3,750" ++ line "V,2,2,500" ++ line "V,3,3,750" ++ line "V,4,3,750" ++ line "V,5,3,750" ++ line "V,6,4,1000"

-- the sheet when the first four are taken
abbrev pub open_sheet : List ℕ
open_sheet =
    line "M,G,4,7,0,8" ++ line "V,0,3,750" ++ line "V,1,3,750" ++ line "V,2,3,750" ++ line "V,3,4,1000" ++ line "V,4,3,750" ++ line "V,5,3,750" ++ line "V,6,4,1000"

-- t and f, and what | and & make of them
abbrev pub truth_table : List EquationRecord
truth_table = entry "t" 0 0 ∷ entry "f" 0 0 ∷ entry "|" 0 1 ∷ entry "|" 1 0 ∷ entry "|" 1 1 ∷ entry "&" 0 1 ∷ entry "&" 1 0 ∷ entry "&" 0 0 ∷ []

-- and what a sheet says of them
abbrev pub truth_lines : List ℕ
truth_lines = line "V,0,1,1000" ++ line "V,1,0,0" ++ line "V,2,1,1000" ++ line "V,3,1,1000" ++ line "V,4,0,0" ++ line "V,5,0,0" ++ line "V,6,0,0" ++ line "V,7,1,1000"

-- one state, one equation: loaded, run to the end and queried
abbrev pub one_run : EquationRecord → List Pair → ℕ → PlainAnswer → List Event
one_run r ps looks a = asks (load (r ∷ [])) loaded ∷ runs 65535 ps (ran true (length ps) looks) ∷ asks (query 0 0) a ∷ []

-- the same, with the pair pinned before the run
abbrev pub one_pinned_run : EquationRecord → List Pair → ℕ → PlainAnswer → List Event
one_pinned_run r ps looks a =
    asks (load (r ∷ [])) loaded ∷ asks (pin 0 0) (pinned true) ∷ runs 65535 ps (ran true (length ps) looks) ∷ asks (query 0 0) a ∷ []

-- a load that is accepted
abbrev pub Accepts : Lts → List EquationRecord → Type 0
Accepts F rs = Happens F Greatest (asks (load rs) loaded ∷ [])

-- a load that is refused
abbrev pub Refuses : Lts → List EquationRecord → ℕ → Type 0
Refuses F rs number = Happens F Greatest (asks (load rs) (refused number) ∷ [])

-- one equation that is refused
abbrev pub wrong : String → ℕ → ℕ → Event
wrong form x y = asks (load (entry form x y ∷ [])) (refused 13)

-- each of these runs happens as it is written, or never
pub record MarkedRuns : Type 0 where
  -- the job, settled at once
  pub job : Happens chain Greatest (asks (load reachable) loaded ∷ runs 28 (first_four ++ last_five) (ran true 9 17) ∷ asks (sheet 84) (written settled_sheet) ∷ [])
  -- the same in two runs, and what is told on the way: a pair that is on stays open until the session is settled
  pub job_in_two : Happens chain Greatest (
      asks (load reachable) loaded ∷ asks (query 0 0) (told Open false) ∷ asks (query 2 1) (told Lost false) ∷
      runs 0 [] (ran false 0 0) ∷ runs 4 first_four (ran false 4 8) ∷
      asks (query 1 4) (told Lost false) ∷ asks (query 0 0) (told Open false) ∷ asks (sheet 84) (written open_sheet) ∷
      runs 5 last_five (ran true 5 9) ∷ runs 65535 [] (ran true 0 0) ∷
      asks (query 0 0) (told Lost false) ∷ asks (query 3 0) (told Held false) ∷ asks (sheet 84) (written settled_sheet) ∷ [])
  -- 0 = | 1 1, 1 = f: both lost, 4 looks
  pub two_places : Happens (single 0 false) Greatest (
      asks (load (entry "|" 1 1 ∷ entry "f" 0 0 ∷ [])) loaded ∷ runs 65535 (pair 0 1 ∷ pair 0 0 ∷ []) (ran true 2 4) ∷
      asks (query 0 0) (told Lost false) ∷ asks (query 0 1) (told Lost false) ∷ [])
  -- the same marks from both sides
  pub table_greatest : Happens (single 0 false) Greatest (
      asks (load truth_table) loaded ∷ runs 65535 (pair 0 1 ∷ pair 0 4 ∷ pair 0 5 ∷ pair 0 6 ∷ []) (ran true 4 10) ∷ asks (sheet 99) (written (line "M,G,1,8,1,10" ++ truth_lines)) ∷ [])
  pub table_least : Happens (single 0 false) Least (
      asks (load truth_table) loaded ∷ runs 65535 (pair 0 0 ∷ pair 0 7 ∷ pair 0 3 ∷ pair 0 2 ∷ []) (ran true 4 10) ∷ asks (sheet 99) (written (line "M,L,1,8,1,10" ++ truth_lines)) ∷ [])
  -- a diamond wants some transition, a box every one and no divergence
  pub modalities : Happens fork Least (
      asks (load (entry "A" 0 0 ∷ entry "<" 0 0 ∷ entry "[" 0 0 ∷ [])) loaded ∷ runs 65535 (pair 1 2 ∷ pair 1 0 ∷ pair 0 1 ∷ []) (ran true 3 5) ∷
      asks (query 0 1) (told Held false) ∷ asks (query 1 1) (told Lost false) ∷ asks (query 0 2) (told Lost false) ∷ asks (query 1 2) (told Held false) ∷ asks (query 2 2) (told Lost false) ∷ [])
  -- 0 = & 0 0
  pub and_greatest : Happens (single 0 false) Greatest (one_run (entry "&" 0 0) [] 0 (told Held false))
  pub and_least : Happens (single 0 false) Least (one_run (entry "&" 0 0) [] 0 (told Lost false))
  -- 0 = [ 0 0, divergent: lost on both sides
  pub divergent_greatest : Happens (single 0 true) Greatest (one_run (entry "[" 0 0) (pair 0 0 ∷ []) 1 (told Lost false))
  pub divergent_least : Happens (single 0 true) Least (one_run (entry "[" 0 0) [] 0 (told Lost false))
  -- defined, without transition: held on both
  pub defined_greatest : Happens (single 0 false) Greatest (one_run (entry "[" 0 0) [] 0 (told Held false))
  pub defined_least : Happens (single 0 false) Least (one_run (entry "[" 0 0) (pair 0 0 ∷ []) 1 (told Held false))
  -- 0 = < 0 0 with a transition to itself
  pub loop_greatest : Happens (single 1 false) Greatest (one_run (entry "<" 0 0) [] 0 (told Held false))
  pub loop_least : Happens (single 1 false) Least (one_run (entry "<" 0 0) [] 0 (told Lost false))
  pub loop_pinned : Happens (single 1 false) Greatest (one_pinned_run (entry "<" 0 0) (pair 0 0 ∷ []) 2 (told Lost true))
  pub loop_pinned_least : Happens (single 1 false) Least (one_pinned_run (entry "<" 0 0) (pair 0 0 ∷ []) 2 (told Held true))
  -- two such states side by side, of which either moves: two transitions
  pub twice_pinned : Happens (single 2 false) Greatest (one_pinned_run (entry "<" 0 0) (pair 0 0 ∷ []) 3 (told Lost true))
  -- a pin does not turn a pair that is pinned or lost, and is told all the same; a new book drops it
  pub pinning : Happens (single 1 false) Greatest (
      asks (load (entry "<" 0 0 ∷ entry "f" 0 0 ∷ [])) loaded ∷ asks (pin 0 0) (pinned true) ∷ asks (pin 0 0) (pinned false) ∷ asks (pin 0 1) (pinned false) ∷
      asks (query 0 0) (told Lost true) ∷ runs 65535 (pair 0 1 ∷ pair 0 0 ∷ []) (ran true 2 3) ∷ asks (pin 0 0) (pinned false) ∷
      asks (load (entry "<" 0 0 ∷ [])) loaded ∷ asks (query 0 0) (told Held false) ∷ asks (sheet 99) (written (line "M,G,1,1,1,0" ++ line "V,0,1,1000")) ∷ [])
  -- least: a pair that is off stays open until the session is settled
  pub least_open : Happens (still 1) Least (
      asks (load (entry "|" 1 0 ∷ entry "A" 0 0 ∷ [])) loaded ∷ asks (query 0 0) (told Open false) ∷ asks (query 0 1) (told Held false) ∷
      runs 1 (pair 0 1 ∷ []) (ran false 1 2) ∷ asks (query 0 0) (told Held false) ∷ runs 1 (pair 0 0 ∷ []) (ran true 1 2) ∷ [])
  -- a run does not stop early, does not take too many, and takes only pairs that wait, each once
  pub not_early : Never chain Greatest (asks (load reachable) loaded ∷ runs 5 first_four (ran false 4 8) ∷ [])
  pub not_too_many : Never chain Greatest (asks (load reachable) loaded ∷ runs 3 first_four (ran false 4 8) ∷ [])
  pub not_waiting : Never chain Greatest (asks (load reachable) loaded ∷ runs 1 (pair 2 0 ∷ []) (ran false 1 2) ∷ [])
  pub not_again : Never chain Greatest (asks (load reachable) loaded ∷ runs 2 (pair 2 1 ∷ pair 2 1 ∷ []) (ran false 2 4) ∷ [])
  pub not_outside : Never chain Greatest (asks (load reachable) loaded ∷ runs 1 (pair 4 1 ∷ []) (ran false 1 2) ∷ [])
  pub not_a_variable : Never chain Greatest (asks (load reachable) loaded ∷ runs 1 (pair 2 7 ∷ []) (ran false 1 1) ∷ [])
  pub only_runs : Never chain Greatest (asks (load reachable) loaded ∷ record { call = query 2 1; chosen = pair 2 1 ∷ []; answer = told Lost false } ∷ [])
  -- shares to the nearest, an exact half up
  pub share_of_3 : Happens (still 3) Least (
      asks (load (entry "A" 0 0 ∷ [])) loaded ∷ runs 65535 (pair 0 0 ∷ []) (ran true 1 1) ∷ asks (sheet 99) (written (line "M,L,3,1,1,1" ++ line "V,0,1,333")) ∷ [])
  pub share_of_16 : Happens (still 16) Least (
      asks (load (entry "A" 0 0 ∷ [])) loaded ∷ runs 65535 (pair 0 0 ∷ []) (ran true 1 1) ∷ asks (sheet 99) (written (line "M,L,16,1,1,1" ++ line "V,0,1,63")) ∷ [])
  pub share_of_none : Happens (still 0) Greatest (
      asks (load (entry "A" 0 0 ∷ [])) loaded ∷ runs 65535 [] (ran true 0 0) ∷ asks (sheet 99) (written (line "M,G,0,1,1,0" ++ line "V,0,0,0")) ∷ [])
  -- before a load all but load are refused, whatever else is wrong
  pub no_book_yet : Happens chain Greatest (
      asks (pin 4 0) (refused 10) ∷ asks (run 9) (refused 10) ∷ asks (query 4 0) (refused 10) ∷ asks (sheet 0) (refused 10) ∷ [])
  -- no such pair; a buffer that is too short; a refused call changes nothing
  pub refusals : Happens chain Greatest (
      asks (load reachable) loaded ∷ asks (pin 4 0) (refused 11) ∷ asks (pin 0 7) (refused 11) ∷ asks (query 4 0) (refused 11) ∷ asks (query 0 7) (refused 11) ∷
      runs 28 (first_four ++ last_five) (ran true 9 17) ∷ asks (sheet 83) (refused 16) ∷ asks (load []) (refused 13) ∷ asks (sheet 84) (written settled_sheet) ∷ [])
  -- the number of equations, and of pairs
  pub at_least_one : Refuses (still 1) [] 13
  pub at_most_1024 : Accepts (still 8) (truths 1024)
  pub not_1025 : Refuses (still 1) (truths 1025) 13
  pub pairs_8192 : Accepts (still 8192) (truths 1)
  pub not_8193 : Refuses (still 8193) (truths 1) 12
  pub form_before_pairs : Refuses (still 8193) (entry "x" 0 0 ∷ []) 13
  -- what an equation may name; a variable, action or atom that is not there, an unused place that is not 0
  pub names_there : Accepts (still 1) (entry "t" 0 0 ∷ entry "f" 0 0 ∷ entry "A" 0 0 ∷ entry "|" 6 0 ∷ entry "&" 0 6 ∷ entry "<" 0 6 ∷ entry "[" 0 6 ∷ [])
  pub names_wrong : Happens (still 1) Greatest (
      wrong "|" 1 0 ∷ wrong "|" 0 1 ∷ wrong "&" 1 0 ∷ wrong "&" 0 1 ∷ wrong "<" 0 1 ∷ wrong "[" 0 1 ∷ wrong "<" 1 0 ∷ wrong "[" 1 0 ∷ wrong "A" 1 0 ∷
      wrong "A" 0 1 ∷ wrong "t" 1 0 ∷ wrong "t" 0 1 ∷ wrong "f" 1 0 ∷ wrong "f" 0 1 ∷ [])
  -- a model state that is divergent, without transitions, relates to a state with a transition; a defined one does not
  pub divergent_relates : related (single 0 true) (single 1 false) 0 0 ≡ true
  pub defined_does_not : related (single 0 false) (single 1 false) 0 0 ≡ false
