-- What the calls, answers and refusals of a session in Rust mean.
use Rattle.std.specs.Prelude.{◌≡◌, ℕ, List, map, vec_items, Ok, Err, Result}
use Rattle.semantics.specs.declared.Refusal.{Refusal}
use Rattle.semantics.specs.declared.Refusal.TheVariants.{NoBook, NoPair, TooManyPairs, BadEquation, ShortBuffer}
use Rattle.semantics.specs.declared.Call.{Call}
use Rattle.semantics.specs.declared.Call.TheVariants.{Load, Pin, Run, Query, Sheet}
use Rattle.semantics.specs.declared.Answer.{Answer}
use Rattle.semantics.specs.declared.Answer.TheVariants.{Loaded, Pinned, Ran, Told, Written}
use Rattle.semantics.specs.Plain.{PlainCall, load, pin, run, query, sheet, PlainAnswer, refused, loaded, pinned, ran, told, written, Event}

-- the number of a refusal
abbrev pub number_of : Refusal → ℕ
number_of NoBook = 10
number_of NoPair = 11
number_of TooManyPairs = 12
number_of BadEquation = 13
number_of ShortBuffer = 16

-- the call of the plain session that a call is
abbrev pub call_of : Call → PlainCall
call_of (Load rs) = load rs.now
call_of (Pin s i) = pin s i
call_of (Run k) = run k
call_of (Query s i) = query s i
call_of (Sheet room) = sheet room

-- the answer of the plain session that an answer is
abbrev pub answer_of : Answer → PlainAnswer
answer_of Loaded = loaded
answer_of (Pinned turned) = pinned turned
answer_of (Ran settled taken looks) = ran settled taken looks
answer_of (Told mark pin?) = told mark pin?
answer_of (Written bytes) = written (vec_items bytes)

-- the answer of the plain session that a call's result is: what it returns, or its refusal's number
abbrev pub reply : {X : Type 0} → (X → PlainAnswer) → Result X Refusal → PlainAnswer
reply answer (Ok x) = answer x
reply answer (Err r) = refused (number_of r)

abbrev pub reply_of : Result Answer Refusal → PlainAnswer
reply_of r = reply answer_of r

-- the events of a history have these calls and these answers, in turn
pub record Makes (es : List Event) (calls : List Call) (answers : List (Result Answer Refusal)) : Type 0 where
  pub called : map (λ e. e.call) es ≡ map call_of calls
  pub answered : map (λ e. e.answer) es ≡ map reply_of answers
