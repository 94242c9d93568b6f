-- What the calls of a session return, as answers of the plain session.
use Rattle.std.specs.Prelude.{◌≡◌, ℕ, Bool, List, take, drop, Ok, Err, Result}
use Rattle.semantics.specs.declared.Mark.{Mark}
use Rattle.semantics.specs.declared.Refusal.{Refusal}
use Rattle.semantics.specs.Calls.{reply}
use Rattle.semantics.specs.Plain.{PlainAnswer, loaded, pinned, ran, told, written}

-- load returns nothing
abbrev pub load_reply : Result (Unit {0}) Refusal → PlainAnswer
load_reply r = reply (λ _. loaded) r

-- pin returns whether the pair turned now
abbrev pub pin_reply : Result Bool Refusal → PlainAnswer
pin_reply r = reply pinned r

-- run returns whether the session is settled, the pairs taken and the looks made
abbrev pub run_reply : Result (Bool × ℕ × ℕ) Refusal → PlainAnswer
run_reply r = reply (λ x. ran x.0 x.1 x.2) r

-- query returns the mark and whether the pair is pinned
abbrev pub query_reply : Result (Mark × Bool) Refusal → PlainAnswer
query_reply r = reply (λ x. told x.0 x.1) r

-- sheet returns how many bytes it wrote at the front of the buffer
abbrev pub sheet_reply : List ℕ → Result ℕ Refusal → PlainAnswer
sheet_reply after r = reply (λ n. written (take n after)) r

-- behind those bytes the buffer is as before; where the call is refused, all of it is
abbrev pub RestKept : (before after : List ℕ) → Result ℕ Refusal → Type 0
RestKept before after (Ok n) = drop n after ≡ drop n before
RestKept before after (Err e) = after ≡ before
