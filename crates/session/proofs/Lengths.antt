-- No sheet has more than 71,780 bytes.
use Rattle.std.proofs.Common.{◌≡◌, ℕ, zero, suc, ◌+◌, ◌*◌, ◌/◌, ◌^◌, ◌<◌, ◌≤◌, Bool, true, false, cond, eqb, List, length, codes, decimal, refl, div-le_self, arith, length-append}
use Rattle.std.proofs.lemmas.Fmt.{length-decimal-le}
use Rattle.std.proofs.lemmas.Bool.{cond_both}
use Rattle.records.specs.declared.Fixpoint.{Fixpoint}
use Rattle.records.specs.declared.Fixpoint.TheVariants.{Greatest, Least}
use Rattle.semantics.specs.declared.Equation.{Equation}
use Rattle.semantics.specs.declared.Pair.{Pair}
use Rattle.semantics.specs.Lts.{Lts}
use Rattle.semantics.specs.Equations.{Marking}
use Rattle.semantics.specs.Plain.{settled, standing, marked, share, letter, lines, page}
use Rattle.semantics.proofs.Sums.{sum_le, sum_const}
use Rattle.semantics.proofs.Looks.{costs_bound}
use Rattle.lts.specs.Source.{Answers, Shows}
use Rattle.board.specs.State.{State}
use Rattle.refinement.specs.Represents.{Shown}
use Rattle.refinement.proofs.Bounding.{inside_taken, most_le}

digits : (n : ℕ) → n < 2 ^ 64 → length (decimal n) ≤ 20
digits n h = length-decimal-le 20 n (omega arith) (omega arith) h

one_low : (b : Bool) → cond b 1 0 ≤ 1
one_low true = omega arith
one_low false = omega arith

marked_low : (F : Lts) (M : Marking) (i : ℕ) → marked F M i ≤ F.states
unfolding marked
marked_low F M i =
    let a = sum_le F.states (λ s. cond (M s i) 1 0) (λ s. 1) (λ s _. one_low (M s i)) in
    let b = sum_const F.states 1 in
    omega arith

share_low : (N m : ℕ) → share N m ≤ 2000 * m + N
unfolding share
share_low N m = cond_both (eqb N 0) 0 ((2000 * m + N) / (2 * N)) (λ (x : ℕ). x ≤ 2000 * m + N) (λ _. omega arith) (λ _. div-le_self (2000 * m + N) (2 * N))

lines_long : (F : Lts) (M : Marking) → F.states ≤ 4096 → (i : ℕ) → i ≤ 1024 → length (lines F M i) ≤ 70 * i
unfolding lines
lines_long F M few zero l = omega arith
lines_long F M few (suc i) l =
    let before = lines_long F M few i (omega arith) in
    let m = marked F M i in
    let low = marked_low F M i in
    let part = share_low F.states m in
    let a = digits i (omega arith) in
    let b = digits m (omega arith) in
    let c = digits (share F.states m) (omega arith) in
    simp length-append (omega arith)

letter_long : (d : Fixpoint) → length (letter d) ≡ 1
letter_long Greatest = refl
letter_long Least = refl

flag_long : (b : Bool) → length (cond b (codes "1") (codes "0")) ≡ 1
flag_long true = refl
flag_long false = refl

page_long : (F : Lts) (d : Fixpoint) (B : List Equation) (pins taken : List Pair) (looks : ℕ) → F.states ≤ 4096 → length B ≤ 1024 → looks < 2 ^ 64 → length (page F d B pins taken looks) ≤ 71780
unfolding page
page_long F d B pins taken looks few small low =
    let a = digits F.states (omega arith) in
    let b = digits (length B) (omega arith) in
    let c = digits looks low in
    let e = letter_long d in
    let f = flag_long (settled F d B pins taken) in
    let g = lines_long F (standing F d B pins taken) few (length B) small in
    simp length-append (omega arith)

-- of a board that represents a session with a book
pub shown_long : (A : Answers) (F : Lts) → Shows A F → (d : Fixpoint) (σ : State) (B : List Equation) (pins taken : List Pair) (looks : ℕ) → Shown F d σ B pins taken looks → length (page F d B pins taken looks) ≤ 71780
shown_long A F shows d σ B pins taken looks h =
    let a = costs_bound F B taken h.once (inside_taken A F shows d σ B pins taken looks h) in
    let b = h.summed in
    let c = most_le A F shows B h.formed h.small h.few_equations in
    page_long F d B pins taken looks shows.bounded.few_states h.few_equations (omega arith)
