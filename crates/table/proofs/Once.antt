-- Counting the records of a list that pass a test, where at most one does.
use Rattle.std.proofs.Common.{◌≡◌, ℕ, ◌<◌, ◌≤◌, Bool, true, false, cond, List, length, get_or, refl, ap, ⊎_elim, arith}
use Rattle.std.proofs.lemmas.Bool.{cases_Bool, cases_lt}
use Rattle.semantics.specs.Lts.{sum}
use Rattle.semantics.proofs.Sums.{sum_part}
use Rattle.semantics.proofs.Counting.{one_of, two_of}
use Rattle.table.specs.Records.{has}
use Rattle.table.proofs.Listing.{has_at, has_from}

few : (b : Bool) → cond b 1 0 ≤ 1
few true = omega arith
few false = omega arith

passed : (b : Bool) → 1 ≤ cond b 1 0 → b ≡ true
passed true h = refl
passed false h = absurd (omega arith)

module _ {X : Type 0} (test : X → Bool) (xs : List X) (d : X) where
  abbrev count : ℕ → ℕ
  count k = cond (test (get_or xs k d)) 1 0

  pub count_once : ((k j : ℕ) → k < j → j < length xs → test (get_or xs k d) ≡ true → test (get_or xs j d) ≡ true → ⊥) → sum (length xs) count ≡ cond (has test xs) 1 0
  count_once apart =
      ⊎_elim
      (λ (p : 1 < sum (length xs) count).
      let w = two_of (length xs) count (λ k. few (test (get_or xs k d))) (omega arith) in
      absurd (apart w.0 w.1 w.2 w.3 (passed (test (get_or xs w.0 d)) w.4) (passed (test (get_or xs w.1 d)) w.5)))
      (λ (p : sum (length xs) count ≤ 1).
      ⊎_elim
      (λ (q : 0 < sum (length xs) count).
      let w = one_of (length xs) count (omega arith) in
      let yes : has test xs ≡ true = has_from test xs w.0 d w.1 (passed (test (get_or xs w.0 d)) w.2) in
      let one : cond (has test xs) 1 0 ≡ 1 = ap {B = ℕ} (λ b. cond b 1 0) yes in
      omega arith)
      (λ (q : sum (length xs) count ≤ 0).
      let no : has test xs ≡ false = ⊎_elim
      (λ (e : has test xs ≡ true).
      let w = has_at test xs e in
      let one : count w.0 ≡ 1 = ap {B = ℕ} (λ b. cond b 1 0) (w.2 d) in
      absurd (omega (arith, sum_part (length xs) w.0 count w.1)))
      (λ (e : has test xs ≡ false). e)
      (cases_Bool (has test xs)) in
      let none : cond (has test xs) 1 0 ≡ 0 = ap {B = ℕ} (λ b. cond b 1 0) no in
      omega arith)
      (cases_lt 0 (sum (length xs) count)))
      (cases_lt 1 (sum (length xs) count))
