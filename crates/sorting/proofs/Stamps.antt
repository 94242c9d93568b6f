-- The numbers of a row, stamped one after the other.
use Rattle.std.proofs.Common.{◌≡◌, ℕ, ◌+◌, ◌<◌, ◌≤◌, true, false, ◌||◌, eqb, List, length, get_or, set, sym, ap, ◌∙◌, subst, ⊎_elim, arith, length-set}
use Rattle.std.proofs.lemmas.List.{get_or-set_same, get_or-set_other}
use Rattle.std.proofs.lemmas.Bool.{cases_eq, cases_lt, eq-eqb, ne_eqb, or_left, or_right}
use Rattle.semantics.specs.Lts.{some}
use Rattle.semantics.proofs.Everywhere.{some_from, some_none, some_more, some_zero}
use Rattle.sorting.specs.Sorting.{Under}
use Rattle.sorting.specs.Repetition.{twice}

-- After c numbers of the row from b on: they differ, and they are what is stamped.
pub record Stamped (items : List ℕ) (b c : ℕ) (stamps : List ℕ) (stamp : ℕ) : Type 0 where
  pub most : (v : ℕ) → v < length stamps → get_or stamps v 0 ≤ stamp
  pub marked : (k : ℕ) → k < c → get_or stamps (get_or items (b + k) 0) 0 ≡ stamp
  pub seen : (v : ℕ) → v < length stamps → get_or stamps v 0 ≡ stamp → some c (λ k. eqb (get_or items (b + k) 0) v) ≡ true
  pub differ : twice items b c ≡ false

front : (row : List ℕ) (p : ℕ) → get_or row (0 + p) 0 ≡ get_or row p 0
front row p = ap (λ k. get_or row k 0) (let e : 0 + p ≡ p = omega arith in e)

twice_none : (items : List ℕ) (b : ℕ) → twice items b 0 ≡ false
unfolding twice
twice_none items b = some_zero _

twice_more : (items : List ℕ) (b c : ℕ) → twice items b c ≡ false → ((k : ℕ) → k < c → get_or items (b + k) 0 ≡ get_or items (b + c) 0 → ⊥) → twice items b (c + 1) ≡ false
unfolding twice
twice_more items b c e new =
    some_more c _ ∙ ap (λ t. t || some c (λ k. eqb (get_or items (b + k) 0) (get_or items (b + c) 0))) e ∙
    some_none c _ (λ k h. ne_eqb (get_or items (b + k) 0) (get_or items (b + c) 0) (new k h))

pub stamped_none : (items : List ℕ) (b : ℕ) (stamps : List ℕ) (stamp : ℕ) → Under stamp stamps → Stamped items b 0 stamps stamp
stamped_none items b stamps stamp older = record {
  most = λ v h. omega (arith, older v h);
  marked = λ k h. absurd (omega arith);
  seen = λ v h e. absurd (omega (arith, older v h));
  differ = twice_none items b;
}

-- one more number, which has no stamp yet
pub stamped_more : (items : List ℕ) (b c : ℕ) (stamps : List ℕ) (stamp : ℕ) → Stamped items b c stamps stamp →
    get_or items (b + c) 0 < length stamps → (get_or stamps (get_or items (b + c) 0) 0 ≡ stamp → ⊥) → Stamped items b (c + 1) (set stamps (get_or items (b + c) 0) stamp) stamp
stamped_more items b c stamps stamp before within fresh = record {
  most = λ v h.
      ⊎_elim
      (λ (q : v ≡ x). omega (arith, ap (λ w. get_or (set stamps x stamp) w 0) q, here))
      (λ (q : v ≡ x → ⊥). omega (arith, get_or-set_other stamps x v stamp 0 q, before.most v (rw length-set at h)))
      (cases_eq v x);
  marked = λ k h.
      let y = get_or items (b + k) 0 in
      ⊎_elim
      (λ (q : y ≡ x). ap (λ w. get_or (set stamps x stamp) w 0) q ∙ here)
      (λ (q : y ≡ x → ⊥).
      let l : k < c = ⊎_elim (λ (l : k < c). l) (λ (l : c ≤ k). absurd (q (let e : k ≡ c = omega arith in ap (λ j. get_or items (b + j) 0) e))) (cases_lt k c) in
      get_or-set_other stamps x y stamp 0 q ∙ before.marked k l)
      (cases_eq y x);
  seen = λ v h e.
      some_more c (λ k. eqb (get_or items (b + k) 0) v) ∙
      ⊎_elim
      (λ (q : v ≡ x). or_right (some c (λ k. eqb (get_or items (b + k) 0) v)) (eqb x v) (eq-eqb x v (sym q)))
      (λ (q : v ≡ x → ⊥).
      or_left (some c (λ k. eqb (get_or items (b + k) 0) v)) (eqb x v) (before.seen v (rw length-set at h) (sym (get_or-set_other stamps x v stamp 0 q) ∙ e)))
      (cases_eq v x);
  differ = twice_more items b c before.differ (λ k h q. fresh (ap (λ w. get_or stamps w 0) (sym q) ∙ before.marked k h));
}
  where
    x : ℕ
    x = get_or items (b + c) 0

    here : get_or (set stamps x stamp) x 0 ≡ stamp
    here = get_or-set_same stamps x stamp 0 within

-- a number that has its stamp stands twice
pub stamped_hit : (items : List ℕ) (b c n : ℕ) (stamps : List ℕ) (stamp : ℕ) → Stamped items b c stamps stamp → c < n →
    get_or items (b + c) 0 < length stamps → get_or stamps (get_or items (b + c) 0) 0 ≡ stamp → twice items b n ≡ true
unfolding twice
stamped_hit items b c n stamps stamp before less within e =
    some_from n c (λ j. some j (λ k. eqb (get_or items (b + k) 0) (get_or items (b + j) 0))) less (before.seen (get_or items (b + c) 0) within e)

-- the same of a whole list, at place p
pub stamped_at : (row : List ℕ) (p : ℕ) (stamps : List ℕ) (stamp : ℕ) → Stamped row 0 p stamps stamp →
    get_or row p 0 < length stamps → (get_or stamps (get_or row p 0) 0 ≡ stamp → ⊥) → Stamped row 0 (p + 1) (set stamps (get_or row p 0) stamp) stamp
stamped_at row p stamps stamp before within fresh =
    subst (λ (v : ℕ). Stamped row 0 (p + 1) (set stamps v stamp) stamp) (front row p)
    (stamped_more row 0 p stamps stamp before (omega (arith, front row p)) (λ q. fresh (ap (λ v. get_or stamps v 0) (sym (front row p)) ∙ q)))

pub hit_at : (row : List ℕ) (p : ℕ) (stamps : List ℕ) (stamp : ℕ) → p < length row → Stamped row 0 p stamps stamp →
    get_or row p 0 < length stamps → get_or stamps (get_or row p 0) 0 ≡ stamp → twice row 0 (length row) ≡ true
hit_at row p stamps stamp less before within e =
    stamped_hit row 0 p (length row) stamps stamp before less (omega (arith, front row p)) (ap (λ v. get_or stamps v 0) (front row p) ∙ e)
