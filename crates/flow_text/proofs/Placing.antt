-- A record that is put behind those of its kind, or has no place there.
use Rattle.std.proofs.Common.{◌≡◌, ℕ, zero, suc, ◌+◌, ◌<◌, min, Bool, true, false, List, [], ◌∷◌, ◌++◌, length, get_or, take, set, Some, None, sym, refl, ap, ◌∙◌, subst, inl, inr, append-nil, arith}
use Rattle.std.specs.List.{ContainsAt as Has}
use Rattle.std.proofs.lemmas.List.{length_push}
use Rattle.std.proofs.lemmas.Bool.{or_cases, or_left, or_right, cases_Bool, lt-ltb, le-ltb, both_ways}
use Rattle.fields.specs.declared.fault.Fault.{Fault}
use Rattle.flow_text.specs.Lists.{Unplaced}
use Rattle.lines.specs.Lent.{Filled}
use Rattle.lines.proofs.Filling.{filled_long, filled_front, filled_more}
use Rattle.flow_text.specs.Flows.{among, place, Row}

-- a test that is true of equal ones, and of no others
pub record Tells {X : Type 0} (same : X → X → Bool) : Type 0 where
  pub equal : (x y : X) → same x y ≡ true → x ≡ y
  pub itself : (x : X) → same x x ≡ true

module _ {X : Type 0} (same : X → X → Bool) (tells : Tells same) where
  among_has : (xs : List X) (x : X) → among same xs x ≡ true → Has xs x
  unfolding among
  among_has [] x e = absurd (both_ways false refl e)
  among_has (y ∷ ys) x e =
      elim (or_cases (same y x) (among same ys x) e) [
        | inl s ↦ (0, omega arith, λ d. tells.equal y x s)
        | inr r ↦ let h = among_has ys x r in (suc h.0, omega (arith, h.1), h.2)
      ]

  has_among : (xs : List X) (x : X) (k : ℕ) → k < length xs → ((d : X) → get_or xs k d ≡ x) → among same xs x ≡ true
  unfolding among
  has_among [] x k l h = absurd (omega arith)
  has_among (y ∷ ys) x zero l h =
      let P : X → Type 0 = λ z. same y z ≡ true in or_left (same y x) (among same ys x) (subst P (h y) (tells.itself y))
  has_among (y ∷ ys) x (suc k) l h = or_right (same y x) (among same ys x) (has_among ys x k (omega arith) h)

  not_among : (xs : List X) (x : X) → (Has xs x → ⊥) → among same xs x ≡ false
  not_among xs x h = elim (cases_Bool (among same xs x)) [ inl t ↦ absurd (h (among_has xs x t)) | inr f ↦ f ]

  module _ (before xs after : List X) (used most : ℕ) (row : Row before xs after used) where
    count : used ≡ length xs
    count = row.count

    taken : take used after ≡ xs
    taken = filled_front before xs after row.filled used count

    as_long : length after ≡ length before
    as_long = filled_long before xs after row.filled

    pub placed : (x : X) → used < length after → used < most → (Has (take used after) x → ⊥) → place same (min (length before) most) xs x ≡ None
    placed x l m h =
        let P : List X → Type 0 = λ ys. Has ys x → ⊥ in
        rw (not_among xs x (subst P taken h), lt-ltb (length xs) (min (length before) most) (omega (arith, as_long, count)))

    -- the list with one more
    pub grows : (x : X) (new after' : List X) (n : ℕ) → used < length after → new ≡ xs ++ x ∷ [] → after' ≡ set after used x → n ≡ used + 1 → Row before new after' n
    grows x new after' n l e f c =
        let P : List X → Type 0 = λ ys. Filled before ys (set after used x) in
        let Q : List X → Type 0 = λ ys. Filled before new ys in
        record { filled = subst Q (sym f) (subst P (sym e) (filled_more before xs after row.filled used count x l)); count = c ∙ ap (λ i. i + 1) count ∙ sym (length_push xs x) ∙ ap length (sym e) }

    -- the list as it was
    pub stays : (new : List X) (n : ℕ) → new ≡ xs ++ [] → n ≡ used → Row before new after n
    stays new n e c =
        let same : new ≡ xs = e ∙ append-nil xs in
        let P : List X → Type 0 = λ ys. Row before ys after n in
        subst P (sym same) (record { filled = row.filled; count = c ∙ count })

    pub unplaced : (x : X) (line : ℕ) (f : Fault) → Unplaced after used most x line f → (place same (min (length before) most) xs x ≡ Some (f.cause, f.field)) × (f.line ≡ line)
    unplaced x line f (inl u) =
        let P : List X → Type 0 = λ ys. Has ys x in
        let h = subst P taken u.1 in
        let is = u.0 in
        (rw (has_among xs x h.0 h.1 h.2) (ap (λ g. Some (g.cause, g.field)) (sym is)), ap (λ g. g.line) is)
    unplaced x line f (inr u) =
        let P : List X → Type 0 = λ ys. Has ys x → ⊥ in
        let is = u.0 in
        (rw (not_among xs x (subst P taken u.1), le-ltb (length xs) (min (length before) most) (omega (arith, as_long, count, u.2))) (ap (λ g. Some (g.cause, g.field)) (sym is)), ap (λ g. g.line) is)
