-- How bytes are cut at their first mark.
use Rattle.std.proofs.Common.{◌≡◌, ℕ, ◌+◌, ◌-◌, ◌<◌, ◌≤◌, ◌==◌, Bool, true, false, cond, eqb, List, [], ◌∷◌, length, take, drop, position, Some, None, sym, refl, subst, inl, inr, one-add, arith}
use native.Mathlib.Numerals.{unary_clauses}
use Rattle.std.specs.List.{position_or_len}
use Rattle.std.proofs.lemmas.List.{take_rest}
use Rattle.std.proofs.lemmas.Option.{none-some, same_Some}
use Rattle.std.proofs.lemmas.Bool.{cases_Bool, cases_lt, lt-ltb, le-ltb}
use Rattle.fields.specs.Pieces.{pieces, onto}

-- where the first mark stands, or the length
abbrev first : ℕ → List ℕ → ℕ
first m bs = position_or_len (λ b. b == m) bs

none_first : (m : ℕ) (bs : List ℕ) → length bs ≤ first m bs → pieces m bs ≡ bs ∷ []
unfolding pieces
none_first m [] h = refl
none_first m (b ∷ bs) h =
    elim (cases_Bool (b == m)) [
      | inl is ↦ absurd (omega (arith, rw is at h))
      | inr not ↦ rw (not, none_first m bs (omega (arith, rw not at h)))
    ]

cut_first : (m : ℕ) (bs : List ℕ) → first m bs < length bs → pieces m bs ≡ take (first m bs) bs ∷ pieces m (drop (first m bs + 1) bs)
unfolding pieces
cut_first m [] h = absurd (omega arith)
cut_first m (b ∷ bs) h =
    elim (cases_Bool (b == m)) [
      | inl is ↦ rw is refl
      | inr not ↦ rw (not, cut_first m bs (omega (arith, rw not at h))) (simp (one-add, unary_clauses) refl)
    ]

pub pieces_none : (m : ℕ) (bs : List ℕ) → position (λ b. b == m) bs ≡ None → pieces m bs ≡ bs ∷ []
pieces_none m bs e =
    elim (cases_lt (first m bs) (length bs)) [ inl l ↦ absurd (none-some (first m bs) (sym (rw (lt-ltb (first m bs) (length bs) l) at e))) | inr l ↦ none_first m bs l ]

-- as the checker reads `&bytes[..i]` and `&bytes[i + 1..]`
pub pieces_first : (m : ℕ) (bs : List ℕ) (i : ℕ) → position (λ b. b == m) bs ≡ Some i → pieces m bs ≡ take i bs ∷ pieces m (take (length bs - (i + 1)) (drop (i + 1) bs))
pieces_first m bs i e =
    rw take_rest
    (elim (cases_lt (first m bs) (length bs)) [
      | inl l ↦
          let same : first m bs ≡ i = same_Some _ _ (rw (lt-ltb (first m bs) (length bs) l) at e) in
          let P : ℕ → Type 0 = λ k. pieces m bs ≡ take k bs ∷ pieces m (drop (k + 1) bs) in subst P same (cut_first m bs l)
      | inr l ↦ absurd (none-some i (rw (le-ltb (first m bs) (length bs) l) at e))
    ])

onto_some : (b : ℕ) (ps : List (List ℕ)) → onto b ps ≡ [] → ⊥
onto_some b [] e = let z : ◌≡◌ {A = ℕ} 0 1 = cc in omega arith
onto_some b (p ∷ ps) e = let z : ◌≡◌ {A = ℕ} 0 1 = cc in omega arith

-- there is a piece
pub pieces_some : (m : ℕ) (bs : List ℕ) → pieces m bs ≡ [] → ⊥
unfolding pieces
pieces_some m [] e = let z : ◌≡◌ {A = ℕ} 0 1 = cc in omega arith
pieces_some m (b ∷ bs) e =
    let P : Bool → Type 0 = λ t. cond t ([] ∷ pieces m bs) (onto b (pieces m bs)) ≡ [] → ⊥ in
    let each : (t : Bool) → P t = λ t. elim t as P [ true ↦ λ e. let z : ◌≡◌ {A = ℕ} 0 1 = cc in omega arith | false ↦ onto_some b (pieces m bs) ] in
    each (eqb b m) e

pub pieces_length : (m : ℕ) (bs : List ℕ) → 0 < length (pieces m bs)
pieces_length m bs =
    let P : List (List ℕ) → Type 0 = λ ps. (ps ≡ [] → ⊥) → 0 < length ps in
    let each : (ps : List (List ℕ)) → P ps = λ ps. elim ps as P [ [] ↦ λ h. absurd (h refl) | ◌∷◌ p ps ↦ λ h. omega arith ] in
    each (pieces m bs) (pieces_some m bs)
