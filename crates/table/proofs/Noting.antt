-- Sets noted record by record.
use Rattle.std.proofs.Common.{◌≡◌, ℕ, ◌+◌, ◌<◌, ◌≤◌, Bool, true, false, ◌&&◌, ◌||◌, eqb, ltb, List, length, get_or, take, set, replicate, sym, refl, ap, ◌∙◌, subst, ⊎_elim, arith}
use lib.ListN.{get_or-replicate}
use Rattle.std.proofs.lemmas.List.{get_or-set_same, get_or-set_other}
use Rattle.std.proofs.lemmas.Bool.{cases_eq, eq-eqb, ne_eqb}
use Rattle.lts.specs.declared.sets.SmallSet.{SmallSet}
use Rattle.lts.specs.Sets.{member}
use Rattle.table.specs.Records.{has}
use Rattle.table.specs.TableAnswers.{empty_set}
use Rattle.table.proofs.Listing.{has_more}

-- a set with v has i where it had it, or where i is v
one_value : (v i : ℕ) → (ltb v 64 && eqb i v) ≡ (ltb i 64 && eqb v i)
one_value v i =
    ⊎_elim
    (λ (q : v ≡ i). ap (λ b. ltb v 64 && b) (eq-eqb i v (sym q)) ∙ ap (λ n. ltb n 64 && true) q ∙ ap (λ b. ltb i 64 && b) (sym (eq-eqb v i q)))
    (λ (q : v ≡ i → ⊥). ap (λ b. ltb v 64 && b) (ne_eqb i v (λ e. q (sym e))) ∙ off (ltb v 64) (ltb i 64) ∙ ap (λ b. ltb i 64 && b) (sym (ne_eqb v i q)))
    (cases_eq v i)
  where
    off : (a b : Bool) → (a && false) ≡ (b && false)
    off true true = refl
    off true false = refl
    off false true = refl
    off false false = refl

spread : (o l h e : Bool) → ((o || (l && h)) || (l && e)) ≡ (o || (l && (h || e)))
spread true l h e = refl
spread false true h e = refl
spread false false h e = refl

none : (h : Bool) → h ≡ (h || false)
none true = refl
none false = refl

module _ {X : Type 0} (key value : X → ℕ) (xs : List X) (k : ℕ) (x : X) (h : k < length xs) (is : x ≡ get_or xs k x) (old sets : List SmallSet) where
  abbrev test : ℕ → ℕ → X → Bool
  test s i = λ y. eqb (key y) s && eqb (value y) i

  -- what the sets have after n records
  abbrev Noted : List SmallSet → ℕ → Type 0
  Noted now n = (s i : ℕ) → s < length sets → member (get_or now s empty_set) i ≡ (member (get_or old s empty_set) i || (ltb i 64 && has (test s i) (take n xs)))

  other : (s i : ℕ) → (key x ≡ s → ⊥) → has (test s i) (take k xs) ≡ has (test s i) (take (k + 1) xs)
  other s i q = none (has (test s i) (take k xs)) ∙ ap (λ b. has (test s i) (take k xs) || (b && eqb (value x) i)) (sym (ne_eqb (key x) s q)) ∙ sym (has_more (test s i) xs k x h is)

  pub note_skip : (q : ℕ) → q ≡ key x → Noted sets k → length sets ≤ q → Noted sets (k + 1)
  note_skip q is_key inv far s i l =
      inv s i l ∙ ap (λ b. member (get_or old s empty_set) i || (ltb i 64 && b)) (other s i (λ e. omega arith))

  note_at : Noted sets k → key x < length sets → (new : SmallSet) →
      ((j : ℕ) → member new j ≡ (member (get_or sets (key x) empty_set) j || (ltb (value x) 64 && eqb j (value x)))) → Noted (set sets (key x) new) (k + 1)
  note_at inv near new made s i l =
      let o = member (get_or old s empty_set) i in
      ⊎_elim
      (λ (q : key x ≡ s).
      ap (λ n. member (get_or (set sets (key x) new) n empty_set) i) (sym q) ∙ ap (λ v. member v i) (get_or-set_same sets (key x) new empty_set near) ∙ made i ∙
      ap (λ n. member (get_or sets n empty_set) i || (ltb (value x) 64 && eqb i (value x))) q ∙
      ap (λ b. b || (ltb (value x) 64 && eqb i (value x))) (inv s i l) ∙
      ap (λ b. (o || (ltb i 64 && has (test s i) (take k xs))) || b) (one_value (value x) i) ∙
      spread o (ltb i 64) (has (test s i) (take k xs)) (eqb (value x) i) ∙
      ap (λ b. o || (ltb i 64 && (has (test s i) (take k xs) || (b && eqb (value x) i)))) (sym (eq-eqb (key x) s q)) ∙
      ap (λ b. o || (ltb i 64 && b)) (sym (has_more (test s i) xs k x h is)))
      (λ (q : key x ≡ s → ⊥).
      ap (λ v. member v i) (get_or-set_other sets (key x) s new empty_set (λ e. q (sym e))) ∙ inv s i l ∙ ap (λ b. o || (ltb i 64 && b)) (other s i q))
      (cases_eq (key x) s)

  -- the same by the two numbers that were read
  pub note_more : (q v : ℕ) → q ≡ key x → v ≡ value x → Noted sets k → q < length sets → (new : SmallSet) →
      ((j : ℕ) → member new j ≡ (member (get_or sets q empty_set) j || (ltb v 64 && eqb j v))) → Noted (set sets q new) (k + 1)
  note_more q v is_key is_value inv near new made =
      subst (λ (n : ℕ). Noted (set sets n new) (k + 1)) (sym is_key)
      (note_at inv (omega arith) new (λ j. made j ∙ ap (λ n. member (get_or sets n empty_set) j || (ltb v 64 && eqb j v)) is_key ∙
      ap (λ n. member (get_or sets (key x) empty_set) j || (ltb n 64 && eqb j n)) is_value))

pub has_none : {X : Type 0} (test : X → Bool) (xs : List X) (o l : Bool) → o ≡ (o || (l && has test (take 0 xs)))
unfolding has
has_none test xs true l = refl
has_none test xs false true = refl
has_none test xs false false = refl
