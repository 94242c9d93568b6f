-- The pieces of bytes are the one list of pieces that joins to them.
use Rattle.std.proofs.Common.{◌≡◌, ℕ, List, [], ◌∷◌, ◌++◌, sym, refl, ap, ◌∙◌, subst, inl, inr}
use Rattle.std.specs.List.{AllByRecursion}
use Rattle.std.proofs.lemmas.Bool.{eq-eqb, ne_eqb, cases_eq}
use Rattle.fields.specs.Pieces.{pieces, onto, joined, ended, Clear, Pieced}
use Rattle.fields.proofs.Cutting.{pieces_some}

joins_onto : (m b : ℕ) (ps : List (List ℕ)) → joined m (onto b ps) ≡ b ∷ joined m ps
unfolding joined
joins_onto m b [] = refl
joins_onto m b (p ∷ []) = refl
joins_onto m b (p ∷ q ∷ ps) = refl

joins_mark : (m : ℕ) (ps : List (List ℕ)) → (ps ≡ [] → ⊥) → joined m ([] ∷ ps) ≡ m ∷ joined m ps
unfolding joined
joins_mark m [] h = absurd (h refl)
joins_mark m (p ∷ ps) h = refl

joins : (m : ℕ) (bs : List ℕ) → joined m (pieces m bs) ≡ bs
unfolding pieces joined
joins m [] = refl
joins m (b ∷ bs) =
    elim (cases_eq b m) [
      | inl e ↦ rw (eq-eqb b m e) (joins_mark m (pieces m bs) (pieces_some m bs) ∙ (λ i. sym e i ∷ joins m bs i))
      | inr h ↦ rw (ne_eqb b m h) (joins_onto m b (pieces m bs) ∙ ap (λ l. b ∷ l) (joins m bs))
    ]

clear_onto : (m b : ℕ) (ps : List (List ℕ)) → (b ≡ m → ⊥) → Clear m ps → Clear m (onto b ps)
clear_onto m b [] h c = ((h, tt), tt)
clear_onto m b (p ∷ ps) h c = ((h, c.0), c.1)

clear : (m : ℕ) (bs : List ℕ) → Clear m (pieces m bs)
unfolding pieces
clear m [] = (tt, tt)
clear m (b ∷ bs) =
    elim (cases_eq b m) [ inl e ↦ rw (eq-eqb b m e) (tt, clear m bs) | inr h ↦ rw (ne_eqb b m h) (clear_onto m b (pieces m bs) h (clear m bs)) ]

alone : (m : ℕ) (p : List ℕ) → AllByRecursion (λ b. b ≡ m → ⊥) p → pieces m p ≡ p ∷ []
unfolding pieces
alone m [] h = refl
alone m (b ∷ p) h = rw (ne_eqb b m h.0, alone m p h.1)

front : (m : ℕ) (p bs : List ℕ) → AllByRecursion (λ b. b ≡ m → ⊥) p → pieces m (p ++ m ∷ bs) ≡ p ∷ pieces m bs
unfolding pieces
front m [] bs h = rw (eq-eqb m m refl)
front m (b ∷ p) bs h = rw (ne_eqb b m h.0, front m p bs h.1)

only : (m : ℕ) (p : List ℕ) (ps : List (List ℕ)) → Clear m (p ∷ ps) → pieces m (joined m (p ∷ ps)) ≡ p ∷ ps
unfolding joined
only m p [] c = alone m p c.0
only m p (q ∷ ps) c = front m p (joined m (q ∷ ps)) c.0 ∙ ap (λ l. p ∷ l) (only m q ps c.1)

pub pieced : (m : ℕ) → Pieced m
pieced m = record { joins = joins m; clear = clear m; only = only m }

-- where the mark ends each piece, an empty piece comes last
pub pieces_ended : (m : ℕ) (ps : List (List ℕ)) → Clear m ps → pieces m (ended m ps) ≡ ps ++ [] ∷ []
unfolding ended pieces
pieces_ended m [] c = refl
pieces_ended m (p ∷ ps) c = front m p (ended m ps) c.0 ∙ ap (λ l. p ∷ l) (pieces_ended m ps c.1)

joined_last : (m : ℕ) (ps : List (List ℕ)) → joined m (ps ++ [] ∷ []) ≡ ended m ps
unfolding joined ended
joined_last m [] = refl
joined_last m (p ∷ []) = refl
joined_last m (p ∷ q ∷ ps) = ap (λ l. p ++ m ∷ l) (joined_last m (q ∷ ps))

clear_front : (m : ℕ) (ps qs : List (List ℕ)) → Clear m (ps ++ qs) → Clear m ps
clear_front m [] qs c = tt
clear_front m (p ∷ ps) qs c = (c.0, clear_front m ps qs c.1)

-- and the other way round
pub ended_pieces : (m : ℕ) (bs : List ℕ) (ps : List (List ℕ)) → pieces m bs ≡ ps ++ [] ∷ [] → (ended m ps ≡ bs) × Clear m ps
ended_pieces m bs ps e =
    let P : List (List ℕ) → Type 0 = λ qs. Clear m qs in
    (sym (joined_last m ps) ∙ ap (joined m) (sym e) ∙ joins m bs, clear_front m ps ([] ∷ []) (subst P e (clear m bs)))
