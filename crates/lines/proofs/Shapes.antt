-- Fields that are, or are not, of a form.
use Rattle.std.proofs.Common.{◌≡◌, ℕ, ◌<◌, Bool, true, false, ◌&&◌, ◌||◌, eqb, List, [], ◌∷◌, ◌++◌, length, get_or, Err, refl, ap, ◌∙◌, inl, inr, arith}
use Rattle.std.proofs.lemmas.Bool.{and_parts, or_cases, or_parts, eqb-true, ne_eqb, both_ways}
use Rattle.fields.specs.Pieces.{pieces}
use Rattle.fields.proofs.Cutting.{pieces_length}
use Rattle.fields.specs.declared.fault.Cause.TheVariants as cause
use Rattle.lines.specs.Kinds.{Slot, byte, number, Kind, fits, says}
use Rattle.lines.specs.Forms.{forms, fits_one, fields_of}
use Rattle.lines.specs.declared.line.Line.{Line}
use Rattle.lines.specs.declared.line.Line.TheVariants.{Flow, Transition, Divergence, Label, Rulebook, Equation}
use Rattle.records.specs.declared.Fixpoint.TheVariants.{Greatest, Least}
use Rattle.records.specs.declared.Form.TheVariants.{True, False, Atom, Or, And, Diamond, Box}

pub single : (xs : List ℕ) (b : ℕ) → length xs ≡ 1 → get_or xs 0 0 ≡ b → xs ≡ b ∷ []
single [] b l e = absurd (omega arith)
single (x ∷ []) b l e = ap (λ y. y ∷ []) e
single (x ∷ y ∷ xs) b l e = absurd (omega arith)

-- the fields of a known line, and more fields
too_many : (l : Line) (f : List ℕ) (fs : List (List ℕ)) → fits_one forms (fields_of l ++ f ∷ fs) ≡ false
too_many (Flow s a p) f fs = refl
too_many (Transition s a t) f fs = refl
too_many (Divergence s a) f fs = refl
too_many (Label p s) f fs = refl
too_many (Rulebook Greatest n) f fs = refl
too_many (Rulebook Least n) f fs = refl
too_many (Equation i True x y) f fs = refl
too_many (Equation i False x y) f fs = refl
too_many (Equation i Atom x y) f fs = refl
too_many (Equation i Or x y) f fs = refl
too_many (Equation i And x y) f fs = refl
too_many (Equation i Diamond x y) f fs = refl
too_many (Equation i Box x y) f fs = refl

pub unended : (l : Line) (rest : List ℕ) → fits_one forms (fields_of l ++ pieces 44 rest) ≡ false
unended l rest = go (pieces 44 rest) (pieces_length 44 rest)
  where
    go : (fs : List (List ℕ)) → 0 < length fs → fits_one forms (fields_of l ++ fs) ≡ false
    go [] some = absurd (omega arith)
    go (f ∷ fs) some = too_many l f fs

-- the same bytes in the same fields
abbrev pub alike : List Slot → List Slot → Bool
alike [] [] = true
alike [] (t ∷ ts) = false
alike (s ∷ ss) [] = false
alike (byte b ∷ ss) (byte c ∷ ts) = eqb b c && alike ss ts
alike (byte b ∷ ss) (number low past ∷ ts) = false
alike (number low past ∷ ss) (byte c ∷ ts) = false
alike (number low past ∷ ss) (number low' past' ∷ ts) = alike ss ts

alike_fits : (ss ts : List Slot) (fs : List (List ℕ)) → alike ss ts ≡ true → fits ss fs ≡ fits ts fs
alike_fits [] [] fs a = refl
alike_fits [] (t ∷ ts) fs a = absurd (both_ways false refl a)
alike_fits (s ∷ ss) [] fs a = absurd (both_ways false refl a)
alike_fits (byte b ∷ ss) (byte c ∷ ts) [] a = refl
alike_fits (byte b ∷ ss) (byte c ∷ ts) (f ∷ fs) a =
    let p = and_parts (eqb b c) (alike ss ts) a in
    let same = eqb-true b c p.0 in
    let rest = alike_fits ss ts fs p.1 in cc
alike_fits (byte b ∷ ss) (number low past ∷ ts) fs a = absurd (both_ways false refl a)
alike_fits (number low past ∷ ss) (byte c ∷ ts) fs a = absurd (both_ways false refl a)
alike_fits (number low past ∷ ss) (number low' past' ∷ ts) [] a = refl
alike_fits (number low past ∷ ss) (number low' past' ∷ ts) (f ∷ fs) a = alike_fits ss ts fs a

abbrev pub listed : List Slot → List (List Slot) → Bool
listed ss [] = false
listed ss (ts ∷ tss) = alike ss ts || listed ss tss

-- fields of no listed form are not of this one
pub unlisted : (ss : List Slot) (tss : List (List Slot)) (fs : List (List ℕ)) → listed ss tss ≡ true → fits_one tss fs ≡ false → fits ss fs ≡ false
unlisted ss [] fs l h = absurd (both_ways false refl l)
unlisted ss (ts ∷ tss) fs l h =
    let p = or_parts (fits ts fs) (fits_one tss fs) h in
    elim (or_cases (alike ss ts) (listed ss tss) l) [ inl a ↦ alike_fits ss ts fs a ∙ p.0 | inr r ↦ unlisted ss tss fs r p.1 ]

-- R and a field of one character that is no side
pub no_side : (c : ℕ) (fs : List (List ℕ)) → (c ≡ 71 → ⊥) → (c ≡ 76 → ⊥) → fits_one forms ((82 ∷ []) ∷ (c ∷ []) ∷ fs) ≡ false
no_side c fs g l = rw (ne_eqb c 71 g, ne_eqb c 76 l)

unfoldable pub all_listed : {R : Type 0} → List (Kind R) → Bool
all_listed [] = true
all_listed (k ∷ ks) = listed k.slots forms && all_listed ks

-- fields of no known form say nothing in kinds of known forms
pub nothing_said : {R : Type 0} (ks : List (Kind R)) (fs : List (List ℕ)) → all_listed ks ≡ true → fits_one forms fs ≡ false → says ks fs ≡ Err (cause.Form, 0)
unfolding all_listed
nothing_said [] fs l h = refl
nothing_said (k ∷ ks) fs l h =
    let p = and_parts (listed k.slots forms) (all_listed ks) l in
    rw (unlisted k.slots forms fs p.0 h) (nothing_said ks fs p.1 h)
