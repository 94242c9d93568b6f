use Rattle.std.proofs.Common.{◌≡◌, ℕ, suc, ◌+◌, ◌<◌, ◌≤◌, List, [], ◌∷◌, ◌++◌, length, take, drop, set, refl, ◌∙◌, subst, append_assoc, append-nil, add-zero, arith, length-append, length-set, drop-set-lt}
use Rattle.std.proofs.lemmas.List.{take_more_set}
use Rattle.sheet.specs.Ink.{inked, Wrote}
use Rattle.sheet.specs.Pens.{Inked}
use Rattle.sheet.specs.declared.ink.Pen.{Pen}

pub inked_append : (out : List ℕ) (at : ℕ) (xs ys : List ℕ) → inked (inked out at xs) (at + length xs) ys ≡ inked out at (xs ++ ys)
unfolding inked
inked_append out at [] ys = rw add-zero
inked_append out at (x ∷ xs) ys =
    let e : at + length (x ∷ xs) ≡ (at + 1) + length xs = omega arith in
    rw e (inked_append (set out at x) (at + 1) xs ys)

pub inked_none : (out : List ℕ) (at : ℕ) → out ≡ inked out at []
unfolding inked
inked_none out at = refl

-- one piece after another
pub then : {out mid out' xs ys : List ℕ} {at next end : ℕ} → Wrote out at xs mid next → Wrote mid next ys out' end → Wrote out at (xs ++ ys) out' end
then {out} {mid} {out'} {xs} {ys} {at} {next} {end} v w =
    record { after = w.after ∙ rw (v.after, v.next) (inked_append out at xs ys); next = simp length-append (omega (arith, v.next, w.next)) }

-- the same with a pen
pub pen_none : (p : Pen) → Inked p p []
pen_none p = record { same = refl; wrote = record { after = inked_none _ _; next = omega arith } }

pub pen_then : {p q r : Pen} {xs ys : List ℕ} → Inked p q xs → Inked q r ys → Inked p r (xs ++ ys)
pen_then v w = record { same = w.same ∙ v.same; wrote = then v.wrote w.wrote }

pub pen_same : {p q : Pen} {xs ys : List ℕ} → xs ≡ ys → Inked p q xs → Inked p q ys
pen_same {p} {q} e w = subst (Inked p q) e w

-- what is written, where there is room
pub inked_take : (out : List ℕ) (at : ℕ) (bs : List ℕ) → at + length bs ≤ length out → take (at + length bs) (inked out at bs) ≡ take at out ++ bs
unfolding inked
inked_take out at [] h = rw (add-zero, append-nil)
inked_take out at (b ∷ bs) h =
    let e : at + suc (length bs) ≡ (at + 1) + length bs = omega arith in
    let here : at < length out = omega arith in
    let room : (at + 1) + length bs ≤ length (set out at b) = simp length-set (omega arith) in
    rw e (inked_take (set out at b) (at + 1) bs room ∙ rw (take_more_set out at b here, append_assoc))

-- beyond what is written, all stays
pub inked_drop : (out : List ℕ) (at : ℕ) (bs : List ℕ) → drop (at + length bs) (inked out at bs) ≡ drop (at + length bs) out
unfolding inked
inked_drop out at [] = refl
inked_drop out at (b ∷ bs) =
    let e : at + suc (length bs) ≡ (at + 1) + length bs = omega arith in
    rw e (inked_drop (set out at b) (at + 1) bs ∙ drop-set-lt ((at + 1) + length bs) out at b (omega arith))

-- what the pen's buffer holds in the end
pub pen_left : {p q : Pen} {bs : List ℕ} (out : List ℕ) → Inked p q bs → out ≡ q.out.now → Wrote p.out.now p.at bs out q.at
pen_left out w e = rw e w.wrote
