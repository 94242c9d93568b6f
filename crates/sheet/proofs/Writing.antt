-- The lines of a sheet, as the code comes to them.
use Rattle.std.proofs.Common.{◌≡◌, ℕ, zero, suc, ◌+◌, ◌*◌, Bool, true, false, cond, not, length, get_or, refl, ap, ◌∙◌, add-one, count_by, arith}
use mathlib.Core.Bool.{beq}
use Rattle.std.specs.List.{range_with_len}
use Rattle.std.proofs.lemmas.List.{map-id}
use Rattle.std.proofs.lemmas.List.FromFn.{sum_by-map-range_with_len_more}
use Rattle.semantics.proofs.Sums.{sum_eq}
use Rattle.records.specs.declared.Fixpoint.{Fixpoint}
use Rattle.semantics.specs.Lts.{sum}
use Rattle.semantics.specs.Equations.{start}
use Rattle.board.specs.State.{State}
use Rattle.refinement.specs.Sheet.{on_below, line, lines_below}
use Rattle.sheet.specs.Pens.{Inked}
use Rattle.sheet.specs.declared.ink.Pen.{Pen}
use Rattle.sheet.proofs.Inks.{pen_none, pen_then}

-- a pair is on where it has turned, if pairs start off, and else where it has not
pub turned_on : (t b : Bool) → not (beq t b) ≡ cond t (not b) b
turned_on true true = refl
turned_on true false = refl
turned_on false true = refl
turned_on false false = refl

-- the states at which a variable is on
count_is_sum : (p : ℕ → Bool) (n : ℕ) → count_by p (range_with_len 0 n) ≡ sum n (λ s. cond (p s) 1 0)
unfolding sum
count_is_sum p zero = refl
count_is_sum p (suc n) =
    let on : suc n ≡ n + 1 = omega arith in
    let more = simp map-id at (sum_by-map-range_with_len_more (λ s. cond (p s) 1 0) (λ s. s) 0 n n (omega arith)) in
    ap (λ (k : ℕ). count_by p (range_with_len 0 k)) on ∙ more ∙ ap (λ (m : ℕ). m + cond (p n) 1 0) (count_is_sum p n)

pub counted_on : (d : Fixpoint) (σ : State) (i n : ℕ) → count_by (λ s. not (beq (get_or σ.turned (s * length σ.book + i) false) (start d))) (range_with_len 0 n) ≡ on_below d σ i n
unfolding on_below
counted_on d σ i n = count_is_sum (λ s. not (beq (get_or σ.turned (s * length σ.book + i) false) (start d))) n ∙ sum_eq n _ _ (λ s h. ap (λ (b : Bool). cond b 1 0) (turned_on (get_or σ.turned (s * length σ.book + i) false) (start d)))

-- no line, and one line more
pub lines_none : (d : Fixpoint) (σ : State) (p : Pen) → Inked p p (lines_below d σ 0)
unfolding lines_below
lines_none d σ p = pen_none p

pub lines_more : {p q r : Pen} (d : Fixpoint) (σ : State) (i N m : ℕ) → N ≡ σ.states → m ≡ on_below d σ i σ.states → Inked p q (lines_below d σ i) → Inked q r (line N i m) → Inked p r (lines_below d σ (i + 1))
unfolding lines_below
lines_more d σ i N m e f v w = rw (add-one, ← f, ← e) (pen_then v w)
