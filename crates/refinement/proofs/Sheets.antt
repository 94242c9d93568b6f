-- The sheet of a board is that of its plain session.
use Rattle.std.proofs.Common.{◌≡◌, ℕ, zero, suc, ◌+◌, ◌*◌, ◌<◌, ◌≤◌, Bool, cond, not, List, [], ◌∷◌, ◌++◌, length, codes, decimal, sym, refl, ap, ◌∙◌, ap₂, append_assoc, arith}
use Rattle.records.specs.declared.Fixpoint.{Fixpoint}
use Rattle.semantics.specs.declared.Equation.{Equation}
use Rattle.semantics.specs.declared.Pair.{Pair}
use Rattle.semantics.specs.Lts.{Lts, sum}
use Rattle.semantics.specs.Equations.{start, Marking}
use Rattle.semantics.specs.Plain.{settled, standing, marked, letter, lines, page}
use Rattle.semantics.proofs.Sums.{sum_eq}
use Rattle.lts.specs.Source.{Answers, Shows}
use Rattle.board.specs.State.{State}
use Rattle.refinement.specs.Sheet.{on_at, on_below, line, lines_below, top, sheet_of}
use Rattle.refinement.specs.Represents.{Shown}
use Rattle.refinement.proofs.Running.{settled_is}

module _ (A : Answers) (F : Lts) (shows : Shows A F) (d : Fixpoint) (σ : State) (pins taken : List Pair) (seen : ℕ) (h : Shown F d σ σ.book pins taken seen) where
  abbrev B : List Equation
  B = σ.book

  abbrev M : Marking
  M = standing F d σ.book pins taken

  on_same : (i : ℕ) → i < length B → on_below d σ i σ.states ≡ marked F M i
  unfolding on_below marked standing
  on_same i l =
      ap (λ (n : ℕ). sum n (λ s. cond (on_at d σ (s * length B + i)) 1 0)) h.states ∙
      sum_eq F.states _ _ (λ s k. ap (λ (b : Bool). cond (cond b (not (start d)) (start d)) 1 0) (h.turned s i k l))

  line_same : (i : ℕ) → i < length B → line σ.states i (on_below d σ i σ.states) ≡ line F.states i (marked F M i)
  line_same i l = ap₂ (λ (N m : ℕ). line N i m) h.states (on_same i l)

  lines_same : (i : ℕ) → i ≤ length B → lines_below d σ i ≡ lines F M i
  unfolding lines_below lines
  lines_same zero l = refl
  lines_same (suc i) l = ap₂ (λ (xs ys : List ℕ). xs ++ ys) (lines_same i (omega arith)) (line_same i (omega arith)) ∙ shape
    where
      shape : lines F M i ++ line F.states i (marked F M i) ≡ lines F M (suc i)
      shape = simp append_assoc

  pub sheet_same : sheet_of d σ ≡ page F d B pins taken seen
  unfolding sheet_of page
  sheet_same =
      let t : top d σ ≡ top_of F.states (settled F d B pins taken) seen = same_top h.states (sym (settled_is A F shows d B pins σ taken seen h)) h.looks in
      ap₂ (λ (xs ys : List ℕ). xs ++ ys) t (lines_same (length B) (omega arith)) ∙ simp append_assoc
    where
      top_of : ℕ → Bool → ℕ → List ℕ
      top_of N b l = codes "M," ++ letter d ++ codes "," ++ decimal N ++ codes "," ++ decimal (length B) ++ codes "," ++ cond b (codes "1") (codes "0") ++ codes "," ++ decimal l ++ 10 ∷ []

      same_top : {N N' l l' : ℕ} {b b' : Bool} → N ≡ N' → b ≡ b' → l ≡ l' → top_of N b l ≡ top_of N' b' l'
      same_top e f g = cc
