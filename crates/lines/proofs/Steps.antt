-- What each line does to the outcome of a text.
use Rattle.std.proofs.Common.{◌≡◌, ℕ, ◌+◌, ◌<◌, ◌&&◌, ltb, leb, List, [], ◌∷◌, ◌++◌, length, Some, None, Ok, Err, sym, refl, ap, ◌∙◌, inl, inr, arith}
use Rattle.std.proofs.lemmas.Bool.{and_parts, ltb-true, leb-true, cases_Bool}
use Rattle.fields.specs.Pieces.{pieces}
use Rattle.fields.specs.Faults.{fault}
use Rattle.fields.specs.declared.fault.Cause.TheVariants.{Size, Form}
use Rattle.fields.specs.declared.fault.Fault.{Fault}
use Rattle.fields.proofs.Cutting.{pieces_some}
use Rattle.lines.specs.Kinds.{says}
use Rattle.lines.specs.Texts.{Grammar, Sized, refused, refused_at, at_end, by_result, by_option, body, whole, outcome}
use Rattle.lines.proofs.Outcomes.{body_line, whole_line, outcome_sized, outcome_headed}

module _ {H R : Type 0} (g : Grammar H R) where
  -- a fault that was made for that line
  at_line : (line : ℕ) (f : Fault) (rs : List R) → f.line ≡ line → refused_at {H = H} line (f.cause, f.field) rs ≡ refused f rs
  at_line line f rs e = ap (λ n. refused (fault f.cause n f.field) rs) (sym e)

  pub unsized : (text : List ℕ) → (Sized text → ⊥) → outcome g text ≡ refused (fault Size 0 0) []
  unfolding outcome
  unsized text h =
      elim (cases_Bool (ltb 0 (length text) && leb (length text) 32768)) [
        | inl fine ↦
            let p = and_parts (ltb 0 (length text)) (leb (length text) 32768) fine in
            absurd (h (ltb-true 0 (length text) p.0, leb-true (length text) 32768 p.1))
        | inr not ↦ rw not
      ]

  -- the first line
  module _ (text : List ℕ) (size : Sized text) where
    pub head_unended : (l : List ℕ) → pieces 10 text ≡ l ∷ [] → outcome g text ≡ refused (fault Form 1 0) []
    unfolding whole
    head_unended l is = outcome_sized g text size ∙ ap (whole g) is

    module _ (l rest : List ℕ) (is : pieces 10 text ≡ l ∷ pieces 10 rest) where
      pub head_misread : (f : Fault) → says g.heads (pieces 44 l) ≡ Err (f.cause, f.field) → f.line ≡ 1 → outcome g text ≡ refused f []
      head_misread f e line =
          outcome_sized g text size ∙ ap (whole g) is ∙ whole_line g l (pieces 10 rest) (pieces_some 10 rest)
          ∙ ap (λ r. by_result r (λ h. body g h [] 2 (pieces 10 rest)) (λ x. refused_at 1 x [])) e ∙ at_line 1 f [] line

      pub headed : (h : H) → says g.heads (pieces 44 l) ≡ Ok h → outcome g text ≡ body g h [] 2 (pieces 10 rest)
      headed h e = outcome_headed g text l (pieces 10 rest) h size is (pieces_some 10 rest) e

  -- a later line
  module _ (h : H) (rs : List R) (line : ℕ) (rest : List ℕ) where
    pub ends : length rest ≡ 0 → body g h rs line (pieces 10 rest) ≡ at_end h rs line (g.unfinished h rs)
    unfolding body pieces
    ends z = go rest z
      where
        go : (bs : List ℕ) → length bs ≡ 0 → body g h rs line (pieces 10 bs) ≡ at_end h rs line (g.unfinished h rs)
        go [] z = refl
        go (b ∷ bs) z = absurd (omega arith)

    pub line_unended : pieces 10 rest ≡ rest ∷ [] → 0 < length rest → body g h rs line (pieces 10 rest) ≡ refused (fault Form line 0) rs
    unfolding body
    line_unended is some = ap (body g h rs line) is ∙ go rest some
      where
        go : (bs : List ℕ) → 0 < length bs → body g h rs line (bs ∷ []) ≡ refused (fault Form line 0) rs
        go [] some = absurd (omega arith)
        go (b ∷ bs) some = refl

    module _ (l rest' : List ℕ) (is : pieces 10 rest ≡ l ∷ pieces 10 rest') where
      opened : body g h rs line (pieces 10 rest) ≡ by_result (says (g.bodies h) (pieces 44 l)) (λ r. by_option (g.misplaced h rs r) (λ e. refused_at line e rs) (body g h (rs ++ r ∷ []) (line + 1) (pieces 10 rest'))) (λ e. refused_at line e rs)
      opened = ap (body g h rs line) is ∙ body_line g h rs line l (pieces 10 rest') (pieces_some 10 rest')

      pub line_misread : (f : Fault) → says (g.bodies h) (pieces 44 l) ≡ Err (f.cause, f.field) → f.line ≡ line → body g h rs line (pieces 10 rest) ≡ refused f rs
      line_misread f e at = opened ∙ rw e (at_line line f rs at)

      module _ (r : R) (says_r : says (g.bodies h) (pieces 44 l) ≡ Ok r) where
        pub line_misplaced : (f : Fault) → g.misplaced h rs r ≡ Some (f.cause, f.field) → f.line ≡ line → body g h rs line (pieces 10 rest) ≡ refused f rs
        line_misplaced f e at = opened ∙ rw (says_r, e) (at_line line f rs at)

        pub line_placed : g.misplaced h rs r ≡ None → body g h rs line (pieces 10 rest) ≡ body g h (rs ++ r ∷ []) (line + 1) (pieces 10 rest')
        line_placed e = opened ∙ rw (says_r, e)
