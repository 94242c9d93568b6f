-- One line more.
use Rattle.std.proofs.Common.{◌≡◌, ℕ, ◌+◌, ◌<◌, ◌≤◌, List, [], ◌∷◌, ◌++◌, length, get_or, drop, Option, Some, None, IsSome, unwrap_or, codes, refl, sym, ap, ◌∙◌, append_assoc, append-nil}
use Rattle.std.specs.Fmt.{AppendsText, ◌++?◌}
use Rattle.std.proofs.lemmas.List.{drop_more, drop_all}
use Rattle.records.specs.declared.EquationRecord.{EquationRecord}
use Rattle.report.specs.Lines.{equation_line, all_lines, equation_lines}

-- a text that is known, and its line end, are added to what was there
pub appended : (o : Option (List ℕ)) (old new : List ℕ) → IsSome o → AppendsText old new (o ++? Some (10 ∷ [])) → new ≡ old ++ (unwrap_or o [] ++ codes "\n")
appended None old new known h = cc
appended (Some text) old new known h = h

module _ {X : Type 0} (line : X → List ℕ) (xs : List X) (i : ℕ) (whole out : List ℕ) (inv : out ++ all_lines line (drop i xs) ≡ whole) where
  pub lines_more : (x d : X) → i < length xs → x ≡ get_or xs i d → (more : List ℕ) → more ≡ line x → (out ++ more) ++ all_lines line (drop (i + 1) xs) ≡ whole
  unfolding all_lines
  lines_more x d l is more e =
      append_assoc out more (all_lines line (drop (i + 1) xs)) ∙ ap (λ b. out ++ (b ++ all_lines line (drop (i + 1) xs))) (e ∙ ap line is)
      ∙ ap (λ ys. out ++ all_lines line ys) (sym (drop_more xs i d l)) ∙ inv

  pub lines_all : length xs ≤ i → out ≡ whole
  unfolding all_lines
  lines_all l = sym (append-nil out) ∙ ap (λ ys. out ++ all_lines line ys) (sym (drop_all i xs l)) ∙ inv

-- an item's text, and its line end
abbrev pub line_of : {X : Type 0} → (X → Option (List ℕ)) → X → List ℕ
line_of text x = unwrap_or (text x) [] ++ codes "\n"

-- a line more, of an item whose text is known
module _ {X : Type 0} (text : X → Option (List ℕ)) (xs : List X) (i : ℕ) (whole out new : List ℕ) where
  pub known_more : (x d : X) → i < length xs → x ≡ get_or xs i d → IsSome (text x) → AppendsText out new (text x ++? Some (10 ∷ [])) → out ++ all_lines (line_of text) (drop i xs) ≡ whole → new ++ all_lines (line_of text) (drop (i + 1) xs) ≡ whole
  known_more x d l is known added inv =
      ap (λ b. b ++ all_lines (line_of text) (drop (i + 1) xs)) (appended (text x) out new known added) ∙ lines_more (line_of text) xs i whole out inv x d l is _ refl

module _ (xs : List EquationRecord) (i : ℕ) (whole out : List ℕ) (inv : out ++ equation_lines i (drop i xs) ≡ whole) where
  pub equations_more : (x d : EquationRecord) → i < length xs → x ≡ get_or xs i d → (more : List ℕ) → more ≡ equation_line i x → (out ++ more) ++ equation_lines (i + 1) (drop (i + 1) xs) ≡ whole
  unfolding equation_lines
  equations_more x d l is more e =
      append_assoc out more (equation_lines (i + 1) (drop (i + 1) xs)) ∙ ap (λ b. out ++ (b ++ equation_lines (i + 1) (drop (i + 1) xs))) (e ∙ ap (equation_line i) is)
      ∙ ap (λ ys. out ++ equation_lines i ys) (sym (drop_more xs i d l)) ∙ inv

  pub equations_all : length xs ≤ i → out ≡ whole
  unfolding equation_lines
  equations_all l = sym (append-nil out) ∙ ap (λ ys. out ++ equation_lines i ys) (sym (drop_all i xs l)) ∙ inv
