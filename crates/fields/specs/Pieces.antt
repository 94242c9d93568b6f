-- Bytes that are cut at each place where a mark stands: fields at a comma, lines at byte 10.
use Rattle.std.specs.Prelude.{◌≡◌, ℕ, cond, List, [], ◌∷◌, ◌++◌, ◌==◌, ◌≢◌}
use Rattle.std.specs.List.{AllByRecursion}

-- b in front of the first piece
abbrev pub onto : ℕ → List (List ℕ) → List (List ℕ)
onto b [] = (b ∷ []) ∷ []
onto b (p ∷ ps) = (b ∷ p) ∷ ps

-- the pieces between the marks: one more than there are marks
unfoldable pub pieces : ℕ → List ℕ → List (List ℕ)
pieces m [] = [] ∷ []
pieces m (b ∷ bs) = cond (b == m) ([] ∷ pieces m bs) (onto b (pieces m bs))

-- the pieces put together again, with the mark between them
unfoldable pub joined : ℕ → List (List ℕ) → List ℕ
joined m [] = []
joined m (p ∷ []) = p
joined m (p ∷ q ∷ ps) = p ++ m ∷ joined m (q ∷ ps)

-- the pieces put together again, with the mark after each
unfoldable pub ended : ℕ → List (List ℕ) → List ℕ
ended m [] = []
ended m (p ∷ ps) = p ++ m ∷ ended m ps

-- the mark stands in no piece
abbrev pub Clear : ℕ → List (List ℕ) → Type 0
Clear m ps = AllByRecursion (λ p. AllByRecursion (λ b. b ≢ m) p) ps

-- The pieces of bytes do not hold the mark and, joined by it, they are the bytes; and no others are so.
pub record Pieced (m : ℕ) : Type 0 where
  pub joins : (bs : List ℕ) → joined m (pieces m bs) ≡ bs
  pub clear : (bs : List ℕ) → Clear m (pieces m bs)
  pub only : (p : List ℕ) (ps : List (List ℕ)) → Clear m (p ∷ ps) → pieces m (joined m (p ∷ ps)) ≡ p ∷ ps
