-- Bytes written into a buffer.
use Rattle.std.specs.Prelude.{◌≡◌, ℕ, ◌+◌, List, [], ◌∷◌, length, slice_set}

-- bytes written one after another from a place on; what is past the end is lost
unfoldable pub inked : List ℕ → ℕ → List ℕ → List ℕ
inked out at [] = out
inked out at (b ∷ bs) = inked (slice_set out at b) (at + 1) bs

pub record Wrote (out : List ℕ) (at : ℕ) (bs out' : List ℕ) (end : ℕ) : Type 0 where
  pub after : out' ≡ inked out at bs
  pub next : end ≡ at + length bs
