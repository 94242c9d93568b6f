-- A pen, before and after bytes are written with it.
use Rattle.std.specs.Prelude.{◌≡◌, ℕ, List}
use Rattle.sheet.specs.Ink.{Wrote}
use Rattle.sheet.specs.declared.ink.Pen.{Pen}

-- the pen holds the same buffer, and the bytes are written into it
pub record Inked (p q : Pen) (bs : List ℕ) : Type 0 where
  pub same : q.out.ghost_name ≡ p.out.ghost_name
  pub wrote : Wrote p.out.now p.at bs q.out.now q.at
