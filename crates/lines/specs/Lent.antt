-- A list that a caller lends, which is filled from its front.
use Rattle.std.specs.Prelude.{◌≡◌, ◌≤◌, List, ◌++◌, length, drop}

-- xs stand at the front of the list, and its other places are as before
pub record Filled {X : Type 0} (before xs after : List X) : Type 0 where
  pub fit : length xs ≤ length before
  pub items : after ≡ xs ++ drop (length xs) before
