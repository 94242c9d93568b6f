-- A lent list that gets one more.
use Rattle.std.proofs.Common.{◌≡◌, ℕ, ◌+◌, ◌<◌, List, [], ◌∷◌, ◌++◌, length, take, drop, set, sym, refl, ap, ◌∙◌, append_assoc, arith, length-append, length-drop}
use Rattle.std.proofs.lemmas.List.{take_at, set_at, drop_more, length_push}
use Rattle.lines.specs.Lent.{Filled}

pub untouched : {X : Type 0} (before : List X) → Filled before [] before
untouched before = record { fit = omega arith; items = refl }

module _ {X : Type 0} (before xs after : List X) (filled : Filled before xs after) where
  pub filled_long : length after ≡ length before
  filled_long = omega (arith, ap length filled.items, length-append xs (drop (length xs) before), length-drop (length xs) before, filled.fit)

  module _ (n : ℕ) (count : n ≡ length xs) where
    pub filled_front : take n after ≡ xs
    filled_front = ap (λ k. take k after) count ∙ ap (take (length xs)) filled.items ∙ take_at xs _ _ refl

    pub filled_more : (x : X) → n < length after → Filled before (xs ++ x ∷ []) (set after n x)
    filled_more x l = record {
      fit = omega (arith, length_push xs x, filled_long, count);
      items =
          ap (λ k. set after k x) count ∙ ap (λ ys. set ys (length xs) x) filled.items
          ∙ ap (λ ys. set (xs ++ ys) (length xs) x) (drop_more before (length xs) x (omega (arith, filled_long, count))) ∙ set_at xs _ _ x (length xs) refl
          ∙ sym (append_assoc xs (x ∷ []) (drop (length xs + 1) before)) ∙ ap (λ k. (xs ++ x ∷ []) ++ drop k before) (sym (length_push xs x));
    }
