-- Tests of each item of a list, as tests of each place.
use Rattle.std.proofs.Common.{◌≡◌, ℕ, zero, suc, ◌<◌, Bool, true, false, ◌&&◌, ◌||◌, List, [], ◌∷◌, length, get_or, refl, ap, ◌∙◌, ap₂, arith}
use Rattle.std.specs.List.{list_all}
use Rattle.semantics.specs.Lts.{some, every}

every_front : (n : ℕ) (f : ℕ → Bool) → (f 0 && every n (λ k. f (suc k))) ≡ every (suc n) f
unfolding every
every_front zero f = alone (f 0)
  where
    alone : (b : Bool) → (b && true) ≡ (true && b)
    alone true = refl
    alone false = refl
every_front (suc n) f = regroup (f 0) (every n (λ k. f (suc k))) (f (suc n)) ∙ ap (λ b. b && f (suc n)) (every_front n f)
  where
    regroup : (a b c : Bool) → (a && (b && c)) ≡ ((a && b) && c)
    regroup true b c = refl
    regroup false b c = refl

-- every item passes where the item at every place does
pub every_item : {X : Type 0} (p : X → Bool) (xs : List X) (d : X) → list_all p xs ≡ every (length xs) (λ k. p (get_or xs k d))
unfolding every
every_item p [] d = refl
every_item p (x ∷ xs) d = ap (λ b. p x && b) (every_item p xs d) ∙ every_front (length xs) (λ k. p (get_or (x ∷ xs) k d))

-- two tests that agree below n
pub some_same : (n : ℕ) (f g : ℕ → Bool) → ((k : ℕ) → k < n → f k ≡ g k) → some n f ≡ some n g
unfolding some
some_same zero f g e = refl
some_same (suc n) f g e = ap₂ (λ (a b : Bool). a || b) (some_same n f g (λ k l. e k (omega arith))) (e n (omega arith))
