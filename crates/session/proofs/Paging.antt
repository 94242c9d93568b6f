-- Calls and their pages, side by side.
use Rattle.std.proofs.Common.{◌≡◌, ℕ, ◌<◌, List, [], ◌∷◌, ◌++◌, Some, None, Option, map, length, get_or, take, sym, ap, ◌∙◌, arith, take_all, Bor, Iter}
use Rattle.std.specs.List.{zip}
use Rattle.std.specs.Iterator.{Yields}
use Rattle.std.specs.Iterator.Adapters.{zip_first, zip_second}
use Rattle.std.specs.Slice.Iter.{iter_rest}
use Rattle.std.specs.Vec.Iter.{into_iter_items, into_iter_len, into_iter_steps}
use Rattle.std.specs.declared.iter.Zip.{Zip}
use Rattle.std.specs.declared.vec.IntoIter.{IntoIter}
use Rattle.std.proofs.iter.Yields.{fronts}
use Rattle.std.proofs.lemmas.Iterator.{YieldsList, zips, YieldsList-from_slice, YieldsList-from_zip}
use Rattle.std.proofs.lemmas.Iterator.Consumers.{YieldsList-turn, YieldsList-end}
use Rattle.std.proofs.lemmas.Iterator.Adapters.{YieldsList-from_vec}
use Rattle.std.proofs.lemmas.List.{length-map, get_or-map, length_push, take_more}
use Rattle.std.proofs.lemmas.Slice.Zip.{length-zip, get_or-zip}

module _ {X Y : Type 0} (f : X → ℕ) (g : Y → ℕ) (xs : List X) (ys : List Y) (same : map g ys ≡ map f xs) where
  long : length ys ≡ length xs
  long = sym (length-map ys g) ∙ ap length same ∙ length-map xs f

  -- what one turn of a loop takes from each list, after others
  pub record Turn (done : List (Bor X × Y)) (p : Bor X × Y) : Type 0 where
    pub taken : take (length (done ++ p ∷ [])) xs ≡ take (length done) xs ++ p.0.now ∷ []
    pub fits : g p.1 ≡ f p.0.now

  paired : (done : List (Bor X × Y)) (p : Bor X × Y) → length done < length (zip xs ys) → ◌≡◌ {A = X × Y} (p.0.now, p.1) (get_or (zip xs ys) (length done) (p.0.now, p.1)) → Turn done p
  paired done p h here =
      let k = length done in
      let x = p.0.now in
      let y = p.1 in
      let l : k < length xs = omega (arith, length-zip xs ys) in
      let m : k < length ys = omega (arith, long) in
      let at = here ∙ get_or-zip xs ys k (x, y) l m in
      let left : x ≡ get_or xs k x = ap (λ (q : X × Y). q.0) at in
      let right : y ≡ get_or ys k y = ap (λ (q : X × Y). q.1) at in
      record {
        taken = ap (λ (i : ℕ). take i xs) (length_push done p) ∙ take_more xs k x l ∙ ap (λ (z : X). take k xs ++ z ∷ []) (sym left);
        fits = ap g right ∙ sym (get_or-map g ys k y (g y) m) ∙ ap (λ (ns : List ℕ). get_or ns k (g y)) same ∙ get_or-map f xs k x (g y) l ∙ sym (ap f left);
      }

  module _ {Z : Type 0} (s : Zip (Iter X) (IntoIter Y Z)) (first : iter_rest (zip_first s) ≡ xs) (second : into_iter_items (zip_second s) ≡ ys) (len : into_iter_len (zip_second s) ≡ length ys) where
    abbrev steps : Zip (Iter X) (IntoIter Y Z) → Option (Bor X × Y) → Zip (Iter X) (IntoIter Y Z) → Type 0
    steps = zips fronts (into_iter_steps {X = Y} {Z = Z})

    road : YieldsList steps (λ p. (p.0.now, p.1)) s (zip xs ys)
    road = YieldsList-from_zip (YieldsList-from_slice xs first) (YieldsList-from_vec ys second len)

    pub turn : (done : List (Bor X × Y)) (t : Zip (Iter X) (IntoIter Y Z)) → Yields steps s done t → (r : Option (Bor X × Y)) (u : Zip (Iter X) (IntoIter Y Z)) (p : Bor X × Y) → r ≡ Some p → steps t r u → Turn done p
    turn done t y r u p e step = let at = YieldsList-turn road done t y r u p e step in paired done p at.0 at.1

    pub end : (done : List (Bor X × Y)) (t : Zip (Iter X) (IntoIter Y Z)) → Yields steps s done t → (r : Option (Bor X × Y)) (u : Zip (Iter X) (IntoIter Y Z)) → r ≡ None → steps t r u → take (length done) xs ≡ xs
    end done t y r u e step = let at = YieldsList-end road done t y r u e step in take_all (length done) xs (omega (arith, at.1, length-zip xs ys, long))
