-- What equations mean stays as more are written: at the end, or where there was none.
use Rattle.std.proofs.Common.{◌≡◌, ℕ, zero, suc, ◌<◌, ◌≤◌, true, ltb, List, [], ◌∷◌, ◌++◌, length, set, Some, None, Option, sym, refl, ◌∙◌, subst, arith}
use Rattle.std.proofs.lemmas.Bool.{ltb-true, lt-ltb}
use Rattle.records.specs.declared.Form.{Form}
use Rattle.records.specs.declared.Form.TheVariants.{True, False, Atom, Or, And, Diamond, Box}
use Rattle.semantics.specs.declared.Equation.{Equation}
use Rattle.semantics.specs.Lts.{Lts}
use Rattle.semantics.specs.Equations.{equation, nth}
use Rattle.semantics.specs.Plain.{well_formed}
use Rattle.semantics.proofs.Markings.{and_mono}
use Rattle.semantics.proofs.Describes.{Part, Disjunction, one, either, Conjunction, by_atom, by_diamond, by_box, by_and}

-- an equation other than False
abbrev pub Spelled : Form → Type 0
Spelled True = Unit {0}
Spelled False = ⊥
Spelled Atom = Unit {0}
Spelled Or = Unit {0}
Spelled And = Unit {0}
Spelled Diamond = Unit {0}
Spelled Box = Unit {0}

abbrev pub Grows : List Equation → List Equation → Type 0
Grows B B' = (j : ℕ) → Spelled (nth B j).form → nth B' j ≡ nth B j

pub grows_append : (B es : List Equation) → Grows B (B ++ es)
unfolding nth
grows_append [] es j w = absurd w
grows_append (r ∷ rs) es zero w = refl
grows_append (r ∷ rs) es (suc j) w = grows_append rs es j w

pub grows_set : (B : List Equation) (i : ℕ) (e : Equation) → (Spelled (nth B i).form → ⊥) → Grows B (set B i e)
unfolding nth
grows_set [] i e none j w = absurd w
grows_set (r ∷ rs) zero e none zero w = absurd (none w)
grows_set (r ∷ rs) zero e none (suc j) w = refl
grows_set (r ∷ rs) (suc i) e none zero w = refl
grows_set (r ∷ rs) (suc i) e none (suc j) w = grows_set rs i e none j w

-- the equation that was written

pub nth_end : (B : List Equation) (e : Equation) → nth (B ++ e ∷ []) (length B) ≡ e
unfolding nth
nth_end [] e = refl
nth_end (r ∷ rs) e = nth_end rs e

pub nth_set : (B : List Equation) (i : ℕ) (e : Equation) → i < length B → nth (set B i e) i ≡ e
unfolding nth
nth_set [] i e l = absurd (omega arith)
nth_set (r ∷ rs) zero e l = refl
nth_set (r ∷ rs) (suc i) e l = nth_set rs i e (omega arith)

-- and what the others mean

module _ (B B' : List Equation) (n : ℕ) (grows : Grows B B') where
  still : (j : ℕ) (f : Form) (x y : ℕ) → Spelled f → nth B j ≡ equation f x y → nth B' j ≡ equation f x y
  still j f x y w e = grows j (subst (λ (r : Equation). Spelled r.form) (sym e) w) ∙ e

  pub disjunction_grows : (u : ℕ) (ts : List ℕ) → Disjunction B n u ts → Disjunction B' n u ts
  disjunction_grows u ts (one l) = one l
  disjunction_grows u ts (either {v = v} {w = w} {ts = vs} {us = ws} e d d') = either (still u Or v w tt e) (disjunction_grows v vs d) (disjunction_grows w ws d')

  pub conjunction_grows : (j : ℕ) (ps : List Part) → Conjunction B n j ps → Conjunction B' n j ps
  conjunction_grows j ps (by_atom {i = i} e) = by_atom (still j Atom i 0 tt e)
  conjunction_grows j ps (by_diamond {a = a} {t = t} e l) = by_diamond (still j Diamond a t tt e) l
  conjunction_grows j ps (by_box {a = a} {u = u} {ts = ts} e d) = by_box (still j Box a u tt e) (disjunction_grows u ts d)
  conjunction_grows j ps (by_and {k = v} {l = w} {ps = vs} {qs = ws} e c c') = by_and (still j And v w tt e) (conjunction_grows v vs c) (conjunction_grows w ws c')

-- What is well-formed among n variables is so among more

ltb_more : (n m z : ℕ) → n ≤ m → ltb z n ≡ true → ltb z m ≡ true
ltb_more n m z h e = let a = ltb-true z n e in lt-ltb z m (omega arith)

pub well_formed_more : (F : Lts) (n m : ℕ) (r : Option Form) (x y : ℕ) → n ≤ m → well_formed F n r x y ≡ true → well_formed F m r x y ≡ true
unfolding well_formed
well_formed_more F n m None x y h e = e
well_formed_more F n m (Some True) x y h e = e
well_formed_more F n m (Some False) x y h e = e
well_formed_more F n m (Some Atom) x y h e = e
well_formed_more F n m (Some Or) x y h e = and_mono (ltb x n) (ltb y n) (ltb x m) (ltb y m) (ltb_more n m x h) (ltb_more n m y h) e
well_formed_more F n m (Some And) x y h e = and_mono (ltb x n) (ltb y n) (ltb x m) (ltb y m) (ltb_more n m x h) (ltb_more n m y h) e
well_formed_more F n m (Some Diamond) x y h e = and_mono (ltb x F.actions) (ltb y n) (ltb x F.actions) (ltb y m) (λ q. q) (ltb_more n m y h) e
well_formed_more F n m (Some Box) x y h e = and_mono (ltb x F.actions) (ltb y n) (ltb x F.actions) (ltb y m) (λ q. q) (ltb_more n m y h) e
