-- Which equation records are accepted, and that their book is well-formed.
use Rattle.std.proofs.Common.{◌≡◌, ℕ, zero, suc, ◌*◌, ◌<◌, ◌≤◌, Bool, true, false, ◌&&◌, eqb, ltb, leb, List, [], ◌∷◌, length, Some, None, Option, sym, refl, ap, subst, ap₂, arith}
use Rattle.std.proofs.lemmas.Bool.{both_ways, and_parts, leb-true}
use Rattle.records.specs.declared.EquationRecord.{EquationRecord}
use Rattle.records.specs.declared.Form.{Form}
use Rattle.records.specs.declared.Form.TheVariants.{True, False, Atom, Or, And, Diamond, Box}
use Rattle.semantics.specs.declared.Equation.{Equation}
use Rattle.semantics.specs.Lts.{Lts}
use Rattle.records.specs.Letters.{form_of}
use Rattle.semantics.specs.Equations.{nth}
use Rattle.semantics.specs.Plain.{well_formed, all_well_formed, equation_of, book_of, proper, fits}
use Rattle.lts.specs.Source.{Answers, Shows}
use Rattle.board.proofs.Books.{length_book}
use Rattle.refinement.specs.Calls.{sized}
use Rattle.refinement.proofs.Totals.{AllFormed}

module _ (A : Answers) (F : Lts) (shows : Shows A F) where
  formed_same : (n : ℕ) (r : Option Form) (x y : ℕ) → well_formed (sized A) n r x y ≡ well_formed F n r x y
  unfolding well_formed
  formed_same n None x y = refl
  formed_same n (Some True) x y = refl
  formed_same n (Some False) x y = refl
  formed_same n (Some Atom) x y = ap (λ (m : ℕ). ltb x m && eqb y 0) shows.atoms
  formed_same n (Some Or) x y = refl
  formed_same n (Some And) x y = refl
  formed_same n (Some Diamond) x y = ap (λ (m : ℕ). ltb x m && ltb y n) shows.actions
  formed_same n (Some Box) x y = ap (λ (m : ℕ). ltb x m && ltb y n) shows.actions

  all_same : (n : ℕ) (rs : List EquationRecord) → all_well_formed (sized A) n rs ≡ all_well_formed F n rs
  unfolding all_well_formed
  all_same n [] = refl
  all_same n (r ∷ rs) = ap₂ (λ (a b : Bool). a && b) (formed_same n (form_of r.form) r.first r.second) (all_same n rs)

  pub proper_same : (rs : List EquationRecord) → proper (sized A) rs ≡ proper F rs
  unfolding proper
  proper_same rs = ap (λ (b : Bool). leb 1 (length rs) && leb (length rs) 1024 && b) (all_same (length rs) rs)

  pub fits_same : (rs : List EquationRecord) → fits (sized A) rs ≡ fits F rs
  unfolding fits
  fits_same rs = ap (λ (m : ℕ). leb (m * length rs) 8192) shows.states

form_formed : (F : Lts) (n : ℕ) (r : Option Form) (x y : ℕ) → well_formed F n r x y ≡ true → well_formed F n (Some (equation_of r x y).form) (equation_of r x y).first (equation_of r x y).second ≡ true
unfolding well_formed equation_of
form_formed F n None x y e = absurd (both_ways false refl e)
form_formed F n (Some f) x y e = e

nth_formed : (F : Lts) (n : ℕ) (rs : List EquationRecord) → all_well_formed F n rs ≡ true → (i : ℕ) → i < length rs →
    well_formed F n (Some (nth (book_of rs) i).form) (nth (book_of rs) i).first (nth (book_of rs) i).second ≡ true
unfolding all_well_formed book_of nth
nth_formed F n [] e i l = absurd (omega arith)
nth_formed F n (r ∷ rs) e zero l =
    form_formed F n (form_of r.form) r.first r.second (and_parts (well_formed F n (form_of r.form) r.first r.second) (all_well_formed F n rs) e).0
nth_formed F n (r ∷ rs) e (suc i) l = nth_formed F n rs (and_parts (well_formed F n (form_of r.form) r.first r.second) (all_well_formed F n rs) e).1 i (omega arith)

pub record Accepted (F : Lts) (B : List Equation) : Type 0 where
  pub formed : AllFormed F B
  pub small : F.states * length B ≤ 8192
  pub few : length B ≤ 1024

pub accepted : (F : Lts) (rs : List EquationRecord) → proper F rs ≡ true → fits F rs ≡ true → Accepted F (book_of rs)
unfolding proper fits
accepted F rs e f =
    let n = length rs in
    let long = length_book rs in
    let a = and_parts (leb 1 n && leb n 1024) (all_well_formed F n rs) e in
    let b = and_parts (leb 1 n) (leb n 1024) a.0 in
    record {
      formed = subst (λ (m : ℕ). (i : ℕ) → i < m → well_formed F m (Some (nth (book_of rs) i).form) (nth (book_of rs) i).first (nth (book_of rs) i).second ≡ true) (sym long) (nth_formed F n rs a.1);
      small = subst (λ (m : ℕ). F.states * m ≤ 8192) (sym long) (leb-true (F.states * n) 8192 f);
      few = subst (λ (m : ℕ). m ≤ 1024) (sym long) (leb-true n 1024 b.1);
    }
