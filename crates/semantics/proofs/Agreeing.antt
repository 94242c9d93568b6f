-- Two settled sessions with the same book and the same pinned pairs are alike.
use Rattle.std.proofs.Common.{◌≡◌, ℕ, zero, suc, ◌<◌, ◌≤◌, Bool, true, false, cond, not, ltb, List, [], ◌∷◌, ◌++◌, length, codes, decimal, sym, refl, ap, ◌∙◌, ap₂, arith}
use Rattle.std.proofs.lemmas.Bool.{and_parts, ltb-true}
use Rattle.records.specs.declared.Fixpoint.{Fixpoint}
use Rattle.semantics.specs.declared.Equation.{Equation}
use Rattle.semantics.specs.declared.Pair.{Pair}
use Rattle.semantics.specs.declared.Mark.{Mark}
use Rattle.semantics.specs.Lts.{Lts}
use Rattle.semantics.specs.Equations.{Marking, start, cost}
use Rattle.semantics.specs.Plain.{among, turned, settled, standing, mark_of, marked, share, letter, lines, page, query, PlainAnswer, refused, told, no_book, book, has_pair, answer_to}
use Rattle.semantics.specs.Law.{Each, Agree}
use Rattle.semantics.proofs.Bools.{same_bool}
use Rattle.semantics.proofs.Sums.{sum_eq, grid_eq}
use Rattle.semantics.proofs.Sides.{Prefixed}
use Rattle.semantics.proofs.Pairs.{costs_grid}
use Rattle.semantics.proofs.Kept.{keeps}
use Rattle.semantics.proofs.Standing.{turned_prefixed, turned_in, taken_turned}

other_pins : (F : Lts) (d : Fixpoint) (B : List Equation) (pins pins' : List Pair) (T : Marking) → Each F B (λ s i. among s i pins ≡ among s i pins') → Prefixed F d B pins' T → Prefixed F d B pins T
other_pins F d B pins pins' T same t = record { pinned = λ s i l k q. t.pinned s i l k (sym (same s i l k) ∙ q); stepped = t.stepped }

-- What two sessions show that have the same marks and pins, and are settled

module _ (F : Lts) (d : Fixpoint) (B : List Equation) (pins taken pins' taken' : List Pair) (looks looks' : ℕ)
    (e : settled F d B pins taken ≡ true) (e' : settled F d B pins' taken' ≡ true)
    (pinned : Each F B (λ s i. among s i pins ≡ among s i pins')) (marks : Each F B (λ s i. standing F d B pins taken s i ≡ standing F d B pins' taken' s i)) where
  same_settled : settled F d B pins taken ≡ settled F d B pins' taken'
  same_settled = e ∙ sym e'

  same_query : (s i : ℕ) → answer_to F d (book B pins taken looks) (query s i) [] ≡ answer_to F d (book B pins' taken' looks') (query s i) []
  unfolding answer_to
  same_query s i = where_there (has_pair F B s i) (told (shown pins taken) (among s i pins)) (told (shown pins' taken') (among s i pins')) (refused 11) at_pair
    where
      shown : List Pair → List Pair → Mark
      shown ps qs = mark_of d (standing F d B ps qs s i) (settled F d B ps qs)

      where_there : (t : Bool) (x y z : PlainAnswer) → (t ≡ true → x ≡ y) → cond t x z ≡ cond t y z
      where_there true x y z h = h refl
      where_there false x y z h = refl

      at_pair : has_pair F B s i ≡ true → told (shown pins taken) (among s i pins) ≡ told (shown pins' taken') (among s i pins')
      at_pair t =
          let a = and_parts (ltb s F.states) (ltb i (length B)) t in
          let l = ltb-true s F.states a.0 in
          let k = ltb-true i (length B) a.1 in
          ap₂ told (ap₂ (mark_of d) (marks s i l k) same_settled) (pinned s i l k)

  same_marked : (i : ℕ) → i < length B → marked F (standing F d B pins taken) i ≡ marked F (standing F d B pins' taken') i
  unfolding marked
  same_marked i k = sum_eq F.states _ _ (λ s l. ap (λ (b : Bool). cond b 1 0) (marks s i l k))

  same_lines : (i : ℕ) → i ≤ length B → lines F (standing F d B pins taken) i ≡ lines F (standing F d B pins' taken') i
  unfolding lines
  same_lines zero k = refl
  same_lines (suc i) k =
      ap₂ (λ (front : List ℕ) (m : ℕ). front ++ codes "V," ++ decimal i ++ codes "," ++ decimal m ++ codes "," ++ decimal (share F.states m) ++ 10 ∷ [])
      (same_lines i (omega arith)) (same_marked i k)

  same_sheet : looks ≡ looks' → page F d B pins taken looks ≡ page F d B pins' taken' looks'
  unfolding page
  same_sheet same = ap₂ (λ (a : List ℕ) (b : List ℕ). a ++ b) (ap₂ first same_settled same) (same_lines (length B) (omega arith))
    where
      first : Bool → ℕ → List ℕ
      first settled? n =
          codes "M," ++ letter d ++ codes "," ++ decimal F.states ++ codes "," ++ decimal (length B) ++ codes "," ++ cond settled? (codes "1") (codes "0") ++ codes "," ++ decimal n ++ 10 ∷ []

pub agree : Agree
unfolding standing
agree F d es es' B pins taken pins' taken' looks looks' r r' e e' same =
    let h = keeps F d no_book (book B pins taken looks) es tt r in
    let h' = keeps F d no_book (book B pins' taken' looks') es' tt r' in
    let T = turned F d B pins taken in
    let T' = turned F d B pins' taken' in
    let up = turned_in F d B pins taken looks h T' (other_pins F d B pins pins' T' same (turned_prefixed F d B pins' taken' looks' h' e')) in
    let down = turned_in F d B pins' taken' looks' h' T (other_pins F d B pins' pins T (λ s i l k. sym (same s i l k)) (turned_prefixed F d B pins taken looks h e)) in
    let turns : Each F B (λ s i. T s i ≡ T' s i) = λ s i l k. same_bool (T s i) (T' s i) (up s i l k) (down s i l k) in
    let marks : Each F B (λ s i. standing F d B pins taken s i ≡ standing F d B pins' taken' s i) = λ s i l k. ap (λ (b : Bool). cond b (not (start d)) (start d)) (turns s i l k) in
    let takes : Each F B (λ s i. among s i taken ≡ among s i taken') = λ s i l k. taken_turned F d B pins taken looks h e s i l k ∙ turns s i l k ∙ sym (taken_turned F d B pins' taken' looks' h' e' s i l k) in
    let looked : looks ≡ looks' =
    h.summed ∙ costs_grid F B taken h.once h.inside ∙ grid_eq F.states (length B) _ _ (λ s i l k. ap (λ (b : Bool). cond b (cost F B s i) 0) (takes s i l k)) ∙ sym (costs_grid F B taken' h'.once h'.inside) ∙ sym h'.summed in
    record {
      same_marks = marks;
      same_looks = looked;
      same_query = same_query F d B pins taken pins' taken' looks looks' e e' same marks;
      same_sheet = same_sheet F d B pins taken pins' taken' looks looks' e e' same marks looked;
    }
