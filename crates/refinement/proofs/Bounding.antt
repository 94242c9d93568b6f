-- All looks can be counted.
use Rattle.std.proofs.Common.{◌≡◌, ℕ, zero, suc, ◌+◌, ◌*◌, ◌<◌, ◌≤◌, true, false, ◌||◌, eqb, ltb, ◌⊎◌, List, [], ◌∷◌, ◌++◌, map, length, get_or, take, Some, sym, refl, ◌∙◌, subst, inl, inr, mul-le-mul_left, arith}
use Rattle.std.proofs.lemmas.Bool.{both_ways, and_parts, or_left, or_right, or_cases, ltb-true, cases_lt}
use Rattle.std.proofs.lemmas.List.{get_or_past}
use Rattle.std.proofs.lemmas.Nat.{div_below, mod_below}
use Rattle.board.specs.State.{State, most}
use Rattle.lts.specs.Source.{Answers, Shows}
use Rattle.records.specs.declared.Fixpoint.{Fixpoint}
use Rattle.refinement.proofs.Tables.{eqb_same}
use Rattle.refinement.proofs.Totals.{AllFormed}
use Rattle.refinement.specs.Represents.{Shown, elem, pair_at}
use Rattle.semantics.proofs.Looks.{costs_bound}
use Rattle.semantics.proofs.Pairs.{Inside, costs_push, inside_push, once_push}
use Rattle.semantics.proofs.Sums.{sum_const, sum_first, sum_le}
use Rattle.semantics.specs.Equations.{cost, nth}
use Rattle.semantics.specs.Law.{crossings, junction, most_looks}
use Rattle.semantics.specs.Lts.{Lts, all, on, sum}
use Rattle.semantics.specs.Plain.{among, well_formed}
use Rattle.semantics.specs.declared.Equation.{Equation}
use Rattle.records.specs.declared.Form.{Form}
use Rattle.records.specs.declared.Form.TheVariants.{And, Atom, Box, Diamond, False, Or, True}
use Rattle.semantics.specs.declared.Pair.{Pair}

-- a place that has turned lies on the board
pub turned_low : (σ : State) (q : ℕ) → get_or σ.turned q false ≡ true → q < length σ.turned
turned_low σ q e = go (cases_lt q (length σ.turned))
  where
    go : (q < length σ.turned) ⊎ (length σ.turned ≤ q) → q < length σ.turned
    go (inl l) = l
    go (inr l) = absurd (both_ways (get_or σ.turned q false) (get_or_past σ.turned q false l) e)

pub positive : (N n q : ℕ) → q < N * n → 0 < n
positive N zero q l = absurd (omega arith)
positive N (suc n) q l = omega arith

inside_map : (N n : ℕ) (ws : List ℕ) → ((q : ℕ) → elem q ws ≡ true → q < N * n) → Inside N n (map (pair_at n) ws)
unfolding elem
inside_map N n [] h = tt
inside_map N n (w ∷ ws) h =
    let l : w < N * n = h w (or_left (eqb w w) (elem w ws) (eqb_same w)) in
    let p : 0 < n = positive N n w l in
    (div_below w n N p l, mod_below w n p, inside_map N n ws (λ q e. h q (or_right (eqb w q) (elem q ws) e)))

elem_take : (q k : ℕ) (ws : List ℕ) → elem q (take k ws) ≡ true → elem q ws ≡ true
unfolding elem
elem_take q zero ws e = absurd (both_ways false refl e)
elem_take q (suc k) [] e = absurd (both_ways false refl e)
elem_take q (suc k) (w ∷ ws) e = go (elem_take q k ws) (or_cases (eqb w q) (elem q (take k ws)) e)
  where
    go : (elem q (take k ws) ≡ true → elem q ws ≡ true) → (eqb w q ≡ true) ⊎ (elem q (take k ws) ≡ true) → (eqb w q || elem q ws) ≡ true
    go before (inl f) = or_left (eqb w q) (elem q ws) f
    go before (inr f) = or_right (eqb w q) (elem q ws) (before f)

junction_le : (f : Form) → junction f ≤ 1
junction_le True = omega arith
junction_le False = omega arith
junction_le Atom = omega arith
junction_le Or = omega arith
junction_le And = omega arith
junction_le Diamond = omega arith
junction_le Box = omega arith

module _ (A : Answers) (F : Lts) (shows : Shows A F) where
  on_le : (a : ℕ) → a < F.actions → on F a ≤ 65535
  unfolding all
  on_le a l = let b = sum_first F.actions a (on F) l in let c = shows.bounded.few_transitions in omega arith

  crossings_le : (n : ℕ) (f : Form) (x y : ℕ) → well_formed F n (Some f) x y ≡ true → crossings F f x ≤ 65535
  unfolding well_formed
  crossings_le n True x y e = omega arith
  crossings_le n False x y e = omega arith
  crossings_le n Atom x y e = omega arith
  crossings_le n Or x y e = omega arith
  crossings_le n And x y e = omega arith
  crossings_le n Diamond x y e = on_le x (ltb-true x F.actions (and_parts (ltb x F.actions) (ltb y n) e).0)
  crossings_le n Box x y e = on_le x (ltb-true x F.actions (and_parts (ltb x F.actions) (ltb y n) e).0)

  pub most_le : (B : List Equation) → AllFormed F B → F.states * length B ≤ 8192 → length B ≤ 1024 → most_looks F B ≤ most
  unfolding most_looks
  most_le B formed_all small few =
      let n = length B in
      let N = F.states in
      let S = sum n (λ j. junction (nth B j).form) in
      let a : S ≤ sum n (λ j. 1) = sum_le n (λ j. junction (nth B j).form) (λ j. 1) (λ j _. junction_le (nth B j).form) in
      let b : sum n (λ j. 1) ≡ n * 1 = sum_const n 1 in
      let c : sum n (λ j. crossings F (nth B j).form (nth B j).first) ≤ sum n (λ j. 65535) = sum_le n _ (λ j. 65535) (λ j l. crossings_le n (nth B j).form (nth B j).first (nth B j).second (formed_all j l)) in
      let e : sum n (λ j. 65535) ≡ n * 65535 = sum_const n 65535 in
      let s : S ≤ n = omega arith in
      let g : 2 * N * S ≤ 2 * N * n = mul-le-mul_left (2 * N) s in
      let h : 2 * N * n ≡ 2 * (N * n) = omega arith in
      omega arith

  module _ (d : Fixpoint) (σ : State) (B : List Equation) (pins taken : List Pair) (seen : ℕ) (h : Shown F d σ B pins taken seen) where
    pub inside_taken : Inside F.states (length B) taken
    inside_taken =
        subst (λ (ps : List Pair). Inside F.states (length B) ps) h.done
        (inside_map F.states (length B) (take σ.taken σ.work)
        (λ q e. let a = turned_low σ q (sym (h.listed.exact q) ∙ elem_take q σ.taken σ.work e) in let b = h.turned_long in omega arith))

    -- with one more pair taken
    pub looks_low : (p : Pair) → p.state < F.states → p.variable < length B → among p.state p.variable taken ≡ false → seen + cost F B p.state p.variable ≤ most
    looks_low p l k e =
        let a = costs_bound F B (taken ++ (p ∷ [])) (once_push taken p h.once e) (inside_push F.states (length B) taken p inside_taken l k) in
        let b = costs_push F B taken p in
        let c = h.summed in
        let m = most_le B h.formed h.small h.few_equations in
        omega arith
