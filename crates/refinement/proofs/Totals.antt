-- The hits and looks of all places together: what the pair taken changes, and its cost.
use Rattle.std.proofs.Common.{◌≡◌, ℕ, zero, suc, ◌+◌, ◌*◌, ◌/◌, ◌%◌, ◌<◌, Bool, true, false, cond, ◌&&◌, eqb, ltb, List, length, Some, refl, ap, ◌∙◌, ap₂, arith}
use Rattle.std.proofs.lemmas.Bool.{both_ways, and_parts, ltb-true, eq-eqb, ne_eqb}
use Rattle.board.specs.Links.{first?, is_first, names, second?, variable, variable?}
use Rattle.lts.specs.Source.{Answers, Shows, one_if}
use Rattle.refinement.proofs.Deciding.{ways}
use Rattle.refinement.proofs.Linking.{Within}
use Rattle.refinement.proofs.Tables.{eqb_sym}
use Rattle.refinement.proofs.Visiting.{hits, looks_by}
use Rattle.semantics.proofs.Sums.{sum_at, sum_eq}
use Rattle.semantics.specs.Equations.{cost, looks_of, nth}
use Rattle.semantics.specs.Lts.{Lts, sum}
use Rattle.semantics.specs.Plain.{well_formed}
use Rattle.semantics.specs.declared.Equation.{Equation}
use Rattle.records.specs.declared.Form.{Form}
use Rattle.records.specs.declared.Form.TheVariants.{And, Atom, Box, Diamond, False, Or, True}

-- every equation is well-formed
abbrev pub AllFormed : Lts → List Equation → Type 0
AllFormed F B = (j : ℕ) → j < length B → well_formed F (length B) (Some (nth B j).form) (nth B j).first (nth B j).second ≡ true

pub sum_halves : (n : ℕ) (g : ℕ → Bool → ℕ) → sum (2 * n) (λ p. g (p / 2) (is_first p)) ≡ sum n (λ k. g k true + g k false)
unfolding sum
sum_halves zero g = refl
sum_halves (suc n) g =
    let e : 2 * suc n ≡ suc (suc (2 * n)) = omega arith in
    let a : g ((2 * n) / 2) (is_first (2 * n)) ≡ g n true = ap₂ g (omega arith) (eq-eqb ((2 * n) % 2) 0 (omega arith)) in
    let b : g (suc (2 * n) / 2) (is_first (suc (2 * n))) ≡ g n false = ap₂ g (omega arith) (ne_eqb (suc (2 * n) % 2) 0 (λ e. omega arith)) in
    let c = sum_halves n g in
    ap (λ (m : ℕ). sum m (λ p. g (p / 2) (is_first p))) e ∙ ap₂ (λ (x y : ℕ). x + y) (ap₂ (λ (x y : ℕ). x + y) c a) b ∙ omega arith

two_low : (n x y : ℕ) → (ltb x n && ltb y n) ≡ true → (x < n) × (y < n)
two_low n x y e = let a = and_parts (ltb x n) (ltb y n) e in (ltb-true x n a.0, ltb-true y n a.1)

form_within : (F : Lts) (n : ℕ) (f : Form) (x y : ℕ) → well_formed F n (Some f) x y ≡ true → (first? f ≡ true → x < n) × (second? f ≡ true → y < n)
unfolding well_formed
form_within F n True x y e = (λ z. absurd (both_ways false refl z), λ z. absurd (both_ways false refl z))
form_within F n False x y e = (λ z. absurd (both_ways false refl z), λ z. absurd (both_ways false refl z))
form_within F n Atom x y e = (λ z. absurd (both_ways false refl z), λ z. absurd (both_ways false refl z))
form_within F n Or x y e = let a = two_low n x y e in (λ _. a.0, λ _. a.1)
form_within F n And x y e = let a = two_low n x y e in (λ _. a.0, λ _. a.1)
form_within F n Diamond x y e = (λ z. absurd (both_ways false refl z), λ _. ltb-true y n (and_parts (ltb x F.actions) (ltb y n) e).1)
form_within F n Box x y e = (λ z. absurd (both_ways false refl z), λ _. ltb-true y n (and_parts (ltb x F.actions) (ltb y n) e).1)

pub within : (F : Lts) (B : List Equation) → AllFormed F B → Within B
within F B h p l e = go (is_first p) e
  where
    r : Equation
    r = nth B (p / 2)

    fits : (first? r.form ≡ true → r.first < length B) × (second? r.form ≡ true → r.second < length B)
    fits = form_within F (length B) r.form r.first r.second (h (p / 2) (omega arith))

    go : (b : Bool) → variable? r b ≡ true → variable r b < length B
    go true e = fits.0 e
    go false e = fits.1 e

module _ (A : Answers) (F : Lts) (shows : Shows A F) (B : List Equation) (s i : ℕ) where
  -- what one operand of equation k gives, where it names i
  abbrev given : (ℕ → Form → ℕ → ℕ) → ℕ → Bool → ℕ
  given g k b = cond (variable? (nth B k) b && eqb (variable (nth B k) b) i) (g k (nth B k).form (nth B k).first) 0

  looks_form : (f : Form) (x y : ℕ) → cond (first? f && eqb x i) (looks_by A s f x) 0 + cond (second? f && eqb y i) (looks_by A s f x) 0 ≡ looks_of F s i f x y
  looks_form True x y = refl
  looks_form False x y = refl
  looks_form Atom x y = refl
  looks_form Or x y = refl
  looks_form And x y = refl
  looks_form Diamond a y = let z = ap (λ (m : ℕ). cond (eqb y i) m 0) (shows.in_degree s a) in omega arith
  looks_form Box a y = let z = ap (λ (m : ℕ). cond (eqb y i) m 0) (shows.in_degree s a) in omega arith

  pub all_looks : 1 + sum (2 * length B) (λ p. cond (names B p i) (looks_by A s (nth B (p / 2)).form (nth B (p / 2)).first) 0) ≡ cost F B s i
  unfolding names cost
  all_looks =
      ap (λ (m : ℕ). 1 + m)
      (sum_halves (length B) (given (λ k f x. looks_by A s f x)) ∙ sum_eq (length B) _ _ (λ k l. looks_form (nth B k).form (nth B k).first (nth B k).second))

  module _ (v j : ℕ) (j_low : j < length B) where
    -- each predecessor comes as often as there are transitions from it
    from_each : (a : ℕ) → sum (A.in_degree s a) (λ k. one_if (A.predecessor s a k) v) ≡ F.transitions v a s
    from_each a = ap (λ (n : ℕ). sum n (λ k. one_if (A.predecessor s a k) v)) (shows.in_degree s a) ∙ shows.predecessor.times s a v

    two_hits : (a b c e : Bool) → cond a (cond (c && e) 1 0) 0 + cond b (cond (c && e) 1 0) 0 ≡ cond e (cond c (cond a 1 0 + cond b 1 0) 0) 0
    two_hits true true true true = refl
    two_hits true true true false = refl
    two_hits true true false true = refl
    two_hits true true false false = refl
    two_hits true false true true = refl
    two_hits true false true false = refl
    two_hits true false false true = refl
    two_hits true false false false = refl
    two_hits false true true true = refl
    two_hits false true true false = refl
    two_hits false true false true = refl
    two_hits false true false false = refl
    two_hits false false true true = refl
    two_hits false false true false = refl
    two_hits false false false true = refl
    two_hits false false false false = refl

    no_hits : (b : Bool) → ◌≡◌ {A = ℕ} 0 (cond b 0 0)
    no_hits true = refl
    no_hits false = refl

    swap_conds : (a b : Bool) (x : ℕ) → 0 + cond a (cond b x 0) 0 ≡ cond b (cond a x 0) 0
    swap_conds true true x = omega arith
    swap_conds true false x = refl
    swap_conds false true x = refl
    swap_conds false false x = refl

    hits_form : (k : ℕ) (f : Form) (x y : ℕ) →
        cond (first? f && eqb x i) (hits A s k v j f x) 0 + cond (second? f && eqb y i) (hits A s k v j f x) 0 ≡ cond (eqb k j) (ways F s i v f x y) 0
    hits_form k True x y = no_hits (eqb k j)
    hits_form k False x y = no_hits (eqb k j)
    hits_form k Atom x y = no_hits (eqb k j)
    hits_form k Or x y = two_hits (eqb x i) (eqb y i) (eqb s v) (eqb k j)
    hits_form k And x y = two_hits (eqb x i) (eqb y i) (eqb s v) (eqb k j)
    hits_form k Diamond a y =
        swap_conds (eqb y i) (eqb k j) (sum (A.in_degree s a) (λ k. one_if (A.predecessor s a k) v)) ∙ ap (λ (m : ℕ). cond (eqb k j) (cond (eqb y i) m 0) 0) (from_each a)
    hits_form k Box a y =
        swap_conds (eqb y i) (eqb k j) (sum (A.in_degree s a) (λ k. one_if (A.predecessor s a k) v)) ∙ ap (λ (m : ℕ). cond (eqb k j) (cond (eqb y i) m 0) 0) (from_each a)

    pub all_hits : sum (2 * length B) (λ p. cond (names B p i) (hits A s (p / 2) v j (nth B (p / 2)).form (nth B (p / 2)).first) 0) ≡ ways F s i v (nth B j).form (nth B j).first (nth B j).second
    unfolding names
    all_hits =
        sum_halves (length B) (given (λ k f x. hits A s k v j f x)) ∙
        sum_eq (length B) _ (λ k. cond (eqb j k) (ways F s i v (nth B k).form (nth B k).first (nth B k).second) 0)
        (λ k l. hits_form k (nth B k).form (nth B k).first (nth B k).second ∙ ap (λ (b : Bool). cond b (ways F s i v (nth B k).form (nth B k).first (nth B k).second) 0) (eqb_sym k j)) ∙
        sum_at (length B) j (λ k. ways F s i v (nth B k).form (nth B k).first (nth B k).second) j_low
