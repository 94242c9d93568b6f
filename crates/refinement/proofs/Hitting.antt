-- What a number of hits makes of one pair.
use Rattle.std.proofs.Common.{◌≡◌, ℕ, ◌+◌, ◌-◌, ◌*◌, ◌<◌, ◌≤◌, min, Bool, true, false, cond, ◌&&◌, ◌||◌, eqb, ltb, leb, ◌⊎◌, List, length, get_or, sym, refl, ap, ◌∙◌, subst, ap₂, subst₂, inl, inr, arith}
use Rattle.std.proofs.lemmas.Bool.{eqb-true, eq-eqb, ne_eqb, le-leb, lt-leb, lt-ltb, leb-true, cases_Bool, cases_lt, le-ltb, cond_both, cond-true, cond-false, and_from, and_left, and_parts, both_ways}
use Rattle.board.specs.State.{State, looked, most, pair?, place}
use Rattle.board.specs.Turning.{strike, struck, lower, turn}
use Rattle.lts.specs.Source.{Answers}
use Rattle.records.specs.declared.Fixpoint.{Fixpoint}
use Rattle.refinement.proofs.Listing.{Same, puts, same_all, same_then, turns}
use Rattle.refinement.proofs.Tables.{eqb_same, place_eqb}
use Rattle.refinement.specs.Represents.{Listed}
use Rattle.refinement.specs.Sides.{counted, may_turn}
use Rattle.refinement.specs.Taking.{hit}
use Rattle.semantics.specs.Equations.{nth}
use Rattle.semantics.specs.declared.Equation.{Equation}

-- m hits turn a pair that has c operands left: the last of them where they are counted, else the first
abbrev pub fires : (counted may : Bool) → (c m : ℕ) → Bool
fires counted may c m = ltb 0 m && cond counted (may && leb c m) true

fires_more : (t k may : Bool) (c m : ℕ) → ((t || fires k may c m) || cond k (may && leb c (m + 1)) true) ≡ (t || fires k may c (m + 1))
fires_more true k may c m = refl
fires_more false false may c m = rw (lt-ltb 0 (m + 1) (omega arith)) (or_true (fires false may c m))
  where
    or_true : (b : Bool) → (b || true) ≡ true
    or_true true = refl
    or_true false = refl
fires_more false true may c m = rw (lt-ltb 0 (m + 1) (omega arith)) (go (ltb 0 m) may (leb c m) (leb c (m + 1)) up)
  where
    up : leb c m ≡ true → leb c (m + 1) ≡ true
    up e = let a = leb-true c m e in le-leb c (m + 1) (omega arith)

    go : (z a b e : Bool) → (b ≡ true → e ≡ true) → ((z && (a && b)) || (a && e)) ≡ (a && e)
    go false a b e h = refl
    go true false b e h = refl
    go true true false e h = refl
    go true true true e h = sym (h refl)

-- a count that was lowered is 0
low_zero : (c m : ℕ) → eqb (c - m - 1) 0 ≡ leb c (m + 1)
low_zero c m = go (cases_lt (m + 1) c)
  where
    go : (m + 1 < c) ⊎ (c ≤ m + 1) → eqb (c - m - 1) 0 ≡ leb c (m + 1)
    go (inl l) = ne_eqb (c - m - 1) 0 (λ e. omega arith) ∙ sym (lt-leb c (m + 1) l)
    go (inr l) = eq-eqb (c - m - 1) 0 (omega arith) ∙ sym (le-leb c (m + 1) l)

-- the pair (s, j), where the board has it
hit_inside : (A : Answers) (d : Fixpoint) (s j : ℕ) (σ : State) → s < σ.states → j < length σ.book →
    let r = nth σ.book j in
    hit A d s j σ ≡ struck (counted d r.form) (may_turn d r.form (A.divergent s r.first)) (place σ s j) σ
unfolding hit strike
hit_inside A d s j σ l k = cond-true (pair? σ s j) _ _ (and_from (ltb s σ.states) (ltb j (length σ.book)) (lt-ltb s σ.states l) (lt-ltb j (length σ.book) k))

-- and where it does not
pub hit_outside : (A : Answers) (d : Fixpoint) (s j : ℕ) (σ : State) → σ.states ≤ s → hit A d s j σ ≡ σ
unfolding hit strike
hit_outside A d s j σ l = cond-false (pair? σ s j) _ _ (and_left (ltb s σ.states) (ltb j (length σ.book)) (le-ltb s σ.states l))

module _ (A : Answers) (d : Fixpoint) (σ₀ : State) (v j : ℕ) where
  abbrev n : ℕ
  n = length σ₀.book

  abbrev at : ℕ
  at = v * n + j

  abbrev rule : Equation
  rule = nth σ₀.book j

  abbrev may : Bool
  may = may_turn d rule.form (A.divergent v rule.first)

  -- from σ₀ with m hits of the pair (v, j), and l looks
  pub record Reached (m l : ℕ) (σ : State) : Type 0 where
    pub same : Same σ₀ σ
    pub listed : Listed σ
    pub looks : σ.looks ≡ min (σ₀.looks + l) most
    pub counts : counted d rule.form ≡ true → get_or σ.counts at 0 ≡ get_or σ₀.counts at 0 - m
    pub turned : get_or σ.turned at false ≡ (get_or σ₀.turned at false || fires (counted d rule.form) may (get_or σ₀.counts at 0) m)

  pub reached_look : (m l : ℕ) (σ : State) → Reached m l σ → Reached m (l + 1) (looked σ)
  reached_look m l σ h =
      record {
        same = same_then σ₀ σ (looked σ) h.same (record { loaded = refl; states = refl; book = refl; pinned = refl; head = refl; next = refl; taken = refl; turned_long = refl; counts_long = refl; more = (same_all σ).more; work = (same_all σ).work });
        listed = record { exact = h.listed.exact; once = h.listed.once };
        looks = let a = h.looks in omega arith;
        counts = h.counts;
        turned = h.turned;
      }

  pub reached_start : Listed σ₀ → σ₀.looks ≤ most → Reached 0 0 σ₀
  reached_start h low =
      record {
        same = same_all σ₀;
        listed = h;
        looks = omega arith;
        counts = λ _. omega arith;
        turned = or_false (get_or σ₀.turned at false);
      }
    where
      or_false : (b : Bool) → b ≡ (b || false)
      or_false true = refl
      or_false false = refl

  -- a state with the book of σ₀ is hit
  abbrev hit_by : ℕ → ℕ → List Equation → State → State
  hit_by u i B σ =
      let r = nth B i in
      let q = u * length B + i in
      cond (counted d r.form) (lower (may_turn d r.form (A.divergent u r.first)) q σ) (turn q σ)

  module _ (v_in : v < σ₀.states) (j_in : j < n) (low : at < length σ₀.turned) (low' : at < length σ₀.counts) where
    -- the pair itself is hit
    own : (m l : ℕ) (σ : State) → Reached m l σ → Reached (m + 1) l (hit A d v j σ)
    unfolding lower
    own m l σ h =
        subst (Reached (m + 1) l) (sym (hit_inside A d v j σ (let a = h.same.states in omega arith) (let a = ap (length {A = Equation}) h.same.book in omega arith)))
        (subst (λ (B : List Equation). Reached (m + 1) l (hit_by v j B σ)) (sym h.same.book) (cond_both (counted d rule.form) (lower may at σ) (turn at σ) (Reached (m + 1) l) yes no))
      where
        in_turned : at < length σ.turned
        in_turned = let a = h.same.turned_long in omega arith

        in_counts : at < length σ.counts
        in_counts = let a = h.same.counts_long in omega arith

        yes : counted d rule.form ≡ true → Reached (m + 1) l (lower may at σ)
        yes e =
            let c = get_or σ.counts at 0 - 1 in
            let p = puts may at c σ in_turned in_counts h.listed in
            let c₀ = get_or σ₀.counts at 0 in
            let less : get_or σ.counts at 0 ≡ c₀ - m = h.counts e in
            let zero? : eqb c 0 ≡ leb c₀ (m + 1) = ap (λ (x : ℕ). eqb (x - 1) 0) less ∙ low_zero c₀ m in
            record {
              same = same_then σ₀ σ (lower may at σ) h.same p.same;
              listed = p.listed;
              looks = p.looks ∙ h.looks;
              counts = λ _. p.counts at ∙ rw (eqb_same at) (omega arith);
              turned =
                  p.turned at ∙ ap₂ (λ (a b : Bool). a || b) h.turned (rw (eqb_same at) (ap (λ (b : Bool). may && b) zero?)) ∙
                  subst (λ (k : Bool). ((get_or σ₀.turned at false || fires (counted d rule.form) may c₀ m) || cond k (may && leb c₀ (m + 1)) true) ≡ (get_or σ₀.turned at false || fires (counted d rule.form) may c₀ (m + 1))) e
                  (fires_more (get_or σ₀.turned at false) (counted d rule.form) may c₀ m);
            }

        no : counted d rule.form ≡ false → Reached (m + 1) l (turn at σ)
        no e =
            let t = turns at σ in_turned h.listed in
            let c₀ = get_or σ₀.counts at 0 in
            record {
              same = same_then σ₀ σ (turn at σ) h.same t.same;
              listed = t.listed;
              looks = t.looks ∙ h.looks;
              counts = λ f. absurd (both_ways (counted d rule.form) e f);
              turned =
                  t.turned at ∙ ap₂ (λ (a b : Bool). a || b) h.turned (eqb_same at) ∙
                  subst (λ (k : Bool). ((get_or σ₀.turned at false || fires (counted d rule.form) may c₀ m) || cond k (may && leb c₀ (m + 1)) true) ≡ (get_or σ₀.turned at false || fires (counted d rule.form) may c₀ (m + 1))) e
                  (fires_more (get_or σ₀.turned at false) (counted d rule.form) may c₀ m);
            }

    -- another is hit
    other : (m l u i : ℕ) (σ : State) → u < σ₀.states → i < n → u * n + i < length σ₀.turned → u * n + i < length σ₀.counts → eqb (u * n + i) at ≡ false → Reached m l σ → Reached m l (hit A d u i σ)
    unfolding lower
    other m l u i σ u_in i_in k k' apart h =
        subst (Reached m l) (sym (hit_inside A d u i σ (let a = h.same.states in omega arith) (let a = ap (length {A = Equation}) h.same.book in omega arith)))
        (subst (λ (B : List Equation). Reached m l (hit_by u i B σ)) (sym h.same.book) (cond_both (counted d r.form) (lower ok q σ) (turn q σ) (Reached m l) yes no))
      where
        r : Equation
        r = nth σ₀.book i

        q : ℕ
        q = u * n + i

        ok : Bool
        ok = may_turn d r.form (A.divergent u r.first)

        in_turned : q < length σ.turned
        in_turned = let a = h.same.turned_long in omega arith

        in_counts : q < length σ.counts
        in_counts = let a = h.same.counts_long in omega arith

        or_false : (b : Bool) → (b || false) ≡ b
        or_false true = refl
        or_false false = refl

        yes : counted d r.form ≡ true → Reached m l (lower ok q σ)
        yes _ =
            let c = get_or σ.counts q 0 - 1 in
            let p = puts ok q c σ in_turned in_counts h.listed in
            record {
              same = same_then σ₀ σ (lower ok q σ) h.same p.same;
              listed = p.listed;
              looks = p.looks ∙ h.looks;
              counts = λ f. p.counts at ∙ rw apart (h.counts f);
              turned = p.turned at ∙ rw apart (or_false (get_or σ.turned at false)) ∙ h.turned;
            }

        no : counted d r.form ≡ false → Reached m l (turn q σ)
        no _ =
            let t = turns q σ in_turned h.listed in
            record {
              same = same_then σ₀ σ (turn q σ) h.same t.same;
              listed = t.listed;
              looks = t.looks ∙ h.looks;
              counts = λ f. ap (λ (cs : List ℕ). get_or cs at 0) t.counts ∙ h.counts f;
              turned = t.turned at ∙ rw apart (or_false (get_or σ.turned at false)) ∙ h.turned;
            }

    -- any pair is hit
    pub reached_hit : (m l u i : ℕ) (σ : State) → u < σ₀.states → i < n → u * n + i < length σ₀.turned → u * n + i < length σ₀.counts → Reached m l σ →
        Reached (m + cond (eqb u v && eqb i j) 1 0) l (hit A d u i σ)
    reached_hit m l u i σ u_in a k k' h = go (cases_Bool (eqb u v && eqb i j))
      where
        go : ((eqb u v && eqb i j) ≡ true) ⊎ ((eqb u v && eqb i j) ≡ false) → Reached (m + cond (eqb u v && eqb i j) 1 0) l (hit A d u i σ)
        go (inl e) =
            let p = and_parts (eqb u v) (eqb i j) e in
            rw e (subst₂ (λ (u i : ℕ). Reached (m + 1) l (hit A d u i σ)) (sym (eqb-true u v p.0)) (sym (eqb-true i j p.1)) (own m l σ h))
        go (inr e) = rw e (subst (λ (x : ℕ). Reached x l (hit A d u i σ)) (omega arith) (other m l u i σ u_in a k k' (place_eqb n u i v j a j_in ∙ e) h))
