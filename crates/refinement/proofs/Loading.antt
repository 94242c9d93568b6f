-- A new book, with what is decided at once.
use Rattle.std.proofs.Common.{◌≡◌, ℕ, zero, suc, ◌+◌, ◌*◌, ◌<◌, ◌≤◌, Bool, true, false, cond, ◌&&◌, ◌||◌, eqb, ltb, ◌⊎◌, List, [], map, length, get_or, take, replicate, sym, refl, ap, ◌∙◌, subst, ap₂, subst₂, inl, inr, arith}
use lib.ListN.{length-replicate, get_or-replicate}
use Rattle.std.proofs.lemmas.Bool.{both_ways, and_from, and_parts, cond-true, lt-ltb, eqb-true, ne_eqb, cases_Bool, cases_lt, cond_both}
use Rattle.std.proofs.lemmas.List.{get_or_past}
use Rattle.board.specs.Each.{each}
use Rattle.board.specs.Renewing.{fresh}
use Rattle.board.specs.State.{State, pair?, place}
use Rattle.board.specs.Turning.{opened, opening, put, spent, turn}
use Rattle.lts.specs.Source.{Answers, Shows}
use Rattle.records.specs.declared.Fixpoint.{Fixpoint}
use Rattle.refinement.proofs.Deciding.{decides, decides_counted, decides_free, gone_none, left_none}
use Rattle.refinement.proofs.Listing.{Same, puts, same_all, same_then, turns}
use Rattle.refinement.proofs.Tables.{eqb_same, place_eqb, place_low}
use Rattle.refinement.proofs.Taking.{may_same}
use Rattle.refinement.proofs.Totals.{AllFormed}
use Rattle.refinement.specs.Represents.{Distinct, Listed, Shown, elem, left, pair_at}
use Rattle.refinement.specs.Sides.{at_first, counted, may_turn, operands}
use Rattle.refinement.specs.Taking.{begin, begun}
use Rattle.semantics.specs.Equations.{nth, true_at}
use Rattle.semantics.specs.Law.{Once}
use Rattle.semantics.specs.Lts.{Lts, out_of}
use Rattle.semantics.specs.Plain.{among, costs, decided, turned}
use Rattle.semantics.specs.declared.Equation.{Equation}
use Rattle.records.specs.declared.Form.{Form}

-- a source's answers are the system's where they count

module _ (A : Answers) (F : Lts) (shows : Shows A F) (d : Fixpoint) (v : ℕ) where
  first_same : (f : Form) (x : ℕ) → at_first d f (A.divergent v x) (A.holds x v) ≡ at_first d f (F.divergent v x) (F.holds x v)
  first_same f x = ap₂ (at_first d f) (shows.divergent v x) (shows.holds x v)

  operands_same : (f : Form) (x : ℕ) → operands f (A.out_degree v x) ≡ operands f (out_of F v x)
  operands_same f x = ap (operands f) (shows.out_degree v x)

  counted_first : (f : Form) (x y : ℕ) → counted d f ≡ true → (may_turn d f (A.divergent v x) && eqb (operands f (A.out_degree v x)) 0) ≡ decides F d [] v f x y
  counted_first f x y k =
      ap₂ (λ (m : Bool) (c : ℕ). m && eqb c 0) (may_same A F shows d v f x) (operands_same f x ∙ sym (left_none F v f x y)) ∙ sym (decides_counted F [] v d f x y k)

  free_first : (f : Form) (x y : ℕ) → counted d f ≡ false → at_first d f (A.divergent v x) (A.holds x v) ≡ decides F d [] v f x y
  free_first f x y k =
      first_same f x ∙ or_false (at_first d f (F.divergent v x) (F.holds x v)) ∙ ap (λ (g : ℕ). at_first d f (F.divergent v x) (F.holds x v) || ltb 0 g) (sym (gone_none F v f x y)) ∙ sym (decides_free F [] v d f x y k)
    where
      or_false : (b : Bool) → b ≡ (b || false)
      or_false true = refl
      or_false false = refl

-- the pair (s, j), where the board has it
begin_inside : (A : Answers) (d : Fixpoint) (s j : ℕ) (σ : State) → s < σ.states → j < length σ.book →
    let r = nth σ.book j in
    let div = A.divergent s r.first in
    begin A d s j σ ≡ opened (counted d r.form) (may_turn d r.form div) (at_first d r.form div (A.holds r.first s)) (operands r.form (A.out_degree s r.first)) (place σ s j) σ
unfolding begin opening
begin_inside A d s j σ l k = cond-true (pair? σ s j) _ _ (and_from (ltb s σ.states) (ltb j (length σ.book)) (lt-ltb s σ.states l) (lt-ltb j (length σ.book) k))

module _ (A : Answers) (F : Lts) (shows : Shows A F) (d : Fixpoint) (B : List Equation) (formed_all : AllFormed F B) (small : F.states * length B ≤ 8192) (few : length B ≤ 1024) where
  abbrev N : ℕ
  N = A.states

  abbrev n : ℕ
  n = length B

  abbrev new : State
  new = fresh N B

  abbrev first : ℕ → ℕ → Bool
  first v j = decides F d [] v (nth B j).form (nth B j).first (nth B j).second

  -- the places below k are right
  record Begun (k : ℕ) (σ : State) : Type 0 where
    pub same : Same new σ
    pub looks : σ.looks ≡ 0
    pub listed : Listed σ
    pub untouched : (q : ℕ) → k ≤ q → get_or σ.turned q false ≡ false
    pub turned : (v j : ℕ) → v < N → j < n → v * n + j < k → get_or σ.turned (v * n + j) false ≡ first v j
    pub counts : (v j : ℕ) → v < N → j < n → v * n + j < k → counted d (nth B j).form ≡ true → get_or σ.counts (v * n + j) 0 ≡ left F [] v (nth B j).form (nth B j).first (nth B j).second

  begun_none : Begun 0 new
  unfolding elem Distinct
  begun_none =
      record {
        same = same_all new;
        looks = refl;
        listed = record { exact = λ q. sym (blank q); once = tt };
        untouched = λ q l. blank q;
        turned = λ v j a b l. absurd (omega arith);
        counts = λ v j a b l. absurd (omega arith);
      }
    where
      blank : (q : ℕ) → get_or (replicate (N * n) false) q false ≡ false
      blank q = go (cases_lt q (N * n))
        where
          go : (q < N * n) ⊎ (N * n ≤ q) → get_or (replicate (N * n) false) q false ≡ false
          go (inl l) = get_or-replicate (N * n) q false false l
          go (inr l) = get_or_past (replicate (N * n) false) q false (let a = length-replicate (N * n) false in omega arith)

  module _ (s j : ℕ) (s_low : s < N) (j_low : j < n) where
    abbrev at : ℕ
    at = s * n + j

    abbrev r : Equation
    r = nth B j

    -- one more pair is right
    record Changes (σ τ : State) : Type 0 where
      pub same : Same σ τ
      pub looks : τ.looks ≡ σ.looks
      pub listed : Listed τ
      pub turned : (q : ℕ) → get_or τ.turned q false ≡ (get_or σ.turned q false || (eqb at q && first s j))
      pub others : (q : ℕ) → eqb at q ≡ false → get_or τ.counts q 0 ≡ get_or σ.counts q 0
      pub own : counted d r.form ≡ true → get_or τ.counts at 0 ≡ left F [] s r.form r.first r.second

    begun_more : (σ τ : State) → Begun at σ → Changes σ τ → Begun (at + 1) τ
    begun_more σ τ h c =
        record {
          same = same_then new σ τ h.same c.same;
          looks = c.looks ∙ h.looks;
          listed = c.listed;
          untouched = λ q l. c.turned q ∙ ap₂ (λ (a b : Bool). a || (b && first s j)) (h.untouched q (omega arith)) (ne_eqb at q (λ e. omega arith));
          turned = λ v i a b l. turned_at v i a b l (cases_Bool (eqb at (v * n + i)));
          counts = λ v i a b l e. counts_at v i a b l e (cases_Bool (eqb at (v * n + i)));
        }
      where
        here : (v i : ℕ) → i < n → eqb at (v * n + i) ≡ true → (s ≡ v) × (j ≡ i)
        here v i b e = let p = and_parts (eqb s v) (eqb j i) (sym (place_eqb n s j v i j_low b) ∙ e) in (eqb-true s v p.0, eqb-true j i p.1)

        before : (v i : ℕ) → v * n + i < at + 1 → eqb at (v * n + i) ≡ false → v * n + i < at
        before v i l e = go (cases_lt (v * n + i) at)
          where
            go : (v * n + i < at) ⊎ (at ≤ v * n + i) → v * n + i < at
            go (inl m) = m
            go (inr m) = let f : at ≡ v * n + i = omega arith in absurd (both_ways (eqb at (v * n + i)) e (ap (λ (x : ℕ). eqb at x) (sym f) ∙ eqb_same at))

        or_false : (b : Bool) → (b || false) ≡ b
        or_false true = refl
        or_false false = refl

        own_turned : get_or τ.turned at false ≡ first s j
        own_turned = c.turned at ∙ ap₂ (λ (a b : Bool). a || (b && first s j)) (h.untouched at (omega arith)) (eqb_same at)

        turned_at : (v i : ℕ) → v < N → i < n → v * n + i < at + 1 → (eqb at (v * n + i) ≡ true) ⊎ (eqb at (v * n + i) ≡ false) → get_or τ.turned (v * n + i) false ≡ first v i
        turned_at v i a b l (inl e) = let p = here v i b e in subst₂ (λ (v i : ℕ). get_or τ.turned (v * n + i) false ≡ first v i) p.0 p.1 own_turned
        turned_at v i a b l (inr e) = c.turned (v * n + i) ∙ rw e (or_false (get_or σ.turned (v * n + i) false)) ∙ h.turned v i a b (before v i l e)

        counts_at : (v i : ℕ) → v < N → i < n → v * n + i < at + 1 → counted d (nth B i).form ≡ true → (eqb at (v * n + i) ≡ true) ⊎ (eqb at (v * n + i) ≡ false) →
            get_or τ.counts (v * n + i) 0 ≡ left F [] v (nth B i).form (nth B i).first (nth B i).second
        counts_at v i a b l f (inl e) =
            let p = here v i b e in
            subst₂ (λ (v i : ℕ). counted d (nth B i).form ≡ true → get_or τ.counts (v * n + i) 0 ≡ left F [] v (nth B i).form (nth B i).first (nth B i).second) p.0 p.1 c.own f
        counts_at v i a b l f (inr e) = c.others (v * n + i) e ∙ h.counts v i a b (before v i l e) f

    abbrev begin_by : List Equation → State → State
    begin_by C σ =
        let r = nth C j in
        let at = s * length C + j in
        let div = A.divergent s r.first in
        cond (counted d r.form) (spent (may_turn d r.form div) at (put at (operands r.form (A.out_degree s r.first)) σ))
        (cond (at_first d r.form div (A.holds r.first s)) (turn at σ) σ)

    begins : (σ : State) → Begun at σ → Begun (at + 1) (begin A d s j σ)
    begins σ h =
        begun_more σ (begin A d s j σ) h
        (subst (Changes σ) (sym (begin_inside A d s j σ (let a = h.same.states in omega arith) (let a = ap (length {A = Equation}) h.same.book in omega arith)))
        (subst (λ (C : List Equation). Changes σ (begin_by C σ)) (sym h.same.book)
        (cond_both (counted d r.form) (spent may at (put at total σ)) (cond (at_first d r.form div (A.holds r.first s)) (turn at σ) σ) (Changes σ) yes
        (λ k. cond_both (at_first d r.form div (A.holds r.first s)) (turn at σ) σ (Changes σ) (turned_now k) (λ e. nothing k e)))))
      where
        div : Bool
        div = A.divergent s r.first

        may : Bool
        may = may_turn d r.form div

        total : ℕ
        total = operands r.form (A.out_degree s r.first)

        in_turned : at < length σ.turned
        in_turned = let a = h.same.turned_long in let b = length-replicate (N * n) false in let c = place_low N n s j s_low j_low in omega arith

        in_counts : at < length σ.counts
        in_counts = let a = h.same.counts_long in let b = length-replicate {A = ℕ} (N * n) 0 in let c = place_low N n s j s_low j_low in omega arith

        yes : counted d r.form ≡ true → Changes σ (spent may at (put at total σ))
        yes k =
            let p = puts may at total σ in_turned in_counts h.listed in
            record {
              same = p.same;
              looks = p.looks;
              listed = p.listed;
              turned = λ q. p.turned q ∙ ap (λ (b : Bool). get_or σ.turned q false || (eqb at q && b)) (counted_first A F shows d s r.form r.first r.second k);
              others = λ q e. p.counts q ∙ rw e;
              own = λ _. p.counts at ∙ rw (eqb_same at) (operands_same A F shows d s r.form r.first ∙ sym (left_none F s r.form r.first r.second));
            }

        turned_now : counted d r.form ≡ false → at_first d r.form div (A.holds r.first s) ≡ true → Changes σ (turn at σ)
        turned_now k e =
            let t = turns at σ in_turned h.listed in
            let f : first s j ≡ true = sym (free_first A F shows d s r.form r.first r.second k) ∙ e in
            record {
              same = t.same;
              looks = t.looks;
              listed = t.listed;
              turned = λ q. t.turned q ∙ ap (λ (b : Bool). get_or σ.turned q false || b) (and_true (eqb at q) ∙ ap (λ (b : Bool). eqb at q && b) (sym f));
              others = λ q _. ap (λ (cs : List ℕ). get_or cs q 0) t.counts;
              own = λ f. absurd (both_ways (counted d r.form) k f);
            }
          where
            and_true : (b : Bool) → b ≡ (b && true)
            and_true true = refl
            and_true false = refl

        nothing : counted d r.form ≡ false → at_first d r.form div (A.holds r.first s) ≡ false → Changes σ σ
        nothing k e =
            let f : first s j ≡ false = sym (free_first A F shows d s r.form r.first r.second k) ∙ e in
            record {
              same = same_all σ;
              looks = refl;
              listed = h.listed;
              turned = λ q. or_none (get_or σ.turned q false) (eqb at q) ∙ ap (λ (b : Bool). get_or σ.turned q false || (eqb at q && b)) (sym f);
              others = λ q _. refl;
              own = λ f. absurd (both_ways (counted d r.form) k f);
            }
          where
            or_none : (b a : Bool) → b ≡ (b || (a && false))
            or_none true a = refl
            or_none false true = refl
            or_none false false = refl

  row : (s : ℕ) → s < N → (j : ℕ) → j ≤ n → (σ : State) → Begun (s * n) σ → Begun (s * n + j) (each j (λ j. begin A d s j) σ)
  unfolding each
  row s l zero k σ h = subst (λ (m : ℕ). Begun m σ) (omega arith) h
  row s l (suc j) k σ h =
      let τ = each j (λ j. begin A d s j) σ in
      subst (λ (m : ℕ). Begun m (begin A d s j τ)) (omega arith) (begins s j l (omega arith) τ (row s l j (omega arith) σ h))

  rows : (s : ℕ) → s ≤ N → Begun (s * n) (each s (λ s. each n (λ j. begin A d s j)) new)
  unfolding each
  rows zero l = subst (λ (m : ℕ). Begun m new) (omega arith) begun_none
  rows (suc s) l =
      let τ = each s (λ s. each n (λ j. begin A d s j)) new in
      subst (λ (m : ℕ). Begun m (each n (λ j. begin A d s j) τ)) (omega arith) (row s (omega arith) n (omega arith) τ (rows s (omega arith)))

  pub begun_shown : Shown F d (begun A d B) B [] [] 0
  unfolding begun turned decided true_at among costs Once
  begun_shown =
      let h = rows N (omega arith) in
      let same = h.same in
      let states = shows.states in
      let size : N * n ≡ F.states * n = ap (λ (x : ℕ). x * n) states in
      record {
        loaded = same.loaded;
        states = same.states ∙ states;
        book = same.book;
        head = same.head;
        next = same.next;
        formed = formed_all;
        small = small;
        few_equations = few;
        turned_long = same.turned_long ∙ length-replicate (N * n) false ∙ size;
        pinned_long = ap (length {A = Bool}) same.pinned ∙ length-replicate (N * n) false ∙ size;
        counts_long = same.counts_long ∙ length-replicate {A = ℕ} (N * n) 0 ∙ size;
        turned = λ v j a b. h.turned v j (omega arith) b (place_low N n v j (omega arith) b);
        pinned = λ v j a b. ap (λ (ps : List Bool). get_or ps (v * n + j) false) same.pinned ∙ get_or-replicate (N * n) (v * n + j) false false (place_low N n v j (omega arith) b);
        counts = λ v j a b e. h.counts v j (omega arith) b (place_low N n v j (omega arith) b) e;
        listed = h.listed;
        few = let x = same.taken in omega arith;
        done = ap (λ (t : ℕ). map (pair_at n) (take t (begun A d B).work)) same.taken;
        once = tt;
        summed = refl;
        looks = h.looks;
      }
