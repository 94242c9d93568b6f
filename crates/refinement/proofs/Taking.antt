-- Taking the next pair of the worklist.
use Rattle.std.proofs.Common.{◌≡◌, ℕ, zero, suc, ◌+◌, ◌-◌, ◌*◌, ◌/◌, ◌%◌, ◌<◌, ◌≤◌, Bool, true, false, cond, not, ◌&&◌, ◌||◌, eqb, ltb, leb, ◌⊎◌, List, [], ◌∷◌, ◌++◌, map, length, get_or, take, sym, refl, ap, ◌∙◌, subst, ap₂, subst₂, inl, inr, arith, length-append}
use Rattle.std.proofs.lemmas.Bool.{and_from, or_left, ltb-true, not_from_false, cases_Bool, cases_lt, eq-eqb, ne_eqb, le-leb, lt-leb, lt-ltb, cond-false}
use Rattle.std.proofs.lemmas.List.{take_more, take-append-le, map_push}
use Rattle.std.proofs.lemmas.Nat.{div-add-mod', div_below, mod_below}
use Rattle.board.specs.Links.{linked, names}
use Rattle.board.specs.State.{State, front, looked, most, waiting, with_taken}
use Rattle.lts.specs.Source.{Answers, Shows}
use Rattle.records.specs.declared.Fixpoint.{Fixpoint}
use Rattle.refinement.proofs.Bounding.{looks_low, positive, turned_low}
use Rattle.refinement.proofs.Deciding.{decides, decides_counted, decides_free, gone, gone_more, left_less, ways}
use Rattle.refinement.proofs.Hitting.{Reached, fires, reached_start}
use Rattle.refinement.proofs.Linking.{Last, Linked, linked_right}
use Rattle.refinement.proofs.Listing.{Same}
use Rattle.refinement.proofs.Tables.{among_elem, elem_at, elem_before}
use Rattle.refinement.proofs.Totals.{all_hits, all_looks, within}
use Rattle.refinement.proofs.Visiting.{hits, looks_by, sum_gap, walks}
use Rattle.refinement.specs.Represents.{Shown, elem, left, pair_at}
use Rattle.refinement.specs.Sides.{at_first, counted, may_turn}
use Rattle.refinement.specs.Taking.{take_next}
use Rattle.semantics.proofs.Pairs.{costs_push, once_push}
use Rattle.semantics.specs.Equations.{cost, nth, true_at}
use Rattle.semantics.specs.Lts.{Lts, sum}
use Rattle.semantics.specs.Plain.{among, decided, turned, waits}
use Rattle.semantics.specs.declared.Equation.{Equation}
use Rattle.records.specs.declared.Form.{Form}
use Rattle.semantics.specs.declared.Pair.{Pair}

-- What w operands more decide

counted_more : (a : Bool) (l l' w : ℕ) → l' + w ≡ l → ((a && eqb l 0) || (ltb 0 w && (a && leb l w))) ≡ (a && eqb l' 0)
counted_more false l l' w e = go (ltb 0 w)
  where
    go : (b : Bool) → (b && false) ≡ false
    go true = refl
    go false = refl
counted_more true l l' zero e = let f : l ≡ l' = omega arith in ap (λ (x : ℕ). eqb x 0 || false) f ∙ or_false (eqb l' 0)
  where
    or_false : (b : Bool) → (b || false) ≡ b
    or_false true = refl
    or_false false = refl
counted_more true l l' (suc w) e = rw (ne_eqb l 0 (λ f. omega arith), lt-ltb 0 (suc w) (omega arith)) (go (cases_lt 0 l'))
  where
    go : (0 < l') ⊎ (l' ≤ 0) → leb l (suc w) ≡ eqb l' 0
    go (inl m) = lt-leb l (suc w) (omega arith) ∙ sym (ne_eqb l' 0 (λ f. omega arith))
    go (inr m) = le-leb l (suc w) (omega arith) ∙ sym (eq-eqb l' 0 (omega arith))

free_more : (x : Bool) (g w : ℕ) → ((x || ltb 0 g) || (ltb 0 w && true)) ≡ (x || ltb 0 (g + w))
free_more true g w = refl
free_more false zero w = let e : w ≡ 0 + w = omega arith in and_true (ltb 0 w) ∙ ap (ltb 0) e
  where
    and_true : (b : Bool) → (b && true) ≡ b
    and_true true = refl
    and_true false = refl
free_more false (suc g) w = or_left (ltb 0 (suc g)) (ltb 0 w && true) (lt-ltb 0 (suc g) (omega arith)) ∙ sym (lt-ltb 0 (suc g + w) (omega arith))

-- a source's answer on divergence is the system's
pub may_same : (A : Answers) (F : Lts) → Shows A F → (d : Fixpoint) (v : ℕ) (f : Form) (x : ℕ) → may_turn d f (A.divergent v x) ≡ may_turn d f (F.divergent v x)
may_same A F shows d v f x = ap (may_turn d f) (shows.divergent v x)

module _ (F : Lts) (taken : List Pair) (p : Pair) (inside : p.state < F.states) (new : among p.state p.variable taken ≡ false) (v : ℕ) where
  abbrev hitting : Form → ℕ → ℕ → ℕ
  hitting f x y = ways F p.state p.variable v f x y

  decides_more : (d : Fixpoint) (f : Form) (x y c : ℕ) → (counted d f ≡ true → c ≡ left F taken v f x y) →
      (decides F d taken v f x y || fires (counted d f) (may_turn d f (F.divergent v x)) c (hitting f x y)) ≡ decides F d (taken ++ (p ∷ [])) v f x y
  decides_more d f x y c count = go (cases_Bool (counted d f))
    where
      may : Bool
      may = may_turn d f (F.divergent v x)

      w : ℕ
      w = hitting f x y

      go : (counted d f ≡ true) ⊎ (counted d f ≡ false) → (decides F d taken v f x y || fires (counted d f) may c w) ≡ decides F d (taken ++ (p ∷ [])) v f x y
      go (inl e) =
          ap₂ (λ (a b : Bool). a || b) (decides_counted F taken v d f x y e) (ap₂ (λ (k : Bool) (c : ℕ). fires k may c w) e (count e)) ∙
          counted_more may (left F taken v f x y) (left F (taken ++ (p ∷ [])) v f x y) w (left_less F taken p inside new v f x y) ∙ sym (decides_counted F (taken ++ (p ∷ [])) v d f x y e)
      go (inr e) =
          ap₂ (λ (a b : Bool). a || b) (decides_free F taken v d f x y e) (ap (λ (k : Bool). fires k may c w) e) ∙
          free_more (at_first d f (F.divergent v x) (F.holds x v)) (gone F taken v f x y) w ∙
          ap (λ (g : ℕ). at_first d f (F.divergent v x) (F.holds x v) || ltb 0 g) (sym (gone_more F taken p inside new v f x y)) ∙ sym (decides_free F (taken ++ (p ∷ [])) v d f x y e)

-- the pair that is taken next
abbrev pub next_pair : State → List Equation → Pair
next_pair σ B = pair_at (length B) (front σ)

pub record Took (A : Answers) (F : Lts) (d : Fixpoint) (σ : State) (B : List Equation) (pins taken : List Pair) (seen : ℕ) : Type 0 where
  pub state_low : (next_pair σ B).state < F.states
  pub variable_low : (next_pair σ B).variable < length B
  pub waited : waits F d B pins taken (next_pair σ B).state (next_pair σ B).variable ≡ true
  pub counted_up : (take_next A d σ).taken ≡ σ.taken + 1
  pub shown : Shown F d (take_next A d σ) B pins (taken ++ (next_pair σ B ∷ [])) (seen + cost F B (next_pair σ B).state (next_pair σ B).variable)

module _ (A : Answers) (F : Lts) (shows : Shows A F) (d : Fixpoint) (σ : State) (pins taken : List Pair) (seen : ℕ) (h : Shown F d σ σ.book pins taken seen) (wait : waiting σ ≡ true) where
  abbrev B : List Equation
  B = σ.book

  abbrev n : ℕ
  n = length σ.book

  abbrev q : ℕ
  q = front σ

  abbrev s : ℕ
  s = q / n

  abbrev i : ℕ
  i = q % n

  abbrev p : Pair
  p = pair_at n q

  few : σ.taken < length σ.work
  few = ltb-true σ.taken (length σ.work) wait

  marked : get_or σ.turned q false ≡ true
  marked = sym (h.listed.exact q) ∙ elem_at σ.work σ.taken 0 few

  q_low : q < F.states * n
  q_low = let a = h.turned_long in let b = turned_low σ q marked in omega arith

  n_pos : 0 < n
  n_pos = positive F.states n q q_low

  s_low : s < F.states
  s_low = div_below q n F.states n_pos q_low

  i_low : i < n
  i_low = mod_below q n n_pos

  not_taken : among s i taken ≡ false
  not_taken =
      subst (λ (ps : List Pair). among s i ps ≡ false) h.done
      (among_elem n s i (take σ.taken σ.work) i_low ∙ ap (λ (q : ℕ). elem q (take σ.taken σ.work)) (div-add-mod' q n) ∙ elem_before σ.work σ.taken 0 h.listed.once few)

  waiting_pair : waits F d B pins taken s i ≡ true
  unfolding waits
  waiting_pair = and_from (turned F d B pins taken s i) (not (among s i taken)) (sym (h.turned s i s_low i_low) ∙ ap (λ (q : ℕ). get_or σ.turned q false) (div-add-mod' q n) ∙ marked) (not_from_false (among s i taken) not_taken)

  abbrev σ₁ : State
  σ₁ = with_taken (looked σ) (σ.taken + 1)

  abbrev links_all : Linked B (2 * n) (linked B)
  links_all = linked_right B (within F B h.formed)

  abbrev τ : State
  τ = take_next A d σ

  abbrev rule : ℕ → Equation
  rule j = nth B j

  -- each pair, after the walk
  each_pair : (v j : ℕ) → v < F.states → j < n → Reached A d σ₁ v j (ways F s i v (nth B j).form (nth B j).first (nth B j).second) (cost F B s i - 1) τ
  unfolding take_next
  each_pair v j v_low j_low =
      let same = h.states in
      let heads = links_all.heads i i_low in
      let start = reached_start A d σ₁ v j (record { exact = h.listed.exact; once = h.listed.once }) (omega arith) in
      let long : length σ.turned ≡ σ.states * n = h.turned_long ∙ ap (λ (x : ℕ). x * n) (sym same) in
      let long' : length σ.counts ≡ σ.states * n = h.counts_long ∙ ap (λ (x : ℕ). x * n) (sym same) in
      let head_is : get_or σ.head i 0 ≡ get_or (linked B).head i 0 = ap (λ (hs : List ℕ). get_or hs i 0) h.head in
      let heads' : Last B i (get_or σ.head i 0) (2 * n) = subst (λ (x : ℕ). Last B i x (2 * n)) (sym head_is) heads in
      let v_in : v < σ.states = omega arith in
      let s_in : s < σ.states = omega (arith, s_low) in
      let at = get_or σ.head i 0 in
      let w = walks A d σ₁ v j v_in j_low long long' s i s_in 0 0 (2 * n) at σ₁ heads'.low heads'.low heads'.here
      (λ p l e. subst (λ (ns : List ℕ). Last B i (get_or ns p 0) p) (sym h.next) (links_all.nexts i p l e)) start in
      let hits' : ℕ → ℕ = λ p. cond (names B p i) (hits A s (p / 2) v j (nth B (p / 2)).form (nth B (p / 2)).first) 0 in
      let looks' : ℕ → ℕ = λ p. cond (names B p i) (looks_by A s (nth B (p / 2)).form (nth B (p / 2)).first) 0 in
      let a : sum (2 * n) hits' ≡ sum at hits' = sum_gap hits' at (2 * n) heads'.low (λ x l m. cond-false (names B x i) _ 0 (heads'.none x l m)) in
      let b : sum (2 * n) looks' ≡ sum at looks' = sum_gap looks' at (2 * n) heads'.low (λ x l m. cond-false (names B x i) _ 0 (heads'.none x l m)) in
      let c = all_hits A F shows B s i v j j_low in
      let e = all_looks A F shows B s i in
      subst₂ (λ (m l : ℕ). Reached A d σ₁ v j m l τ) (omega arith) (omega arith) w

  counted_looks : seen + cost F B s i ≤ most
  counted_looks = looks_low A F shows d σ B pins taken seen h p s_low i_low not_taken

  same : Same σ₁ τ
  same = (each_pair s i s_low i_low).same

  cost_pos : 1 ≤ cost F B s i
  cost_pos = let e = all_looks A F shows B s i in omega arith

  turned_right : (v j : ℕ) → v < F.states → j < n → get_or τ.turned (v * n + j) false ≡ turned F d B pins (taken ++ (p ∷ [])) v j
  unfolding turned decided true_at
  turned_right v j a b =
      let r = rule j in
      let c = get_or σ.counts (v * n + j) 0 in
      let k = counted d r.form in
      let w = ways F s i v r.form r.first r.second in
      let x = decides_more F taken p s_low not_taken v d r.form r.first r.second c (λ e. h.counts v j a b e) in
      (each_pair v j a b).turned ∙ ap₂ (λ (t m : Bool). t || fires k m c w) (h.turned v j a b) (may_same A F shows d v r.form r.first) ∙
      or_assoc (among v j pins) (decides F d taken v r.form r.first r.second) (fires k (may_turn d r.form (F.divergent v r.first)) c w) ∙ ap (λ (b : Bool). among v j pins || b) x
    where
      or_assoc : (a b c : Bool) → ((a || b) || c) ≡ (a || (b || c))
      or_assoc true b c = refl
      or_assoc false b c = refl

  took : Took A F d σ B pins taken seen
  took =
      record {
        state_low = s_low;
        variable_low = i_low;
        waited = waiting_pair;
        counted_up = same.taken;
        shown = record {
          loaded = same.loaded ∙ h.loaded;
          states = same.states ∙ h.states;
          book = same.book;
          head = same.head ∙ h.head;
          next = same.next ∙ h.next;
          formed = h.formed;
          small = h.small;
          few_equations = h.few_equations;
          turned_long = same.turned_long ∙ h.turned_long;
          pinned_long = ap (length {A = Bool}) same.pinned ∙ h.pinned_long;
          counts_long = same.counts_long ∙ h.counts_long;
          turned = turned_right;
          pinned = λ v j a b. ap (λ (ps : List Bool). get_or ps (v * n + j) false) same.pinned ∙ h.pinned v j a b;
          counts = λ v j a b e.
              let r = rule j in
              let x = (each_pair v j a b).counts e in
              let y = h.counts v j a b e in
              let z = left_less F taken p s_low not_taken v r.form r.first r.second in
              omega arith;
          listed = (each_pair s i s_low i_low).listed;
          few = let x = same.taken in let y = few in let z = ap (length {A = ℕ}) same.work ∙ length-append σ.work same.more in omega arith;
          done = done_right;
          once = once_push taken p h.once not_taken;
          summed = let x = costs_push F B taken p in let y = h.summed in omega arith;
          looks = let x = (each_pair s i s_low i_low).looks in let y = h.looks in let z = cost_pos in let w = counted_looks in omega arith;
        };
      }
    where
      done_right : map (pair_at n) (take τ.taken τ.work) ≡ taken ++ (p ∷ [])
      done_right =
          ap₂ (λ (t : ℕ) (w : List ℕ). map (pair_at n) (take t w)) same.taken same.work ∙
          ap (map (pair_at n)) (take-append-le (σ.taken + 1) σ.work same.more (let y = few in omega arith) ∙ take_more σ.work σ.taken 0 few) ∙
          map_push (pair_at n) (take σ.taken σ.work) q ∙ ap (λ (ps : List Pair). ps ++ (p ∷ [])) h.done

pub take_one : (A : Answers) (F : Lts) → Shows A F → (d : Fixpoint) (σ : State) (B : List Equation) (pins taken : List Pair) (seen : ℕ) → Shown F d σ B pins taken seen → waiting σ ≡ true → Took A F d σ B pins taken seen
take_one A F shows d σ B pins taken seen h wait =
    subst (λ (B : List Equation). Shown F d σ B pins taken seen → Took A F d σ B pins taken seen) h.book (λ h. took A F shows d σ pins taken seen h wait) h
