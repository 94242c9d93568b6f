-- What a walk along the links makes of one pair.
use Rattle.std.proofs.Common.{◌≡◌, ℕ, zero, suc, ◌+◌, ◌*◌, ◌/◌, ◌<◌, ◌≤◌, Bool, true, false, cond, ◌&&◌, eqb, ◌⊎◌, List, length, get_or, Some, None, Option, sym, refl, ap, subst, subst₂, inl, inr, arith}
use Rattle.std.proofs.lemmas.Bool.{ne_eqb, cases_lt, cond-true, cond-false}
use Rattle.board.specs.Each.{each}
use Rattle.board.specs.Links.{names}
use Rattle.board.specs.State.{State, looked}
use Rattle.lts.specs.Source.{Answers, one_if}
use Rattle.records.specs.declared.Fixpoint.{Fixpoint}
use Rattle.refinement.proofs.Hitting.{Reached, hit_outside, reached_hit, reached_look}
use Rattle.refinement.proofs.Linking.{Last}
use Rattle.refinement.proofs.Tables.{place_low}
use Rattle.refinement.specs.Taking.{hit, hit_from, visit, visit_form, walk}
use Rattle.semantics.specs.Equations.{nth}
use Rattle.semantics.specs.Lts.{sum}
use Rattle.semantics.specs.declared.Equation.{Equation}
use Rattle.records.specs.declared.Form.{Form}
use Rattle.records.specs.declared.Form.TheVariants.{And, Atom, Box, Diamond, False, Or, True}

-- the hits of the pair (v, j) by equation i, when a pair of state s is taken that it names; and the looks
abbrev pub hits : Answers → (s i v j : ℕ) → Form → ℕ → ℕ
hits A s i v j True a = 0
hits A s i v j False a = 0
hits A s i v j Atom a = 0
hits A s i v j Or a = cond (eqb s v && eqb i j) 1 0
hits A s i v j And a = cond (eqb s v && eqb i j) 1 0
hits A s i v j Diamond a = cond (eqb i j) (sum (A.in_degree s a) (λ k. one_if (A.predecessor s a k) v)) 0
hits A s i v j Box a = cond (eqb i j) (sum (A.in_degree s a) (λ k. one_if (A.predecessor s a k) v)) 0

abbrev pub looks_by : Answers → ℕ → Form → ℕ → ℕ
looks_by A s True a = 0
looks_by A s False a = 0
looks_by A s Atom a = 0
looks_by A s Or a = 1
looks_by A s And a = 1
looks_by A s Diamond a = A.in_degree s a
looks_by A s Box a = A.in_degree s a

pub sum_gap : (f : ℕ → ℕ) (q p : ℕ) → q ≤ p → ((x : ℕ) → q ≤ x → x < p → f x ≡ 0) → sum p f ≡ sum q f
unfolding sum
sum_gap f q zero l h = let e : q ≡ 0 = omega arith in ap (λ (x : ℕ). sum x f) (sym e)
sum_gap f q (suc p) l h = go (sum_gap f q p) (cases_lt p q)
  where
    go : (q ≤ p → ((x : ℕ) → q ≤ x → x < p → f x ≡ 0) → sum p f ≡ sum q f) → (p < q) ⊎ (q ≤ p) → sum p f + f p ≡ sum q f
    go before (inl m) = let e : q ≡ suc p = omega arith in ap (λ (x : ℕ). sum x f) (sym e)
    go before (inr m) = let a = before m (λ x b c. h x b (omega arith)) in let b = h p m (omega arith) in omega arith

module _ (A : Answers) (d : Fixpoint) (σ₀ : State) (v j : ℕ) (inside : v < σ₀.states) (j_low : j < length σ₀.book) (turned_long : length σ₀.turned ≡ σ₀.states * length σ₀.book) (counts_long : length σ₀.counts ≡ σ₀.states * length σ₀.book) where
  abbrev B : List Equation
  B = σ₀.book

  abbrev n : ℕ
  n = length σ₀.book

  abbrev Got : ℕ → ℕ → State → Type 0
  Got m l σ = Reached A d σ₀ v j m l σ

  in_turned : (u i : ℕ) → u < σ₀.states → i < n → u * n + i < length σ₀.turned
  in_turned u i a b = let c = place_low σ₀.states n u i a b in omega arith

  in_counts : (u i : ℕ) → u < σ₀.states → i < n → u * n + i < length σ₀.counts
  in_counts u i a b = let c = place_low σ₀.states n u i a b in omega arith

  hit_one : (m l u i : ℕ) (σ : State) → u < σ₀.states → i < n → Got m l σ → Got (m + cond (eqb u v && eqb i j) 1 0) l (hit A d u i σ)
  hit_one m l u i σ a b h =
      reached_hit A d σ₀ v j inside j_low (in_turned v j inside j_low) (in_counts v j inside j_low) m l u i σ a b (in_turned u i a b) (in_counts u i a b) h

  got : (m m' l l' : ℕ) (σ : State) → m ≡ m' → l ≡ l' → Got m l σ → Got m' l' σ
  got m m' l l' σ e f h = subst₂ (λ (m l : ℕ). Got m l σ) e f h

  origin_one : (m l i : ℕ) (o : Option ℕ) (σ : State) → i < n → Got m l σ → Got (m + cond (eqb i j) (one_if o v) 0) l (hit_from A d o i σ)
  origin_one m l i None σ b h = got m (m + cond (eqb i j) 0 0) l l σ (nil m (eqb i j)) refl h
    where
      nil : (m : ℕ) (b : Bool) → m ≡ m + cond b 0 0
      nil m true = omega arith
      nil m false = omega arith
  origin_one m l i (Some u) σ b h = go (cases_lt u σ.states)
    where
      swap : (m : ℕ) (a b : Bool) → m + cond (a && b) 1 0 ≡ m + cond b (cond a 1 0) 0
      swap m true b = refl
      swap m false true = refl
      swap m false false = refl

      nil : (m : ℕ) (b : Bool) → m ≡ m + cond b 0 0
      nil m true = omega arith
      nil m false = omega arith

      go : (u < σ.states) ⊎ (σ.states ≤ u) → Got (m + cond (eqb i j) (cond (eqb u v) 1 0) 0) l (hit A d u i σ)
      go (inl x) =
          let y = h.same.states in
          got (m + cond (eqb u v && eqb i j) 1 0) (m + cond (eqb i j) (cond (eqb u v) 1 0) 0) l l (hit A d u i σ) (swap m (eqb u v) (eqb i j)) refl (hit_one m l u i σ (omega arith) b h)
      go (inr x) =
          let y = h.same.states in
          subst (Got (m + cond (eqb i j) (cond (eqb u v) 1 0) 0) l) (sym (hit_outside A d u i σ x))
          (got m (m + cond (eqb i j) (cond (eqb u v) 1 0) 0) l l σ (rw (ne_eqb u v (λ f. omega arith)) (nil m (eqb i j))) refl h)

  -- the transitions into s
  origins : (m l i s a k : ℕ) (σ : State) → i < n → Got m l σ →
      Got (m + cond (eqb i j) (sum k (λ k. one_if (A.predecessor s a k) v)) 0) (l + k) (each k (λ k τ. hit_from A d (A.predecessor s a k) i (looked τ)) σ)
  unfolding each sum
  origins m l i s a zero σ b h = got m (m + cond (eqb i j) 0 0) l (l + 0) σ (nil m (eqb i j)) (omega arith) h
    where
      nil : (m : ℕ) (b : Bool) → m ≡ m + cond b 0 0
      nil m true = omega arith
      nil m false = omega arith
  origins m l i s a (suc k) σ b h =
      let τ = each k (λ k τ. hit_from A d (A.predecessor s a k) i (looked τ)) σ in
      let o = A.predecessor s a k in
      let before = sum k (λ k. one_if (A.predecessor s a k) v) in
      let m' = m + cond (eqb i j) before 0 in
      let g = origin_one m' (l + k + 1) i o (looked τ) b (reached_look A d σ₀ v j m' (l + k) τ (origins m l i s a k σ b h)) in
      got (m' + cond (eqb i j) (one_if o v) 0) (m + cond (eqb i j) (before + one_if o v) 0) (l + k + 1) (l + suc k) (hit_from A d o i (looked τ)) (join m (eqb i j) before (one_if o v)) (omega arith) g
    where
      join : (m : ℕ) (b : Bool) (x y : ℕ) → m + cond b x 0 + cond b y 0 ≡ m + cond b (x + y) 0
      join m true x y = omega arith
      join m false x y = omega arith

  module _ (s i : ℕ) (s_low : s < σ₀.states) where
    one : (m l k : ℕ) (f : Form) (a : ℕ) (σ : State) → k < n → Got m l σ → Got (m + hits A s k v j f a) (l + looks_by A s f a) (visit_form A d s k f a σ)
    one m l k True a σ b h = got m (m + 0) l (l + 0) σ (omega arith) (omega arith) h
    one m l k False a σ b h = got m (m + 0) l (l + 0) σ (omega arith) (omega arith) h
    one m l k Atom a σ b h = got m (m + 0) l (l + 0) σ (omega arith) (omega arith) h
    one m l k Or a σ b h = hit_one m (l + 1) s k (looked σ) s_low b (reached_look A d σ₀ v j m l σ h)
    one m l k And a σ b h = hit_one m (l + 1) s k (looked σ) s_low b (reached_look A d σ₀ v j m l σ h)
    one m l k Diamond a σ b h = origins m l k s a (A.in_degree s a) σ b h
    one m l k Box a σ b h = origins m l k s a (A.in_degree s a) σ b h

    -- the hits and looks of one place
    abbrev pub hits_at : ℕ → ℕ
    hits_at p = cond (names B p i) (hits A s (p / 2) v j (nth B (p / 2)).form (nth B (p / 2)).first) 0

    abbrev pub looks_at : ℕ → ℕ
    looks_at p = cond (names B p i) (looks_by A s (nth B (p / 2)).form (nth B (p / 2)).first) 0

    visits : (m l p : ℕ) (σ : State) → p < 2 * n → names B p i ≡ true → Got m l σ → Got (m + hits_at p) (l + looks_at p) (visit A d s p σ)
    unfolding visit
    visits m l p σ b e h =
        let k : p / 2 < n = omega arith in
        let r = nth B (p / 2) in
        subst (λ (C : List Equation). Got (m + hits_at p) (l + looks_at p) (visit_form A d s (p / 2) (nth C (p / 2)).form (nth C (p / 2)).first σ)) (sym h.same.book)
        (got (m + hits A s (p / 2) v j r.form r.first) (m + hits_at p) (l + looks_by A s r.form r.first) (l + looks_at p) (visit_form A d s (p / 2) r.form r.first σ)
        (ap (λ (x : ℕ). m + x) (sym (cond-true (names B p i) _ 0 e))) (ap (λ (x : ℕ). l + x) (sym (cond-true (names B p i) _ 0 e)))
        (one m l (p / 2) r.form r.first σ k h))

    pub walks : (m l k q : ℕ) (σ : State) → q ≤ k → q ≤ 2 * n → ((p : ℕ) → q ≡ suc p → names B p i ≡ true) → ((p : ℕ) → p < 2 * n → names B p i ≡ true → Last B i (get_or σ₀.next p 0) p) →
        Got m l σ → Got (m + sum q hits_at) (l + sum q looks_at) (walk A d s k q σ)
    unfolding walk sum
    walks m l zero q σ a b here nexts h =
        let e : q ≡ 0 = omega arith in
        subst (λ (q : ℕ). Got (m + sum q hits_at) (l + sum q looks_at) σ) (sym e) (got m (m + 0) l (l + 0) σ (omega arith) (omega arith) h)
    walks m l (suc k) zero σ a b here nexts h = got m (m + 0) l (l + 0) σ (omega arith) (omega arith) h
    walks m l (suc k) (suc p) σ a b here nexts h =
        let e = here p refl in
        let x = nexts p (omega arith) e in
        let q = get_or σ₀.next p 0 in
        let q_low : q ≤ p = x.low in
        let g = visits m l p σ (omega arith) e h in
        let w = walks (m + hits_at p) (l + looks_at p) k q (visit A d s p σ) (omega arith) (omega arith) x.here nexts g in
        let u : sum p hits_at ≡ sum q hits_at = sum_gap hits_at q p q_low (λ y c f. cond-false (names B y i) _ 0 (x.none y c f)) in
        let t : sum p looks_at ≡ sum q looks_at = sum_gap looks_at q p q_low (λ y c f. cond-false (names B y i) _ 0 (x.none y c f)) in
        let next : σ.next ≡ σ₀.next = h.same.next in
        subst (λ (ns : List ℕ). Got (m + (sum p hits_at + hits_at p)) (l + (sum p looks_at + looks_at p)) (walk A d s k (get_or ns p 0) (visit A d s p σ))) (sym next)
        (got (m + hits_at p + sum q hits_at) (m + (sum p hits_at + hits_at p)) (l + looks_at p + sum q looks_at) (l + (sum p looks_at + looks_at p)) (walk A d s k q (visit A d s p σ)) (omega arith) (omega arith) w)
