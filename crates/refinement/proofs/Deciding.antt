-- When the pairs taken decide an equation, by its operands left and gone; and what one more pair changes.
use Rattle.std.proofs.Common.{◌≡◌, ℕ, zero, suc, ◌+◌, ◌<◌, Bool, true, false, cond, not, ◌&&◌, ◌||◌, eqb, ltb, List, [], ◌∷◌, ◌++◌, sym, refl, ap, ◌∙◌, ap₂, subst₂, arith}
use mathlib.Core.Bool.{beq}
use Rattle.std.proofs.lemmas.Bool.{both_ways, and_parts, or_left, eqb-true, ne_eqb, lt-ltb}
use Rattle.records.specs.declared.Fixpoint.{Fixpoint}
use Rattle.records.specs.declared.Fixpoint.TheVariants.{Greatest, Least}
use Rattle.refinement.proofs.Tables.{eqb_sym}
use Rattle.refinement.specs.Represents.{left}
use Rattle.refinement.specs.Sides.{at_first, counted, may_turn, operands}
use Rattle.semantics.proofs.Pairs.{among_push}
use Rattle.semantics.proofs.Sums.{sum_at, sum_const, sum_eq, sum_plus}
use Rattle.semantics.specs.Equations.{start, truth}
use Rattle.semantics.specs.Lts.{Lts, every, out_of, some, sum}
use Rattle.semantics.specs.Plain.{among, changed}
use Rattle.records.specs.declared.Form.{Form}
use Rattle.records.specs.declared.Form.TheVariants.{And, Atom, Box, Diamond, False, Or, True}
use Rattle.semantics.specs.declared.Pair.{Pair}

-- the operands that were taken
abbrev pub gone : Lts → List Pair → ℕ → Form → ℕ → ℕ → ℕ
gone F taken s True x y = 0
gone F taken s False x y = 0
gone F taken s Atom x y = 0
gone F taken s Or x y = cond (among s x taken) 1 0 + cond (among s y taken) 1 0
gone F taken s And x y = cond (among s x taken) 1 0 + cond (among s y taken) 1 0
gone F taken s Diamond a y = sum F.states (λ t. cond (among t y taken) (F.transitions s a t) 0)
gone F taken s Box a y = sum F.states (λ t. cond (among t y taken) (F.transitions s a t) 0)

abbrev pub decides : Lts → Fixpoint → List Pair → ℕ → Form → ℕ → ℕ → Bool
decides F d taken v f x y = not (beq (truth F (changed d taken) v f x y) (start d))

-- Sums that are 0

eqb_not : (x : ℕ) → eqb x 0 ≡ not (ltb 0 x)
eqb_not zero = refl
eqb_not (suc x) = ne_eqb (suc x) 0 (λ e. omega arith) ∙ sym (ap not (lt-ltb 0 (suc x) (omega arith)))

eqb_zero : (x : ℕ) → eqb 0 x ≡ not (ltb 0 x)
eqb_zero x = eqb_sym 0 x ∙ eqb_not x

ltb_plus : (x y : ℕ) → ltb 0 (x + y) ≡ (ltb 0 x || ltb 0 y)
ltb_plus zero y = let e : 0 + y ≡ y = omega arith in ap (ltb 0) e
ltb_plus (suc x) y = lt-ltb 0 (suc x + y) (omega arith) ∙ sym (or_left (ltb 0 (suc x)) (ltb 0 y) (lt-ltb 0 (suc x) (omega arith)))

eqb_plus : (x y : ℕ) → eqb (x + y) 0 ≡ (eqb x 0 && eqb y 0)
eqb_plus x y = eqb_not (x + y) ∙ ap not (ltb_plus x y) ∙ de (ltb 0 x) (ltb 0 y) ∙ sym (ap₂ (λ (a b : Bool). a && b) (eqb_not x) (eqb_not y))
  where
    de : (a b : Bool) → not (a || b) ≡ (not a && not b)
    de true b = refl
    de false b = refl

no_left : (n : ℕ) (f : ℕ → ℕ) (g : ℕ → Bool) → eqb (sum n (λ t. cond (g t) 0 (f t))) 0 ≡ every n (λ t. eqb 0 (f t) || g t)
unfolding sum every
no_left zero f g = refl
no_left (suc n) f g = eqb_plus (sum n (λ t. cond (g t) 0 (f t))) (cond (g n) 0 (f n)) ∙ ap₂ (λ (a b : Bool). a && b) (no_left n f g) (go (g n) (f n))
  where
    or_true : (b : Bool) → true ≡ (b || true)
    or_true true = refl
    or_true false = refl

    or_false : (b : Bool) → b ≡ (b || false)
    or_false true = refl
    or_false false = refl

    go : (b : Bool) (x : ℕ) → eqb (cond b 0 x) 0 ≡ (eqb 0 x || b)
    go true x = or_true (eqb 0 x)
    go false x = eqb_sym x 0 ∙ or_false (eqb 0 x)

some_gone : (n : ℕ) (f : ℕ → ℕ) (g : ℕ → Bool) → ltb 0 (sum n (λ t. cond (g t) (f t) 0)) ≡ some n (λ t. ltb 0 (f t) && g t)
unfolding sum some
some_gone zero f g = refl
some_gone (suc n) f g = ltb_plus (sum n (λ t. cond (g t) (f t) 0)) (cond (g n) (f n) 0) ∙ ap₂ (λ (a b : Bool). a || b) (some_gone n f g) (go (g n) (f n))
  where
    and_true : (b : Bool) → b ≡ (b && true)
    and_true true = refl
    and_true false = refl

    and_false : (b : Bool) → false ≡ (b && false)
    and_false true = refl
    and_false false = refl

    go : (b : Bool) (x : ℕ) → ltb 0 (cond b x 0) ≡ (ltb 0 x && b)
    go true x = and_true (ltb 0 x)
    go false x = and_false (ltb 0 x)

-- the same with the marks of the Greatest side
some_left : (n : ℕ) (f : ℕ → ℕ) (g : ℕ → Bool) → not (some n (λ t. ltb 0 (f t) && cond (g t) false true)) ≡ every n (λ t. eqb 0 (f t) || g t)
unfolding some every
some_left zero f g = refl
some_left (suc n) f g =
    de (some n (λ t. ltb 0 (f t) && cond (g t) false true)) (ltb 0 (f n) && cond (g n) false true) ∙
    ap₂ (λ (a b : Bool). a && b) (some_left n f g) (go (g n) (ltb 0 (f n)) ∙ ap (λ (b : Bool). b || g n) (sym (eqb_zero (f n))))
  where
    de : (a b : Bool) → not (a || b) ≡ (not a && not b)
    de true b = refl
    de false b = refl

    go : (b z : Bool) → not (z && cond b false true) ≡ (not z || b)
    go true true = refl
    go true false = refl
    go false true = refl
    go false false = refl

every_gone : (n : ℕ) (f : ℕ → ℕ) (g : ℕ → Bool) → not (every n (λ t. eqb 0 (f t) || cond (g t) false true)) ≡ some n (λ t. ltb 0 (f t) && g t)
unfolding some every
every_gone zero f g = refl
every_gone (suc n) f g =
    de (every n (λ t. eqb 0 (f t) || cond (g t) false true)) (eqb 0 (f n) || cond (g n) false true) ∙
    ap₂ (λ (a b : Bool). a || b) (every_gone n f g) (ap (λ (z : Bool). not (z || cond (g n) false true)) (eqb_zero (f n)) ∙ go (g n) (ltb 0 (f n)))
  where
    de : (a b : Bool) → not (a && b) ≡ (not a || not b)
    de true b = refl
    de false b = refl

    go : (b z : Bool) → not (not z || cond b false true) ≡ (z && b)
    go true true = refl
    go true false = refl
    go false true = refl
    go false false = refl

mark_same : (b : Bool) → cond b true false ≡ b
mark_same true = refl
mark_same false = refl

some_same : (n : ℕ) (f g : ℕ → Bool) → ((k : ℕ) → f k ≡ g k) → some n f ≡ some n g
unfolding some
some_same zero f g h = refl
some_same (suc n) f g h = ap₂ (λ (a b : Bool). a || b) (some_same n f g h) (h n)

every_same : (n : ℕ) (f g : ℕ → Bool) → ((k : ℕ) → f k ≡ g k) → every n f ≡ every n g
unfolding every
every_same zero f g h = refl
every_same (suc n) f g h = ap₂ (λ (a b : Bool). a && b) (every_same n f g h) (h n)

off_true : (b : Bool) → not (beq b true) ≡ not b
off_true true = refl
off_true false = refl

off_false : (b : Bool) → not (beq b false) ≡ b
off_false true = refl
off_false false = refl

module _ (F : Lts) (taken : List Pair) (v : ℕ) where
  pub decides_counted : (d : Fixpoint) (f : Form) (x y : ℕ) → counted d f ≡ true → decides F d taken v f x y ≡ (may_turn d f (F.divergent v x) && eqb (left F taken v f x y) 0)
  unfolding truth
  decides_counted d True x y e = absurd (both_ways false refl e)
  decides_counted d False x y e = absurd (both_ways false refl e)
  decides_counted d Atom x y e = absurd (both_ways false refl e)
  decides_counted Greatest Or x y e = go (among v x taken) (among v y taken)
    where
      go : (a b : Bool) → not (beq (cond a false true || cond b false true) true) ≡ eqb (cond a 0 1 + cond b 0 1) 0
      go true true = refl
      go true false = refl
      go false true = refl
      go false false = refl
  decides_counted Least Or x y e = absurd (both_ways false refl e)
  decides_counted Greatest And x y e = absurd (both_ways false refl e)
  decides_counted Least And x y e = go (among v x taken) (among v y taken)
    where
      go : (a b : Bool) → not (beq (cond a true false && cond b true false) false) ≡ eqb (cond a 0 1 + cond b 0 1) 0
      go true true = refl
      go true false = refl
      go false true = refl
      go false false = refl
  decides_counted Greatest Diamond a y e =
      off_true (some F.states (λ t. ltb 0 (F.transitions v a t) && cond (among t y taken) false true)) ∙ some_left F.states (F.transitions v a) (λ t. among t y taken) ∙ sym (no_left F.states (F.transitions v a) (λ t. among t y taken))
  decides_counted Least Diamond x y e = absurd (both_ways false refl e)
  decides_counted Greatest Box x y e = absurd (both_ways false refl e)
  decides_counted Least Box a y e =
      off_false (not (F.divergent v a) && every F.states (λ t. eqb 0 (F.transitions v a t) || cond (among t y taken) true false)) ∙
      ap (λ (b : Bool). not (F.divergent v a) && b) (every_same F.states _ _ (λ t. ap (λ (b : Bool). eqb 0 (F.transitions v a t) || b) (mark_same (among t y taken))) ∙ sym (no_left F.states (F.transitions v a) (λ t. among t y taken)))

  pub decides_free : (d : Fixpoint) (f : Form) (x y : ℕ) → counted d f ≡ false → decides F d taken v f x y ≡ (at_first d f (F.divergent v x) (F.holds x v) || ltb 0 (gone F taken v f x y))
  unfolding truth
  decides_free Greatest True x y e = refl
  decides_free Least True x y e = refl
  decides_free Greatest False x y e = refl
  decides_free Least False x y e = refl
  decides_free d Atom x y e = or_false (not (beq (F.holds x v) (start d)))
    where
      or_false : (b : Bool) → b ≡ (b || false)
      or_false true = refl
      or_false false = refl
  decides_free Greatest Or x y e = absurd (both_ways true e refl)
  decides_free Least Or x y e = go (among v x taken) (among v y taken)
    where
      go : (a b : Bool) → not (beq (cond a true false || cond b true false) false) ≡ ltb 0 (cond a 1 0 + cond b 1 0)
      go true true = refl
      go true false = refl
      go false true = refl
      go false false = refl
  decides_free Greatest And x y e = go (among v x taken) (among v y taken)
    where
      go : (a b : Bool) → not (beq (cond a false true && cond b false true) true) ≡ ltb 0 (cond a 1 0 + cond b 1 0)
      go true true = refl
      go true false = refl
      go false true = refl
      go false false = refl
  decides_free Least And x y e = absurd (both_ways true e refl)
  decides_free Greatest Diamond x y e = absurd (both_ways true e refl)
  decides_free Least Diamond a y e =
      off_false (some F.states (λ t. ltb 0 (F.transitions v a t) && cond (among t y taken) true false)) ∙
      some_same F.states _ _ (λ t. ap (λ (b : Bool). ltb 0 (F.transitions v a t) && b) (mark_same (among t y taken))) ∙ sym (some_gone F.states (F.transitions v a) (λ t. among t y taken))
  decides_free Greatest Box a y e =
      off_true (not (F.divergent v a) && every F.states (λ t. eqb 0 (F.transitions v a t) || cond (among t y taken) false true)) ∙
      de (F.divergent v a) (every F.states (λ t. eqb 0 (F.transitions v a t) || cond (among t y taken) false true)) ∙
      ap (λ (b : Bool). F.divergent v a || b) (every_gone F.states (F.transitions v a) (λ t. among t y taken) ∙ sym (some_gone F.states (F.transitions v a) (λ t. among t y taken)))
    where
      de : (a b : Bool) → not (not a && b) ≡ (a || not b)
      de true b = refl
      de false b = refl
  decides_free Least Box x y e = absurd (both_ways true e refl)

-- Before any pair is taken

module _ (F : Lts) (v : ℕ) where
  pub left_none : (f : Form) (x y : ℕ) → left F [] v f x y ≡ operands f (out_of F v x)
  unfolding among out_of
  left_none True x y = refl
  left_none False x y = refl
  left_none Atom x y = refl
  left_none Or x y = refl
  left_none And x y = refl
  left_none Diamond x y = refl
  left_none Box x y = refl

  pub gone_none : (f : Form) (x y : ℕ) → gone F [] v f x y ≡ 0
  unfolding among
  gone_none True x y = refl
  gone_none False x y = refl
  gone_none Atom x y = refl
  gone_none Or x y = refl
  gone_none And x y = refl
  gone_none Diamond x y = let a = sum_const F.states 0 in omega arith
  gone_none Box x y = let a = sum_const F.states 0 in omega arith

-- the operands of the pair (v, ..) that are the pair (s, i)
abbrev pub ways : Lts → (s i v : ℕ) → Form → ℕ → ℕ → ℕ
ways F s i v True x y = 0
ways F s i v False x y = 0
ways F s i v Atom x y = 0
ways F s i v Or x y = cond (eqb s v) (cond (eqb x i) 1 0 + cond (eqb y i) 1 0) 0
ways F s i v And x y = cond (eqb s v) (cond (eqb x i) 1 0 + cond (eqb y i) 1 0) 0
ways F s i v Diamond a y = cond (eqb y i) (F.transitions v a s) 0
ways F s i v Box a y = cond (eqb y i) (F.transitions v a s) 0

less_one : (a b c : Bool) (x : ℕ) → ((b && c) ≡ true → a ≡ false) → cond (a || (b && c)) 0 x + cond b (cond c x 0) 0 ≡ cond a 0 x
less_one true true true x h = absurd (both_ways true (h refl) refl)
less_one true true false x h = omega arith
less_one true false c x h = omega arith
less_one false true true x h = omega arith
less_one false true false x h = omega arith
less_one false false c x h = omega arith

more_one : (a b c : Bool) (x : ℕ) → ((b && c) ≡ true → a ≡ false) → cond (a || (b && c)) x 0 ≡ cond a x 0 + cond b (cond c x 0) 0
more_one true true true x h = absurd (both_ways true (h refl) refl)
more_one true true false x h = omega arith
more_one true false c x h = omega arith
more_one false true true x h = omega arith
more_one false true false x h = omega arith
more_one false false c x h = omega arith

split : (b : Bool) (x y : ℕ) → cond b (x + y) 0 ≡ cond b x 0 + cond b y 0
split true x y = refl
split false x y = refl

module _ (F : Lts) (taken : List Pair) (p : Pair) (inside : p.state < F.states) (new : among p.state p.variable taken ≡ false) (v : ℕ) where
  abbrev s : ℕ
  s = p.state

  abbrev i : ℕ
  i = p.variable

  abbrev taken' : List Pair
  taken' = taken ++ (p ∷ [])

  apart : (t x : ℕ) → (eqb s t && eqb i x) ≡ true → among t x taken ≡ false
  apart t x e = let a = and_parts (eqb s t) (eqb i x) e in subst₂ (λ (t x : ℕ). among t x taken ≡ false) (eqb-true s t a.0) (eqb-true i x a.1) new

  -- one operand of an or or an and
  less : (x : ℕ) → cond (among v x taken') 0 1 + cond (eqb s v) (cond (eqb x i) 1 0) 0 ≡ cond (among v x taken) 0 1
  less x =
      subst₂ (λ (a c : Bool). cond a 0 1 + cond (eqb s v) (cond c 1 0) 0 ≡ cond (among v x taken) 0 1) (sym (among_push v x taken p)) (eqb_sym i x)
      (less_one (among v x taken) (eqb s v) (eqb i x) 1 (apart v x))

  more : (x : ℕ) → cond (among v x taken') 1 0 ≡ cond (among v x taken) 1 0 + cond (eqb s v) (cond (eqb x i) 1 0) 0
  more x =
      subst₂ (λ (a c : Bool). cond a 1 0 ≡ cond (among v x taken) 1 0 + cond (eqb s v) (cond c 1 0) 0) (sym (among_push v x taken p)) (eqb_sym i x)
      (more_one (among v x taken) (eqb s v) (eqb i x) 1 (apart v x))

  less_two : (x y : ℕ) → cond (among v x taken') 0 1 + cond (among v y taken') 0 1 + cond (eqb s v) (cond (eqb x i) 1 0 + cond (eqb y i) 1 0) 0 ≡ cond (among v x taken) 0 1 + cond (among v y taken) 0 1
  less_two x y =
      let a = less x in
      let b = less y in
      let c = split (eqb s v) (cond (eqb x i) 1 0) (cond (eqb y i) 1 0) in
      omega arith

  more_two : (x y : ℕ) → cond (among v x taken') 1 0 + cond (among v y taken') 1 0 ≡ cond (among v x taken) 1 0 + cond (among v y taken) 1 0 + cond (eqb s v) (cond (eqb x i) 1 0 + cond (eqb y i) 1 0) 0
  more_two x y =
      let a = more x in
      let b = more y in
      let c = split (eqb s v) (cond (eqb x i) 1 0) (cond (eqb y i) 1 0) in
      omega arith

  -- the transitions on one action
  less_all : (f : ℕ → ℕ) (y : ℕ) → sum F.states (λ t. cond (among t y taken') 0 (f t)) + cond (eqb y i) (f s) 0 ≡ sum F.states (λ t. cond (among t y taken) 0 (f t))
  less_all f y =
      let N = F.states in
      let a = sum_at N s (λ t. cond (eqb i y) (f t) 0) inside in
      let b = sum_plus N (λ t. cond (among t y taken') 0 (f t)) (λ t. cond (eqb s t) (cond (eqb i y) (f t) 0) 0) in
      let c = sum_eq N (λ t. cond (among t y taken') 0 (f t) + cond (eqb s t) (cond (eqb i y) (f t) 0) 0) (λ t. cond (among t y taken) 0 (f t))
      (λ t _. ap (λ (a : Bool). cond a 0 (f t) + cond (eqb s t) (cond (eqb i y) (f t) 0) 0) (among_push t y taken p) ∙ less_one (among t y taken) (eqb s t) (eqb i y) (f t) (apart t y)) in
      let e : cond (eqb y i) (f s) 0 ≡ cond (eqb i y) (f s) 0 = ap (λ (c : Bool). cond c (f s) 0) (eqb_sym y i) in
      omega arith

  more_all : (f : ℕ → ℕ) (y : ℕ) → sum F.states (λ t. cond (among t y taken') (f t) 0) ≡ sum F.states (λ t. cond (among t y taken) (f t) 0) + cond (eqb y i) (f s) 0
  more_all f y =
      let N = F.states in
      let a = sum_at N s (λ t. cond (eqb i y) (f t) 0) inside in
      let b = sum_plus N (λ t. cond (among t y taken) (f t) 0) (λ t. cond (eqb s t) (cond (eqb i y) (f t) 0) 0) in
      let c = sum_eq N (λ t. cond (among t y taken') (f t) 0) (λ t. cond (among t y taken) (f t) 0 + cond (eqb s t) (cond (eqb i y) (f t) 0) 0)
      (λ t _. ap (λ (a : Bool). cond a (f t) 0) (among_push t y taken p) ∙ more_one (among t y taken) (eqb s t) (eqb i y) (f t) (apart t y)) in
      let e : cond (eqb y i) (f s) 0 ≡ cond (eqb i y) (f s) 0 = ap (λ (c : Bool). cond c (f s) 0) (eqb_sym y i) in
      omega arith

  pub left_less : (f : Form) (x y : ℕ) → left F taken' v f x y + ways F s i v f x y ≡ left F taken v f x y
  left_less True x y = omega arith
  left_less False x y = omega arith
  left_less Atom x y = omega arith
  left_less Or x y = less_two x y
  left_less And x y = less_two x y
  left_less Diamond a y = less_all (F.transitions v a) y
  left_less Box a y = less_all (F.transitions v a) y

  pub gone_more : (f : Form) (x y : ℕ) → gone F taken' v f x y ≡ gone F taken v f x y + ways F s i v f x y
  gone_more True x y = omega arith
  gone_more False x y = omega arith
  gone_more Atom x y = omega arith
  gone_more Or x y = more_two x y
  gone_more And x y = more_two x y
  gone_more Diamond a y = more_all (F.transitions v a) y
  gone_more Box a y = more_all (F.transitions v a) y
