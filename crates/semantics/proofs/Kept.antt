-- What every call keeps.
use Rattle.std.proofs.Common.{◌≡◌, ℕ, zero, suc, ◌+◌, ◌*◌, ◌<◌, ◌≤◌, true, false, not, ◌&&◌, ltb, leb, ◌⊎◌, List, [], ◌∷◌, ◌++◌, length, Some, None, Option, sym, refl, ap, ◌∙◌, subst, ap₂, subst₂, inl, inr, append_assoc, append-nil, arith}
use Rattle.std.proofs.lemmas.Bool.{both_ways, not-true, ltb-true, leb-true, and_parts, or_cases, or_right, cond_both}
use Rattle.records.specs.declared.Fixpoint.{Fixpoint}
use Rattle.records.specs.declared.EquationRecord.{EquationRecord}
use Rattle.records.specs.declared.Form.{Form}
use Rattle.records.specs.declared.Form.TheVariants.{True, False, Atom, Or, And, Diamond, Box}
use Rattle.semantics.specs.declared.Equation.{Equation}
use Rattle.semantics.specs.declared.Pair.{Pair}
use Rattle.semantics.specs.Lts.{Lts}
use Rattle.records.specs.Letters.{form_of}
use Rattle.semantics.specs.Equations.{nth, Marking, cost}
use Rattle.semantics.specs.Plain.{among, decided, turned, waits, costs, Takes, well_formed, all_well_formed, equation_of, book_of, proper, fits, PlainCall, load, pin, run, query, sheet, Plain, no_book, book, has_pair, after, Allowed, Event, Leads, nothing, next}
use Rattle.semantics.specs.Law.{Within, Once, Sized}
use Rattle.semantics.proofs.Markings.{Names, Named}
use Rattle.semantics.proofs.Sides.{step, step_mono, Prefixed}
use Rattle.semantics.proofs.Pairs.{is, is_at, Inside, inside_push, among_push, once_push, costs_push}

-- a session with a book that is proper, whose taken pairs are its own, each taken once and paid for, and lie in
-- whatever has the pinned pairs and its own step
pub record Kept (F : Lts) (d : Fixpoint) (B : List Equation) (pins taken : List Pair) (looks : ℕ) : Type 0 where
  pub sized : Sized F B
  pub names : Named B
  pub inside : Inside F.states (length B) taken
  pub once : Once taken
  pub summed : looks ≡ costs F B taken
  pub forced : (T : Marking) → Prefixed F d B pins T → Within F B (λ s i. among s i taken) T

-- the same of every session
abbrev pub Keeps : Lts → Fixpoint → Plain → Type 0
Keeps F d no_book = Unit {0}
Keeps F d (book B pins taken looks) = Kept F d B pins taken looks

-- what has turned lies in whatever holds the pins and its own step
pub turned_below : (F : Lts) (d : Fixpoint) (B : List Equation) (pins taken : List Pair) → Named B →
    (T : Marking) → Prefixed F d B pins T → Within F B (λ s i. among s i taken) T → Within F B (turned F d B pins taken) T
unfolding turned decided step
turned_below F d B pins taken names T h low s i l k e = go (or_cases (among s i pins) (step F d B (λ s i. among s i taken) s i) e)
  where
    go : (among s i pins ≡ true) ⊎ (step F d B (λ s i. among s i taken) s i ≡ true) → T s i ≡ true
    go (inl q) = h.pinned s i l k q
    go (inr q) = h.stepped s i l k (step_mono F d B names (λ s i. among s i taken) T low s i l k q)

-- One pair taken

module _ (F : Lts) (d : Fixpoint) (B : List Equation) (pins : List Pair) where
  take_one : (taken : List Pair) (looks : ℕ) (p : Pair) → Kept F d B pins taken looks → p.state < F.states → p.variable < length B →
      waits F d B pins taken p.state p.variable ≡ true → Kept F d B pins (taken ++ p ∷ []) (looks + cost F B p.state p.variable)
  unfolding waits
  take_one taken looks p h l k w =
      let a = and_parts (turned F d B pins taken p.state p.variable) (not (among p.state p.variable taken)) w in
      record {
        sized = h.sized;
        names = h.names;
        inside = inside_push F.states (length B) taken p h.inside l k;
        once = once_push taken p h.once (not-true _ a.1);
        summed = ap (λ (n : ℕ). n + cost F B p.state p.variable) h.summed ∙ sym (costs_push F B taken p);
        forced = λ T t s i m j e. at_pair T t a.0 s i m j (or_cases (among s i taken) (is p s i) (sym (among_push s i taken p) ∙ e));
      }
    where
      at_pair : (T : Marking) → Prefixed F d B pins T → turned F d B pins taken p.state p.variable ≡ true →
          (s i : ℕ) → s < F.states → i < length B → (among s i taken ≡ true) ⊎ (is p s i ≡ true) → T s i ≡ true
      at_pair T t q s i m j (inl e) = h.forced T t s i m j e
      at_pair T t q s i m j (inr e) =
          let a = is_at p s i e in
          ap₂ (λ (s i : ℕ). T s i) (sym a.0) (sym a.1) ∙ turned_below F d B pins taken h.names T t (h.forced T t) p.state p.variable l k q

  take_all : (taken : List Pair) (looks : ℕ) (ps : List Pair) → Kept F d B pins taken looks → Takes F d B pins taken ps → Kept F d B pins (taken ++ ps) (looks + costs F B ps)
  unfolding Takes costs
  take_all taken looks [] h t = subst₂ (λ (x : List Pair) (n : ℕ). Kept F d B pins x n) (sym (append-nil taken)) (omega arith) h
  take_all taken looks (p ∷ ps) h t =
      let c = cost F B p.state p.variable in
      let a = take_all (taken ++ p ∷ []) (looks + c) ps (take_one taken looks p h t.0 t.1 t.2) t.3 in
      subst₂ (λ (x : List Pair) (n : ℕ). Kept F d B pins x n) (append_assoc taken (p ∷ []) ps) (omega arith) a

-- One more pin

pin_one : (F : Lts) (d : Fixpoint) (B : List Equation) (pins taken : List Pair) (looks : ℕ) (p : Pair) → Kept F d B pins taken looks → Kept F d B (p ∷ pins) taken looks
unfolding among
pin_one F d B pins taken looks p h =
    record {
      sized = h.sized;
      names = h.names;
      inside = h.inside;
      once = h.once;
      summed = h.summed;
      forced = λ T t. h.forced T (record { pinned = λ s i l k e. t.pinned s i l k (or_right (is p s i) (among s i pins) e); stepped = t.stepped });
    }

-- A book as it is loaded

pub well_formed_names : (F : Lts) (n : ℕ) (r : Option Form) (x y : ℕ) → well_formed F n r x y ≡ true → Names n (equation_of r x y).form (equation_of r x y).first (equation_of r x y).second
unfolding well_formed equation_of
well_formed_names F n None x y e = tt
well_formed_names F n (Some True) x y e = tt
well_formed_names F n (Some False) x y e = tt
well_formed_names F n (Some Atom) x y e = tt
well_formed_names F n (Some Or) x y e = let a = and_parts (ltb x n) (ltb y n) e in (ltb-true x n a.0, ltb-true y n a.1)
well_formed_names F n (Some And) x y e = let a = and_parts (ltb x n) (ltb y n) e in (ltb-true x n a.0, ltb-true y n a.1)
well_formed_names F n (Some Diamond) x y e = let a = and_parts (ltb x F.actions) (ltb y n) e in ltb-true y n a.1
well_formed_names F n (Some Box) x y e = let a = and_parts (ltb x F.actions) (ltb y n) e in ltb-true y n a.1

all_names : (F : Lts) (n : ℕ) (rs : List EquationRecord) → all_well_formed F n rs ≡ true → (i : ℕ) → i < length rs → Names n (nth (book_of rs) i).form (nth (book_of rs) i).first (nth (book_of rs) i).second
unfolding all_well_formed book_of nth
all_names F n [] e i l = absurd (omega arith)
all_names F n (r ∷ rs) e zero l =
    let a = and_parts (well_formed F n (form_of r.form) r.first r.second) (all_well_formed F n rs) e in
    well_formed_names F n (form_of r.form) r.first r.second a.0
all_names F n (r ∷ rs) e (suc i) l =
    let a = and_parts (well_formed F n (form_of r.form) r.first r.second) (all_well_formed F n rs) e in
    all_names F n rs a.1 i (omega arith)

length_book : (rs : List EquationRecord) → length (book_of rs) ≡ length rs
unfolding book_of
length_book [] = refl
length_book (r ∷ rs) = ap suc (length_book rs)

pub book_named : (F : Lts) (rs : List EquationRecord) → proper F rs ≡ true → Named (book_of rs)
unfolding proper
book_named F rs e =
    let n = length rs in
    subst (λ (m : ℕ). (i : ℕ) → i < m → Names m (nth (book_of rs) i).form (nth (book_of rs) i).first (nth (book_of rs) i).second) (sym (length_book rs))
    (all_names F n rs (and_parts (leb 1 n && leb n 1024) (all_well_formed F n rs) e).1)

book_sized : (F : Lts) (rs : List EquationRecord) → proper F rs ≡ true → fits F rs ≡ true → Sized F (book_of rs)
unfolding proper fits
book_sized F rs e f =
    let n = length rs in
    let a = and_parts (leb 1 n) (leb n 1024) (and_parts (leb 1 n && leb n 1024) (all_well_formed F n rs) e).0 in
    let same = length_book rs in
    record {
      at_least_1 = omega (arith, leb-true 1 n a.0);
      at_most_1024 = omega (arith, leb-true n 1024 a.1);
      at_most_8192 = subst (λ (m : ℕ). F.states * m ≤ 8192) (sym same) (leb-true (F.states * n) 8192 f);
    }

load_one : (F : Lts) (d : Fixpoint) (rs : List EquationRecord) → (proper F rs && fits F rs) ≡ true → Kept F d (book_of rs) [] [] 0
unfolding Once costs among
load_one F d rs e =
    let a = and_parts (proper F rs) (fits F rs) e in
    record {
      sized = book_sized F rs a.0 a.1;
      names = book_named F rs a.0;
      inside = tt;
      once = tt;
      summed = refl;
      forced = λ T t s i l k e. absurd (both_ways false refl e);
    }

-- Every call, and every history

call_keeps : (F : Lts) (d : Fixpoint) (p : Plain) (c : PlainCall) (ps : List Pair) → Keeps F d p → Allowed F d p c ps → Keeps F d (after F d p c ps)
unfolding after Allowed
call_keeps F d p (load rs) ps h a = cond_both (proper F rs && fits F rs) (book (book_of rs) [] [] 0) p (Keeps F d) (load_one F d rs) (λ _. h)
call_keeps F d no_book (pin s i) ps h a = tt
call_keeps F d no_book (run k) ps h a = tt
call_keeps F d no_book (query s i) ps h a = tt
call_keeps F d no_book (sheet room) ps h a = tt
call_keeps F d (book B pins taken looks) (pin s i) ps h a =
    let p : Pair = record { state = s; variable = i } in
    cond_both (has_pair F B s i) (book B (p ∷ pins) taken looks) (book B pins taken looks) (Keeps F d) (λ _. pin_one F d B pins taken looks p h) (λ _. h)
call_keeps F d (book B pins taken looks) (run k) ps h a = take_all F d B pins taken looks ps h a.0
call_keeps F d (book B pins taken looks) (query s i) ps h a = h
call_keeps F d (book B pins taken looks) (sheet room) ps h a = h

pub keeps : (F : Lts) (d : Fixpoint) (p q : Plain) (es : List Event) → Keeps F d p → Leads F d p es q → Keeps F d q
keeps F d p q es h nothing = h
keeps F d p q es h (next {q = q'} {es = es'} e a r more) = keeps F d (after F d p e.call e.chosen) q es' (call_keeps F d p e.call e.chosen h a) more
