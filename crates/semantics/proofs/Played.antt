-- Histories tested step by step.
use Rattle.std.proofs.Common.{◌≡◌, Bool, true, false, ◌&&◌, ◌||◌, eqb, ltb, leb, ◌⊎◌, List, [], ◌∷◌, ◌++◌, length, refl, ap, inl, inr}
use Rattle.std.proofs.lemmas.Bool.{both_ways, and_parts, and_from, or_cases, or_left, or_right, cases_Bool, ltb-true, lt-ltb, leb-true, le-leb, eqb-true, eq-eqb}
use Rattle.records.specs.declared.Fixpoint.{Fixpoint}
use Rattle.semantics.specs.declared.Equation.{Equation}
use Rattle.semantics.specs.declared.Pair.{Pair}
use Rattle.semantics.specs.Lts.{Lts}
use Rattle.semantics.specs.Plain.{waits, settled, Takes, PlainCall, load, pin, run, query, sheet, PlainAnswer, Plain, no_book, book, answer_to, after, Allowed, Event, Leads, nothing, next}
use Rattle.semantics.specs.MarkedRuns.{Happens, Never}

-- Whether a call may take these pairs

unfoldable pub takes? : Lts → Fixpoint → List Equation → List Pair → List Pair → List Pair → Bool
takes? F d B pins taken [] = true
takes? F d B pins taken (p ∷ ps) =
    ltb p.state F.states && (ltb p.variable (length B) && (waits F d B pins taken p.state p.variable && takes? F d B pins (taken ++ p ∷ []) ps))

takes_by : (F : Lts) (d : Fixpoint) (B : List Equation) (pins taken ps : List Pair) → takes? F d B pins taken ps ≡ true → Takes F d B pins taken ps
unfolding takes? Takes
takes_by F d B pins taken [] e = tt
takes_by F d B pins taken (p ∷ ps) e =
    let a = and_parts _ _ e in
    let b = and_parts _ _ a.1 in
    let c = and_parts _ _ b.1 in
    (ltb-true _ _ a.0, ltb-true _ _ b.0, c.0, takes_by F d B pins (taken ++ p ∷ []) ps c.1)

by_takes : (F : Lts) (d : Fixpoint) (B : List Equation) (pins taken ps : List Pair) → Takes F d B pins taken ps → takes? F d B pins taken ps ≡ true
unfolding takes? Takes
by_takes F d B pins taken [] t = refl
by_takes F d B pins taken (p ∷ ps) t =
    and_from _ _ (lt-ltb _ _ t.0) (and_from _ _ (lt-ltb _ _ t.1) (and_from _ _ t.2 (by_takes F d B pins (taken ++ p ∷ []) ps t.3)))

unfoldable pub none? : List Pair → Bool
none? [] = true
none? (p ∷ ps) = false

none_by : (ps : List Pair) → none? ps ≡ true → ps ≡ []
unfolding none?
none_by [] e = refl
none_by (p ∷ ps) e = absurd (both_ways false refl e)

by_none : (ps : List Pair) → ps ≡ [] → none? ps ≡ true
unfolding none?
by_none ps e = ap none? e

unfoldable pub allowed? : Lts → Fixpoint → Plain → PlainCall → List Pair → Bool
allowed? F d p (load rs) ps = none? ps
allowed? F d no_book (pin s i) ps = none? ps
allowed? F d no_book (run k) ps = none? ps
allowed? F d no_book (query s i) ps = none? ps
allowed? F d no_book (sheet room) ps = none? ps
allowed? F d (book B pins taken looks) (pin s i) ps = none? ps
allowed? F d (book B pins taken looks) (run k) ps = takes? F d B pins taken ps && (leb (length ps) k && (settled F d B pins (taken ++ ps) || eqb (length ps) k))
allowed? F d (book B pins taken looks) (query s i) ps = none? ps
allowed? F d (book B pins taken looks) (sheet room) ps = none? ps

allowed_by : (F : Lts) (d : Fixpoint) (p : Plain) (c : PlainCall) (ps : List Pair) → allowed? F d p c ps ≡ true → Allowed F d p c ps
unfolding allowed? Allowed
allowed_by F d p (load rs) ps e = none_by ps e
allowed_by F d no_book (pin s i) ps e = none_by ps e
allowed_by F d no_book (run k) ps e = none_by ps e
allowed_by F d no_book (query s i) ps e = none_by ps e
allowed_by F d no_book (sheet room) ps e = none_by ps e
allowed_by F d (book B pins taken looks) (pin s i) ps e = none_by ps e
allowed_by F d (book B pins taken looks) (run k) ps e =
    let a = and_parts _ _ e in
    let b = and_parts _ _ a.1 in
    (takes_by F d B pins taken ps a.0, leb-true _ _ b.0, λ q. stopped q (or_cases _ _ b.1))
  where
    stopped : settled F d B pins (taken ++ ps) ≡ false → (settled F d B pins (taken ++ ps) ≡ true) ⊎ (eqb (length ps) k ≡ true) → length ps ≡ k
    stopped q (inl t) = absurd (both_ways _ q t)
    stopped q (inr t) = eqb-true _ _ t
allowed_by F d (book B pins taken looks) (query s i) ps e = none_by ps e
allowed_by F d (book B pins taken looks) (sheet room) ps e = none_by ps e

by_allowed : (F : Lts) (d : Fixpoint) (p : Plain) (c : PlainCall) (ps : List Pair) → Allowed F d p c ps → allowed? F d p c ps ≡ true
unfolding allowed? Allowed
by_allowed F d p (load rs) ps a = by_none ps a
by_allowed F d no_book (pin s i) ps a = by_none ps a
by_allowed F d no_book (run k) ps a = by_none ps a
by_allowed F d no_book (query s i) ps a = by_none ps a
by_allowed F d no_book (sheet room) ps a = by_none ps a
by_allowed F d (book B pins taken looks) (pin s i) ps a = by_none ps a
by_allowed F d (book B pins taken looks) (run k) ps a =
    and_from _ _ (by_takes F d B pins taken ps a.0) (and_from _ _ (le-leb _ _ a.1) (stops (cases_Bool (settled F d B pins (taken ++ ps)))))
  where
    stops : (settled F d B pins (taken ++ ps) ≡ true) ⊎ (settled F d B pins (taken ++ ps) ≡ false) → (settled F d B pins (taken ++ ps) || eqb (length ps) k) ≡ true
    stops (inl t) = or_left _ _ t
    stops (inr t) = or_right _ _ (eq-eqb (length ps) k (a.2 t))
by_allowed F d (book B pins taken looks) (query s i) ps a = by_none ps a
by_allowed F d (book B pins taken looks) (sheet room) ps a = by_none ps a

-- Whole histories

-- each call may take its pairs
unfoldable pub allowed_all? : Lts → Fixpoint → Plain → List Event → Bool
allowed_all? F d p [] = true
allowed_all? F d p (e ∷ es) = allowed? F d p e.call e.chosen && allowed_all? F d (after F d p e.call e.chosen) es

-- the answers that they have, and those that the plain session gives
unfoldable pub had : List Event → List PlainAnswer
had [] = []
had (e ∷ es) = e.answer ∷ had es

unfoldable pub given : Lts → Fixpoint → Plain → List Event → List PlainAnswer
given F d p [] = []
given F d p (e ∷ es) = answer_to F d p e.call e.chosen ∷ given F d (after F d p e.call e.chosen) es

last : Lts → Fixpoint → Plain → List Event → Plain
last F d p [] = p
last F d p (e ∷ es) = last F d (after F d p e.call e.chosen) es

played : (F : Lts) (d : Fixpoint) (p : Plain) (es : List Event) → allowed_all? F d p es ≡ true → had es ≡ given F d p es → Leads F d p es (last F d p es)
unfolding allowed_all? had given last
played F d p [] a b = nothing
played F d p (e ∷ es) a b =
    let first : e.answer ≡ answer_to F d p e.call e.chosen = cc in
    let rest : had es ≡ given F d (after F d p e.call e.chosen) es = cc in
    let c = and_parts _ _ a in
    next e (allowed_by F d p e.call e.chosen c.0) first (played F d (after F d p e.call e.chosen) es c.1 rest)

by_leads : (F : Lts) (d : Fixpoint) (p q : Plain) (es : List Event) → Leads F d p es q → allowed_all? F d p es ≡ true
unfolding allowed_all?
by_leads F d p q es nothing = refl
by_leads F d p q es (next {es = es'} e a b more) =
    and_from _ _ (by_allowed F d p e.call e.chosen a) (by_leads F d (after F d p e.call e.chosen) q es' more)

pub happens : (F : Lts) (d : Fixpoint) (es : List Event) → allowed_all? F d no_book es ≡ true → had es ≡ given F d no_book es → Happens F d es
happens F d es a b = record { end = last F d no_book es; leads = played F d no_book es a b }

pub never : (F : Lts) (d : Fixpoint) (es : List Event) → allowed_all? F d no_book es ≡ false → Never F d es
never F d es e = record { not = λ h. both_ways (allowed_all? F d no_book es) e (by_leads F d no_book h.end es h.leads) }
