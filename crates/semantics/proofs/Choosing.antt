-- Progress: a run can always be completed, and one that may take every pair ends settled.
use Rattle.std.proofs.Common.{◌≡◌, ℕ, zero, suc, ◌-◌, ◌*◌, ◌<◌, ◌≤◌, Bool, true, false, not, ◌&&◌, ◌⊎◌, List, [], ◌∷◌, ◌++◌, length, sym, refl, ap, ◌∙◌, subst, ap₂, inl, inr, append_assoc, append-nil, arith, length-append}
use Rattle.std.proofs.lemmas.Bool.{both_ways, not-true, not-false, and_parts, or_from, or_left, or_right, cases_Bool}
use Rattle.records.specs.declared.Fixpoint.{Fixpoint}
use Rattle.semantics.specs.declared.Equation.{Equation}
use Rattle.semantics.specs.declared.Pair.{Pair}
use Rattle.semantics.specs.Lts.{Lts}
use Rattle.semantics.specs.Plain.{pair, among, turned, waits, settled, Takes, Plain, no_book, book, PlainCall, load, pin, run, query, sheet, Allowed}
use Rattle.semantics.specs.Law.{Each, Once, GoesOn, Progress}
use Rattle.semantics.proofs.Everywhere.{every_from}
use Rattle.semantics.proofs.Quantifiers.{every_not}
use Rattle.semantics.proofs.Pairs.{is, is_at, is_self, Inside, among_push, among_append, full}

module _ (F : Lts) (d : Fixpoint) (B : List Equation) (pins : List Pair) where
  -- A pair to take, where some wait

  waiting : (taken : List Pair) → settled F d B pins taken ≡ false → (p : Pair) × (p.state < F.states) × (p.variable < length B) × (waits F d B pins taken p.state p.variable ≡ true)
  unfolding settled
  waiting taken e =
      let a = every_not F.states _ e in
      let b = every_not (length B) _ a.2 in
      (pair a.0 b.0, a.1, b.1, not-false _ b.2)

  -- what a run takes, that may take k pairs more
  abbrev Run : List Pair → ℕ → List Pair → Type 0
  Run taken k ps = Takes F d B pins taken ps × (length ps ≤ k) × (settled F d B pins (taken ++ ps) ≡ false → length ps ≡ k)

  complete : (k : ℕ) (taken : List Pair) → (ps : List Pair) × Run taken k ps
  unfolding Takes
  complete zero taken = ([], (tt, omega arith, λ e. refl))
  complete (suc k) taken = go (cases_Bool (settled F d B pins taken)) (complete k)
    where
      go : (settled F d B pins taken ≡ true) ⊎ (settled F d B pins taken ≡ false) → ((taken : List Pair) → (ps : List Pair) × Run taken k ps) → (ps : List Pair) × Run taken (suc k) ps
      go (inl e) more = ([], (tt, omega arith, λ q. absurd (both_ways _ (ap (settled F d B pins) (sym (append-nil taken)) ∙ q) e)))
      go (inr e) more =
          let w = waiting taken e in
          let p = w.0 in
          let r = more (taken ++ p ∷ []) in
          let few = r.1.1 in
          (p ∷ r.0, ((w.1, w.2, w.3, r.1.0), omega arith, λ q. ap suc (r.1.2 (ap (settled F d B pins) (append_assoc taken (p ∷ []) r.0) ∙ q))))

  takes_append : (taken ps more : List Pair) → Takes F d B pins taken ps → Takes F d B pins (taken ++ ps) more → Takes F d B pins taken (ps ++ more)
  unfolding Takes
  takes_append taken [] more t u = subst (λ (x : List Pair). Takes F d B pins x more) (append-nil taken) u
  takes_append taken (p ∷ ps) more t u =
      (t.0, t.1, t.2, takes_append (taken ++ p ∷ []) ps more t.3 (subst (λ (x : List Pair). Takes F d B pins x more) (sym (append_assoc taken (p ∷ []) ps)) u))

  complete_from : (taken : List Pair) (k : ℕ) (ps : List Pair) → Takes F d B pins taken ps → length ps ≤ k → (more : List Pair) × Run taken k (ps ++ more)
  complete_from taken k ps t l =
      let r = complete (k - length ps) (taken ++ ps) in
      let a = length-append ps r.0 in
      let few = r.1.1 in
      (r.0, (takes_append taken ps r.0 t r.1.0, omega arith, λ q. let b = r.1.2 (ap (settled F d B pins) (append_assoc taken ps r.0) ∙ q) in omega arith))

  -- What a run takes

  -- none of it was taken before
  takes_apart : (taken ps : List Pair) → Takes F d B pins taken ps → (s i : ℕ) → among s i taken ≡ true → among s i ps ≡ false
  unfolding Takes among waits
  takes_apart taken [] t s i e = refl
  takes_apart taken (p ∷ ps) t s i e =
      or_from (is p s i) (among s i ps) (other (cases_Bool (is p s i)))
      (takes_apart (taken ++ p ∷ []) ps t.3 s i (among_push s i taken p ∙ or_left (among s i taken) (is p s i) e))
    where
      new : among p.state p.variable taken ≡ false
      new = not-true _ (and_parts (turned F d B pins taken p.state p.variable) (not (among p.state p.variable taken)) t.2).1

      other : (is p s i ≡ true) ⊎ (is p s i ≡ false) → is p s i ≡ false
      other (inl q) = let a = is_at p s i q in absurd (both_ways (among s i taken) (ap₂ (λ (s i : ℕ). among s i taken) (sym a.0) (sym a.1) ∙ new) e)
      other (inr q) = q

  takes_once : (taken ps : List Pair) → Takes F d B pins taken ps → Once ps
  unfolding Takes Once among
  takes_once taken [] t = tt
  takes_once taken (p ∷ ps) t = (
    takes_apart (taken ++ p ∷ []) ps t.3 p.state p.variable (among_push p.state p.variable taken p ∙ or_right (among p.state p.variable taken) (is p p.state p.variable) (is_self p)),
    takes_once (taken ++ p ∷ []) ps t.3,
  )

  takes_inside : (taken ps : List Pair) → Takes F d B pins taken ps → Inside F.states (length B) ps
  unfolding Takes
  takes_inside taken [] t = tt
  takes_inside taken (p ∷ ps) t = (t.0, t.1, takes_inside (taken ++ p ∷ []) ps t.3)

  -- where every pair is taken, none waits
  all_taken : (taken : List Pair) → Each F B (λ s i. among s i taken ≡ true) → settled F d B pins taken ≡ true
  unfolding settled waits
  all_taken taken h = every_from F.states _ (λ s l. every_from (length B) _ (λ i k. none (turned F d B pins taken s i) (among s i taken) (h s i l k)))
    where
      none : (a b : Bool) → b ≡ true → not (a && not b) ≡ true
      none true true e = refl
      none true false e = e
      none false b e = refl

  all_settled : (taken : List Pair) (k : ℕ) (ps : List Pair) → F.states * length B ≤ k → Run taken k ps → settled F d B pins (taken ++ ps) ≡ true
  all_settled taken k ps l r = go (cases_Bool (settled F d B pins (taken ++ ps)))
    where
      go : (settled F d B pins (taken ++ ps) ≡ true) ⊎ (settled F d B pins (taken ++ ps) ≡ false) → settled F d B pins (taken ++ ps) ≡ true
      go (inl e) = e
      go (inr e) =
          let a = r.2 e in
          all_taken (taken ++ ps) (λ s i m n. among_append s i taken ps ∙ or_right (among s i taken) (among s i ps) (full F.states (length B) ps (takes_once taken ps r.0) (takes_inside taken ps r.0) (omega arith) s i m n))

pub goes_on : (F : Lts) (d : Fixpoint) (B : List Equation) (pins taken : List Pair) (looks : ℕ) → GoesOn F d B pins taken looks
unfolding Allowed
goes_on F d B pins taken looks = record { chooses = complete_from F d B pins taken; settles = all_settled F d B pins taken }

pub some_choice : (F : Lts) (d : Fixpoint) (p : Plain) (c : PlainCall) → (ps : List Pair) × Allowed F d p c ps
unfolding Allowed
some_choice F d p (load rs) = ([], refl)
some_choice F d no_book (pin s i) = ([], refl)
some_choice F d no_book (run k) = ([], refl)
some_choice F d no_book (query s i) = ([], refl)
some_choice F d no_book (sheet room) = ([], refl)
some_choice F d (book B pins taken looks) (pin s i) = ([], refl)
some_choice F d (book B pins taken looks) (run k) = complete F d B pins k taken
some_choice F d (book B pins taken looks) (query s i) = ([], refl)
some_choice F d (book B pins taken looks) (sheet room) = ([], refl)

pub progress : Progress
progress = record { allowed = some_choice; goes_on = goes_on }
