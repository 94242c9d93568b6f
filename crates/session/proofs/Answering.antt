-- Each call does to the board what the engine's functions on lists do, so the session goes on standing for a plain session.
use Rattle.std.proofs.Common.{◌≡◌, ℕ, zero, suc, ◌+◌, ◌-◌, ◌*◌, ◌<◌, ◌≤◌, Bool, true, false, cond, not, ◌&&◌, leb, List, [], ◌∷◌, length, get_or, take, drop, Ok, Err, Result, sym, refl, ap, ◌∙◌, subst, ap₂, mul-suc, arith}
use mathlib.Core.Bool.{beq}
use Rattle.std.proofs.lemmas.Bool.{and_parts, and_from, cond-true, cond-false, le-leb, lt-leb, leb-true}
use Rattle.records.specs.declared.Fixpoint.{Fixpoint}
use Rattle.records.specs.declared.EquationRecord.{EquationRecord}
use Rattle.semantics.specs.declared.Mark.{Mark}
use Rattle.semantics.specs.declared.Refusal.{Refusal}
use Rattle.semantics.specs.declared.Refusal.TheVariants.{NoBook, NoPair, TooManyPairs}
use Rattle.semantics.specs.Lts.{Lts}
use Rattle.semantics.specs.Equations.{start}
use Rattle.semantics.specs.Plain.{book_of, proper, fits, mark_of, PlainCall, load, pin, run, query, sheet, PlainAnswer, refused, loaded, pinned, ran, told, written, no_book, after, Leads, nothing, next}
use Rattle.semantics.specs.Calls.{number_of}
use Rattle.semantics.proofs.Runs.{leads_append}
use Rattle.lts.specs.Source as source
use Rattle.board.specs.State.{State, blank, place, pair?, place_of, waiting}
use Rattle.board.specs.Turning.{pin_at}
use Rattle.board.specs.Renewing.{room?}
use Rattle.refinement.specs.Sheet.{on_at, sheet_of}
use Rattle.refinement.specs.Taking.{begun}
use Rattle.refinement.specs.Taking as taking
use Rattle.refinement.specs.Calls.{sized, stepped, told_by}
use Rattle.refinement.specs.Represents.{Represents}
use Rattle.refinement.proofs.Refining.{refines}
use Rattle.sheet.specs.Ink.{Wrote}
use Rattle.sheet.proofs.Inks.{inked_take, inked_drop}
use Rattle.sheet.proofs.Writing.{turned_on}
use Rattle.session.specs.Standing.{StandsFor, event, Answers}
use Rattle.session.specs.Replies.{load_reply, pin_reply, query_reply}

-- a new session
pub begins : (F : Lts) (d : Fixpoint) (σ : State) → σ ≡ blank → StandsFor F d σ [] no_book
begins F d σ e = record { leads = nothing; represents = subst (λ (σ : State). Represents F d σ no_book) (sym e) (refines.blank F d) }

-- where a pair is, and why it is not
there : (l h : Bool) (q at : ℕ) → cond l (cond h (Ok q) (Err NoPair)) (Err NoBook) ≡ Ok at → (l ≡ true) × (h ≡ true) × (q ≡ at)
there true true q at e = (refl, refl, cc)
there true false q at e = let z : ◌≡◌ {A = ℕ} 0 1 = cc in absurd (omega arith)
there false h q at e = let z : ◌≡◌ {A = ℕ} 0 1 = cc in absurd (omega arith)

not_there : (l h : Bool) (q : ℕ) (e : Refusal) (x : PlainAnswer) → cond l (cond h (Ok q) (Err NoPair)) (Err NoBook) ≡ Err e → ((l && h) ≡ false) × (refused (number_of e) ≡ cond l (cond h x (refused 11)) (refused 10))
not_there true true q e x f = let z : ◌≡◌ {A = ℕ} 0 1 = cc in absurd (omega arith)
not_there true false q e x f = let g : e ≡ NoPair = cc in (refl, ap (λ (r : Refusal). refused (number_of r)) g)
not_there false h q e x f = let g : e ≡ NoBook = cc in (refl, ap (λ (r : Refusal). refused (number_of r)) g)

-- a book that load takes has room
roomy : (A : source.Answers) (rs : List EquationRecord) → proper (sized A) rs ≡ true → fits (sized A) rs ≡ true → room? A.states (length rs) ≡ true
unfolding proper fits
roomy A rs p f =
    let n = length rs in
    let N = A.states in
    let a = and_parts (leb 1 n && leb n 1024) _ p in
    let b = and_parts (leb 1 n) (leb n 1024) a.0 in
    let some = leb-true 1 n b.0 in
    let small = leb-true (N * n) 8192 f in
    let few : N ≤ 8192 = below N n 8192 some small in
    and_from (leb N 8192 && leb n 1024) (leb (N * n) 8192) (and_from (leb N 8192) (leb n 1024) (le-leb N 8192 few) b.1) f
  where
    below : (N n m : ℕ) → 1 ≤ n → N * n ≤ m → N ≤ m
    below N (suc n) m l h = let e : N * suc n ≡ N * n + N = mul-suc N n in omega arith
    below N zero m l h = absurd (omega arith)

module _ (A : source.Answers) (F : Lts) (shows : source.Shows A F) (d : Fixpoint) (σ : State) where
  -- what the engine does and answers is what some plain session does and answers
  answers : (τ : State) (c : PlainCall) (a : PlainAnswer) → τ ≡ stepped A d σ c → a ≡ told_by A d σ c (stepped A d σ c) → Answers F d σ c a τ
  answers τ c a e f = record {
    continues = λ es p h.
        let r = refines.call A F shows d σ p h.represents c in
        let q = after F d p c r.chosen in
        let one : Leads F d p (event c r.chosen a ∷ []) q = next (event c r.chosen a) r.allowed (f ∙ r.answered) nothing in (
          r.chosen,
          q,
          record {
            leads = leads_append F d no_book p q es (event c r.chosen a ∷ []) h.leads one;
            represents = subst (λ (τ : State). Represents F d τ q) (sym e) r.represents;
          },
        );
  }

  -- load
  pub improper : (rs : List EquationRecord) → proper (sized A) rs ≡ false → Answers F d σ (load rs) (refused 13) σ
  unfolding stepped told_by
  improper rs e = answers σ (load rs) (refused 13) (sym (ap (λ (b : Bool). cond (b && fits (sized A) rs) (begun A d (book_of rs)) σ) e)) (sym (cond-false (proper (sized A) rs) _ _ e))

  pub too_many : (rs : List EquationRecord) → proper (sized A) rs ≡ true → fits (sized A) rs ≡ false → Answers F d σ (load rs) (refused 12) σ
  unfolding stepped told_by
  too_many rs e f =
      answers σ (load rs) (refused 12) (sym (ap₂ (λ (a b : Bool). cond (a && b) (begun A d (book_of rs)) σ) e f))
      (sym (ap₂ (λ (a b : Bool). cond a (cond b loaded (refused 12)) (refused 13)) e f))

  pub loads : (rs : List EquationRecord) (τ : State) → proper (sized A) rs ≡ true → fits (sized A) rs ≡ true → τ ≡ cond (room? A.states (length rs)) (begun A d (book_of rs)) σ → Answers F d σ (load rs) loaded τ
  unfolding stepped told_by
  loads rs τ e f g =
      answers τ (load rs) loaded (g ∙ cond-true (room? A.states (length rs)) _ _ (roomy A rs e f) ∙ sym (ap₂ (λ (a b : Bool). cond (a && b) (begun A d (book_of rs)) σ) e f))
      (sym (ap₂ (λ (a b : Bool). cond a (cond b loaded (refused 12)) (refused 13)) e f))

  -- pin
  pub unpinned : (s i : ℕ) (r : Result Bool Refusal) (e : Refusal) → r ≡ Err e → place_of σ s i ≡ Err e → Answers F d σ (pin s i) (pin_reply r) σ
  unfolding stepped told_by
  unpinned s i r e g f =
      let n = not_there σ.loaded (pair? σ s i) (place σ s i) e (pinned (not (get_or σ.turned (place σ s i) false))) f in
      answers σ (pin s i) (pin_reply r) (sym (cond-false (σ.loaded && pair? σ s i) _ _ n.0)) (ap pin_reply g ∙ n.1)

  pub pins : (s i at : ℕ) (t : Bool) (τ : State) → place_of σ s i ≡ Ok at → t ≡ get_or σ.turned at false → τ ≡ pin_at at σ → Answers F d σ (pin s i) (pinned (not t)) τ
  unfolding stepped told_by
  pins s i at t τ f e g =
      let n = there σ.loaded (pair? σ s i) (place σ s i) at f in
      answers τ (pin s i) (pinned (not t))
      (g ∙ ap (λ (q : ℕ). pin_at q σ) (sym n.2) ∙ sym (ap₂ (λ (a b : Bool). cond (a && b) (pin_at (place σ s i) σ) σ) n.0 n.1))
      (ap (λ (b : Bool). pinned (not b)) (e ∙ ap (λ (q : ℕ). get_or σ.turned q false) (sym n.2)) ∙
      sym (ap₂ (λ (a b : Bool). cond a (cond b (pinned (not (get_or σ.turned (place σ s i) false))) (refused 11)) (refused 10)) n.0 n.1))

  -- a call before a book is loaded
  pub not_run : (k : ℕ) → σ.loaded ≡ false → Answers F d σ (run k) (refused 10) σ
  unfolding stepped told_by
  not_run k e =
      let τ = stepped A d σ (run k) in
      answers σ (run k) (refused 10) (sym (cond-false σ.loaded _ _ e)) (sym (cond-false σ.loaded _ _ e))

  -- run
  pub runs : (k : ℕ) (τ : State) (t l : ℕ) (w : Bool) → σ.loaded ≡ true → τ ≡ taking.ran A d k σ → w ≡ waiting τ → t ≡ τ.taken - σ.taken → l ≡ τ.looks - σ.looks → Answers F d σ (run k) (ran (not w) t l) τ
  unfolding stepped told_by
  runs k τ t l w e g a b c =
      let to : τ ≡ stepped A d σ (run k) = g ∙ sym (cond-true σ.loaded _ _ e) in
      answers τ (run k) (ran (not w) t l) to (same_ran (ap not a) b c ∙ ap (λ (υ : State). ran (not (waiting υ)) (υ.taken - σ.taken) (υ.looks - σ.looks)) to ∙ sym (cond-true σ.loaded _ _ e))
    where
      same_ran : {a b : Bool} {m n k l : ℕ} → a ≡ b → m ≡ n → k ≡ l → ran a m k ≡ ran b n l
      same_ran e f g = cc

  -- query
  pub unasked : (s i : ℕ) (r : Result (Mark × Bool) Refusal) (e : Refusal) → r ≡ Err e → place_of σ s i ≡ Err e → Answers F d σ (query s i) (query_reply r) σ
  unfolding stepped told_by
  unasked s i r e g f = answers σ (query s i) (query_reply r) refl (ap query_reply g ∙ (not_there σ.loaded (pair? σ s i) (place σ s i) e _ f).1)

  pub asks : (s i at : ℕ) (t b w p : Bool) (m : Mark) → place_of σ s i ≡ Ok at → t ≡ get_or σ.turned at false → b ≡ start d → w ≡ waiting σ → m ≡ mark_of d (not (beq t b)) (not w) → p ≡ get_or σ.pinned at false →
      Answers F d σ (query s i) (told m p) σ
  unfolding stepped told_by
  asks s i at t b w p m f x y z u v =
      let n = there σ.loaded (pair? σ s i) (place σ s i) at f in
      let on : not (beq t b) ≡ on_at d σ (place σ s i) = turned_on t b ∙ ap₂ (λ (t b : Bool). cond t (not b) b) (x ∙ ap (λ (q : ℕ). get_or σ.turned q false) (sym n.2)) y in
      answers σ (query s i) (told m p) refl
      (ap₂ told (u ∙ ap₂ (λ (o w : Bool). mark_of d o (not w)) on z) (v ∙ ap (λ (q : ℕ). get_or σ.pinned q false) (sym n.2)) ∙
      sym (ap₂ (λ (a b : Bool). cond a (cond b (told (mark_of d (on_at d σ (place σ s i)) (not (waiting σ))) (get_or σ.pinned (place σ s i) false)) (refused 11)) (refused 10)) n.0 n.1))

  -- sheet
  pub unshown : (room : ℕ) → σ.loaded ≡ false → Answers F d σ (sheet room) (refused 10) σ
  unfolding stepped told_by
  unshown room e = answers σ (sheet room) (refused 10) refl (sym (cond-false σ.loaded _ _ e))

  abbrev page : List ℕ
  page = sheet_of d σ

  pub too_short : (room n : ℕ) (before after : List ℕ) → σ.loaded ≡ true → Wrote before 0 page after n → room < n → Answers F d σ (sheet room) (refused 16) σ
  unfolding stepped told_by
  too_short room n before after e w l =
      let a = w.next in
      answers σ (sheet room) (refused 16) refl (sym (cond-true σ.loaded _ _ e ∙ cond-false (leb (length page) room) _ _ (lt-leb (length page) room (omega arith))))

  pub shows_sheet : (n m : ℕ) (none after out out' : List ℕ) → σ.loaded ≡ true → Wrote none 0 page after m → m ≤ length out → Wrote out 0 page out' n → Answers F d σ (sheet (length out)) (written (take n out')) σ
  unfolding stepped told_by
  shows_sheet n m none after out out' e v l w =
      let a = v.next in
      let k : length page ≤ length out = omega arith in
      let front : take n out' ≡ page = ap₂ (λ (i : ℕ) (x : List ℕ). take i x) w.next w.after ∙ inked_take out 0 page (omega arith) in
      answers σ (sheet (length out)) (written (take n out')) refl
      (ap written front ∙ sym (cond-true σ.loaded _ _ e ∙ cond-true (leb (length page) (length out)) _ _ (le-leb (length page) (length out) k)))

-- behind what was written, the buffer is as it was
pub rest_kept : (n : ℕ) (page out out' : List ℕ) → Wrote out 0 page out' n → drop n out' ≡ drop n out
rest_kept n page out out' w = ap₂ (λ (i : ℕ) (x : List ℕ). drop i x) w.next w.after ∙ inked_drop out 0 page ∙ ap (λ (i : ℕ). drop i out) (sym w.next)
