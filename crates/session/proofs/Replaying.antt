-- Lists of calls.
use Rattle.std.proofs.Common.{◌≡◌, ℕ, ◌<◌, ◌≤◌, min, Result, Bool, cond, leb, ◌⊎◌, List, [], ◌∷◌, ◌++◌, length, take, drop, sym, refl, ap, ◌∙◌, subst, inl, inr, append_assoc, append-nil, arith, take_all}
use mathlib.Core.List.{map-append}
use lib.Seq.{take-append-le}
use Rattle.std.proofs.lemmas.Bool.{le-leb, lt-leb, cases_lt}
use Rattle.records.specs.declared.Fixpoint.{Fixpoint}
use Rattle.semantics.specs.declared.Pair.{Pair}
use Rattle.semantics.specs.declared.Call.{Call}
use Rattle.semantics.specs.declared.Call.TheVariants.{Sheet}
use Rattle.semantics.specs.declared.Answer.{Answer}
use Rattle.semantics.specs.declared.Refusal.{Refusal}
use Rattle.semantics.specs.Lts.{Lts}
use Rattle.semantics.specs.Plain.{page, PlainCall, sheet, PlainAnswer, refused, written, Plain, no_book, book, answer_to, after, Allowed, Event, Leads, nothing, next}
use Rattle.semantics.specs.Calls.{call_of, reply_of, Makes}
use Rattle.semantics.proofs.Runs.{all_runs, leads_append}
use Rattle.lts.specs.Source as source
use Rattle.board.specs.State.{State}
use Rattle.refinement.specs.Represents.{Represents}
use Rattle.session.specs.Standing.{StandsFor, event, Answers, Replays, Begins}
use Rattle.session.specs.Pages.{page_room}
use Rattle.session.proofs.Lengths.{shown_long}

-- A longer buffer

-- a history that begins with another goes on from where that one leads
leads_split : (F : Lts) (d : Fixpoint) (x p q : Plain) (es more : List Event) → Leads F d x (es ++ more) q → Leads F d x es p → Leads F d p more q
leads_split F d x p q es more l nothing = l
leads_split F d x p q es more (next e a b l) (next {es = es'} e' a' b' h) = leads_split F d (after F d x e'.call e'.chosen) p q es' more l h

leb_min : (l m k : ℕ) → l ≤ k → leb l (min m k) ≡ leb l m
leb_min l m k h = go (cases_lt m l)
  where
    go : (m < l) ⊎ (l ≤ m) → leb l (min m k) ≡ leb l m
    go (inl a) = lt-leb l (min m k) (omega arith) ∙ sym (lt-leb l m a)
    go (inr a) = le-leb l (min m k) (omega arith) ∙ sym (le-leb l m a)

module _ (A : source.Answers) (F : Lts) (shows : source.Shows A F) (d : Fixpoint) (σ : State) where
  -- a sheet in a buffer of any length, and in one that is cut where no sheet reaches
  record SameSheet (p : Plain) (n room : ℕ) (ps : List Pair) : Type 0 where
    allows : Allowed F d p (sheet n) ps → Allowed F d p (sheet room) ps
    answers : answer_to F d p (sheet n) ps ≡ answer_to F d p (sheet room) ps
    leaves : after F d p (sheet n) ps ≡ after F d p (sheet room) ps

  same_sheet : (p : Plain) → Represents F d σ p → (room : ℕ) (ps : List Pair) → SameSheet p (min room 71780) room ps
  unfolding answer_to after Allowed
  same_sheet no_book h room ps = record { allows = λ e. e; answers = refl; leaves = refl }
  same_sheet (book B pins taken looks) h room ps = record {
    allows = λ e. e;
    answers =
        let bytes = page F d B pins taken looks in
        ap (λ (b : Bool). cond b (written bytes) (refused 16)) (leb_min (length bytes) room 71780 (shown_long A F shows d σ B pins taken looks h));
    leaves = refl;
  }

  pub roomier : (room n : ℕ) (a : PlainAnswer) → n ≡ min room 71780 → Answers F d σ (sheet n) a σ → Answers F d σ (sheet room) a σ
  roomier room n a e h = subst (λ (n : ℕ). Answers F d σ (sheet n) a σ → Answers F d σ (sheet room) a σ) (sym e) (λ h. record { continues = λ es p st. go es p st (h.continues es p st) }) h
    where
      m : ℕ
      m = min room 71780

      last : (p : Plain) (ps : List Pair) (q : Plain) → Represents F d σ p → Leads F d p (event (sheet m) ps a ∷ []) q → Leads F d p (event (sheet room) ps a ∷ []) q
      last p ps q r (next e b c nothing) =
          let s = same_sheet p r room ps in
          subst (λ (x : Plain). Leads F d p (event (sheet room) ps a ∷ []) x) (sym s.leaves) (next (event (sheet room) ps a) (s.allows b) (c ∙ s.answers) nothing)

      go : (es : List Event) (p : Plain) → StandsFor F d σ es p → (ps : List Pair) × (q : Plain) × StandsFor F d σ (es ++ event (sheet m) ps a ∷ []) q → (ps : List Pair) × (q : Plain) × StandsFor F d σ (es ++ event (sheet room) ps a ∷ []) q
      go es p st (ps, q, after_st) =
          let l = leads_split F d no_book p q es (event (sheet m) ps a ∷ []) after_st.leads st.leads in
          (ps, q, record { leads = leads_append F d no_book p q es (event (sheet room) ps a ∷ []) st.leads (last p ps q st.represents l); represents = after_st.represents })

  -- the sheet that a call asks for, in the page that it was given
  pub sheet_refused : (call : Call) (room n : ℕ) (a : PlainAnswer) → call ≡ Sheet room → n ≡ page_room call → Answers F d σ (sheet n) a σ → Answers F d σ (call_of call) a σ
  sheet_refused call room n a e f h = subst (λ (c : Call). Answers F d σ (call_of c) a σ) (sym e) (roomier room n a (f ∙ ap page_room e) h)

  pub sheet_made : (call : Call) (room len m n : ℕ) (new items out : List ℕ) → call ≡ Sheet room → len ≡ page_room call → m ≡ len → length new ≡ m → out ≡ take n (take len (new ++ drop (length new) items)) → Answers F d σ (sheet m) (written (take n new)) σ →
      Answers F d σ (call_of call) (written out) σ
  sheet_made call room len m n new items out e f g k b h =
      let front : take len (new ++ drop (length new) items) ≡ new = ap (λ (i : ℕ). take i (new ++ drop (length new) items)) (sym g ∙ sym k) ∙ take-append-le (length new) new (drop (length new) items) (omega arith) ∙ take_all (length new) new (omega arith) in
      sheet_refused call room m (written out) e (g ∙ f) (subst (λ (bytes : List ℕ). Answers F d σ (sheet m) (written bytes) σ) (sym (b ∙ ap (take n) front)) h)

-- Calls in turn

makes_more : (es : List Event) (cs : List Call) (rs : List (Result Answer Refusal)) (c : Call) (ps : List Pair) (r : Result Answer Refusal) → Makes es cs rs → Makes (es ++ event (call_of c) ps (reply_of r) ∷ []) (cs ++ c ∷ []) (rs ++ r ∷ [])
makes_more es cs rs c ps r m = record {
  called = map-append (λ (e : Event). e.call) es (event (call_of c) ps (reply_of r) ∷ []) ∙ ap (λ (xs : List PlainCall). xs ++ call_of c ∷ []) m.called ∙ sym (map-append call_of cs (c ∷ []));
  answered = map-append (λ (e : Event). e.answer) es (event (call_of c) ps (reply_of r) ∷ []) ∙ ap (λ (xs : List PlainAnswer). xs ++ reply_of r ∷ []) m.answered ∙ sym (map-append reply_of rs (r ∷ []));
}

module _ (F : Lts) (d : Fixpoint) where
  pub replays_none : (σ : State) (rs : List (Result Answer Refusal)) → rs ≡ [] → Replays F d σ [] rs σ
  replays_none σ rs e = subst (λ (rs : List (Result Answer Refusal)). Replays F d σ [] rs σ) (sym e) (record {
    continues = λ es p h.
        let st = subst (λ (xs : List Event). StandsFor F d σ xs p) (sym (append-nil es)) h in
        ([], p, record { called = refl; answered = refl }, st, all_runs F d (es ++ []) p st.leads);
  })

  pub replays_more : (σ τ υ : State) (cs cs' : List Call) (c : Call) (rs rs' : List (Result Answer Refusal)) (r : Result Answer Refusal) → cs' ≡ cs ++ c ∷ [] → rs' ≡ rs ++ r ∷ [] → Replays F d σ cs rs τ → Answers F d τ (call_of c) (reply_of r) υ → Replays F d σ cs' rs' υ
  replays_more σ τ υ cs cs' c rs rs' r f e before one =
      rw (f, e) (record {
        continues = λ es p h.
            let (more, q, m, st, _) = before.continues es p h in
            let (ps, t, st') = one.continues (es ++ more) q st in
            let x = event (call_of c) ps (reply_of r) in
            let so = subst (λ (xs : List Event). StandsFor F d υ xs t) (append_assoc es more (x ∷ [])) st' in
            (more ++ x ∷ [], t, makes_more more cs rs c ps r m, so, all_runs F d (es ++ (more ++ x ∷ [])) t so.leads);
      })

  -- the same calls, named otherwise
  pub replays_all : (σ τ : State) (cs cs' : List Call) (rs : List (Result Answer Refusal)) → cs ≡ cs' → Replays F d σ cs rs τ → Replays F d σ cs' rs τ
  replays_all σ τ cs cs' rs e r = subst (λ (cs : List Call). Replays F d σ cs rs τ) e r

  -- from a new session on
  begun : (σ τ : State) (cs : List Call) (rs : List (Result Answer Refusal)) → StandsFor F d σ [] no_book → Replays F d σ cs rs τ → Begins F d cs rs τ
  begun σ τ cs rs h r = let (es, q, m, st, law) = r.continues [] no_book h in record { history = es; plain = q; makes = m; stands = st; law = law }

-- what a call does over a source that is the same
pub same_source : {X : Type 0} (ready : X → Type 0) (mean : X → Lts) (x y : X) (d : Fixpoint) (σ : State) (c : PlainCall) (a : PlainAnswer) (τ : State) → y ≡ x → (ready y → Answers (mean y) d σ c a τ) → ready x → Answers (mean x) d σ c a τ
same_source {X} ready mean x y d σ c a τ e h r = subst (λ (z : X). Answers (mean z) d σ c a τ) e (h (subst ready (sym e) r))

-- and a list of calls from a new session on
pub begun_over : {X : Type 0} (ready : X → Type 0) (mean : X → Lts) (x y : X) (d : Fixpoint) (σ τ : State) (cs : List Call) (rs : List (Result Answer Refusal)) → y ≡ x → StandsFor (mean y) d σ [] no_book → (ready y → Replays (mean y) d σ cs rs τ) → ready x → Begins (mean x) d cs rs τ
begun_over {X} ready mean x y d σ τ cs rs e h k r = subst (λ (z : X). Begins (mean z) d cs rs τ) e (begun (mean y) d σ τ cs rs h (k (subst ready (sym e) r)))
