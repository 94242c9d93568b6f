-- Every call, on a board that represents a plain session.
use Rattle.std.proofs.Common.{◌≡◌, ℕ, ◌+◌, ◌-◌, ◌<◌, Bool, true, false, cond, not, ◌&&◌, ltb, leb, List, [], ◌∷◌, ◌++◌, length, get_or, sym, refl, ap, ◌∙◌, subst, ap₂, subst₂, arith}
use Rattle.std.proofs.lemmas.Bool.{and_parts, ltb-true}
use Rattle.records.specs.declared.Fixpoint.{Fixpoint}
use Rattle.records.specs.declared.EquationRecord.{EquationRecord}
use Rattle.semantics.specs.declared.Equation.{Equation}
use Rattle.semantics.specs.declared.Pair.{Pair}
use Rattle.semantics.specs.declared.Mark.{Mark}
use Rattle.semantics.specs.Lts.{Lts}
use Rattle.semantics.specs.Equations.{start}
use Rattle.semantics.specs.Plain.{pair, settled, standing, costs, book_of, proper, fits, mark_of, PlainCall, load, pin, run, query, sheet, PlainAnswer, refused, loaded, pinned, ran, told, written, Plain, no_book, book, has_pair, answer_to, after, Allowed}
use Rattle.lts.specs.Source.{Answers, Shows}
use Rattle.board.specs.State.{State, place, pair?, waiting}
use Rattle.board.specs.Turning.{pin_at}
use Rattle.refinement.specs.Sheet.{on_at, sheet_of}
use Rattle.refinement.specs.Taking.{begun}
use Rattle.refinement.specs.Taking as taking
use Rattle.refinement.specs.Calls.{stepped, told_by}
use Rattle.refinement.specs.Represents.{Shown, Represents}
use Rattle.refinement.specs.Refines.{Refined, Refines}
use Rattle.refinement.proofs.Loading.{begun_shown}
use Rattle.refinement.proofs.Accepting.{proper_same, fits_same, accepted}
use Rattle.refinement.proofs.Pinning.{pin_shown}
use Rattle.refinement.proofs.Running.{settled_is, Ran, runs}
use Rattle.refinement.proofs.Sheets.{sheet_same}

module _ (A : Answers) (F : Lts) (shows : Shows A F) (d : Fixpoint) where
  load_refines : (σ : State) (p : Plain) (rs : List EquationRecord) → Represents F d σ p → Refined A F d σ p (load rs)
  unfolding Allowed answer_to after stepped told_by
  load_refines σ p rs h =
      let e = proper_same A F shows rs in
      let f = fits_same A F shows rs in
      record {
        chosen = [];
        allowed = refl;
        answered = ap₂ (λ (a b : Bool). cond a (cond b loaded (refused 12)) (refused 13)) e f;
        represents =
            subst₂ (λ (a b : Bool). Represents F d (cond (a && b) (begun A d (book_of rs)) σ) (cond (proper F rs && fits F rs) (book (book_of rs) [] [] 0) p)) (sym e) (sym f)
            (both (proper F rs && fits F rs) (λ g.
            let t = and_parts (proper F rs) (fits F rs) g in
            let a = accepted F rs t.0 t.1 in
            begun_shown A F shows d (book_of rs) a.formed a.small a.few));
      }
    where
      both : (b : Bool) → (b ≡ true → Represents F d (begun A d (book_of rs)) (book (book_of rs) [] [] 0)) → Represents F d (cond b (begun A d (book_of rs)) σ) (cond b (book (book_of rs) [] [] 0) p)
      both true f = f refl
      both false f = h

  -- with no book
  none_refines : (σ : State) (c : PlainCall) → Represents F d σ no_book → Refined A F d σ no_book c
  unfolding Allowed answer_to after stepped told_by
  none_refines σ (load rs) h = load_refines σ no_book rs h
  none_refines σ (pin s i) h =
      record {
        chosen = [];
        allowed = refl;
        answered = ap (λ (b : Bool). cond b (cond (pair? σ s i) (pinned (not (get_or σ.turned (place σ s i) false))) (refused 11)) (refused 10)) h;
        represents = subst (λ (b : Bool). (cond (b && pair? σ s i) (pin_at (place σ s i) σ) σ).loaded ≡ false) (sym h) h;
      }
  none_refines σ (run k) h =
      let τ = stepped A d σ (run k) in
      record {
        chosen = [];
        allowed = refl;
        answered = ap (λ (b : Bool). cond b (ran (not (waiting τ)) (τ.taken - σ.taken) (τ.looks - σ.looks)) (refused 10)) h;
        represents = subst (λ (b : Bool). (cond b (taking.ran A d k σ) σ).loaded ≡ false) (sym h) h;
      }
  none_refines σ (query s i) h =
      record {
        chosen = [];
        allowed = refl;
        answered = ap (λ (b : Bool). cond b (cond (pair? σ s i) (told (mark_of d (on_at d σ (place σ s i)) (not (waiting σ))) (get_or σ.pinned (place σ s i) false)) (refused 11)) (refused 10)) h;
        represents = h;
      }
  none_refines σ (sheet room) h =
      record {
        chosen = [];
        allowed = refl;
        answered = ap (λ (b : Bool). cond b (cond (leb (length (sheet_of d σ)) room) (written (sheet_of d σ)) (refused 16)) (refused 10)) h;
        represents = h;
      }

  -- with a book
  module _ (σ : State) (pins taken : List Pair) (seen : ℕ) (h : Shown F d σ σ.book pins taken seen) where
    abbrev B : List Equation
    B = σ.book

    abbrev p : Plain
    p = book σ.book pins taken seen

    pair_same : (s i : ℕ) → pair? σ s i ≡ has_pair F B s i
    pair_same s i = ap (λ (m : ℕ). ltb s m && ltb i (length B)) h.states

    inside : (s i : ℕ) → has_pair F B s i ≡ true → (s < F.states) × (i < length B)
    inside s i e = let a = and_parts (ltb s F.states) (ltb i (length B)) e in (ltb-true s F.states a.0, ltb-true i (length B) a.1)

    -- what is asked of a pair, where it is one
    asked : (s i : ℕ) (x y : PlainAnswer) → (has_pair F B s i ≡ true → x ≡ y) → cond σ.loaded (cond (pair? σ s i) x (refused 11)) (refused 10) ≡ cond (has_pair F B s i) y (refused 11)
    asked s i x y f = ap₂ (λ (a b : Bool). cond a (cond b x (refused 11)) (refused 10)) h.loaded (pair_same s i) ∙ go (has_pair F B s i) f
      where
        go : (b : Bool) → (b ≡ true → x ≡ y) → cond b x (refused 11) ≡ cond b y (refused 11)
        go true f = f refl
        go false f = refl

    pin_refines : (s i : ℕ) → Refined A F d σ p (pin s i)
    unfolding Allowed answer_to after stepped told_by
    pin_refines s i =
        record {
          chosen = [];
          allowed = refl;
          answered = asked s i _ _ (λ e. let l = inside s i e in ap (λ (b : Bool). pinned (not b)) (h.turned s i l.0 l.1));
          represents =
              subst₂ (λ (a b : Bool). Represents F d (cond (a && b) (pin_at (place σ s i) σ) σ) (cond (has_pair F B s i) (book B (pair s i ∷ pins) taken seen) p)) (sym h.loaded) (sym (pair_same s i))
              (both (has_pair F B s i) (λ e. let l = inside s i e in pin_shown F d σ B pins taken seen s i l.0 l.1 h));
        }
      where
        both : (b : Bool) → (b ≡ true → Represents F d (pin_at (place σ s i) σ) (book B (pair s i ∷ pins) taken seen)) →
            Represents F d (cond b (pin_at (place σ s i) σ) σ) (cond b (book B (pair s i ∷ pins) taken seen) p)
        both true f = f refl
        both false f = h

    query_refines : (s i : ℕ) → Refined A F d σ p (query s i)
    unfolding Allowed answer_to after stepped told_by standing
    query_refines s i =
        record {
          chosen = [];
          allowed = refl;
          answered = asked s i _ _ (λ e.
              let l = inside s i e in
              let x : on_at d σ (place σ s i) ≡ standing F d B pins taken s i = ap (λ (b : Bool). cond b (not (start d)) (start d)) (h.turned s i l.0 l.1) in
              ap₂ (λ (m : Mark) (b : Bool). told m b) (ap₂ (mark_of d) x (sym (settled_is A F shows d B pins σ taken seen h))) (h.pinned s i l.0 l.1));
          represents = h;
        }

    run_refines : (k : ℕ) → Refined A F d σ p (run k)
    unfolding Allowed answer_to after stepped told_by
    run_refines k =
        record {
          chosen = r.chosen;
          allowed = (r.takes, r.few, r.full);
          answered =
              subst (λ (b : Bool). cond b (ran (not (waiting (cond b τ σ))) ((cond b τ σ).taken - σ.taken) ((cond b τ σ).looks - σ.looks)) (refused 10) ≡ ran (settled F d B pins (taken ++ r.chosen)) (length r.chosen) (costs F B r.chosen)) (sym h.loaded)
              (same_ran (sym (settled_is A F shows d B pins τ (taken ++ r.chosen) (seen + costs F B r.chosen) r.shown)) (let a = r.number in omega arith) (let a = r.shown.looks in let b = h.looks in omega arith));
          represents = subst (λ (b : Bool). Represents F d (cond b τ σ) (book B pins (taken ++ r.chosen) (seen + costs F B r.chosen))) (sym h.loaded) r.shown;
        }
      where
        τ : State
        τ = taking.ran A d k σ

        r : Ran A F shows d B pins k σ τ taken seen
        r = runs A F shows d B pins k σ taken seen h

        same_ran : {a b : Bool} {m n k l : ℕ} → a ≡ b → m ≡ n → k ≡ l → ran a m k ≡ ran b n l
        same_ran e f g = cc

    sheet_refines : (room : ℕ) → Refined A F d σ p (sheet room)
    unfolding Allowed answer_to after stepped told_by
    sheet_refines room =
        record {
          chosen = [];
          allowed = refl;
          answered =
              ap (λ (b : Bool). cond b (cond (leb (length (sheet_of d σ)) room) (written (sheet_of d σ)) (refused 16)) (refused 10)) h.loaded ∙
              ap (λ (bs : List ℕ). cond (leb (length bs) room) (written bs) (refused 16)) (sheet_same A F shows d σ pins taken seen h);
          represents = h;
        }

    book_refines : (c : PlainCall) → Refined A F d σ p c
    book_refines (load rs) = load_refines σ p rs h
    book_refines (pin s i) = pin_refines s i
    book_refines (run k) = run_refines k
    book_refines (query s i) = query_refines s i
    book_refines (sheet room) = sheet_refines room

  call_refines : (σ : State) (p : Plain) → Represents F d σ p → (c : PlainCall) → Refined A F d σ p c
  call_refines σ no_book h c = none_refines σ c h
  call_refines σ (book B pins taken seen) h c =
      subst (λ (B : List Equation). Shown F d σ B pins taken seen → Refined A F d σ (book B pins taken seen) c) h.book (λ h. book_refines σ pins taken seen h c) h

pub refines : Refines
refines = record { blank = λ F d. refl; call = λ A F shows d σ p h c. call_refines A F shows d σ p h c }
