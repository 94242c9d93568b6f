-- Histories: joined end to end, the looks that they report, and the whole law over runs.
use Rattle.std.proofs.Common.{◌≡◌, ℕ, ◌+◌, ◌≤◌, Bool, true, false, cond, not, ◌&&◌, ◌||◌, ltb, leb, ◌⊎◌, ◌↔◌, List, [], ◌∷◌, ◌++◌, length, sym, refl, ap, ◌∙◌, subst, inl, inr, arith}
use mathlib.Core.Bool.{beq}
use Rattle.std.proofs.lemmas.Bool.{both_ways, and_from, lt-ltb, le-leb, cond-true}
use Rattle.records.specs.declared.Fixpoint.{Fixpoint}
use Rattle.records.specs.declared.Fixpoint.TheVariants.{Greatest, Least}
use Rattle.semantics.specs.declared.Equation.{Equation}
use Rattle.semantics.specs.declared.Pair.{Pair}
use Rattle.semantics.specs.Lts.{Lts}
use Rattle.semantics.specs.Equations.{start, true_at}
use Rattle.semantics.specs.Plain.{pair, among, changed, decided, turned, settled, standing, costs, book_of, proper, fits, PlainCall, load, pin, run, query, sheet, PlainAnswer, refused, loaded, pinned, told, written, Plain, no_book, book, has_pair, mark_of, page, answer_to, after, Event, Leads, nothing, next}
use Rattle.semantics.specs.Law.{Each, reported_then, reported_from, reported, Unchanged, Gives, BookLaw, AllRuns}
use Rattle.semantics.proofs.Standing.{always_stands}
use Rattle.semantics.proofs.Agreeing.{agree}
use Rattle.semantics.proofs.Choosing.{goes_on, some_choice}

-- a history that goes on where another ends
pub leads_append : (F : Lts) (d : Fixpoint) (p q r : Plain) (es more : List Event) → Leads F d p es q → Leads F d q more r → Leads F d p (es ++ more) r
leads_append F d p q r es more nothing l = l
leads_append F d p q r es more (next {es = es'} e a b h) l = next e a b (leads_append F d (after F d p e.call e.chosen) q r es' more h l)

-- The looks reported

-- n looks have been reported since the book was loaded
abbrev Tells : ℕ → Plain → Type 0
Tells n no_book = Unit {0}
Tells n (book B pins taken looks) = n ≡ looks

tells_load : (n : ℕ) (p : Plain) (B : List Equation) (proper? fits? : Bool) → Tells n p →
    Tells (reported_then n (cond proper? (cond fits? loaded (refused 12)) (refused 13))) (cond (proper? && fits?) (book B [] [] 0) p)
tells_load n p B true true h = refl
tells_load n p B true false h = h
tells_load n p B false fits? h = h

tells_either : (n looks : ℕ) (B : List Equation) (pins pins' taken : List Pair) (a b : PlainAnswer) (t : Bool) → reported_then n a ≡ looks → reported_then n b ≡ looks →
    Tells (reported_then n (cond t a b)) (cond t (book B pins taken looks) (book B pins' taken looks))
tells_either n looks B pins pins' taken a b true h k = h
tells_either n looks B pins pins' taken a b false h k = k

tells_same : (n looks : ℕ) (B : List Equation) (pins taken : List Pair) (a b : PlainAnswer) (t : Bool) → reported_then n a ≡ looks → reported_then n b ≡ looks →
    Tells (reported_then n (cond t a b)) (book B pins taken looks)
tells_same n looks B pins taken a b true h k = h
tells_same n looks B pins taken a b false h k = k

tells_call : (F : Lts) (d : Fixpoint) (n : ℕ) (p : Plain) (c : PlainCall) (ps : List Pair) → Tells n p → Tells (reported_then n (answer_to F d p c ps)) (after F d p c ps)
unfolding answer_to after
tells_call F d n p (load rs) ps h = tells_load n p (book_of rs) (proper F rs) (fits F rs) h
tells_call F d n no_book (pin s i) ps h = tt
tells_call F d n no_book (run k) ps h = tt
tells_call F d n no_book (query s i) ps h = tt
tells_call F d n no_book (sheet room) ps h = tt
tells_call F d n (book B pins taken looks) (pin s i) ps h =
    tells_either n looks B (pair s i ∷ pins) pins taken (pinned (not (turned F d B pins taken s i))) (refused 11) (has_pair F B s i) h h
tells_call F d n (book B pins taken looks) (run k) ps h = ap (λ (m : ℕ). m + costs F B ps) h
tells_call F d n (book B pins taken looks) (query s i) ps h =
    tells_same n looks B pins taken (told (mark_of d (standing F d B pins taken s i) (settled F d B pins taken)) (among s i pins)) (refused 11) (has_pair F B s i) h h
tells_call F d n (book B pins taken looks) (sheet room) ps h =
    tells_same n looks B pins taken (written (page F d B pins taken looks)) (refused 16) (leb (length (page F d B pins taken looks)) room) h h

tells : (F : Lts) (d : Fixpoint) (n : ℕ) (p q : Plain) (es : List Event) → Tells n p → Leads F d p es q → Tells (reported_from n es) q
unfolding reported_from
tells F d n p q es h nothing = h
tells F d n p q es h (next {es = es'} e a b more) =
    let p' = after F d p e.call e.chosen in
    tells F d (reported_then n e.answer) p' q es' (subst (λ (x : PlainAnswer). Tells (reported_then n x) p') (sym b) (tells_call F d n p e.call e.chosen h)) more

pub reports : (F : Lts) (d : Fixpoint) (es : List Event) (B : List Equation) (pins taken : List Pair) (looks : ℕ) → Leads F d no_book es (book B pins taken looks) → reported es ≡ looks
reports F d es B pins taken looks l = tells F d 0 no_book (book B pins taken looks) es tt l

-- What changes nothing

accepted : (n : ℕ) → loaded ≡ refused n → ⊥
accepted n e = let z : ◌≡◌ {A = ℕ} 0 1 = cc in omega arith

refused_load : (p q : Plain) (proper? fits? : Bool) (n : ℕ) → cond proper? (cond fits? loaded (refused 12)) (refused 13) ≡ refused n → cond (proper? && fits?) q p ≡ p
refused_load p q true true n e = absurd (accepted n e)
refused_load p q true false n e = refl
refused_load p q false fits? n e = refl

refused_pin : (p q : Plain) (there? now? : Bool) (n : ℕ) → cond there? (pinned now?) (refused 11) ≡ refused n → cond there? q p ≡ p
refused_pin p q true now? n e = let z : ◌≡◌ {A = ℕ} 0 1 = cc in absurd (omega arith)
refused_pin p q false now? n e = refl

refused_call : (F : Lts) (d : Fixpoint) (p : Plain) (c : PlainCall) (ps : List Pair) (n : ℕ) → answer_to F d p c ps ≡ refused n → after F d p c ps ≡ p
unfolding answer_to after
refused_call F d p (load rs) ps n e = refused_load p (book (book_of rs) [] [] 0) (proper F rs) (fits F rs) n e
refused_call F d no_book (pin s i) ps n e = refl
refused_call F d no_book (run k) ps n e = refl
refused_call F d no_book (query s i) ps n e = refl
refused_call F d no_book (sheet room) ps n e = refl
refused_call F d (book B pins taken looks) (pin s i) ps n e =
    refused_pin (book B pins taken looks) (book B (pair s i ∷ pins) taken looks) (has_pair F B s i) (not (turned F d B pins taken s i)) n e
refused_call F d (book B pins taken looks) (run k) ps n e = let z : ◌≡◌ {A = ℕ} 0 1 = cc in absurd (omega arith)
refused_call F d (book B pins taken looks) (query s i) ps n e = refl
refused_call F d (book B pins taken looks) (sheet room) ps n e = refl

queried_call : (F : Lts) (d : Fixpoint) (p : Plain) (s i : ℕ) (ps : List Pair) → after F d p (query s i) ps ≡ p
unfolding after
queried_call F d no_book s i ps = refl
queried_call F d (book B pins taken looks) s i ps = refl

shown_call : (F : Lts) (d : Fixpoint) (p : Plain) (room : ℕ) (ps : List Pair) → after F d p (sheet room) ps ≡ p
unfolding after
shown_call F d no_book room ps = refl
shown_call F d (book B pins taken looks) room ps = refl

pub unchanged : (F : Lts) (d : Fixpoint) (p : Plain) → Unchanged F d p
unchanged F d p = record { when_queried = queried_call F d p; when_shown = shown_call F d p; when_refused = refused_call F d p }

-- When a mark is the opposite of the starting mark

opposite : (d : Fixpoint) (pin? true? : Bool) → (cond (pin? || not (beq true? (start d))) (not (start d)) (start d) ≡ not (start d)) ↔ ((pin? ≡ true) ⊎ (true? ≡ not (start d)))
opposite d true t = (λ e. inl refl, λ e. refl)
opposite Greatest false true = (λ e. inr e, λ e. absurd (neither e))
  where
    neither : (false ≡ true) ⊎ (true ≡ false) → ⊥
    neither (inl e) = both_ways false refl e
    neither (inr e) = both_ways true e refl
opposite Greatest false false = (λ e. inr refl, λ e. refl)
opposite Least false true = (λ e. inr refl, λ e. refl)
opposite Least false false = (λ e. inr e, λ e. absurd (neither e))
  where
    neither : (false ≡ true) ⊎ (false ≡ true) → ⊥
    neither (inl e) = both_ways false refl e
    neither (inr e) = both_ways false refl e

-- What query and sheet answer

module _ (F : Lts) (d : Fixpoint) (B : List Equation) (pins taken : List Pair) (looks : ℕ) where
  turns : Each F B (λ s i. (standing F d B pins taken s i ≡ not (start d)) ↔ ((among s i pins ≡ true) ⊎ (true_at F B (changed d taken) s i ≡ not (start d))))
  unfolding standing turned decided
  turns s i l k = opposite d (among s i pins) (true_at F B (changed d taken) s i)

  abbrev here : Plain
  here = book B pins taken looks

  queries : Each F B (λ s i. Gives F d here (query s i) (told (mark_of d (standing F d B pins taken s i) (settled F d B pins taken)) (among s i pins)) here)
  unfolding answer_to after
  queries s i l k = record {
    gives = λ ps a. cond-true (has_pair F B s i) _ _ (and_from (ltb s F.states) (ltb i (length B)) (lt-ltb s F.states l) (lt-ltb i (length B) k));
    leaves = λ ps a. refl;
  }

  sheets : (room n : ℕ) → n ≡ looks → length (page F d B pins taken n) ≤ room → Gives F d here (sheet room) (written (page F d B pins taken n)) here
  unfolding answer_to after
  sheets room n e l = record {
    gives = λ ps a. cond-true (leb (length bytes) room) (written bytes) (refused 16) (le-leb (length bytes) room (subst (λ (m : ℕ). length (page F d B pins taken m) ≤ room) e l)) ∙ ap (λ (m : ℕ). written (page F d B pins taken m)) (sym e);
    leaves = λ ps a. refl;
  }
    where
      bytes : List ℕ
      bytes = page F d B pins taken looks

book_law : (F : Lts) (d : Fixpoint) (es : List Event) (B : List Equation) (pins taken : List Pair) (looks : ℕ) → Leads F d no_book es (book B pins taken looks) → BookLaw F d es B pins taken looks
book_law F d es B pins taken looks l =
    let told = reports F d es B pins taken looks l in
    record {
      stands = always_stands F d es B pins taken looks l;
      reports = told;
      turns = turns F d B pins taken looks;
      queries = queries F d B pins taken looks;
      sheets = λ room. sheets F d B pins taken looks room (reported es) told;
      agrees = λ es' pins' taken' looks' l' e e' same.
          let a = agree F d es es' B pins taken pins' taken' looks looks' l l' e e' same in
          (a, told ∙ a.same_looks ∙ sym (reports F d es' B pins' taken' looks' l'));
      goes_on = goes_on F d B pins taken looks;
    }

pub all_runs : AllRuns
all_runs F d es q l = record {
  leads = l;
  allowed = some_choice F d q;
  unchanged = unchanged F d q;
  with_book = λ B pins taken looks e. book_law F d es B pins taken looks (subst (λ (x : Plain). Leads F d no_book es x) e l);
}
