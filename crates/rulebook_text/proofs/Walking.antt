-- What the lines so far have come to.
use Rattle.std.proofs.Common.{◌≡◌, ℕ, suc, ◌+◌, ◌<◌, ◌≤◌, ◌⊎◌, Bool, true, false, cond, ltb, List, [], ◌∷◌, ◌++◌, length, set, Some, None, Ok, Err, Option, sym, refl, ap, ◌∙◌, subst, inl, inr, arith}
use Rattle.std.proofs.lemmas.List.{length_push}
use Rattle.std.proofs.lemmas.Bool.{lt-ltb, le-ltb, eq-eqb, ltb-true, cases_lt, cond-true}
use Rattle.records.specs.declared.EquationRecord.{EquationRecord}
use Rattle.records.specs.declared.Fixpoint.TheVariants.{Greatest, Least}
use Rattle.fields.specs.Faults.{fault}
use Rattle.fields.specs.Pieces.{pieces}
use Rattle.fields.specs.declared.fault.Cause.TheVariants.{Size, Form, Full, Turn}
use Rattle.fields.specs.declared.fault.Fault.{Fault}
use Rattle.lines.specs.Kinds.{says}
use Rattle.lines.specs.Lent.{Filled}
use Rattle.lines.specs.Texts.{Sized, Placed, Reads, outcome, body, refused, at_end, Exact}
use Rattle.lines.proofs.Filling.{untouched, filled_long, filled_more}
use Rattle.lines.proofs.Steps as step
use Rattle.lines.proofs.Outcomes.{exact}
use Rattle.rulebook_text.specs.Rulebooks.{Numbered, rulebook_kind, equation_kinds, rulebook_grammar, misplaced, unfinished, equations_of}
use Rattle.rulebook_text.specs.Placing.{Row}
use Rattle.rulebook_text.specs.Reading.{Accepts, Refuses}
use Rattle.rulebook_text.specs.declared.equation.Rulebook.{Rulebook}

pub exact_rulebook : (room : ℕ) → Exact (rulebook_grammar room)
exact_rulebook room = exact (rulebook_grammar room) refl (λ h. refl)

-- One equation more

equations_push : (rs : List Numbered) (x : Numbered) → equations_of (rs ++ x ∷ []) ≡ equations_of rs ++ x.1 ∷ []
equations_push [] x = refl
equations_push (r ∷ rs) x = ap (λ ys. r.1 ∷ ys) (equations_push rs x)

equations_length : (rs : List Numbered) → length (equations_of rs) ≡ length rs
equations_length [] = refl
equations_length (r ∷ rs) = ap suc (equations_length rs)

module _ (before : List EquationRecord) (rs : List Numbered) (list : List EquationRecord) (n : ℕ) (row : Row before rs list n) (book : Rulebook) (x : Numbered) where
  long : length list ≡ length before
  long = filled_long before (equations_of rs) list row.filled

  pub put_next : n < book.equations → x.0 ≡ n → n < length list → (misplaced (length before) book rs x ≡ None) × Filled before (equations_of (rs ++ x ∷ [])) (set list n x.1)
  put_next few turn room =
      let P : List EquationRecord → Type 0 = λ ys. Filled before ys (set list n x.1) in (
        rw (lt-ltb (length rs) book.equations (omega (arith, row.count)), eq-eqb x.0 (length rs) (turn ∙ row.count), lt-ltb (length rs) (length before) (omega (arith, row.count, long))),
        subst P (sym (equations_push rs x)) (filled_more before (equations_of rs) list row.filled n (row.count ∙ sym (equations_length rs)) x.1 room),
      )

-- A text that is read has as many equations as it says

cond_none : {X : Type 0} (b : Bool) (o : Option X) (x : X) → cond b o (Some x) ≡ None → b ≡ true
cond_none true o x e = refl
cond_none false o x e = absurd (let z : ◌≡◌ {A = ℕ} 0 1 = cc in omega arith)

not_more : (room : ℕ) (b : Rulebook) (before rs : List Numbered) → Placed (rulebook_grammar room) b before rs → length before ≤ b.equations → length before + length rs ≤ b.equations
not_more room b before [] p l = omega arith
not_more room b before (r ∷ rs) p l =
    let few = ltb-true (length before) b.equations (cond_none (ltb (length before) b.equations) _ (Turn, 0) p.0) in
    let more = not_more room b (before ++ r ∷ []) rs p.1 (omega (arith, length_push before r)) in
    omega (arith, length_push before r)

not_less : (b : Rulebook) (rs : List Numbered) → unfinished b rs ≡ None → b.equations ≤ length rs
not_less b rs e =
    elim (cases_lt (length rs) b.equations) [
      | inl l ↦
          let f = cond-true (ltb (length rs) b.equations) (Some Turn) None (lt-ltb (length rs) b.equations l) in
          absurd (let z : ◌≡◌ {A = ℕ} 0 1 = cc in omega arith)
      | inr l ↦ l
    ]

counted : (room : ℕ) (text : List ℕ) (b : Rulebook) (rs : List Numbered) → Reads (rulebook_grammar room) text b rs → length rs ≡ b.equations
counted room text b rs r = omega (arith, not_more room b [] rs r.placed (omega arith), not_less b rs r.finished)

-- The lines of a text

-- the equations of the lines so far, and what is still to come
pub record Sofar (text : List ℕ) (before after : List EquationRecord) (book : Rulebook) (rest : List ℕ) (count done : ℕ) : Type 0 where
  pub records : List Numbered
  pub goes : outcome (rulebook_grammar (length before)) text ≡ body (rulebook_grammar (length before)) book records (count + 1) (pieces 10 rest)
  pub row : Row before records after done

module _ (text : List ℕ) (before : List EquationRecord) where
  refused_early : (f : Fault) → outcome (rulebook_grammar (length before)) text ≡ refused f [] → Refuses text f before before
  refused_early f e = record { records = []; first = e; filled = untouched before }

  unsized : (Sized text → ⊥) → Refuses text (fault Size 0 0) before before
  unsized h = refused_early (fault Size 0 0) (step.unsized _ text h)

  module _ (size : Sized text) where
    head_unended : (f : Fault) (l : List ℕ) → pieces 10 text ≡ l ∷ [] → f ≡ fault Form 1 0 → Refuses text f before before
    head_unended f l is e =
        let P : Fault → Type 0 = λ x. Refuses text x before before in
        subst P (sym e) (refused_early (fault Form 1 0) (step.head_unended _ text size l is))

    module _ (l rest : List ℕ) (is : pieces 10 text ≡ l ∷ pieces 10 rest) where
      pub head_misread : (f : Fault) → says (rulebook_kind Greatest ∷ rulebook_kind Least ∷ []) (pieces 44 l) ≡ Err (f.cause, f.field) → f.line ≡ 1 → Refuses text f before before
      head_misread f e at = refused_early f (step.head_misread _ text size l rest is f e at)

      pub headed : (book : Rulebook) → says (rulebook_kind Greatest ∷ rulebook_kind Least ∷ []) (pieces 44 l) ≡ Ok book → (count : ℕ) → count ≡ 1 → Sofar text before before book rest count 0
      headed book e count n = record {
        records = [];
        goes = step.headed _ text size l rest is book e ∙ ap (λ i. body (rulebook_grammar (length before)) book [] (i + 1) (pieces 10 rest)) (sym n);
        row = record { filled = untouched before; count = refl };
      }

  -- the text has no first line
  pub unbegun : (f : Fault) → ((Sized text → ⊥) × (f ≡ fault Size 0 0)) ⊎ ((0 < length text) × (length text ≤ 32768) × (pieces 10 text ≡ text ∷ []) × (f ≡ fault Form 1 0)) → Refuses text f before before
  unbegun f (inl u) = let P : Fault → Type 0 = λ x. Refuses text x before before in subst P (sym u.1) (unsized u.0)
  unbegun f (inr u) = head_unended (u.0, u.1) f text u.2 u.3

  module _ (after : List EquationRecord) (book : Rulebook) (rest : List ℕ) (count done : ℕ) (s : Sofar text before after book rest count done) where
    stopped : (f : Fault) (after' : List EquationRecord) → body (rulebook_grammar (length before)) book s.records (count + 1) (pieces 10 rest) ≡ refused f s.records → Filled before (equations_of s.records) after' → Refuses text f before after'
    stopped f after' e filled = record { records = s.records; first = s.goes ∙ e; filled = filled }

    pub unended : (f : Fault) → pieces 10 rest ≡ rest ∷ [] → 0 < length rest → f ≡ fault Form (count + 1) 0 → Refuses text f before after
    unended f is some e =
        let P : Fault → Type 0 = λ x. Refuses text x before after in
        subst P (sym e) (stopped _ after (step.line_unended _ book s.records (count + 1) rest is some) s.row.filled)

    at_last : length rest ≡ 0 → body (rulebook_grammar (length before)) book s.records (count + 1) (pieces 10 rest) ≡ at_end book s.records (count + 1) (unfinished book s.records)
    at_last z = step.ends _ book s.records (count + 1) rest z

    pub missing : length rest ≡ 0 → done < book.equations → Refuses text (fault Turn (count + 1) 0) before after
    missing z few = stopped (fault Turn (count + 1) 0) after (at_last z ∙ rw (lt-ltb (length s.records) book.equations (omega (arith, s.row.count)))) s.row.filled

    pub ended : length rest ≡ 0 → book.equations ≤ done → Accepts text book before after
    ended z all =
        let reads = ((exact_rulebook (length before)).accepts text book s.records).0 (s.goes ∙ at_last z ∙ rw (le-ltb (length s.records) book.equations (omega (arith, s.row.count)))) in
        record { records = s.records; reads = reads; count = counted (length before) text book s.records reads; filled = s.row.filled }

    module _ (l rest' : List ℕ) (is : pieces 10 rest ≡ l ∷ pieces 10 rest') where
      pub misread : (f : Fault) → says equation_kinds (pieces 44 l) ≡ Err (f.cause, f.field) → f.line ≡ count + 1 → Refuses text f before after
      misread f e at = stopped f after (step.line_misread _ book s.records (count + 1) rest l rest' is f e at) s.row.filled

      module _ (x : Numbered) (says_x : says equation_kinds (pieces 44 l) ≡ Ok x) (after' : List EquationRecord) where
        pub unplaced : (f : Fault) → misplaced (length before) book s.records x ≡ Some (f.cause, f.field) → f.line ≡ count + 1 → Filled before (equations_of s.records) after' → Refuses text f before after'
        unplaced f e at k = stopped f after' (step.line_misplaced _ book s.records (count + 1) rest l rest' is x says_x f e at) k

        pub placed : misplaced (length before) book s.records x ≡ None → Filled before (equations_of (s.records ++ x ∷ [])) after' → (count' : ℕ) → count' ≡ count + 1 → (done' : ℕ) → done' ≡ done + 1 → Sofar text before after' book rest' count' done'
        placed e k count' n done' d = record {
          records = s.records ++ x ∷ [];
          goes =
              s.goes ∙ step.line_placed _ book s.records (count + 1) rest l rest' is x says_x e
              ∙ ap (λ i. body (rulebook_grammar (length before)) book (s.records ++ x ∷ []) (i + 1) (pieces 10 rest')) (sym n);
          row = record { filled = k; count = d ∙ ap (λ i. i + 1) s.row.count ∙ sym (length_push s.records x) };
        }

-- the same list, under another name
module _ (text : List ℕ) (before after after' : List EquationRecord) (is : after ≡ after') where
  pub refused_as : (f : Fault) → Refuses text f before after → Refuses text f before after'
  refused_as f r = let P : List EquationRecord → Type 0 = λ l. Refuses text f before l in subst P is r

  pub accepted_as : (book : Rulebook) → Accepts text book before after → Accepts text book before after'
  accepted_as book r = let P : List EquationRecord → Type 0 = λ l. Accepts text book before l in subst P is r
