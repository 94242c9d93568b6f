-- What a job that is read comes to in the lists, and in the account.
use Rattle.std.proofs.Common.{◌≡◌, ℕ, suc, ◌-◌, ◌≤◌, List, [], ◌∷◌, ◌++◌, length, take, sym, refl, ap, ◌∙◌, subst, append_assoc, arith}
use native.Mathlib.Nat.{sub-zero}
use Rattle.records.specs.declared.EquationRecord.{EquationRecord}
use Rattle.lines.specs.Lent.{Filled}
use Rattle.lines.proofs.Filling.{filled_front, filled_long}
use Rattle.flow_text.specs.Flows.{Lent, room, room_in, Row, Kept, transitions_of, divergences_of, labels_of}
use Rattle.flow_text.specs.declared.counts.Flow.{Flow}
use Rattle.flow_text.specs.declared.record.Record.{Record}
use Rattle.rulebook_text.specs.Rulebooks.{Numbered, equations_of}
use Rattle.rulebook_text.specs.declared.equation.Rulebook.{Rulebook}
use Rattle.lines.specs.Texts.{Sized}
use Rattle.job.specs.Jobs.{Splits, SaysJob, Faults, in_whole, in_flow, in_rulebook}
use Rattle.job.specs.Reading as job
use Rattle.job.specs.declared.fault.JobFault.{JobFault}
use Rattle.report.specs.Lines.{counts_line, transition_line, divergence_line, label_line, rulebook_line, all_lines, equation_lines}
use Rattle.report.specs.Answers.{AnswersWithin, Answers, read}

faults_of_texts : (text f b : List ℕ) (e : JobFault) (before after : Lent) (es es' : List EquationRecord) → Sized text → Splits text f b → job.RefusesTexts f b e before after es es' → Faults (room_in before) (length es) text e
faults_of_texts text f b e before after es es' size split (job.in_flow x r is same) = in_flow size f b split x r.records r.first is
faults_of_texts text f b e before after es es' size split (job.in_rulebook n a x r is) = in_rulebook size f b split n.counts a.records a.reads x r.records r.first is

pub faults_of : (text : List ℕ) (e : JobFault) (before after : Lent) (es es' : List EquationRecord) → job.Refuses text e before after es es' → Faults (room_in before) (length es) text e
faults_of text e before after es es' (job.as_whole h is same same') = in_whole h is
faults_of text e before after es es' (job.in_text size f b split r) = faults_of_texts text f b e before after es es' size split r

-- as the checker reads `&list[0..n]`
front : {X : Type 0} (before xs after : List X) (n : ℕ) → Row before xs after n → take (n - 0) after ≡ xs
front before xs after n row = ap (λ k. take k after) (sub-zero n) ∙ filled_front before xs after row.filled n row.count

equations_length : (rs : List Numbered) → length (equations_of rs) ≡ length rs
equations_length [] = refl
equations_length (r ∷ rs) = ap suc (equations_length rs)

module _ (text : List ℕ) (n : Flow) (book : Rulebook) (before after : Lent) (es es' : List EquationRecord) (a : job.Accepts text n book before after es es') where
  abbrev records : List Record
  records = a.accepts.flow_text.records

  abbrev equations : List Numbered
  equations = a.accepts.rulebook_text.records

  kept : Kept before after n records
  kept = a.accepts.flow_text.kept

  filled : Filled es (equations_of equations) es'
  filled = a.accepts.rulebook_text.filled

  count : book.equations ≡ length (equations_of equations)
  count = sym (equations_length equations ∙ a.accepts.rulebook_text.count)

  pub enough : book.equations ≤ length es'
  enough = omega (arith, count, filled_long es (equations_of equations) es' filled, filled.fit)

  pub answered : (k out : List ℕ)
      → k ≡ counts_line n.counts ++ (all_lines transition_line (take (n.transitions - 0) after.transitions) ++ (all_lines divergence_line (take (n.divergences - 0) after.divergences) ++ all_lines label_line (take (n.labels - 0) after.labels)))
      → out ≡ k ++ (rulebook_line book ++ equation_lines 0 (take (book.equations - 0) es')) → AnswersWithin (room_in before) (length es) text out
  answered k out first whole =
      let t = front before.transitions (transitions_of records) after.transitions n.transitions kept.transitions in
      let u = front before.divergences (divergences_of records) after.divergences n.divergences kept.divergences in
      let p = front before.labels (labels_of records) after.labels n.labels kept.labels in
      let e = ap (λ i. take i es') (sub-zero book.equations) ∙ filled_front es (equations_of equations) es' filled book.equations count in
      let says : SaysJob (room_in before) (length es) text n.counts records book equations = record {
        sized = a.sized;
        flow = a.flow_text;
        rulebook = a.rulebook_text;
        splits = a.splits;
        flow_says = a.accepts.flow_text.reads;
        rulebook_says = a.accepts.rulebook_text.reads;
      } in
      read n.counts records book equations says
      (whole ∙ ap (λ x. k ++ (rulebook_line book ++ equation_lines 0 x)) e ∙ ap (λ x. x ++ (rulebook_line book ++ equation_lines 0 (equations_of equations))) first
      ∙ ap (λ x. (counts_line n.counts ++ (all_lines transition_line x ++ (all_lines divergence_line (take (n.divergences - 0) after.divergences) ++ all_lines label_line (take (n.labels - 0) after.labels)))) ++ (rulebook_line book ++ equation_lines 0 (equations_of equations))) t
      ∙ ap (λ x. (counts_line n.counts ++ (all_lines transition_line (transitions_of records) ++ (all_lines divergence_line x ++ all_lines label_line (take (n.labels - 0) after.labels)))) ++ (rulebook_line book ++ equation_lines 0 (equations_of equations))) u
      ∙ ap (λ x. (counts_line n.counts ++ (all_lines transition_line (transitions_of records) ++ (all_lines divergence_line (divergences_of records) ++ all_lines label_line x))) ++ (rulebook_line book ++ equation_lines 0 (equations_of equations))) p
      ∙ regrouped (counts_line n.counts) (all_lines transition_line (transitions_of records)) (all_lines divergence_line (divergences_of records)) (all_lines label_line (labels_of records)) (rulebook_line book ++ equation_lines 0 (equations_of equations)))
    where
      regrouped : (a b c d e : List ℕ) → (a ++ (b ++ (c ++ d))) ++ e ≡ a ++ (b ++ (c ++ (d ++ e)))
      regrouped a b c d e = simp append_assoc

-- lists of these lengths have room for every job
pub with_all_room : (t u p e : ℕ) → t ≡ 2048 → u ≡ 1024 → p ≡ 2048 → e ≡ 1024 → (text out : List ℕ) → AnswersWithin (room t u p) e text out → Answers text out
with_all_room t u p e et eu ep ee text out h =
    let P : ℕ → Type 0 = λ i. AnswersWithin (room i u p) e text out in
    let Q : ℕ → Type 0 = λ i. AnswersWithin (room 2048 i p) e text out in
    let R : ℕ → Type 0 = λ i. AnswersWithin (room 2048 1024 i) e text out in
    let S : ℕ → Type 0 = λ i. AnswersWithin (room 2048 1024 2048) i text out in
    subst S ee (subst R ep (subst Q eu (subst P et h)))
