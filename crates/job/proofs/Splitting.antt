-- A job is cut in one way.
use Rattle.std.proofs.Common.{◌≡◌, ℕ, ◌<◌, List, [], ◌∷◌, ◌++◌, length, take, sym, refl, ap, ◌∙◌, subst, inl, inr, arith, length-append}
use Rattle.std.proofs.lemmas.List.{take_at}
use Rattle.std.proofs.lemmas.Bool.{cases_order}
use Rattle.records.specs.declared.Counts.{Counts}
use Rattle.fields.specs.declared.fault.Fault.{Fault}
use Rattle.lines.specs.Texts.{Grammar, Reads, outcome, refused, Exact}
use Rattle.flow_text.specs.Flows.{Room, flow_grammar}
use Rattle.flow_text.specs.declared.record.Record.{Record}
use Rattle.rulebook_text.specs.Rulebooks.{Numbered, rulebook_grammar}
use Rattle.rulebook_text.specs.declared.equation.Rulebook.{Rulebook}
use Rattle.flow_text.proofs.Walking.{exact_flow}
use Rattle.rulebook_text.proofs.Walking.{exact_rulebook}
use Rattle.job.specs.Jobs.{Splits, SaysJob, Faults, in_whole, in_flow, in_rulebook, OneOutcome}
use Rattle.job.specs.Parts.{job_fault}
use Rattle.job.specs.declared.fault.JobFault.{JobFault}
use Rattle.job.specs.declared.fault.Part.TheVariants.{Flow, Book}

module _ (text f b f' b' : List ℕ) (s : Splits text f b) (t : Splits text f' b') where
  -- the second text cannot begin later in one cut
  no_shorter : length f < length f' → ⊥
  no_shorter l =
      let sum = ap length s.whole in
      let sum' = ap length t.whole in
      t.before (length f) l (s.second (omega (arith, sum, sum', length-append f b, length-append f' b')))

same_front : (text f b f' b' : List ℕ) → f ++ b ≡ text → f' ++ b' ≡ text → length f ≡ length f' → f ≡ f'
same_front text f b f' b' e e' l =
    sym (take_at f b (length f) refl) ∙ ap (take (length f)) (e ∙ sym e') ∙ ap (λ n. take n (f' ++ b')) l ∙ take_at f' b' (length f') refl

same_back : (f b b' : List ℕ) → f ++ b ≡ f ++ b' → b ≡ b'
same_back [] b b' e = e
same_back (x ∷ f) b b' e = same_back f b b' (cc)

pub splits_same : (text f b f' b' : List ℕ) → Splits text f b → Splits text f' b' → (f ≡ f') × (b ≡ b')
splits_same text f b f' b' s t =
    let l : length f ≡ length f' = elim (cases_order (length f) (length f')) [
      | inl e ↦ e
      | inr o ↦ elim o [ inl l ↦ absurd (no_shorter text f b f' b' s t l) | inr l ↦ absurd (no_shorter text f' b' f b t s l) ]
    ] in
    let e = same_front text f b f' b' s.whole t.whole l in
    (e, same_back f b b' (s.whole ∙ sym t.whole ∙ ap (λ x. x ++ b') (sym e)))

module _ (most : Room) (room : ℕ) (text : List ℕ) where
  -- the same two texts
  flow_same : (f b f' b' : List ℕ) (P : List ℕ → Type 0) → Splits text f b → Splits text f' b' → P f → P f'
  flow_same f b f' b' P s t p = subst P (splits_same text f b f' b' s t).0 p

  rulebook_same : (f b f' b' : List ℕ) (P : List ℕ → Type 0) → Splits text f b → Splits text f' b' → P b → P b'
  rulebook_same f b f' b' P s t p = subst P (splits_same text f b f' b' s t).1 p

  one_reading : (n n' : Counts) (rs rs' : List Record) (b b' : Rulebook) (es es' : List Numbered) →
      SaysJob most room text n rs b es → SaysJob most room text n' rs' b' es' → (n ≡ n') × (rs ≡ rs') × (b ≡ b') × (es ≡ es')
  one_reading n n' rs rs' b b' es es' x y =
      let P : List ℕ → Type 0 = λ f. Reads (flow_grammar most) f n rs in
      let Q : List ℕ → Type 0 = λ t. Reads (rulebook_grammar room) t b es in
      let flow = (exact_flow most).single y.flow n n' rs rs' (flow_same _ _ _ _ P x.splits y.splits x.flow_says) y.flow_says in
      let rulebook = (exact_rulebook room).single y.rulebook b b' es es' (rulebook_same _ _ _ _ Q x.splits y.splits x.rulebook_says) y.rulebook_says in
      (flow.0, flow.1, rulebook.0, rulebook.1)

  -- a text that is read is not refused
  not_both : {H R : Type 0} (g : Grammar H R) → Exact g → (t : List ℕ) (h : H) (rs : List R) (x : Fault) (ss : List R) → Reads g t h rs → outcome g t ≡ refused x ss → ⊥
  not_both g exact t h rs x ss r e =
      let a = (exact.accepts t h rs).1 r in
      let z : ◌≡◌ {A = ℕ} 0 1 = cc in omega arith

  same_fault : {H R : Type 0} (g : Grammar H R) (t : List ℕ) (x y : Fault) (rs ss : List R) → outcome g t ≡ refused x rs → outcome g t ≡ refused y ss → x ≡ y
  same_fault g t x y rs ss e e' = cc

  no_fault : (n : Counts) (rs : List Record) (b : Rulebook) (es : List Numbered) (e : JobFault) → SaysJob most room text n rs b es → Faults most room text e → ⊥
  no_fault n rs b es e s (in_whole h is) = h s.sized
  no_fault n rs b es e s (in_flow size f t split x ss first is) =
      let P : List ℕ → Type 0 = λ u. outcome (flow_grammar most) u ≡ refused x ss in
      not_both (flow_grammar most) (exact_flow most) s.flow n rs x ss s.flow_says (flow_same f t _ _ P split s.splits first)
  no_fault n rs b es e s (in_rulebook size f t split m ss reads x fs first is) =
      let P : List ℕ → Type 0 = λ u. outcome (rulebook_grammar room) u ≡ refused x fs in
      not_both (rulebook_grammar room) (exact_rulebook room) s.rulebook b es x fs s.rulebook_says (rulebook_same f t _ _ P split s.splits first)

  one_fault : (e e' : JobFault) → Faults most room text e → Faults most room text e' → e ≡ e'
  one_fault e e' (in_whole h is) (in_whole h' is') = is ∙ sym is'
  one_fault e e' (in_whole h is) (in_flow size f t split x ss first is') = absurd (h size)
  one_fault e e' (in_whole h is) (in_rulebook size f t split m ss reads x fs first is') = absurd (h size)
  one_fault e e' (in_flow size f t split x ss first is) (in_whole h is') = absurd (h size)
  one_fault e e' (in_flow size f t split x ss first is) (in_flow size' f' t' split' x' ss' first' is') =
      let P : List ℕ → Type 0 = λ u. outcome (flow_grammar most) u ≡ refused x ss in
      is ∙ ap (job_fault Flow) (same_fault (flow_grammar most) f' x x' ss ss' (flow_same f t f' t' P split split' first) first') ∙ sym is'
  one_fault e e' (in_flow size f t split x ss first is) (in_rulebook size' f' t' split' m ss' reads x' fs first' is') =
      let P : List ℕ → Type 0 = λ u. outcome (flow_grammar most) u ≡ refused x ss in
      absurd (not_both (flow_grammar most) (exact_flow most) f' m ss' x ss reads (flow_same f t f' t' P split split' first))
  one_fault e e' (in_rulebook size f t split m ss reads x fs first is) (in_whole h is') = absurd (h size)
  one_fault e e' (in_rulebook size f t split m ss reads x fs first is) (in_flow size' f' t' split' x' ss' first' is') =
      let P : List ℕ → Type 0 = λ u. outcome (flow_grammar most) u ≡ refused x' ss' in
      absurd (not_both (flow_grammar most) (exact_flow most) f m ss x' ss' reads (flow_same f' t' f t P split' split first'))
  one_fault e e' (in_rulebook size f t split m ss reads x fs first is) (in_rulebook size' f' t' split' m' ss' reads' x' fs' first' is') =
      let P : List ℕ → Type 0 = λ u. outcome (rulebook_grammar room) u ≡ refused x fs in
      is ∙ ap (job_fault Book) (same_fault (rulebook_grammar room) t' x x' fs fs' (rulebook_same f t f' t' P split split' first) first') ∙ sym is'

  pub one_outcome : OneOutcome most room text
  one_outcome = record { one_reading = one_reading; no_fault = no_fault; one_fault = one_fault }
