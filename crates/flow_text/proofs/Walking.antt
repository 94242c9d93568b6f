-- What the lines so far have come to.
use Rattle.std.proofs.Common.{◌≡◌, ℕ, ◌+◌, ◌<◌, ◌≤◌, ◌⊎◌, List, [], ◌∷◌, ◌++◌, length, Some, None, Ok, Err, sym, refl, ap, ◌∙◌, subst, inl, inr}
use Rattle.records.specs.declared.Transition as transition
use Rattle.records.specs.declared.Divergence as divergence
use Rattle.records.specs.declared.Label as label
use Rattle.fields.specs.Faults.{fault}
use Rattle.fields.specs.Pieces.{pieces}
use Rattle.fields.specs.declared.fault.Cause.TheVariants.{Size, Form}
use Rattle.fields.specs.declared.fault.Fault.{Fault}
use Rattle.lines.specs.Kinds.{says}
use Rattle.lines.specs.Texts.{Sized, outcome, body, refused, Exact}
use Rattle.lines.proofs.Filling.{untouched}
use Rattle.lines.proofs.Steps as step
use Rattle.lines.proofs.Outcomes.{exact}
use Rattle.flow_text.specs.Flows.{flow_kind, record_kinds, flow_grammar, Room, Lent, lent, misplaced, room_in, Holds, Kept}
use Rattle.flow_text.specs.Reading.{Accepts, Refuses}
use Rattle.flow_text.specs.Filling.{Sofar}
use Rattle.flow_text.specs.declared.record.Record.{Record}
use Rattle.flow_text.specs.declared.counts.Flow.{Flow}

pub exact_flow : (most : Room) → Exact (flow_grammar most)
exact_flow most = exact (flow_grammar most) refl (λ h. refl)

holds : (before after : Lent) (flow : Flow) (rs : List Record) → Kept before after flow rs → Holds before after rs
holds before after flow rs k = record { transitions = k.transitions.filled; divergences = k.divergences.filled; labels = k.labels.filled }

module _ (text : List ℕ) (before : Lent) where
  refused_early : (f : Fault) → outcome (flow_grammar (room_in before)) text ≡ refused f [] → Refuses text f before before
  refused_early f e = record { records = []; first = e; holds = record { transitions = untouched _; divergences = untouched _; labels = untouched _ } }

  unsized : (Sized text → ⊥) → Refuses text (fault Size 0 0) before before
  unsized h = refused_early (fault Size 0 0) (step.unsized _ text h)

  module _ (size : Sized text) where
    head_unended : (f : Fault) (l : List ℕ) → pieces 10 text ≡ l ∷ [] → f ≡ fault Form 1 0 → Refuses text f before before
    head_unended f l is e =
        let P : Fault → Type 0 = λ x. Refuses text x before before in
        subst P (sym e) (refused_early (fault Form 1 0) (step.head_unended _ text size l is))

    module _ (l rest : List ℕ) (is : pieces 10 text ≡ l ∷ pieces 10 rest) where
      pub head_misread : (f : Fault) → says (flow_kind ∷ []) (pieces 44 l) ≡ Err (f.cause, f.field) → f.line ≡ 1 → Refuses text f before before
      head_misread f e at = refused_early f (step.head_misread _ text size l rest is f e at)

      pub headed : (flow : Flow) → says (flow_kind ∷ []) (pieces 44 l) ≡ Ok flow.counts → flow.transitions ≡ 0 → flow.divergences ≡ 0 → flow.labels ≡ 0 → (count : ℕ) → count ≡ 1 → Sofar text before before flow rest count
      headed flow e t u p count n = record {
        records = [];
        goes = step.headed _ text size l rest is flow.counts e ∙ ap (λ i. body (flow_grammar (room_in before)) flow.counts [] (i + 1) (pieces 10 rest)) (sym n);
        kept = record { transitions = record { filled = untouched _; count = t }; divergences = record { filled = untouched _; count = u }; labels = record { filled = untouched _; count = p } };
      }

  -- the text has no first line
  pub unbegun : (f : Fault) → ((Sized text → ⊥) × (f ≡ fault Size 0 0)) ⊎ ((0 < length text) × (length text ≤ 32768) × (pieces 10 text ≡ text ∷ []) × (f ≡ fault Form 1 0)) → Refuses text f before before
  unbegun f (inl u) = let P : Fault → Type 0 = λ x. Refuses text x before before in subst P (sym u.1) (unsized u.0)
  unbegun f (inr u) = head_unended (u.0, u.1) f text u.2 u.3

  module _ (after : Lent) (flow : Flow) (rest : List ℕ) (count : ℕ) (s : Sofar text before after flow rest count) where
    stopped : (f : Fault) (after' : Lent) (flow' : Flow) → body (flow_grammar (room_in before)) flow.counts s.records (count + 1) (pieces 10 rest) ≡ refused f s.records → Kept before after' flow' s.records → Refuses text f before after'
    stopped f after' flow' e k = record { records = s.records; first = s.goes ∙ e; holds = holds before after' flow' s.records k }

    pub unended : (f : Fault) → pieces 10 rest ≡ rest ∷ [] → 0 < length rest → f ≡ fault Form (count + 1) 0 → Refuses text f before after
    unended f is some e =
        let P : Fault → Type 0 = λ x. Refuses text x before after in
        subst P (sym e) (stopped _ after flow (step.line_unended _ flow.counts s.records (count + 1) rest is some) s.kept)

    pub ended : length rest ≡ 0 → Accepts text flow before after
    ended z = record {
      records = s.records;
      reads = ((exact_flow (room_in before)).accepts text flow.counts s.records).0 (s.goes ∙ step.ends _ flow.counts s.records (count + 1) rest z);
      kept = s.kept;
    }

    module _ (l rest' : List ℕ) (is : pieces 10 rest ≡ l ∷ pieces 10 rest') where
      pub misread : (f : Fault) → says (record_kinds flow.counts) (pieces 44 l) ≡ Err (f.cause, f.field) → f.line ≡ count + 1 → Refuses text f before after
      misread f e at = stopped f after flow (step.line_misread _ flow.counts s.records (count + 1) rest l rest' is f e at) s.kept

      module _ (x : Record) (says_x : says (record_kinds flow.counts) (pieces 44 l) ≡ Ok x) (after' : Lent) (flow' : Flow) where
        pub unplaced : (f : Fault) → misplaced (room_in before) s.records x ≡ Some (f.cause, f.field) → f.line ≡ count + 1 → Kept before after' flow' s.records → Refuses text f before after'
        unplaced f e at k = stopped f after' flow' (step.line_misplaced _ flow.counts s.records (count + 1) rest l rest' is x says_x f e at) k

        pub placed : misplaced (room_in before) s.records x ≡ None → Kept before after' flow' (s.records ++ x ∷ []) → flow'.counts ≡ flow.counts → (count' : ℕ) → count' ≡ count + 1 → Sofar text before after' flow' rest' count'
        placed e k c count' n =
            let g = flow_grammar (room_in before) in
            let rs = s.records ++ x ∷ [] in
            record {
              records = rs;
              goes =
                  s.goes ∙ step.line_placed _ flow.counts s.records (count + 1) rest l rest' is x says_x e
                  ∙ ap (λ i. body g flow.counts rs (i + 1) (pieces 10 rest')) (sym n) ∙ ap (λ h. body g h rs (count' + 1) (pieces 10 rest')) (sym c);
              kept = k;
            }

-- the same lists, under other names
pub same : (ts ts' : List transition.Transition) (us us' : List divergence.Divergence) (ps ps' : List label.Label) → ts ≡ ts' → us ≡ us' → ps ≡ ps' → lent ts us ps ≡ lent ts' us' ps'
same ts ts' us us' ps ps' t u p = λ i. record { transitions = t i; divergences = u i; labels = p i }

module _ (text : List ℕ) (before before' after after' : Lent) (b : before ≡ before') (a : after ≡ after') where
  pub refused_as : (f : Fault) → Refuses text f before after → Refuses text f before' after'
  refused_as f r =
      let P : Lent → Type 0 = λ l. Refuses text f l after' in
      let Q : Lent → Type 0 = λ l. Refuses text f before l in subst P b (subst Q a r)

  pub accepted_as : (flow : Flow) → Accepts text flow before after → Accepts text flow before' after'
  accepted_as flow r =
      let P : Lent → Type 0 = λ l. Accepts text flow l after' in
      let Q : Lent → Type 0 = λ l. Accepts text flow before l in subst P b (subst Q a r)
