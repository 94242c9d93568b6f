-- The three lists, of which one gets a record.
use Rattle.std.proofs.Common.{◌≡◌, ℕ, ◌+◌, ◌<◌, ◌&&◌, eqb, List, [], ◌∷◌, ◌++◌, length, take, set, Some, None, Result, MatchResult, sym, refl, ap, ◌∙◌, subst}
use Rattle.std.specs.List.{ContainsAt as Has}
use Rattle.std.proofs.lemmas.Bool.{and_parts, and_from, eqb-true, eq-eqb}
use Rattle.records.specs.declared.Transition as transition
use Rattle.records.specs.declared.Divergence as divergence
use Rattle.records.specs.declared.Label as label
use Rattle.fields.specs.declared.fault.Fault.{Fault}
use Rattle.std.proofs.lemmas.Result.{MatchResult-weaker}
use Rattle.lines.specs.Lent.{Filled}
use Rattle.flow_text.specs.Lists.{Unplaced}
use Rattle.flow_text.specs.Flows.{same_transition, same_divergence, same_label, transitions_of, divergences_of, labels_of, misplaced, Lent, lent, room_in, Row, Kept, Puts}
use Rattle.flow_text.specs.declared.record.Record.{Record}
use Rattle.flow_text.specs.declared.record.Record.TheVariants.{Transition, Divergence, Label}
use Rattle.flow_text.specs.declared.counts.Flow.{Flow}
use Rattle.flow_text.proofs.Placing.{Tells, placed, grows, stays, unplaced}

-- The tests of equality

tells_transition : Tells same_transition
tells_transition = record {
  equal = λ x y e.
      let p = and_parts (eqb x.source y.source) (eqb x.action y.action && eqb x.target y.target) e in
      let q = and_parts (eqb x.action y.action) (eqb x.target y.target) p.1 in
      let s = eqb-true x.source y.source p.0 in
      let a = eqb-true x.action y.action q.0 in
      let t = eqb-true x.target y.target q.1 in
      λ i. record { source = s i; action = a i; target = t i };
  itself = λ x. and_from (eqb x.source x.source) _ (eq-eqb x.source x.source refl) (and_from (eqb x.action x.action) _ (eq-eqb x.action x.action refl) (eq-eqb x.target x.target refl));
}

tells_divergence : Tells same_divergence
tells_divergence = record {
  equal = λ x y e.
      let p = and_parts (eqb x.state y.state) (eqb x.action y.action) e in
      let s = eqb-true x.state y.state p.0 in
      let a = eqb-true x.action y.action p.1 in
      λ i. record { state = s i; action = a i };
  itself = λ x. and_from (eqb x.state x.state) _ (eq-eqb x.state x.state refl) (eq-eqb x.action x.action refl);
}

tells_label : Tells same_label
tells_label = record {
  equal = λ x y e.
      let p = and_parts (eqb x.atom y.atom) (eqb x.state y.state) e in
      let a = eqb-true x.atom y.atom p.0 in
      let s = eqb-true x.state y.state p.1 in
      λ i. record { atom = a i; state = s i };
  itself = λ x. and_from (eqb x.atom x.atom) _ (eq-eqb x.atom x.atom refl) (eq-eqb x.state x.state refl);
}

-- One record more

transitions_push : (rs : List Record) (r : Record) → transitions_of (rs ++ r ∷ []) ≡ transitions_of rs ++ transitions_of (r ∷ [])
transitions_push [] r = refl
transitions_push (Transition x ∷ rs) r = ap (λ ys. x ∷ ys) (transitions_push rs r)
transitions_push (Divergence x ∷ rs) r = transitions_push rs r
transitions_push (Label x ∷ rs) r = transitions_push rs r

divergences_push : (rs : List Record) (r : Record) → divergences_of (rs ++ r ∷ []) ≡ divergences_of rs ++ divergences_of (r ∷ [])
divergences_push [] r = refl
divergences_push (Transition x ∷ rs) r = divergences_push rs r
divergences_push (Divergence x ∷ rs) r = ap (λ ys. x ∷ ys) (divergences_push rs r)
divergences_push (Label x ∷ rs) r = divergences_push rs r

labels_push : (rs : List Record) (r : Record) → labels_of (rs ++ r ∷ []) ≡ labels_of rs ++ labels_of (r ∷ [])
labels_push [] r = refl
labels_push (Transition x ∷ rs) r = labels_push rs r
labels_push (Divergence x ∷ rs) r = labels_push rs r
labels_push (Label x ∷ rs) r = ap (λ ys. x ∷ ys) (labels_push rs r)

-- what `add` says of a list, for a record that goes in and for one that does not
abbrev Added : {X : Type 0} → List X → ℕ → ℕ → X → List X → ℕ → Type 0
Added list used most x list' n = (n ≡ used + 1) × (used < length list) × (used < most) × (Has (take used list) x → ⊥) × (list' ≡ set list used x)

abbrev KeptOut : {X : Type 0} → List X → ℕ → ℕ → X → ℕ → Fault → List X → ℕ → Type 0
KeptOut list used most x line f list' n = Unplaced list used most x line f × (list' ≡ list) × (n ≡ used)

-- the same list, under another name
row_as : {X : Type 0} (before xs after after' : List X) (n n' : ℕ) → Row before xs after n → after' ≡ after → n' ≡ n → Row before xs after' n'
row_as {X = X} before xs after after' n n' row e c =
    let P : List X → Type 0 = λ ys. Filled before xs ys in record { filled = subst P (sym e) row.filled; count = c ∙ row.count }

-- The three kinds of records

-- Each of these is what one kind of record does to the three lists.
module _ (before : Lent) (ts : List transition.Transition) (us : List divergence.Divergence) (ps : List label.Label) (n n' : Flow) (rs : List Record) (k : Kept before (lent ts us ps) n rs) where
  transitions_stay : (r : Record) → transitions_of (r ∷ []) ≡ [] → n'.transitions ≡ n.transitions → Row before.transitions (transitions_of (rs ++ r ∷ [])) ts n'.transitions
  transitions_stay r e c =
      stays same_transition tells_transition before.transitions (transitions_of rs) ts n.transitions 2048 k.transitions _ _ (transitions_push rs r ∙ ap (λ ys. transitions_of rs ++ ys) e) c

  divergences_stay : (r : Record) → divergences_of (r ∷ []) ≡ [] → n'.divergences ≡ n.divergences → Row before.divergences (divergences_of (rs ++ r ∷ [])) us n'.divergences
  divergences_stay r e c =
      stays same_divergence tells_divergence before.divergences (divergences_of rs) us n.divergences 1024 k.divergences _ _ (divergences_push rs r ∙ ap (λ ys. divergences_of rs ++ ys) e) c

  labels_stay : (r : Record) → labels_of (r ∷ []) ≡ [] → n'.labels ≡ n.labels → Row before.labels (labels_of (rs ++ r ∷ [])) ps n'.labels
  labels_stay r e c =
      stays same_label tells_label before.labels (labels_of rs) ps n.labels 2048 k.labels _ _ (labels_push rs r ∙ ap (λ ys. labels_of rs ++ ys) e) c

  pub transition_put : (x : transition.Transition) (ts' : List transition.Transition) → Added ts n.transitions 2048 x ts' n'.transitions → n'.divergences ≡ n.divergences → n'.labels ≡ n.labels →
      (misplaced (room_in before) rs (Transition x) ≡ None) × Kept before (lent ts' us ps) n' (rs ++ Transition x ∷ [])
  transition_put x ts' added b d =
      let h = added in (
        placed same_transition tells_transition before.transitions (transitions_of rs) ts n.transitions 2048 k.transitions x h.1 h.2 h.3,
        record {
          transitions = grows same_transition tells_transition before.transitions (transitions_of rs) ts n.transitions 2048 k.transitions x _ ts' n'.transitions h.1 (transitions_push rs (Transition x)) h.4 h.0;
          divergences = divergences_stay (Transition x) refl b;
          labels = labels_stay (Transition x) refl d;
        },
      )

  pub divergence_put : (x : divergence.Divergence) (us' : List divergence.Divergence) → Added us n.divergences 1024 x us' n'.divergences → n'.transitions ≡ n.transitions → n'.labels ≡ n.labels →
      (misplaced (room_in before) rs (Divergence x) ≡ None) × Kept before (lent ts us' ps) n' (rs ++ Divergence x ∷ [])
  divergence_put x us' added b d =
      let h = added in (
        placed same_divergence tells_divergence before.divergences (divergences_of rs) us n.divergences 1024 k.divergences x h.1 h.2 h.3,
        record {
          transitions = transitions_stay (Divergence x) refl b;
          divergences = grows same_divergence tells_divergence before.divergences (divergences_of rs) us n.divergences 1024 k.divergences x _ us' n'.divergences h.1 (divergences_push rs (Divergence x)) h.4 h.0;
          labels = labels_stay (Divergence x) refl d;
        },
      )

  pub label_put : (x : label.Label) (ps' : List label.Label) → Added ps n.labels 2048 x ps' n'.labels → n'.transitions ≡ n.transitions → n'.divergences ≡ n.divergences →
      (misplaced (room_in before) rs (Label x) ≡ None) × Kept before (lent ts us ps') n' (rs ++ Label x ∷ [])
  label_put x ps' added b d =
      let h = added in (
        placed same_label tells_label before.labels (labels_of rs) ps n.labels 2048 k.labels x h.1 h.2 h.3,
        record {
          transitions = transitions_stay (Label x) refl b;
          divergences = divergences_stay (Label x) refl d;
          labels = grows same_label tells_label before.labels (labels_of rs) ps n.labels 2048 k.labels x _ ps' n'.labels h.1 (labels_push rs (Label x)) h.4 h.0;
        },
      )

module _ (before : Lent) (ts : List transition.Transition) (us : List divergence.Divergence) (ps : List label.Label) (n n' : Flow) (rs : List Record) (k : Kept before (lent ts us ps) n rs) (line : ℕ) (f : Fault) where
  pub transition_refused : (x : transition.Transition) (ts' : List transition.Transition) → KeptOut ts n.transitions 2048 x line f ts' n'.transitions → n'.divergences ≡ n.divergences → n'.labels ≡ n.labels →
      (misplaced (room_in before) rs (Transition x) ≡ Some (f.cause, f.field)) × (f.line ≡ line) × Kept before (lent ts' us ps) n' rs
  transition_refused x ts' out b d =
      let u = unplaced same_transition tells_transition before.transitions (transitions_of rs) ts n.transitions 2048 k.transitions x line f out.0 in
      (u.0, u.1, record { transitions = row_as _ _ _ _ _ _ k.transitions out.1 out.2; divergences = row_as _ _ _ _ _ _ k.divergences refl b; labels = row_as _ _ _ _ _ _ k.labels refl d })

  pub divergence_refused : (x : divergence.Divergence) (us' : List divergence.Divergence) → KeptOut us n.divergences 1024 x line f us' n'.divergences → n'.transitions ≡ n.transitions → n'.labels ≡ n.labels →
      (misplaced (room_in before) rs (Divergence x) ≡ Some (f.cause, f.field)) × (f.line ≡ line) × Kept before (lent ts us' ps) n' rs
  divergence_refused x us' out b d =
      let u = unplaced same_divergence tells_divergence before.divergences (divergences_of rs) us n.divergences 1024 k.divergences x line f out.0 in
      (u.0, u.1, record { transitions = row_as _ _ _ _ _ _ k.transitions refl b; divergences = row_as _ _ _ _ _ _ k.divergences out.1 out.2; labels = row_as _ _ _ _ _ _ k.labels refl d })

  pub label_refused : (x : label.Label) (ps' : List label.Label) → KeptOut ps n.labels 2048 x line f ps' n'.labels → n'.transitions ≡ n.transitions → n'.divergences ≡ n.divergences →
      (misplaced (room_in before) rs (Label x) ≡ Some (f.cause, f.field)) × (f.line ≡ line) × Kept before (lent ts us ps') n' rs
  label_refused x ps' out b d =
      let u = unplaced same_label tells_label before.labels (labels_of rs) ps n.labels 2048 k.labels x line f out.0 in
      (u.0, u.1, record { transitions = row_as _ _ _ _ _ _ k.transitions refl b; divergences = row_as _ _ _ _ _ _ k.divergences refl d; labels = row_as _ _ _ _ _ _ k.labels out.1 out.2 })

-- a record that is known by an equation goes in, or stays out
pub puts_by : {X : Type 0} (lists lists' : Lent) (n n' : Flow) (x y : Record) → y ≡ x → (line : ℕ) (r : Result X Fault) (A : Type 0) (B : Fault → Type 0) → MatchResult r (λ _. A) B
    → (A → (before : Lent) (rs : List Record) → Kept before lists n rs → (misplaced (room_in before) rs x ≡ None) × Kept before lists' n' (rs ++ x ∷ []))
    → ((f : Fault) → B f → (before : Lent) (rs : List Record) → Kept before lists n rs → (misplaced (room_in before) rs x ≡ Some (f.cause, f.field)) × (f.line ≡ line) × Kept before lists' n' rs)
    → Puts lists lists' n n' y line r
puts_by lists lists' n n' x y is line r A B h good bad =
    let P : Record → Type 0 = λ z. Puts lists lists' n n' z line r in
    subst P (sym is) (record { puts = λ before rs k. MatchResult-weaker r h (λ u a. good a before rs k) (λ f b. bad f b before rs k) })
