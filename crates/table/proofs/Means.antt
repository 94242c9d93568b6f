-- What a table holds is what its records describe.
use Rattle.std.proofs.Common.{◌≡◌, ℕ, ◌+◌, ◌*◌, ◌<◌, ◌≤◌, Bool, true, false, cond, ◌&&◌, eqb, ltb, List, get_or, sym, ap, ◌∙◌, ⊎_elim, arith}
use mathlib.Core.Path.{fun_ext}
use Rattle.std.proofs.lemmas.Bool.{cases_lt, cases_Bool, and_parts, and_from, and_left, and_right, lt-ltb, le-ltb, ltb-true, eqb-true}
use Rattle.records.specs.declared.Counts.{Counts}
use Rattle.records.specs.declared.Transition.{Transition}
use Rattle.records.specs.declared.Divergence.{Divergence}
use Rattle.records.specs.declared.Label.{Label}
use Rattle.semantics.specs.Lts.{Lts, sum, one}
use Rattle.sorting.specs.Sorting.{start, row}
use Rattle.semantics.proofs.Bools.{same_bool}
use Rattle.lts.specs.declared.sets.SmallSet.{SmallSet}
use Rattle.lts.specs.Sets.{member}
use Rattle.table.specs.Records.{has, each, repeated, is_transition, is_divergence, is_label, same_transition, transition_inside, divergence_inside, label_inside}
use Rattle.table.specs.Table.{table_lts}
use Rattle.table.specs.TableAnswers.{empty_set, in_set, held_transitions, held_lts, zero_transition}
use Rattle.table.proofs.Listing.{each_at, has_at}
use Rattle.table.proofs.Builds.{listed, listed_once}

-- a record that is listed lies within the counts

transition_within : (c : Counts) (ts : List Transition) → each (transition_inside c) ts ≡ true → (s a t : ℕ) → has (is_transition s a t) ts ≡ true → (a < c.actions) × (t < c.states)
transition_within c ts inside s a t e =
    let w = has_at (is_transition s a t) ts e in
    let x = get_or ts w.0 zero_transition in
    let p = and_parts (eqb x.source s && eqb x.action a) (eqb x.target t) (w.2 zero_transition) in
    let q = and_parts (eqb x.source s) (eqb x.action a) p.0 in
    let d = and_parts (ltb x.source c.states && ltb x.action c.actions) (ltb x.target c.states) (each_at (transition_inside c) ts inside w.0 zero_transition w.1) in
    let b = and_parts (ltb x.source c.states) (ltb x.action c.actions) d.0 in
    (omega (arith, ltb-true x.action c.actions b.1, eqb-true x.action a q.1), omega (arith, ltb-true x.target c.states d.1, eqb-true x.target t p.1))

divergence_within : (c : Counts) (us : List Divergence) → each (divergence_inside c) us ≡ true → (s a : ℕ) → has (is_divergence s a) us ≡ true → (s < c.states) × (a < c.actions)
divergence_within c us inside s a e =
    let none : Divergence = record { state = 0; action = 0 } in
    let w = has_at (is_divergence s a) us e in
    let x = get_or us w.0 none in
    let p = and_parts (eqb x.state s) (eqb x.action a) (w.2 none) in
    let d = and_parts (ltb x.state c.states) (ltb x.action c.actions) (each_at (divergence_inside c) us inside w.0 none w.1) in
    (omega (arith, ltb-true x.state c.states d.0, eqb-true x.state s p.0), omega (arith, ltb-true x.action c.actions d.1, eqb-true x.action a p.1))

label_within : (c : Counts) (ps : List Label) → each (label_inside c) ps ≡ true → (p s : ℕ) → has (is_label p s) ps ≡ true → (s < c.states) × (p < c.atoms)
label_within c ps inside p s e =
    let none : Label = record { atom = 0; state = 0 } in
    let w = has_at (is_label p s) ps e in
    let x = get_or ps w.0 none in
    let q = and_parts (eqb x.state s) (eqb x.atom p) (w.2 none) in
    let d = and_parts (ltb x.atom c.atoms) (ltb x.state c.states) (each_at (label_inside c) ps inside w.0 none w.1) in
    (omega (arith, ltb-true x.state c.states d.1, eqb-true x.state s q.0), omega (arith, ltb-true x.atom c.atoms d.0, eqb-true x.atom p q.1))

held_none : (n actions : ℕ) (ends sources : List ℕ) (s a t : ℕ) → (ltb a actions && ltb t n) ≡ false → held_transitions n actions ends sources s a t ≡ 0
unfolding held_transitions
held_none n actions ends sources s a t e = ap (λ b. cond b (sum (row ends (a * n + t)) (λ k. one (get_or sources (start ends (a * n + t) + k) 0) s)) 0) e

-- what a list does not have outside the counts

outside : (b : Bool) (P : Type 0) → (b ≡ true → P) → (P → ⊥) → b ≡ false
outside b P f never = ⊎_elim (λ (e : b ≡ true). absurd (never (f e))) (λ (e : b ≡ false). e) (cases_Bool b)

-- sets that were noted
sets_are : (n most : ℕ) (sets : List SmallSet) (test : ℕ → ℕ → Bool) → most ≤ 64 → ((s i : ℕ) → s < n → member (get_or sets s empty_set) i ≡ (ltb i 64 && test s i)) →
    ((s i : ℕ) → test s i ≡ true → (s < n) × (i < most)) → (s i : ℕ) → in_set n most sets s i ≡ test s i
sets_are n most sets test few noted within s i = same_bool (in_set n most sets s i) (test s i) up down
  where
    up : in_set n most sets s i ≡ true → test s i ≡ true
    up e =
        let d = and_parts (ltb s n) (ltb i most && member (get_or sets s empty_set) i) e in
        let h = and_parts (ltb i most) (member (get_or sets s empty_set) i) d.1 in
        (and_parts (ltb i 64) (test s i) (sym (noted s i (ltb-true s n d.0)) ∙ h.1)).1

    down : test s i ≡ true → in_set n most sets s i ≡ true
    down e =
        let w = within s i e in
        and_from (ltb s n) (ltb i most && member (get_or sets s empty_set) i) (lt-ltb s n w.0)
        (and_from (ltb i most) (member (get_or sets s empty_set) i) (lt-ltb i most w.1)
        (noted s i w.0 ∙ and_from (ltb i 64) (test s i) (lt-ltb i 64 (omega (arith, w.1))) e))

module _ (c : Counts) (ts : List Transition) (us : List Divergence) (ps : List Label) (ends sources : List ℕ) (gaps marks : List SmallSet)
    (ts_in : each (transition_inside c) ts ≡ true) (us_in : each (divergence_inside c) us ≡ true) (ps_in : each (label_inside c) ps ≡ true)
    (once : repeated same_transition ts ≡ false) (few_actions : c.actions ≤ 64) (few_atoms : c.atoms ≤ 64)
    (held : (s a t : ℕ) → a < c.actions → t < c.states → held_transitions c.states c.actions ends sources s a t ≡ listed ts s a t)
    (gap : (s i : ℕ) → s < c.states → member (get_or gaps s empty_set) i ≡ (ltb i 64 && has (is_divergence s i) us))
    (mark : (s i : ℕ) → s < c.states → member (get_or marks s empty_set) i ≡ (ltb i 64 && has (is_label i s) ps)) where
  transitions_are : (s a t : ℕ) → held_transitions c.states c.actions ends sources s a t ≡ cond (has (is_transition s a t) ts) 1 0
  transitions_are s a t =
      ⊎_elim
      (λ (ha : a < c.actions).
      ⊎_elim
      (λ (ht : t < c.states). held s a t ha ht ∙ listed_once ts once s a t)
      (λ (ht : c.states ≤ t). none (and_right (ltb a c.actions) (ltb t c.states) (le-ltb t c.states ht)) (λ w. omega (arith, w.1)))
      (cases_lt t c.states))
      (λ (ha : c.actions ≤ a). none (and_left (ltb a c.actions) (ltb t c.states) (le-ltb a c.actions ha)) (λ w. omega (arith, w.0)))
      (cases_lt a c.actions)
    where
      unguarded : (ltb a c.actions && ltb t c.states) ≡ false → held_transitions c.states c.actions ends sources s a t ≡ 0
      unguarded e = held_none c.states c.actions ends sources s a t e

      none : (ltb a c.actions && ltb t c.states) ≡ false → ((a < c.actions) × (t < c.states) → ⊥) → held_transitions c.states c.actions ends sources s a t ≡ cond (has (is_transition s a t) ts) 1 0
      none e never = unguarded e ∙ sym (ap {B = ℕ} (λ b. cond b 1 0) (outside (has (is_transition s a t) ts) ((a < c.actions) × (t < c.states)) (transition_within c ts ts_in s a t) never))

  pub table_is : held_lts c.states c.actions c.atoms ends sources gaps marks ≡ table_lts c ts us ps
  unfolding table_lts
  table_is =
      ap (λ (m : ℕ → ℕ → ℕ → ℕ). system m (λ s a. in_set c.states c.actions gaps s a) (λ p s. in_set c.states c.atoms marks s p))
      (fun_ext (λ s. fun_ext (λ a. fun_ext (λ t. transitions_are s a t)))) ∙
      ap (λ (d : ℕ → ℕ → Bool). system (λ s a t. cond (has (is_transition s a t) ts) 1 0) d (λ p s. in_set c.states c.atoms marks s p))
      (fun_ext (λ s. fun_ext (λ a. sets_are c.states c.actions gaps (λ s a. has (is_divergence s a) us) few_actions gap (divergence_within c us us_in) s a))) ∙
      ap (λ (h : ℕ → ℕ → Bool). system (λ s a t. cond (has (is_transition s a t) ts) 1 0) (λ s a. has (is_divergence s a) us) h)
      (fun_ext (λ p. fun_ext (λ s. sets_are c.states c.atoms marks (λ s i. has (is_label i s) ps) few_atoms mark (λ s i. label_within c ps ps_in i s) s p)))
    where
      system : (ℕ → ℕ → ℕ → ℕ) → (ℕ → ℕ → Bool) → (ℕ → ℕ → Bool) → Lts
      system m d h = record { states = c.states; actions = c.actions; atoms = c.atoms; transitions = m; divergent = d; holds = h }
