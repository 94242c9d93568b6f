-- Records within the counts of a flow text.
use Rattle.std.proofs.Common.{◌≡◌, ℕ, ◌+◌, ◌*◌, ◌<◌, ◌≤◌, Bool, true, ◌&&◌, eqb, ltb, leb, List, length, get_or, arith}
use Rattle.std.proofs.lemmas.Bool.{and_parts, and_from, ltb-true, leb-true, eqb-true, eq-eqb}
use Rattle.records.specs.declared.Counts.{Counts}
use Rattle.records.specs.declared.Transition.{Transition}
use Rattle.records.specs.declared.Divergence.{Divergence}
use Rattle.records.specs.declared.Label.{Label}
use Rattle.semantics.proofs.Bools.{same_bool}
use Rattle.table.specs.Records.{each, repeated, same_transition, counts_inside, transition_inside, divergence_inside, label_inside}
use Rattle.table.proofs.Listing.{each_at, repeated_eq}

pub counts_parts : (c : Counts) → counts_inside c ≡ true → (c.states ≤ 1024) × (1 ≤ c.actions) × (c.actions ≤ 64) × (c.atoms ≤ 64)
counts_parts c e =
    let states = ltb 0 c.states && leb c.states 1024 in
    let actions = ltb 0 c.actions && leb c.actions 64 in
    let p = and_parts (states && actions) (leb c.atoms 64) e in
    let q = and_parts states actions p.0 in
    let s = and_parts (ltb 0 c.states) (leb c.states 1024) q.0 in
    let a = and_parts (ltb 0 c.actions) (leb c.actions 64) q.1 in
    (leb-true c.states 1024 s.1, ltb-true 0 c.actions a.0, leb-true c.actions 64 a.1, leb-true c.atoms 64 p.1)

-- four tests in a row
pub four : (a b c d : Bool) → (a && b && c && d) ≡ true → (a ≡ true) × (b ≡ true) × (c ≡ true) × (d ≡ true)
four a b c d e =
    let p = and_parts (a && b && c) d e in
    let q = and_parts (a && b) c p.0 in
    let r = and_parts a b q.0 in
    (r.0, r.1, q.1, p.1)

-- the two numbers of a record are small

module _ (c : Counts) (few : counts_inside c ≡ true) where
  pub transitions_small : (ts : List Transition) → each (transition_inside c) ts ≡ true → (k : ℕ) (d : Transition) → k < length ts →
      ((get_or ts k d).source < 1024) × ((get_or ts k d).action * 1024 + (get_or ts k d).target < 65536) × ((get_or ts k d).target < 1024)
  transitions_small ts inside k d h =
      let x = get_or ts k d in
      let n = counts_parts c few in
      let p = and_parts (ltb x.source c.states && ltb x.action c.actions) (ltb x.target c.states) (each_at (transition_inside c) ts inside k d h) in
      let q = and_parts (ltb x.source c.states) (ltb x.action c.actions) p.0 in
      let s = ltb-true x.source c.states q.0 in
      let a = ltb-true x.action c.actions q.1 in
      let t = ltb-true x.target c.states p.1 in
      (omega (arith, n.0), omega (arith, n.0, n.2), omega (arith, n.0))

  pub divergences_small : (us : List Divergence) → each (divergence_inside c) us ≡ true → (k : ℕ) (d : Divergence) → k < length us → ((get_or us k d).state < 1024) × ((get_or us k d).action < 65536)
  divergences_small us inside k d h =
      let x = get_or us k d in
      let n = counts_parts c few in
      let p = and_parts (ltb x.state c.states) (ltb x.action c.actions) (each_at (divergence_inside c) us inside k d h) in
      (omega (arith, n.0, ltb-true x.state c.states p.0), omega (arith, n.2, ltb-true x.action c.actions p.1))

  pub labels_small : (ps : List Label) → each (label_inside c) ps ≡ true → (k : ℕ) (d : Label) → k < length ps → ((get_or ps k d).state < 1024) × ((get_or ps k d).atom < 65536)
  labels_small ps inside k d h =
      let x = get_or ps k d in
      let n = counts_parts c few in
      let p = and_parts (ltb x.atom c.atoms) (ltb x.state c.states) (each_at (label_inside c) ps inside k d h) in
      (omega (arith, n.0, ltb-true x.state c.states p.1), omega (arith, n.3, ltb-true x.atom c.atoms p.0))

  -- two transitions are the same where their two numbers are
  pub transitions_same : (ts : List Transition) → each (transition_inside c) ts ≡ true →
      repeated (λ x y. eqb x.source y.source && eqb (x.action * 1024 + x.target) (y.action * 1024 + y.target)) ts ≡ repeated same_transition ts
  transitions_same ts inside =
      repeated_eq (λ x y. eqb x.source y.source && eqb (x.action * 1024 + x.target) (y.action * 1024 + y.target)) same_transition ts
      (λ k j d hk hj. one_code (get_or ts k d) (get_or ts j d) (transitions_small ts inside k d hk).2 (transitions_small ts inside j d hj).2)
    where
      one_code : (x y : Transition) → x.target < 1024 → y.target < 1024 →
          (eqb x.source y.source && eqb (x.action * 1024 + x.target) (y.action * 1024 + y.target)) ≡ same_transition x y
      one_code x y hx hy = same_bool _ (same_transition x y)
          (λ e.
          let p = and_parts (eqb x.source y.source) (eqb (x.action * 1024 + x.target) (y.action * 1024 + y.target)) e in
          let q = eqb-true (x.action * 1024 + x.target) (y.action * 1024 + y.target) p.1 in
          let a : x.action ≡ y.action = omega arith in
          let t : x.target ≡ y.target = omega arith in
          and_from (eqb x.source y.source && eqb x.action y.action) (eqb x.target y.target)
          (and_from (eqb x.source y.source) (eqb x.action y.action) p.0 (eq-eqb x.action y.action a)) (eq-eqb x.target y.target t))
          (λ e.
          let p = and_parts (eqb x.source y.source && eqb x.action y.action) (eqb x.target y.target) e in
          let q = and_parts (eqb x.source y.source) (eqb x.action y.action) p.0 in
          let a = eqb-true x.action y.action q.1 in
          let t = eqb-true x.target y.target p.1 in
          and_from (eqb x.source y.source) (eqb (x.action * 1024 + x.target) (y.action * 1024 + y.target)) q.0
          (eq-eqb (x.action * 1024 + x.target) (y.action * 1024 + y.target) (omega arith)))
