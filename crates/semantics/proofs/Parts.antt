-- A state meets every part of state i's formula just where it matches state i.
use Rattle.std.proofs.Common.{◌≡◌, ℕ, ◌<◌, true, false, not, ◌||◌, ltb, ◌⊎◌, List, sym, subst, inl, inr, arith}
use Rattle.std.proofs.lemmas.Bool.{both_ways, or_cases, or_left, or_right, lt-ltb, ltb-true, cases_Bool}
use Rattle.semantics.specs.Lts.{Lts, some, active}
use Rattle.semantics.specs.Preorder.{Relation, Matches, fenced_by}
use Rattle.semantics.proofs.Everywhere.{every_at, every_from, some_at, some_from}
use Rattle.semantics.proofs.Bools.{false_by, unless, unless_at}
use Rattle.semantics.proofs.Members.{In}
use Rattle.semantics.proofs.Describes.{Part, fence, may, must, Right, Parts, Meets}

-- What it is to be active

pub active_divergent : (F : Lts) (s a : ℕ) → F.divergent s a ≡ true → active F s a ≡ true
unfolding active
active_divergent F s a e = or_left (F.divergent s a) _ e

pub active_step : (F : Lts) (s a t : ℕ) → t < F.states → 0 < F.transitions s a t → active F s a ≡ true
unfolding active
active_step F s a t l h = or_right (F.divergent s a) _ (some_from F.states t (λ t. ltb 0 (F.transitions s a t)) l (lt-ltb 0 (F.transitions s a t) h))

pub active_cases : (F : Lts) (s a : ℕ) → active F s a ≡ true → (F.divergent s a ≡ true) ⊎ ((t : ℕ) × (t < F.states) × (0 < F.transitions s a t))
unfolding active
active_cases F s a e = go (or_cases (F.divergent s a) _ e)
  where
    go : (F.divergent s a ≡ true) ⊎ (some F.states (λ t. ltb 0 (F.transitions s a t)) ≡ true) → (F.divergent s a ≡ true) ⊎ ((t : ℕ) × (t < F.states) × (0 < F.transitions s a t))
    go (inl q) = inl q
    go (inr q) = let b = some_at F.states (λ t. ltb 0 (F.transitions s a t)) q in inr (b.0, b.1, ltb-true 0 (F.transitions s a b.0) b.2)

-- the step of a state that is active and not divergent
step_of : (F : Lts) (s a : ℕ) → F.divergent s a ≡ false → active F s a ≡ true → (t : ℕ) × (t < F.states) × (0 < F.transitions s a t)
step_of F s a e h = go (active_cases F s a h)
  where
    go : (F.divergent s a ≡ true) ⊎ ((t : ℕ) × (t < F.states) × (0 < F.transitions s a t)) → (t : ℕ) × (t < F.states) × (0 < F.transitions s a t)
    go (inl q) = absurd (both_ways (F.divergent s a) e q)
    go (inr q) = q

module _ (M C : Lts) (same : C.actions ≡ M.actions) (i : ℕ) (ps : List Part) (P : Parts M i ps) (R : Relation) (s' : ℕ) where
  pub meets_matches : ((p : Part) → In p ps → Meets (fenced_by M C) R s' p) → Matches M C R i s'
  meets_matches h = record {
    forth = λ a l t k p. h (may a t) (P.mays a t l k p);
    defined = λ a l e. false_by (C.divergent s' a) (λ q. both_ways (C.divergent s' a) (box a l e (active_divergent C s' a q)).2.0 q);
    back = λ a l e t' k p.
        let b = box a l e (active_step C s' a t' k p) in
        let q = b.2.1 t' k p in
        let r = ((P.right (must a b.0) b.1).2 q.0).0 q.1 in
        (q.0, r.0, r.1, q.2);
  }
    where
      -- the box on an action on which s' is active and state i is defined
      box : (a : ℕ) → a < M.actions → M.divergent i a ≡ false → active C s' a ≡ true → (ts : List ℕ) × In (must a ts) ps × Meets (fenced_by M C) R s' (must a ts)
      box a l e q =
          let m : active M i a ≡ true = unless_at (active C s' a) (active M i a) (every_at C.actions (λ a. not (active C s' a) || active M i a) (h (fence i) P.fences) a (omega arith)) q in
          let t = step_of M i a e m in
          let b = P.musts a t.0 l e t.1 t.2 in
          (b.0, b.1, h (must a b.0) b.1)

  pub matches_meets : Matches M C R i s' → (p : Part) → In p ps → Meets (fenced_by M C) R s' p
  matches_meets h p x = each p (P.right p x)
    where
      -- an action on which s' is active
      inside : (a : ℕ) → a < M.actions → active C s' a ≡ true → active M i a ≡ true
      inside a l q = go (cases_Bool (M.divergent i a)) (active_cases C s' a q)
        where
          go : (M.divergent i a ≡ true) ⊎ (M.divergent i a ≡ false) → (C.divergent s' a ≡ true) ⊎ ((t : ℕ) × (t < C.states) × (0 < C.transitions s' a t)) → active M i a ≡ true
          go (inl e) x = active_divergent M i a e
          go (inr e) (inl d) = absurd (both_ways (C.divergent s' a) (h.defined a l e) d)
          go (inr e) (inr t) = let b = h.back a l e t.0 t.1 t.2 in active_step M i a b.0 b.1 b.2

      fences : Meets (fenced_by M C) R s' (fence i)
      fences = every_from C.actions (λ a. not (active C s' a) || active M i a) (λ a l. unless (active C s' a) (active M i a) (inside a (omega arith)))

      each : (p : Part) → Right M i p → Meets (fenced_by M C) R s' p
      each (fence j) r = subst (λ (j : ℕ). Meets (fenced_by M C) R s' (fence j)) (sym r) fences
      each (may a t) r = h.forth a r.0 t r.1 r.2
      each (must a ts) r = (
        h.defined a r.0 r.1,
        λ t' k p. let b = h.back a r.0 r.1 t' k p in (b.0, (r.2 b.0).1 (b.1, b.2), b.3),
      )
