-- The rounds give the largest prebisimulation.
use Rattle.std.proofs.Common.{◌≡◌, ℕ, zero, suc, ◌*◌, ◌<◌, Bool, true, false, not, ◌&&◌, ◌||◌, sym, refl, ap, ◌∙◌}
use mathlib.Core.Path.{fun_ext}
use Rattle.std.proofs.lemmas.Bool.{both_ways, not-true, not_from_false, and_parts, and_from}
use Rattle.semantics.specs.Lts.{Lts}
use Rattle.semantics.specs.Preorder.{Relation, Follows, Matches, Prebisimulation, follows, matches, matched, related, RelatedByRounds}
use Rattle.semantics.proofs.Everywhere.{every_at, every_from}
use Rattle.semantics.proofs.Markings.{Le}
use Rattle.semantics.proofs.Quantifiers.{some_step, step_some, every_step, step_every}
use Rattle.semantics.proofs.Bools.{true_by, not_by, not_not, or_second}
use Rattle.semantics.proofs.Fix.{iter, iter_closed}

follows_to : (M C : Lts) (R : Relation) (a s s' : ℕ) → follows M C R a s s' ≡ true → Follows M C R a s s'
unfolding follows
follows_to M C R a s s' e t k h = some_step C.states (C.transitions s' a) (R t) (every_step M.states (M.transitions s a) _ e t k h)

follows_from : (M C : Lts) (R : Relation) (a s s' : ℕ) → Follows M C R a s s' → follows M C R a s s' ≡ true
unfolding follows
follows_from M C R a s s' f =
    step_every M.states (M.transitions s a) _ (λ t k h. let q = f t k h in step_some C.states (C.transitions s' a) (R t) q.0 q.1 q.2 q.3)

module _ (M C : Lts) where
  abbrev turned : Relation → Relation
  turned R t' t = R t t'

  matches_to : (R : Relation) (s s' : ℕ) → matches M C R s s' ≡ true → Matches M C R s s'
  unfolding matches
  matches_to R s s' e = record {
    forth = λ a l. follows_to M C R a s s' (on_action a l).0;
    defined = λ a l h. not-true (C.divergent s' a) (where_defined a l h).0;
    back = λ a l h. follows_to C M (turned R) a s' s (where_defined a l h).1;
  }
    where
      on_action : (a : ℕ) → a < M.actions → (follows M C R a s s' ≡ true) × ((M.divergent s a || (not (C.divergent s' a) && follows C M (turned R) a s' s)) ≡ true)
      on_action a l = and_parts _ _ (every_at M.actions _ e a l)

      where_defined : (a : ℕ) → a < M.actions → M.divergent s a ≡ false → (not (C.divergent s' a) ≡ true) × (follows C M (turned R) a s' s ≡ true)
      where_defined a l h = and_parts _ _ (or_second (M.divergent s a) _ h (on_action a l).1)

  matches_from : (R : Relation) (s s' : ℕ) → Matches M C R s s' → matches M C R s s' ≡ true
  unfolding matches
  matches_from R s s' h = every_from M.actions _ (λ a l. and_from (follows M C R a s s') _ (follows_from M C R a s s' (h.forth a l)) (defined a l (M.divergent s a) refl))
    where
      defined : (a : ℕ) → a < M.actions → (d : Bool) → M.divergent s a ≡ d → (d || (not (C.divergent s' a) && follows C M (turned R) a s' s)) ≡ true
      defined a l true e = refl
      defined a l false e =
          and_from (not (C.divergent s' a)) (follows C M (turned R) a s' s) (not_from_false (C.divergent s' a) (h.defined a l e)) (follows_from C M (turned R) a s' s (h.back a l e))

  -- a larger relation is met where a smaller one is
  matches_more : (R Q : Relation) → Le M.states C.states R Q → (s s' : ℕ) → Matches M C R s s' → Matches M C Q s s'
  matches_more R Q le s s' h = record {
    forth = λ a l t k p. let q = h.forth a l t k p in (q.0, q.1, q.2, le t q.0 k q.1 q.3);
    defined = h.defined;
    back = λ a l e t' k p. let q = h.back a l e t' k p in (q.0, q.1, q.2, le q.0 t' q.1 k q.3);
  }

  -- Rounds

  inverse : Relation → Relation
  inverse T s s' = not (T s s')

  fails : Relation → Relation
  unfolding inverse
  fails T s s' = not (matches M C (inverse T) s s')

  fails_mono : (X Y : Relation) → Le M.states C.states X Y → Le M.states C.states (fails X) (fails Y)
  unfolding fails inverse
  fails_mono X Y h s s' l k e =
      not_by (matches M C (inverse Y) s s') (λ q.
      both_ways (matches M C (inverse X) s s') (not-true _ e)
      (matches_from (inverse X) s s' (matches_more (inverse Y) (inverse X) (λ t t' m j p. not_by (X t t') (λ x. both_ways (Y t t') (not-true _ p) (h t t' m j x))) s s' (matches_to (inverse Y) s s' q))))

  matched_iter : (k : ℕ) → matched M C k ≡ inverse (iter fails k)
  unfolding matched iter fails inverse
  matched_iter zero = refl
  matched_iter (suc k) = ap (matches M C) (matched_iter k) ∙ fun_ext (λ s. fun_ext (λ s'. sym (not_not (matches M C (inverse (iter fails k)) s s'))))

  last_round : (R : Relation) → R ≡ inverse (iter fails (M.states * C.states)) → Prebisimulation M C R
  unfolding fails inverse
  last_round R e = record { matched_at = at_pair }
    where
      T : Relation
      T = iter fails (M.states * C.states)

      at_pair : (s s' : ℕ) → s < M.states → s' < C.states → R s s' ≡ true → Matches M C R s s'
      at_pair s s' l k r =
          let f : T s s' ≡ false = not-true (T s s') (ap (λ (Q : Relation). Q s s') (sym e) ∙ r) in
          let m : matches M C (inverse T) s s' ≡ true =
          true_by (matches M C (inverse T) s s') (λ q. both_ways (T s s') f (iter_closed M.states C.states fails fails_mono s s' l k (not_from_false _ q))) in
          matches_to R s s' (ap (λ (Q : Relation). matches M C Q s s') e ∙ m)

  pub related_matches : Prebisimulation M C (related M C)
  unfolding related
  related_matches = last_round (related M C) (matched_iter (M.states * C.states))

  -- every prebisimulation lies within every round
  within_round : (R : Relation) → Prebisimulation M C R → (k : ℕ) → Le M.states C.states R (matched M C k)
  unfolding matched
  within_round R h zero = λ s s' l m r. refl
  within_round R h (suc k) = λ s s' l m r. matches_from (matched M C k) s s' (matches_more R (matched M C k) (within_round R h k) s s' (h.matched_at s s' l m r))

pub related_by_rounds : RelatedByRounds
unfolding related
related_by_rounds M C s s' l k = (
  λ e. record { relation = related M C; prebisimulation = related_matches M C; relates = e },
  λ r. within_round M C r.relation r.prebisimulation (M.states * C.states) s s' l k r.relates,
)
