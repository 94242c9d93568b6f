-- Prebisimulation is a preorder.
use Rattle.std.proofs.Common.{◌≡◌, ℕ, ◌<◌, true, ◌&&◌, eqb, refl, subst, arith}
use Rattle.std.proofs.lemmas.Bool.{eqb-true, eq-eqb, and_parts, and_from}
use Rattle.semantics.specs.Lts.{Lts, some}
use Rattle.semantics.specs.Preorder.{Relation, Matches, Prebisimulation, IsPreorder}
use Rattle.semantics.proofs.Everywhere.{some_at, some_from}

same_matches : (M : Lts) (s : ℕ) → Matches M M eqb s s
same_matches M s = record {
  forth = λ a l t k p. (t, k, p, eq-eqb t t refl);
  defined = λ a l e. e;
  back = λ a l e t k p. (t, k, p, eq-eqb t t refl);
}

same : (M : Lts) → Prebisimulation M M eqb
same M = record { matched_at = λ s s' l k e. subst (λ (u : ℕ). Matches M M eqb s u) (eqb-true s s' e) (same_matches M s) }

-- through some state of C
unfoldable through : Lts → Relation → Relation → Relation
through C R Q s s'' = some C.states (λ s'. R s s' && Q s' s'')

through_from : (C : Lts) (R Q : Relation) (s s' s'' : ℕ) → s' < C.states → R s s' ≡ true → Q s' s'' ≡ true → through C R Q s s'' ≡ true
unfolding through
through_from C R Q s s' s'' l r q = some_from C.states s' (λ s'. R s s' && Q s' s'') l (and_from (R s s') (Q s' s'') r q)

compose_at : (M C D : Lts) (R Q : Relation) → C.actions ≡ M.actions → Prebisimulation M C R → Prebisimulation C D Q →
    (s s'' : ℕ) → s < M.states → s'' < D.states → through C R Q s s'' ≡ true → Matches M D (through C R Q) s s''
unfolding through
compose_at M C D R Q same P N s s'' l m e =
    let b = some_at C.states (λ s'. R s s' && Q s' s'') e in
    let c = and_parts (R s b.0) (Q b.0 s'') b.2 in
    let p = P.matched_at s b.0 l b.1 c.0 in
    let q = N.matched_at b.0 s'' b.1 m c.1 in
    record {
      forth = λ a i t k h.
          let x = p.forth a i t k h in
          let y = q.forth a (omega arith) x.0 x.1 x.2 in
          (y.0, y.1, y.2, through_from C R Q t x.0 y.0 x.1 x.3 y.3);
      defined = λ a i h. q.defined a (omega arith) (p.defined a i h);
      back = λ a i h t k j.
          let x = q.back a (omega arith) (p.defined a i h) t k j in
          let y = p.back a i h x.0 x.1 x.2 in
          (y.0, y.1, y.2, through_from C R Q y.0 x.0 t x.1 y.3 x.3);
    }

pub is_preorder : IsPreorder
is_preorder = record {
  reflexive = λ M s. record { relation = eqb; prebisimulation = same M; relates = eq-eqb s s refl };
  transitive = λ M C D s s' s'' e l r q. record {
    relation = through C r.relation q.relation;
    prebisimulation = record { matched_at = compose_at M C D r.relation q.relation e r.prebisimulation q.prebisimulation };
    relates = through_from C r.relation q.relation s s' s'' l r.relates q.relates;
  };
}
