-- Equations that describe a model characterise it.
use Rattle.std.proofs.Common.{◌≡◌, ℕ, zero, suc, ◌+◌, ◌*◌, ◌<◌, ◌≤◌, true, false, not, ◌||◌, ◌⊎◌, List, [], ◌++◌, length, Some, sym, refl, ap, ◌∙◌, subst, inl, inr, arith}
use Rattle.std.proofs.lemmas.Bool.{both_ways, not-true, not_from_false, and_parts, and_from, or_cases, or_left, or_right}
use Rattle.records.specs.declared.Fixpoint.TheVariants.{Greatest}
use Rattle.records.specs.declared.Form.{Form}
use Rattle.records.specs.declared.Form.TheVariants.{Atom, Or, And, Diamond, Box}
use Rattle.semantics.specs.declared.Equation.{Equation}
use Rattle.semantics.specs.Lts.{Lts, sum, on}
use Rattle.semantics.specs.Equations.{equation, nth, Marking, truth, true_at, rounds, solution}
use Rattle.semantics.specs.Plain.{among, well_formed, equation_of}
use Rattle.semantics.specs.Law.{Sound}
use Rattle.semantics.specs.Preorder.{Relation, Prebisimulation, fenced_by, Characterises}
use Rattle.semantics.proofs.Markings.{Names, Named}
use Rattle.semantics.proofs.Quantifiers.{some_step, step_some, every_step, step_every}
use Rattle.semantics.proofs.Fix.{iter, iter_closed}
use Rattle.semantics.proofs.Sides.{step, step_mono, prefixed_sound, solution_mark}
use Rattle.semantics.proofs.Kept.{well_formed_names}
use Rattle.semantics.proofs.Members.{In, in_one, in_left, in_right, in_cases}
use Rattle.semantics.proofs.Describes.{Part, fence, may, must, Disjunction, one, either, Conjunction, by_atom, by_diamond, by_box, by_and, Describes, Meets}
use Rattle.semantics.proofs.Parts.{meets_matches, matches_meets}

solution_sound : (F : Lts) (B : List Equation) → Named B → Sound F B [] (solution F Greatest B)
unfolding among
solution_sound F B names =
    let T = iter (step F Greatest B) (F.states * length B) in
    subst (λ (X : Marking). Sound F B [] X) (sym (solution_mark F Greatest B))
    (prefixed_sound F B [] T (record {
      pinned = λ s i l k q. absurd (both_ways false refl q);
      stepped = iter_closed F.states (length B) (step F Greatest B) (step_mono F Greatest B names);
    }))

at_equation : (F : Lts) (B : List Equation) (X : Marking) (s j : ℕ) (f : Form) (x y : ℕ) → nth B j ≡ equation f x y → true_at F B X s j ≡ truth F X s f x y
unfolding true_at
at_equation F B X s j f x y e = ap (λ (r : Equation). truth F X s r.form r.first r.second) e

-- What a sound marking has, it has with its parts

module _ (F : Lts) (B : List Equation) (n : ℕ) (names : Named B) (X : Marking) (sound : Sound F B [] X) where
  names_at : (j : ℕ) (f : Form) (x y : ℕ) → nth B j ≡ equation f x y → j < length B → Names (length B) f x y
  names_at j f x y e l = subst (λ (r : Equation). Names (length B) r.form r.first r.second) e (names j l)

  truth_of : (s j : ℕ) (f : Form) (x y : ℕ) → nth B j ≡ equation f x y → s < F.states → j < length B → X s j ≡ true → truth F X s f x y ≡ true
  truth_of s j f x y e l k q = sym (at_equation F B X s j f x y e) ∙ sound.supported s j l k q

  disjunct : (u : ℕ) (ts : List ℕ) → Disjunction B n u ts → (s : ℕ) → s < F.states → u < length B → X s u ≡ true → (t : ℕ) × In t ts × (X s t ≡ true)
  unfolding truth
  disjunct u ts (one l) s m k q = (u, inl refl, q)
  disjunct u ts (either {v = v} {w = w} {ts = vs} {us = ws} e d d') s m k q =
      let r = names_at u Or v w e k in
      go (disjunct v vs d s m r.0) (disjunct w ws d' s m r.1) (or_cases (X s v) (X s w) (truth_of s u Or v w e m k q))
    where
      go : (X s v ≡ true → (t : ℕ) × In t vs × (X s t ≡ true)) → (X s w ≡ true → (t : ℕ) × In t ws × (X s t ≡ true)) → (X s v ≡ true) ⊎ (X s w ≡ true) → (t : ℕ) × In t (vs ++ ws) × (X s t ≡ true)
      go f g (inl p) = let a = f p in (a.0, in_left a.0 vs ws a.1, a.2)
      go f g (inr p) = let a = g p in (a.0, in_right a.0 vs ws a.1, a.2)

  conjuncts : (j : ℕ) (ps : List Part) → Conjunction B n j ps → (s : ℕ) → s < F.states → j < length B → X s j ≡ true → (p : Part) → In p ps → Meets F (λ t t'. X t' t) s p
  unfolding truth
  conjuncts j ps (by_atom {i = i} e) s m k q p x =
      subst (λ (p : Part). Meets F (λ t t'. X t' t) s p) (sym (in_one p (fence i) x)) (truth_of s j Atom i 0 e m k q)
  conjuncts j ps (by_diamond {a = a} {t = t} e l) s m k q p x =
      subst (λ (p : Part). Meets F (λ t t'. X t' t) s p) (sym (in_one p (may a t) x))
      (some_step F.states (F.transitions s a) (λ t'. X t' t) (truth_of s j Diamond a t e m k q))
  conjuncts j ps (by_box {a = a} {u = u} {ts = ts} e d) s m k q p x =
      let r = and_parts (not (F.divergent s a)) _ (truth_of s j Box a u e m k q) in
      subst (λ (p : Part). Meets F (λ t t'. X t' t) s p) (sym (in_one p (must a ts) x))
      (not-true (F.divergent s a) r.0, λ t' l h. disjunct u ts d t' l (names_at j Box a u e k) (every_step F.states (F.transitions s a) (λ t'. X t' u) r.1 t' l h))
  conjuncts j ps (by_and {k = v} {l = w} {ps = vs} {qs = ws} e c c') s m k q p x =
      let r = names_at j And v w e k in
      let b = and_parts (X s v) (X s w) (truth_of s j And v w e m k q) in
      go (conjuncts v vs c s m r.0 b.0 p) (conjuncts w ws c' s m r.1 b.1 p) (in_cases p vs ws x)
    where
      go : (In p vs → Meets F (λ t t'. X t' t) s p) → (In p ws → Meets F (λ t t'. X t' t) s p) → In p vs ⊎ In p ws → Meets F (λ t t'. X t' t) s p
      go f g (inl y) = f y
      go f g (inr y) = g y

-- Whatever meets the parts of a variable has it in every round

module _ (F : Lts) (B : List Equation) (n : ℕ) (R : Relation)
    (states : (s s' : ℕ) → s < n → s' < F.states → R s s' ≡ true → (ps : List Part) × Conjunction B n s ps × ((p : Part) → In p ps → Meets F R s' p)) where
  -- the marking after k rounds has the conjunctions, and the disjunctions
  abbrev Conjoined : Marking → Type 0
  Conjoined X = (j : ℕ) (ps : List Part) → Conjunction B n j ps → (s : ℕ) → s < F.states → ((p : Part) → In p ps → Meets F R s p) → X s j ≡ true

  abbrev Disjoined : Marking → Type 0
  Disjoined X = (u : ℕ) (ts : List ℕ) → Disjunction B n u ts → (s : ℕ) → s < F.states → (t : ℕ) → In t ts → R t s ≡ true → X s u ≡ true

  state_in : (X : Marking) → Conjoined X → (t s : ℕ) → t < n → s < F.states → R t s ≡ true → X s t ≡ true
  state_in X c t s l m r = let a = states t s l m r in c t a.0 a.1 s m a.2

  conjoined_next : (X : Marking) → Conjoined X → Disjoined X → Conjoined (true_at F B X)
  unfolding truth
  conjoined_next X c d j ps (by_atom {i = i} e) s m h = at_equation F B X s j Atom i 0 e ∙ h (fence i) (inl refl)
  conjoined_next X c d j ps (by_diamond {a = a} {t = t} e l) s m h =
      let q = h (may a t) (inl refl) in
      at_equation F B X s j Diamond a t e ∙ step_some F.states (F.transitions s a) (λ t'. X t' t) q.0 q.1 q.2 (state_in X c t q.0 l q.1 q.3)
  conjoined_next X c d j ps (by_box {a = a} {u = u} {ts = ts} e g) s m h =
      let q = h (must a ts) (inl refl) in
      at_equation F B X s j Box a u e ∙ and_from (not (F.divergent s a)) _ (not_from_false (F.divergent s a) q.0)
      (step_every F.states (F.transitions s a) (λ t'. X t' u) (λ t' l p. let r = q.1 t' l p in d u ts g t' l r.0 r.1 r.2))
  conjoined_next X c d j ps (by_and {k = v} {l = w} {ps = vs} {qs = ws} e f g) s m h =
      at_equation F B X s j And v w e ∙ and_from (X s v) (X s w) (c v vs f s m (λ p y. h p (in_left p vs ws y))) (c w ws g s m (λ p y. h p (in_right p vs ws y)))

  disjoined_next : (X : Marking) → Disjoined X → Conjoined (true_at F B X) → Disjoined (true_at F B X)
  unfolding truth
  disjoined_next X d c u ts (one l) s m t x r = state_in (true_at F B X) c u s l m (subst (λ (t : ℕ). R t s ≡ true) (in_one t u x) r)
  disjoined_next X d c u ts (either {v = v} {w = w} {ts = vs} {us = ws} e f g) s m t x r = at_equation F B X s u Or v w e ∙ go (in_cases t vs ws x)
    where
      go : In t vs ⊎ In t ws → (X s v || X s w) ≡ true
      go (inl y) = or_left (X s v) (X s w) (d v vs f s m t y r)
      go (inr y) = or_right (X s v) (X s w) (d w ws g s m t y r)

  in_rounds : (k : ℕ) → Conjoined (rounds F B (λ s i. true) k) × Disjoined (rounds F B (λ s i. true) k)
  unfolding rounds
  in_rounds zero = (λ j ps c s m h. refl, λ u ts d s m t x r. refl)
  in_rounds (suc k) =
      let X = rounds F B (λ s i. true) k in
      let h = in_rounds k in
      let c = conjoined_next X h.0 h.1 in
      (c, disjoined_next X h.1 c)

  state_solved : (t s : ℕ) → t < n → s < F.states → R t s ≡ true → solution F Greatest B s t ≡ true
  unfolding solution
  state_solved t s l m r = state_in (rounds F B (λ s i. true) (F.states * length B)) (in_rounds (F.states * length B)).0 t s l m r

pub characterises : (M : Lts) (B : List Equation) → M.states ≤ length B → length B ≤ M.states + 4 * sum M.actions (on M) →
    ((i : ℕ) → i < length B → well_formed (fenced_by M M) (length B) (Some (nth B i).form) (nth B i).first (nth B i).second ≡ true) →
    Describes M B → Characterises M B
unfolding equation_of
characterises M B variables bound names D = record {
  variables = variables;
  bound = bound;
  formed = names;
  solves = λ C same s s' l k. (
    λ e. record { relation = R C; prebisimulation = simulates C same; relates = e },
    λ r. state_solved (fenced_by M C) B M.states r.relation (met C same r.relation r.prebisimulation) s s' l k r.relates,
  );
}
  where
    R : Lts → Relation
    R C t t' = solution (fenced_by M C) Greatest B t' t

    names_B : Named B
    names_B i l = well_formed_names (fenced_by M M) (length B) (Some (nth B i).form) (nth B i).first (nth B i).second (names i l)

    simulates : (C : Lts) → C.actions ≡ M.actions → Prebisimulation M C (R C)
    simulates C same = record {
      matched_at = λ t t' l k r.
          let F = fenced_by M C in
          let a = D t l in
          meets_matches M C same t a.0 a.2 (R C) t'
          (conjuncts F B M.states names_B (solution F Greatest B) (solution_sound F B names_B) t a.0 a.1 t' k (omega arith) r);
    }

    met : (C : Lts) → C.actions ≡ M.actions → (Q : Relation) → Prebisimulation M C Q → (t t' : ℕ) → t < M.states → t' < C.states → Q t t' ≡ true →
        (ps : List Part) × Conjunction B M.states t ps × ((p : Part) → In p ps → Meets (fenced_by M C) Q t' p)
    met C same Q P t t' l k q = let a = D t l in (a.0, a.1, matches_meets M C same t a.0 a.2 Q t' (P.matched_at t t' l k q))
