-- A fenced source's answers show its meaning.
use Rattle.std.specs.Prelude.{◌≡◌, ℕ, ◌<◌, ◌≤◌, Bool, true, not, ◌&&◌, ◌||◌, List, length, nat_lt}
use Rattle.std.proofs.Math.Path.{refl, ap, ap₂}
use Rattle.std.proofs.Common.{sym, ◌∙◌, arith}
use Rattle.std.proofs.lemmas.Bool.{and_parts, ltb-true}
use Rattle.semantics.specs.Lts.{Lts, every, into, out_of, on, all, active}
use Rattle.semantics.proofs.Degrees.{always_balanced}
use Rattle.semantics.proofs.Everywhere.{every_eq, some_sum}
use Rattle.lts.specs.Source.{Answers, Predecessors, Shows}
use Rattle.lts.specs.declared.sets.SmallSet.{SmallSet}
use Rattle.fenced.specs.Fenced.{fenced_lts, fenced_holds, set_at}
use Rattle.fenced.specs.FencedAnswers.{fenced_answers, keeps}

module _ (A : Answers) (F : Lts) (sets : List SmallSet) (sA : Shows A F) where
  abbrev J : Lts
  J = fenced_lts F (length sets) (set_at sets)

  active_is : (s a : ℕ) → (A.divergent s a || nat_lt 0 (A.out_degree s a)) ≡ active F s a
  unfolding active out_of
  active_is s a =
      ap₂ (λ (d : Bool) (o : ℕ). d || nat_lt 0 o) (sA.divergent s a) (sA.out_degree s a) ∙
      ap (λ (b : Bool). F.divergent s a || b) (sym (some_sum F.states (λ t. F.transitions s a t)))

  holds_is : (i s : ℕ) → (fenced_answers A sets).holds i s ≡ J.holds i s
  unfolding fenced_holds
  holds_is i s =
      let set = set_at sets i in
      ap₂ (λ (m n : ℕ). nat_lt i (length sets) && (nat_lt s m && every n (keeps A set s))) sA.states sA.actions ∙
      ap (λ (b : Bool). nat_lt i (length sets) && (nat_lt s F.states && b))
      (every_eq F.actions (keeps A set s) (λ a. not (active F s a) || set a) (λ a. ap (λ (b : Bool). not b || set a) (active_is s a)))

  holds_inside : (i s : ℕ) → J.holds i s ≡ true → (i < length sets) × (s < F.states)
  unfolding fenced_holds
  holds_inside i s e =
      let d = and_parts (nat_lt i (length sets)) _ e in
      let h = and_parts (nat_lt s F.states) _ d.1 in
      (ltb-true i (length sets) d.0, ltb-true s F.states h.0)

  out_same : (s a : ℕ) → out_of F s a ≡ out_of J s a
  unfolding out_of
  out_same s a = refl

  in_same : (t a : ℕ) → into F t a ≡ into J t a
  unfolding into
  in_same t a = refl

  on_same : (a : ℕ) → on F a ≡ on J a
  unfolding on into
  on_same a = refl

  all_same : all F ≡ all J
  unfolding all on into
  all_same = refl

  names_same : Predecessors J A.predecessor
  unfolding into
  names_same = record { there = sA.predecessor.there; times = sA.predecessor.times }

  pub fenced_shows : length sets ≤ 64 → Shows (fenced_answers A sets) J
  fenced_shows few = record {
    states = sA.states;
    actions = sA.actions;
    atoms = refl;
    divergent = sA.divergent;
    holds = holds_is;
    out_degree = λ s a. sA.out_degree s a ∙ out_same s a;
    in_degree = λ t a. sA.in_degree t a ∙ in_same t a;
    transitions = λ a. sA.transitions a ∙ on_same a;
    predecessor = names_same;
    bounded = record {
      few_states = sA.bounded.few_states;
      some_action = sA.bounded.some_action;
      few_actions = sA.bounded.few_actions;
      few_atoms = few;
      few_transitions = omega (arith, all_same, sA.bounded.few_transitions);
      transitions_within = sA.bounded.transitions_within;
      divergent_within = sA.bounded.divergent_within;
      holds_within = holds_inside;
    };
    balanced = always_balanced J;
  }
