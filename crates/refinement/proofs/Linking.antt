-- The links lead to each place that names a variable.
use Rattle.std.proofs.Common.{◌≡◌, ℕ, zero, suc, ◌+◌, ◌*◌, ◌/◌, ◌<◌, ◌≤◌, Bool, true, false, eqb, ◌⊎◌, List, [], ◌∷◌, ◌++◌, length, get_or, set, replicate, sym, refl, ap, ◌∙◌, subst, inl, inr, arith, length-set}
use lib.ListN.{length-replicate, get_or-replicate}
use Rattle.std.proofs.lemmas.Bool.{eqb-true, cases_lt, cond_both, both_ways, and_parts, and_left, and_right}
use Rattle.std.proofs.lemmas.List.{get_or_append_left, get_or_push, length_push}
use Rattle.board.specs.Each.{each}
use Rattle.board.specs.Links.{Links, is_first, link, linked, names, variable, variable?}
use Rattle.refinement.proofs.Tables.{get_d_set}
use Rattle.semantics.specs.Equations.{nth}
use Rattle.semantics.specs.declared.Equation.{Equation}

-- q is 1 + the last place below k that names v, or 0
pub record Last (B : List Equation) (v q k : ℕ) : Type 0 where
  pub low : q ≤ k
  pub none : (p : ℕ) → q ≤ p → p < k → names B p v ≡ false
  pub here : (p : ℕ) → q ≡ suc p → names B p v ≡ true

-- the links of the places below k
pub record Linked (B : List Equation) (k : ℕ) (ls : Links) : Type 0 where
  pub wide : length ls.head ≡ length B
  pub long : length ls.next ≡ k
  pub heads : (v : ℕ) → v < length B → Last B v (get_or ls.head v 0) k
  pub nexts : (v p : ℕ) → p < k → names B p v ≡ true → Last B v (get_or ls.next p 0) p

-- every variable that the equations name is one of theirs
abbrev pub Within : List Equation → Type 0
Within B = (p : ℕ) → p < 2 * length B → variable? (nth B (p / 2)) (is_first p) ≡ true → variable (nth B (p / 2)) (is_first p) < length B

module _ (B : List Equation) where
  last_here : (v k : ℕ) → names B k v ≡ true → Last B v (k + 1) (k + 1)
  last_here v k e = record { low = omega arith; none = λ p a b. absurd (omega arith); here = λ p f. let g : k ≡ p = omega arith in ap (λ (p : ℕ). names B p v) (sym g) ∙ e }

  last_skip : (v q k : ℕ) → names B k v ≡ false → Last B v q k → Last B v q (k + 1)
  last_skip v q k e h = record { low = let a = h.low in omega arith; none = λ p a b. go p a (cases_lt p k) b; here = h.here }
    where
      go : (p : ℕ) → q ≤ p → (p < k) ⊎ (k ≤ p) → p < k + 1 → names B p v ≡ false
      go p a (inl l) b = h.none p a l
      go p a (inr l) b = let g : k ≡ p = omega arith in ap (λ (p : ℕ). names B p v) (sym g) ∙ e

  -- one place more
  linked_more : (k : ℕ) (ls : Links) → (variable? (nth B (k / 2)) (is_first k) ≡ true → variable (nth B (k / 2)) (is_first k) < length B) →
      Linked B k ls → Linked B (k + 1) (link (nth B (k / 2)) (is_first k) k ls)
  unfolding names
  linked_more k ls fits h = cond_both (variable? r first) yes_links no_links (Linked B (k + 1)) yes no
    where
      r : Equation
      r = nth B (k / 2)

      first : Bool
      first = is_first k

      w : ℕ
      w = variable r first

      yes_links : Links
      yes_links = record { head = set ls.head w (k + 1); next = ls.next ++ (get_or ls.head w 0 ∷ []) }

      no_links : Links
      no_links = record { head = ls.head; next = ls.next ++ (0 ∷ []) }

      old_next : (x v p : ℕ) → p < k → names B p v ≡ true → Last B v (get_or (ls.next ++ (x ∷ [])) p 0) p
      old_next x v p l e = subst (λ (q : ℕ). Last B v q p) (sym (get_or_append_left ls.next (x ∷ []) 0 p (let a = h.long in omega arith))) (h.nexts v p l e)

      yes : variable? r first ≡ true → Linked B (k + 1) yes_links
      yes e =
          record {
            wide = length-set ls.head w (k + 1) ∙ h.wide;
            long = length_push ls.next (get_or ls.head w 0) ∙ ap (λ (x : ℕ). x + 1) h.long;
            heads = λ v l. subst (λ (q : ℕ). Last B v q (k + 1)) (sym (get_d_set ls.head w v (k + 1) 0 (let a = h.wide in let b = fits e in omega arith))) (cond_both (eqb w v) (k + 1) (get_or ls.head v 0) (λ (q : ℕ). Last B v q (k + 1)) (λ f. last_here v k (rw e f)) (λ f. last_skip v (get_or ls.head v 0) k (and_right (variable? r first) (eqb w v) f) (h.heads v l)));
            nexts = λ v p l f. go v p f (cases_lt p k) l;
          }
        where
          new : (v : ℕ) → names B k v ≡ true → Last B v (get_or (ls.next ++ (get_or ls.head w 0 ∷ [])) k 0) k
          new v f =
              let p = and_parts (variable? r first) (eqb w v) f in
              let g : w ≡ v = eqb-true w v p.1 in
              subst (λ (q : ℕ). Last B v q k) (sym (get_or_push ls.next (get_or ls.head w 0) 0 k h.long)) (subst (λ (v : ℕ). Last B v (get_or ls.head w 0) k) g (h.heads w (fits e)))

          go : (v p : ℕ) → names B p v ≡ true → (p < k) ⊎ (k ≤ p) → p < k + 1 → Last B v (get_or (ls.next ++ (get_or ls.head w 0 ∷ [])) p 0) p
          go v p f (inl l) b = old_next (get_or ls.head w 0) v p l f
          go v p f (inr l) b =
              let g : k ≡ p = omega arith in
              subst (λ (p : ℕ). names B p v ≡ true → Last B v (get_or (ls.next ++ (get_or ls.head w 0 ∷ [])) p 0) p) g (new v) f

      no : variable? r first ≡ false → Linked B (k + 1) no_links
      no e =
          record {
            wide = h.wide;
            long = length_push ls.next 0 ∙ ap (λ (x : ℕ). x + 1) h.long;
            heads = λ v l. last_skip v (get_or ls.head v 0) k (and_left (variable? r first) (eqb w v) e) (h.heads v l);
            nexts = λ v p l f. go v p f (cases_lt p k) l;
          }
        where
          go : (v p : ℕ) → names B p v ≡ true → (p < k) ⊎ (k ≤ p) → p < k + 1 → Last B v (get_or (ls.next ++ (0 ∷ [])) p 0) p
          go v p f (inl l) b = old_next 0 v p l f
          go v p f (inr l) b =
              let g : k ≡ p = omega arith in
              absurd (subst (λ (p : ℕ). names B p v ≡ true → ⊥) g (λ f. both_ways (names B k v) (and_left (variable? r first) (eqb w v) e) f) f)

  pub linked_right : Within B → Linked B (2 * length B) (linked B)
  unfolding linked each
  linked_right within = go (2 * length B) (omega arith)
    where
      none : Links
      none = record { head = replicate (length B) 0; next = [] }

      go : (k : ℕ) → k ≤ 2 * length B → Linked B k (each k (λ p. link (nth B (p / 2)) (is_first p) p) none)
      go zero l =
          record {
            wide = length-replicate (length B) 0;
            long = refl;
            heads = λ v m. subst (λ (q : ℕ). Last B v q 0) (sym (get_or-replicate (length B) v 0 0 m)) (record { low = omega arith; none = λ p a b. absurd (omega arith); here = λ p f. absurd (omega arith) });
            nexts = λ v p m f. absurd (omega arith);
          }
      go (suc k) l =
          let ls = each k (λ p. link (nth B (p / 2)) (is_first p) p) none in
          subst (λ (m : ℕ). Linked B m (link (nth B (k / 2)) (is_first k) k ls)) (omega arith) (linked_more k ls (within k (omega arith)) (go k (omega arith)))
