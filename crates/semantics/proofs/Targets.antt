-- The parts that the characteristic equations have are those of the state's formula, and how many they are.
use Rattle.std.proofs.Common.{◌≡◌, ℕ, zero, suc, ◌+◌, ◌*◌, ◌<◌, ◌≤◌, Bool, true, false, ltb, ◌⊎◌, List, [], ◌∷◌, ◌++◌, length, sym, refl, ap, subst, inl, inr, arith}
use Rattle.std.proofs.lemmas.Bool.{both_ways, ltb-true, ltb-false, cond_both}
use Rattle.semantics.specs.Lts.{Lts, sum, into, out_of, on}
use Rattle.semantics.proofs.Sums.{below_suc, sum_le, sum_eq, sum_times, sum_swap}
use Rattle.semantics.proofs.Members.{In, in_one, in_left, in_right, in_cases}
use Rattle.semantics.proofs.Describes.{Part, fence, may, must, Right, Parts}
use Rattle.semantics.proofs.Characteristic.{targets, mays, boxes, on_action, parts_below, parts, weight}

-- Targets

targets_to : (f : ℕ → ℕ) (n t : ℕ) → In t (targets f n) → (t < n) × (0 < f t)
targets_to f zero t = λ x. absurd x
targets_to f (suc n) t =
    cond_both (ltb 0 (f n)) (n ∷ targets f n) (targets f n) (λ l. In t l → (t < suc n) × (0 < f t)) (λ e. here (ltb-true 0 (f n) e) (targets_to f n t)) (λ e x. later (targets_to f n t x))
  where
    later : (t < n) × (0 < f t) → (t < suc n) × (0 < f t)
    later a = (omega arith, a.1)

    here : 0 < f n → (In t (targets f n) → (t < n) × (0 < f t)) → In t (n ∷ targets f n) → (t < suc n) × (0 < f t)
    here p h (inl e) = (omega arith, subst (λ (t : ℕ). 0 < f t) (sym e) p)
    here p h (inr x) = later (h x)

targets_from : (f : ℕ → ℕ) (n t : ℕ) → t < n → 0 < f t → In t (targets f n)
targets_from f zero t l = absurd (omega arith)
targets_from f (suc n) t l =
    cond_both (ltb 0 (f n)) (n ∷ targets f n) (targets f n) (λ l. 0 < f t → In t l)
    (λ e. below_suc n (λ t. 0 < f t → In t (n ∷ targets f n)) (λ t m p. inr (targets_from f n t m p)) (λ p. inl refl) t l)
    (λ e. below_suc n (λ t. 0 < f t → In t (targets f n)) (targets_from f n) (λ p. let z = ltb-false 0 (f n) e in absurd (omega arith)) t l)

targets_most : (f : ℕ → ℕ) (n : ℕ) → length (targets f n) ≤ sum n f
unfolding sum
targets_most f zero = omega arith
targets_most f (suc n) =
    let a = targets_most f n in
    cond_both (ltb 0 (f n)) (n ∷ targets f n) (targets f n) (λ l. length l ≤ sum n f + f n) (λ e. let b = ltb-true 0 (f n) e in omega arith) (λ e. omega arith)

-- The parts on one action

mays_to : (p : Part) (a : ℕ) (ts : List ℕ) → In p (mays a ts) → (t : ℕ) × In t ts × (p ≡ may a t)
mays_to p a [] x = absurd x
mays_to p a (t ∷ ts) (inl e) = (t, inl refl, e)
mays_to p a (t ∷ ts) (inr x) = let b = mays_to p a ts x in (b.0, inr b.1, b.2)

mays_from : (a t : ℕ) (ts : List ℕ) → In t ts → In (may a t) (mays a ts)
mays_from a t [] x = absurd x
mays_from a t (u ∷ ts) (inl e) = inl (ap (may a) e)
mays_from a t (u ∷ ts) (inr x) = inr (mays_from a t ts x)

boxes_to : (p : Part) (d : Bool) (a : ℕ) (ts : List ℕ) → In p (boxes d a ts) → (d ≡ false) × (p ≡ must a ts) × (0 < length ts)
boxes_to p d a [] x = absurd x
boxes_to p true a (t ∷ ts) x = absurd x
boxes_to p false a (t ∷ ts) x = (refl, in_one p (must a (t ∷ ts)) x, omega arith)

boxes_from : (d : Bool) (a t : ℕ) (ts : List ℕ) → d ≡ false → In t ts → In (must a ts) (boxes d a ts)
boxes_from d a t [] e x = absurd x
boxes_from true a t (u ∷ ts) e x = absurd (both_ways true e refl)
boxes_from false a t (u ∷ ts) e x = inl refl

-- a disjunction of at least one state
abbrev pub Solid : Part → Type 0
Solid (fence i) = Unit {0}
Solid (may a t) = Unit {0}
Solid (must a ts) = 0 < length ts

action_right : (M : Lts) (i a : ℕ) → a < M.actions → (p : Part) → In p (on_action M i a) → Right M i p × Solid p
action_right M i a l p x = go (in_cases p (mays a ts) (boxes (M.divergent i a) a ts) x)
  where
    ts : List ℕ
    ts = targets (M.transitions i a) M.states

    go : In p (mays a ts) ⊎ In p (boxes (M.divergent i a) a ts) → Right M i p × Solid p
    go (inl y) =
        let b = mays_to p a ts y in
        let c = targets_to (M.transitions i a) M.states b.0 b.1 in
        subst (λ (p : Part). Right M i p × Solid p) (sym b.2) ((l, c.0, c.1), tt)
    go (inr y) =
        let b = boxes_to p (M.divergent i a) a ts y in
        subst (λ (p : Part). Right M i p × Solid p) (sym b.1)
        ((l, b.0, λ t. (targets_to (M.transitions i a) M.states t, λ h. targets_from (M.transitions i a) M.states t h.0 h.1)), b.2)

-- The parts of a state

below_to : (M : Lts) (i k : ℕ) → k ≤ M.actions → (p : Part) → In p (parts_below M i k) → Right M i p × Solid p
below_to M i zero l p x = absurd x
below_to M i (suc k) l p x = go (below_to M i k (omega arith) p) (in_cases p (on_action M i k) (parts_below M i k) x)
  where
    go : (In p (parts_below M i k) → Right M i p × Solid p) → In p (on_action M i k) ⊎ In p (parts_below M i k) → Right M i p × Solid p
    go h (inl y) = action_right M i k (omega arith) p y
    go h (inr y) = h y

below_from : (M : Lts) (i k : ℕ) (p : Part) (a : ℕ) → a < k → In p (on_action M i a) → In p (parts_below M i k)
below_from M i zero p a l = absurd (omega arith)
below_from M i (suc k) p a l =
    below_suc k (λ a. In p (on_action M i a) → In p (on_action M i k ++ parts_below M i k))
    (λ a m x. in_right p (on_action M i k) (parts_below M i k) (below_from M i k p a m x)) (λ x. in_left p (on_action M i k) (parts_below M i k) x) a l

pub parts_right : (M : Lts) (i : ℕ) (p : Part) → In p (parts M i) → Right M i p × Solid p
parts_right M i p x = below_to M i M.actions (omega arith) p x

pub parts_of : (M : Lts) (i : ℕ) → Parts M i (parts M i ++ fence i ∷ [])
parts_of M i = record {
  right = λ p x. right p (in_cases p (parts M i) (fence i ∷ []) x);
  fences = in_right (fence i) (parts M i) (fence i ∷ []) (inl refl);
  mays = λ a t l k h. among (may a t) a l (in_left (may a t) (mays a (ts a)) (boxes (M.divergent i a) a (ts a)) (mays_from a t (ts a) (target a t k h)));
  musts = λ a t l e k h. (ts a, among (must a (ts a)) a l (in_right (must a (ts a)) (mays a (ts a)) (boxes (M.divergent i a) a (ts a)) (boxes_from (M.divergent i a) a t (ts a) e (target a t k h))));
}
  where
    ts : ℕ → List ℕ
    ts a = targets (M.transitions i a) M.states

    target : (a t : ℕ) → t < M.states → 0 < M.transitions i a t → In t (ts a)
    target a t k h = targets_from (M.transitions i a) M.states t k h

    among : (p : Part) (a : ℕ) → a < M.actions → In p (on_action M i a) → In p (parts M i ++ fence i ∷ [])
    among p a l x = in_left p (parts M i) (fence i ∷ []) (below_from M i M.actions p a l x)

    right : (p : Part) → In p (parts M i) ⊎ In p (fence i ∷ []) → Right M i p
    right p (inl x) = (parts_right M i p x).0
    right p (inr x) = subst (Right M i) (sym (in_one p (fence i) x)) refl

-- How many helpers they need

weight_append : (ps qs : List Part) → weight (ps ++ qs) ≡ weight ps + weight qs
weight_append [] qs = omega arith
weight_append (p ∷ ps) qs = let a = weight_append ps qs in omega arith

weight_mays : (a : ℕ) (ts : List ℕ) → weight (mays a ts) ≡ 2 * length ts
weight_mays a [] = omega arith
weight_mays a (t ∷ ts) = let b = weight_mays a ts in omega arith

weight_boxes : (d : Bool) (a : ℕ) (ts : List ℕ) → weight (boxes d a ts) ≤ 2 * length ts
weight_boxes d a [] = omega arith
weight_boxes true a (t ∷ ts) = omega arith
weight_boxes false a (t ∷ ts) = omega arith

weight_below : (M : Lts) (i k : ℕ) → weight (parts_below M i k) ≤ 4 * sum k (out_of M i)
unfolding sum out_of
weight_below M i zero = omega arith
weight_below M i (suc a) =
    let ts = targets (M.transitions i a) M.states in
    let b = weight_below M i a in
    let c = weight_append (on_action M i a) (parts_below M i a) in
    let e = weight_append (mays a ts) (boxes (M.divergent i a) a ts) in
    let f = weight_mays a ts in
    let g = weight_boxes (M.divergent i a) a ts in
    let h = targets_most (M.transitions i a) M.states in
    omega arith

pub weight_all : (M : Lts) → sum M.states (λ i. weight (parts M i)) ≤ 4 * sum M.actions (on M)
unfolding on into out_of
weight_all M =
    let n = M.states in
    let A = M.actions in
    let a = sum_le n (λ i. weight (parts M i)) (λ i. 4 * sum A (out_of M i)) (λ i l. weight_below M i A) in
    let b = sum_times n 4 (λ i. sum A (out_of M i)) in
    let c = sum_swap n A (out_of M) in
    let e : sum A (λ a. sum n (λ i. out_of M i a)) ≡ sum A (on M) = sum_eq A _ _ (λ a l. sum_swap n n (λ i t. M.transitions i a t)) in
    omega arith
