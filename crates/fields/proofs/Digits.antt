-- Digits one by one.
use Rattle.std.proofs.Common.{◌≡◌, ℕ, zero, suc, ◌+◌, ◌-◌, ◌*◌, ◌<◌, ◌≤◌, true, false, ◌&&◌, ltb, leb, List, [], ◌∷◌, ◌++◌, length, get_or, take, sym, refl, ap, ◌∙◌, inl, inr, arith}
use Rattle.std.proofs.lemmas.List.{take_more, take_all}
use Rattle.std.proofs.lemmas.Bool.{and_parts, and_from, and_left, and_right, cases_lt, le-ltb, lt-leb}
use Rattle.fields.specs.Numbers.{digit?, digits?, value_after, value, number?}

digits_push : (bs : List ℕ) (b : ℕ) → digits? bs ≡ true → digit? b ≡ true → digits? (bs ++ b ∷ []) ≡ true
unfolding digits?
digits_push [] b h d = and_from (digit? b) true d refl
digits_push (x ∷ bs) b h d =
    let p = and_parts (digit? x) (digits? bs) h in and_from (digit? x) (digits? (bs ++ b ∷ [])) p.0 (digits_push bs b p.1 d)

value_push : (n : ℕ) (bs : List ℕ) (b : ℕ) → value_after n (bs ++ b ∷ []) ≡ value_after n bs * 10 + (b - 48)
unfolding value_after
value_push n [] b = refl
value_push n (x ∷ bs) b = value_push (n * 10 + (x - 48)) bs b

not_digit : (bs : List ℕ) (i : ℕ) → i < length bs → digit? (get_or bs i 0) ≡ false → digits? bs ≡ false
unfolding digits?
not_digit [] i l h = absurd (omega arith)
not_digit (b ∷ bs) zero l h = and_left (digit? b) (digits? bs) h
not_digit (b ∷ bs) (suc i) l h = and_right (digit? b) (digits? bs) (not_digit bs i (omega arith) h)

-- The first i bytes are digits, and n is what they spell.
pub record Sofar (bs : List ℕ) (i n : ℕ) : Type 0 where
  pub digits : digits? (take i bs) ≡ true
  pub valued : n ≡ value (take i bs)

pub none_read : (bs : List ℕ) → Sofar bs 0 0
unfolding digits? value value_after
none_read bs = record { digits = refl; valued = refl }

pub one_more : (bs : List ℕ) (i n : ℕ) → i < length bs → Sofar bs i n → digit? (get_or bs i 0) ≡ true → Sofar bs (i + 1) (n * 10 + (get_or bs i 0 - 48))
unfolding value
one_more bs i n l s d =
    let b = get_or bs i 0 in
    let e = take_more bs i 0 l in
    record {
      digits = rw e (digits_push (take i bs) b s.digits d);
      valued = ap (λ k. k * 10 + (b - 48)) s.valued ∙ sym (value_push 0 (take i bs) b) ∙ ap (value_after 0) (sym e);
    }

pub all_read : (bs : List ℕ) (i n : ℕ) → length bs ≤ i → 0 < length bs → length bs ≤ 5 → Sofar bs i n → (number? bs ≡ true) × (n ≡ value bs)
unfolding number?
all_read bs i n l some few s =
    let e = take_all i bs l in
    (and_from (ltb 0 (length bs)) (leb (length bs) 5 && digits? bs) (search arith) (and_from (leb (length bs) 5) (digits? bs) (search arith) (ap digits? (sym e) ∙ s.digits)), s.valued ∙ ap value e)

pub no_number : (bs : List ℕ) (i : ℕ) → i < length bs → digit? (get_or bs i 0) ≡ false → number? bs ≡ false
unfolding number?
no_number bs i l h = and_right (ltb 0 (length bs)) (leb (length bs) 5 && digits? bs) (and_right (leb (length bs) 5) (digits? bs) (not_digit bs i l h))

-- too few bytes, or too many
pub wrong_length : (bs : List ℕ) → (0 < length bs → length bs ≤ 5 → ⊥) → number? bs ≡ false
unfolding number?
wrong_length bs h =
    elim (cases_lt 0 (length bs)) [
      | inl some ↦
          let many : 5 < length bs = elim (cases_lt 5 (length bs)) [ inl l ↦ l | inr few ↦ absurd (h some few) ] in
          and_right (ltb 0 (length bs)) (leb (length bs) 5 && digits? bs) (and_left (leb (length bs) 5) (digits? bs) (lt-leb (length bs) 5 many))
      | inr none ↦ and_left (ltb 0 (length bs)) (leb (length bs) 5 && digits? bs) (le-ltb 0 (length bs) none)
    ]
