-- The bits of a number.
use Rattle.std.proofs.Common.{◌≡◌, ℕ, ◌+◌, ◌-◌, ◌*◌, ◌/◌, ◌%◌, ◌^◌, ◌<◌, ◌≤◌, false, ◌&&◌, ◌||◌, eqb, ltb, ◌⊎◌, sym, ap, ◌∙◌, inl, inr, ⊎_elim, arith, pow_mono, w64, Fits}
use native.Mathlib.Nat.{div-eq_of_lt, zero-div}
use lib.Bits.{bit_or}
use Rattle.std.proofs.lemmas.Nat.{or_mod, or_shr, mod_below, pow_below, pow-add, shl-shr, one_shl, div-add-mod'}
use Rattle.std.proofs.lemmas.Bool.{lt-ltb, eq-eqb, ne_eqb, cases_lt}
use Rattle.lts.specs.Sets.{bit}

pub zero_bit : (i : ℕ) → bit 0 i ≡ false
unfolding bit
zero_bit i = ap (λ v. eqb (v % 2) 1) (zero-div (2 ^ i))

-- a number of 64 bits has no bit from 64 on
pub high_bit : (m i : ℕ) → Fits w64 m → 64 ≤ i → bit m i ≡ false
unfolding bit
high_bit m i f h =
    let p : 2 ^ 64 ≤ 2 ^ i = pow_mono h in
    let z : m / 2 ^ i ≡ 0 = div-eq_of_lt (omega arith) in
    ap (λ k. eqb (k % 2) 1) z

odd_or : (x y : ℕ) → eqb (bit_or x y % 2) 1 ≡ (eqb (x % 2) 1 || eqb (y % 2) 1)
odd_or x y = ap (λ v. eqb v 1) (or_mod x y 1) ∙ small (x % 2) (y % 2) (two (x % 2) (mod_below x 2 (omega arith))) (two (y % 2) (mod_below y 2 (omega arith)))
  where
    two : (p : ℕ) → p < 2 → (p ≡ 0) ⊎ (p ≡ 1)
    two p h = ⊎_elim (λ (e : p < 1). inl (omega arith)) (λ (e : 1 ≤ p). inr (omega arith)) (cases_lt p 1)

    small : (p q : ℕ) → (p ≡ 0) ⊎ (p ≡ 1) → (q ≡ 0) ⊎ (q ≡ 1) → eqb (bit_or p q) 1 ≡ (eqb p 1 || eqb q 1)
    small p q (inl e) (inl d) = rw (e, d)
    small p q (inl e) (inr d) = rw (e, d)
    small p q (inr e) (inl d) = rw (e, d)
    small p q (inr e) (inr d) = rw (e, d)

-- only bit a of 2 ^ a is set
one_bit : (a b : ℕ) → eqb (2 ^ a / 2 ^ b % 2) 1 ≡ eqb b a
one_bit a b =
    ⊎_elim
    (λ (l : a < b). ap (λ v. eqb (v % 2) 1) (div-eq_of_lt (pow_below a b l)) ∙ sym (ne_eqb b a (λ e. omega arith)))
    (λ (l : b ≤ a).
    let d : 2 ^ a / 2 ^ b ≡ 2 ^ (a - b) = ap (λ v. 2 ^ v / 2 ^ b) (back a b l) ∙ ap (λ v. v / 2 ^ b) (pow-add 2 (a - b) b) ∙ shl-shr (2 ^ (a - b)) b in
    ap (λ v. eqb (v % 2) 1) d ∙
    ⊎_elim
    (λ (e : a - b < 1). let z : a - b ≡ 0 = omega arith in ap (λ v. eqb (2 ^ v % 2) 1) z ∙ sym (eq-eqb b a (omega arith)))
    (λ (e : 1 ≤ a - b).
    let z : a - b ≡ (a - b - 1) + 1 = omega arith in
    ap (λ v. eqb (2 ^ v % 2) 1) z ∙ ap (λ v. eqb (v % 2) 1) (pow-add 2 (a - b - 1) 1) ∙ even (2 ^ (a - b - 1)) ∙ sym (ne_eqb b a (λ q. omega arith)))
    (cases_lt (a - b) 1))
    (cases_lt a b)
  where
    back : (a b : ℕ) → b ≤ a → a ≡ (a - b) + b
    back a b l = omega arith

    even : (x : ℕ) → eqb (x * 2 % 2) 1 ≡ false
    even x = ne_eqb (x * 2 % 2) 1 (λ e. omega (arith, div-add-mod' (x * 2) 2))

or_bit : (m a : ℕ) → a < 64 → (b : ℕ) → bit (bit_or m ((1 * 2 ^ a) % 2 ^ 64)) b ≡ (bit m b || eqb b a)
unfolding bit
or_bit m a h b =
    ap (λ v. eqb (bit_or m v / 2 ^ b % 2) 1) (one_shl a 64 h) ∙ ap (λ v. eqb (v % 2) 1) (or_shr m (2 ^ a) b) ∙ odd_or (m / 2 ^ b) (2 ^ a / 2 ^ b) ∙
    ap (λ v. eqb (m / 2 ^ b % 2) 1 || v) (one_bit a b)

-- the bits of a number with one more bit, below 64
pub with_bit : (m a : ℕ) → a < 64 → (b : ℕ) → bit (bit_or m ((1 * 2 ^ a) % 2 ^ 64)) b ≡ (bit m b || (ltb a 64 && eqb b a))
with_bit m a h b = or_bit m a h b ∙ ap (λ t. bit m b || (t && eqb b a)) (sym (lt-ltb a 64 h))
