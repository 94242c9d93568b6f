-- Numbers that are tested in turn.
use Rattle.std.proofs.Common.{◌≡◌, ℕ, ◌+◌, ◌<◌, ◌≤◌, true, false, List, length, get_or, map, take, drop, set, Ok, Err, refl, sym, ap, ◌∙◌, arith}
use Rattle.std.proofs.lemmas.List.{drop_more, drop_all, map_more, take_more_set, take_all, length-set}
use Rattle.fields.specs.declared.fault.Cause.TheVariants.{Range}
use Rattle.lines.specs.Ranges.{in_range, first_outside, ranged}
use Rattle.lines.specs.declared.numbers.Numeral.{Numeral}

-- the first i numbers are in their ranges, and ns begins with them
pub record Sofar (xs : List Numeral) (ns : List ℕ) (i : ℕ) : Type 0 where
  pub goes : first_outside xs ≡ first_outside (drop i xs)
  pub front : take i ns ≡ map (λ x. x.value) (take i xs)
  pub long : length ns ≡ length xs

module _ (xs : List Numeral) (ns : List ℕ) (i : ℕ) (s : Sofar xs ns i) where
  pub one_more : (d : Numeral) (n : ℕ) → i < length xs → in_range (get_or xs i d) ≡ true → n ≡ (get_or xs i d).value → Sofar xs (set ns i n) (i + 1)
  one_more d n l is e = record {
    goes = s.goes ∙ ap first_outside (drop_more xs i d l) ∙ rw is refl;
    front = take_more_set ns i n (omega (arith, s.long)) ∙ rw (s.front, e) (sym (map_more (λ x. x.value) xs i d l));
    long = length-set ns i n ∙ s.long;
  }

  pub outside : (d : Numeral) → i < length xs → in_range (get_or xs i d) ≡ false → ranged xs ≡ Err (Range, (get_or xs i d).at)
  outside d l not = rw (s.goes, drop_more xs i d l, not) refl

  pub all : length xs ≤ i → ranged xs ≡ Ok ns
  all l = rw (s.goes, drop_all i xs l) (ap Ok (sym (sym (take_all i ns (omega (arith, s.long))) ∙ s.front ∙ ap (map (λ x. x.value)) (take_all i xs l))))
