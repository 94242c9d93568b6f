-- What a line says is what is found in its fields without a fault.
use Rattle.std.proofs.Common.{◌≡◌, ℕ, suc, ◌<◌, ◌≤◌, Bool, true, false, cond, not, ◌&&◌, eqb, ltb, leb, List, [], ◌∷◌, Some, None, Ok, Err, Option, Result, sym, refl, ap, ◌∙◌, subst, inl, inr, arith}
use Rattle.std.proofs.lemmas.Bool.{and_parts, and_from, or_cases, not-true, eqb-true, eqb-false, eq-eqb, leb-true, ltb-true, le-leb, lt-ltb, cases_Bool, both_ways}
use Rattle.fields.specs.Pieces.{pieces}
use Rattle.fields.specs.Numbers.{number?, value}
use Rattle.fields.specs.declared.fault.Cause.{Cause}
use Rattle.fields.specs.declared.fault.Cause.TheVariants.{Form, Malformed, Range}
use Rattle.fields.proofs.Joining.{pieced}
use Rattle.fields.proofs.Cutting.{pieces_length}
use Rattle.lines.specs.Kinds.{Slot, byte, number, Kind, Fields, Spelt, SaysAs, Says, is_byte, fits, malformed, outside, numbers_of, unless, checked, made, says, differ, differs, told_apart}

-- The fields of a line are its pieces

pub fields_pieces : (line : List ℕ) (fs : List (List ℕ)) → Fields line fs → pieces 44 line ≡ fs
fields_pieces line [] h = absurd (omega (arith, h.some))
fields_pieces line (f ∷ fs) h = ap (pieces 44) (sym h.whole) ∙ (pieced 44).only f fs h.clear

pub pieces_fields : (line : List ℕ) → Fields line (pieces 44 line)
pieces_fields line = record { some = pieces_length 44 line; whole = (pieced 44).joins line; clear = (pieced 44).clear line }

-- Numbers that are spelt are found

byte_is : (b : ℕ) (f : List ℕ) → f ≡ b ∷ [] → is_byte b f ≡ true
byte_is b f e = ap (is_byte b) e ∙ eq-eqb b b refl

is_byte_eq : (b : ℕ) (f : List ℕ) → is_byte b f ≡ true → f ≡ b ∷ []
is_byte_eq b [] e = absurd (both_ways false refl e)
is_byte_eq b (c ∷ []) e = ap (λ x. x ∷ []) (eqb-true c b e)
is_byte_eq b (c ∷ d ∷ cs) e = absurd (both_ways false refl e)

fits_spelt : (ss : List Slot) (fs : List (List ℕ)) (ns : List ℕ) → Spelt ss fs ns → fits ss fs ≡ true
fits_spelt [] [] ns h = refl
fits_spelt [] (f ∷ fs) ns h = absurd h
fits_spelt (byte b ∷ ss) [] ns h = absurd h
fits_spelt (byte b ∷ ss) (f ∷ fs) ns h = and_from (is_byte b f) (fits ss fs) (byte_is b f h.0) (fits_spelt ss fs ns h.1)
fits_spelt (number low past ∷ ss) [] ns h = absurd h
fits_spelt (number low past ∷ ss) (f ∷ fs) [] h = absurd h
fits_spelt (number low past ∷ ss) (f ∷ fs) (n ∷ ns) h = fits_spelt ss fs ns h.3

none_malformed : (k : ℕ) (ss : List Slot) (fs : List (List ℕ)) (ns : List ℕ) → Spelt ss fs ns → malformed k ss fs ≡ None
none_malformed k [] fs ns h = refl
none_malformed k (byte b ∷ ss) [] ns h = refl
none_malformed k (byte b ∷ ss) (f ∷ fs) ns h = none_malformed (suc k) ss fs ns h.1
none_malformed k (number low past ∷ ss) [] ns h = refl
none_malformed k (number low past ∷ ss) (f ∷ fs) [] h = absurd h
none_malformed k (number low past ∷ ss) (f ∷ fs) (n ∷ ns) h = rw h.0.well_formed (none_malformed (suc k) ss fs ns h.3)

within : (low past : ℕ) (f : List ℕ) (n : ℕ) → n ≡ value f → low ≤ n → n < past → (leb low (value f) && ltb (value f) past) ≡ true
within low past f n e l p = and_from (leb low (value f)) (ltb (value f) past) (le-leb low (value f) (omega arith)) (lt-ltb (value f) past (omega arith))

none_outside : (k : ℕ) (ss : List Slot) (fs : List (List ℕ)) (ns : List ℕ) → Spelt ss fs ns → outside k ss fs ≡ None
none_outside k [] fs ns h = refl
none_outside k (byte b ∷ ss) [] ns h = refl
none_outside k (byte b ∷ ss) (f ∷ fs) ns h = none_outside (suc k) ss fs ns h.1
none_outside k (number low past ∷ ss) [] ns h = refl
none_outside k (number low past ∷ ss) (f ∷ fs) [] h = absurd h
none_outside k (number low past ∷ ss) (f ∷ fs) (n ∷ ns) h =
    rw (within low past f n h.0.valued h.1 h.2) (none_outside (suc k) ss fs ns h.3)

numbers_spelt : (ss : List Slot) (fs : List (List ℕ)) (ns : List ℕ) → Spelt ss fs ns → numbers_of ss fs ≡ ns
numbers_spelt [] [] [] h = refl
numbers_spelt [] [] (n ∷ ns) h = absurd h
numbers_spelt [] (f ∷ fs) ns h = absurd h
numbers_spelt (byte b ∷ ss) [] ns h = absurd h
numbers_spelt (byte b ∷ ss) (f ∷ fs) ns h = numbers_spelt ss fs ns h.1
numbers_spelt (number low past ∷ ss) [] ns h = absurd h
numbers_spelt (number low past ∷ ss) (f ∷ fs) [] h = absurd h
numbers_spelt (number low past ∷ ss) (f ∷ fs) (n ∷ ns) h =
    let e = sym h.0.valued in
    let r = numbers_spelt ss fs ns h.3 in cc

checked_spelt : (k : ℕ) (ss : List Slot) (fs : List (List ℕ)) (ns : List ℕ) → Spelt ss fs ns → checked k ss fs ≡ Ok ns
checked_spelt k ss fs ns h = rw (none_malformed k ss fs ns h, none_outside k ss fs ns h) (ap Ok (numbers_spelt ss fs ns h))

-- Numbers that are found are spelt

some_none : (k : ℕ) → ◌≡◌ {A = Option ℕ} (Some k) None → ⊥
some_none k e = let z : ◌≡◌ {A = ℕ} 0 1 = cc in omega arith

cond_none : (b : Bool) (o : Option ℕ) (k : ℕ) → cond b o (Some k) ≡ None → (b ≡ true) × (o ≡ None)
cond_none true o k e = (refl, e)
cond_none false o k e = absurd (some_none k e)

spelt_found : (k : ℕ) (ss : List Slot) (fs : List (List ℕ)) → fits ss fs ≡ true → malformed k ss fs ≡ None → outside k ss fs ≡ None → Spelt ss fs (numbers_of ss fs)
spelt_found k [] [] h m o = tt
spelt_found k [] (f ∷ fs) h m o = absurd (both_ways false refl h)
spelt_found k (byte b ∷ ss) [] h m o = absurd (both_ways false refl h)
spelt_found k (byte b ∷ ss) (f ∷ fs) h m o =
    let p = and_parts (is_byte b f) (fits ss fs) h in (is_byte_eq b f p.0, spelt_found (suc k) ss fs p.1 m o)
spelt_found k (number low past ∷ ss) [] h m o = absurd (both_ways false refl h)
spelt_found k (number low past ∷ ss) (f ∷ fs) h m o =
    let p = cond_none (number? f) (malformed (suc k) ss fs) k m in
    let q = cond_none (leb low (value f) && ltb (value f) past) (outside (suc k) ss fs) k o in
    let r = and_parts (leb low (value f)) (ltb (value f) past) q.0 in
    (record { well_formed = p.0; valued = refl }, leb-true low (value f) r.0, ltb-true (value f) past r.1, spelt_found (suc k) ss fs h p.1 q.1)

err_ok : {X E : Type 0} (e : E) (x : X) → ◌≡◌ {A = Result X E} (Err e) (Ok x) → ⊥
err_ok e x h = let z : ◌≡◌ {A = ℕ} 0 1 = cc in omega arith

unless_ok : {X : Type 0} (o : Option ℕ) (why : Cause) (r : Result X (Cause × ℕ)) (x : X) → unless o why r ≡ Ok x → (o ≡ None) × (r ≡ Ok x)
unless_ok (Some k) why r x e = absurd (err_ok (why, k) x e)
unless_ok None why r x e = (refl, e)

made_ok : {X Y E : Type 0} (f : X → Y) (r : Result X E) (y : Y) → made f r ≡ Ok y → (x : X) × (r ≡ Ok x) × (y ≡ f x)
made_ok f (Ok x) y e = (x, refl, (cc))
made_ok f (Err e) y h = absurd (err_ok e y h)

module _ {R : Type 0} where
  found_as : (k : Kind R) (line : List ℕ) (x : R) → fits k.slots (pieces 44 line) ≡ true → made k.make (checked 1 k.slots (pieces 44 line)) ≡ Ok x → SaysAs k line x
  found_as k line x fit e =
      let fs = pieces 44 line in
      let p = made_ok k.make (checked 1 k.slots fs) x e in
      let q = unless_ok (malformed 1 k.slots fs) Malformed _ p.0 p.1 in
      let r = unless_ok (outside 1 k.slots fs) Range _ p.0 q.1 in
      let same : numbers_of k.slots fs ≡ p.0 = ok_same r.1 in
      record { fields = fs; cut = pieces_fields line; numbers = numbers_of k.slots fs; spelt = spelt_found 1 k.slots fs fit q.0 r.0; made = p.2 ∙ ap k.make (sym same) }
    where
      ok_same : {X E : Type 0} {x y : X} → ◌≡◌ {A = Result X E} (Ok x) (Ok y) → x ≡ y
      ok_same e = cc

  pub says_found : (ks : List (Kind R)) (line : List ℕ) (x : R) → says ks (pieces 44 line) ≡ Ok x → Says ks line x
  says_found [] line x e = absurd (err_ok (Form, 0) x e)
  says_found (k ∷ ks) line x e =
      elim (cases_Bool (fits k.slots (pieces 44 line))) [
        | inl fit ↦ inl (found_as k line x fit (rw fit at e))
        | inr not ↦ inr (says_found ks line x (rw not at e))
      ]

-- No fields are of two kinds that differ

differ_fits : (ss ts : List Slot) (fs : List (List ℕ)) → differ ss ts ≡ true → fits ss fs ≡ true → fits ts fs ≡ true → ⊥
differ_fits [] [] fs d a b = both_ways false refl d
differ_fits [] (byte c ∷ ts) [] d a b = both_ways false refl b
differ_fits [] (byte c ∷ ts) (f ∷ fs) d a b = both_ways false refl a
differ_fits [] (number low past ∷ ts) [] d a b = both_ways false refl b
differ_fits [] (number low past ∷ ts) (f ∷ fs) d a b = both_ways false refl a
differ_fits (byte c ∷ ss) [] [] d a b = both_ways false refl a
differ_fits (byte c ∷ ss) [] (f ∷ fs) d a b = both_ways false refl b
differ_fits (number low past ∷ ss) [] [] d a b = both_ways false refl a
differ_fits (number low past ∷ ss) [] (f ∷ fs) d a b = both_ways false refl b
differ_fits (byte c ∷ ss) (byte e ∷ ts) [] d a b = both_ways false refl a
differ_fits (byte c ∷ ss) (byte e ∷ ts) (f ∷ fs) d a b =
    let p = and_parts (is_byte c f) (fits ss fs) a in
    let q = and_parts (is_byte e f) (fits ts fs) b in
    let u = is_byte_eq c f p.0 in
    let v = is_byte_eq e f q.0 in
    let same : c ≡ e = cc in
    elim (or_cases (not (eqb c e)) (differ ss ts) d) [ inl n ↦ eqb-false c e (not-true (eqb c e) n) same | inr r ↦ differ_fits ss ts fs r p.1 q.1 ]
differ_fits (byte c ∷ ss) (number low past ∷ ts) [] d a b = both_ways false refl a
differ_fits (byte c ∷ ss) (number low past ∷ ts) (f ∷ fs) d a b = differ_fits ss ts fs d (and_parts (is_byte c f) (fits ss fs) a).1 b
differ_fits (number low past ∷ ss) (byte e ∷ ts) [] d a b = both_ways false refl a
differ_fits (number low past ∷ ss) (byte e ∷ ts) (f ∷ fs) d a b = differ_fits ss ts fs d a (and_parts (is_byte e f) (fits ts fs) b).1
differ_fits (number low past ∷ ss) (number low' past' ∷ ts) [] d a b = both_ways false refl a
differ_fits (number low past ∷ ss) (number low' past' ∷ ts) (f ∷ fs) d a b = differ_fits ss ts fs d a b

module _ {R : Type 0} (line : List ℕ) (x : R) where
  as_spelt : (k : Kind R) (s : SaysAs k line x) → Spelt k.slots (pieces 44 line) s.numbers
  as_spelt k s = let P : List (List ℕ) → Type 0 = λ fs. Spelt k.slots fs s.numbers in subst P (sym (fields_pieces line s.fields s.cut)) s.spelt

  unfit : (ss : List Slot) (ks : List (Kind R)) → differs ss ks ≡ true → Says ks line x → fits ss (pieces 44 line) ≡ false
  unfit ss [] d s = absurd s
  unfit ss (k ∷ ks) d (inl s) =
      let apart = (and_parts (differ ss k.slots) (differs ss ks) d).0 in
      elim (cases_Bool (fits ss (pieces 44 line))) [
        | inl fit ↦ absurd (differ_fits ss k.slots (pieces 44 line) apart fit (fits_spelt k.slots (pieces 44 line) s.numbers (as_spelt k s)))
        | inr not ↦ not
      ]
  unfit ss (k ∷ ks) d (inr s) = unfit ss ks (and_parts (differ ss k.slots) (differs ss ks) d).1 s

  pub says_spelt : (ks : List (Kind R)) → told_apart ks ≡ true → Says ks line x → says ks (pieces 44 line) ≡ Ok x
  says_spelt [] t s = absurd s
  says_spelt (k ∷ ks) t (inl s) =
      let h = as_spelt k s in
      rw (fits_spelt k.slots (pieces 44 line) s.numbers h)
      (ap (made k.make) (checked_spelt 1 k.slots (pieces 44 line) s.numbers h) ∙ ap Ok (sym s.made))
  says_spelt (k ∷ ks) t (inr s) =
      let p = and_parts (differs k.slots ks) (told_apart ks) t in
      rw (unfit k.slots ks p.0 s) (says_spelt ks p.1 s)
