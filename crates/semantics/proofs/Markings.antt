-- What some, every, truth and one pair's equation say, and that an equation is monotone.
use Rattle.std.proofs.Common.{◌≡◌, ℕ, zero, suc, ◌<◌, Bool, true, false, not, ◌&&◌, ◌||◌, eqb, ltb, List, length, refl, arith}
use Rattle.std.proofs.lemmas.Bool.{and_parts, and_from, or_left, or_right}
use Rattle.records.specs.declared.Form.{Form}
use Rattle.records.specs.declared.Form.TheVariants.{True, False, Atom, Or, And, Diamond, Box}
use Rattle.semantics.specs.declared.Equation.{Equation}
use Rattle.semantics.specs.Lts.{Lts, some, every}
use Rattle.semantics.specs.Equations.{nth, Marking, truth, true_at}
use Rattle.semantics.specs.Law.{Within}

pub or_mono : (a b c e : Bool) → (a ≡ true → c ≡ true) → (b ≡ true → e ≡ true) → (a || b) ≡ true → (c || e) ≡ true
or_mono true b c e f g h = or_left c e (f refl)
or_mono false b c e f g h = or_right c e (g h)

pub and_mono : (a b c e : Bool) → (a ≡ true → c ≡ true) → (b ≡ true → e ≡ true) → (a && b) ≡ true → (c && e) ≡ true
and_mono a b c e f g h = let p = and_parts a b h in and_from c e (f p.0) (g p.1)

pub some_mono : (n : ℕ) (f g : ℕ → Bool) → ((k : ℕ) → k < n → f k ≡ true → g k ≡ true) → some n f ≡ true → some n g ≡ true
unfolding some
some_mono zero f g h e = e
some_mono (suc n) f g h e = or_mono (some n f) (f n) (some n g) (g n) (some_mono n f g (λ k l. h k (omega arith))) (h n (omega arith)) e

pub every_mono : (n : ℕ) (f g : ℕ → Bool) → ((k : ℕ) → k < n → f k ≡ true → g k ≡ true) → every n f ≡ true → every n g ≡ true
unfolding every
every_mono zero f g h e = e
every_mono (suc n) f g h e = and_mono (every n f) (f n) (every n g) (g n) (every_mono n f g (λ k l. h k (omega arith))) (h n (omega arith)) e

-- the variables that an equation names lie below n
abbrev pub Names : ℕ → Form → ℕ → ℕ → Type 0
Names n True x y = Unit {0}
Names n False x y = Unit {0}
Names n Atom x y = Unit {0}
Names n Or x y = (x < n) × (y < n)
Names n And x y = (x < n) × (y < n)
Names n Diamond x y = y < n
Names n Box x y = y < n

abbrev pub Named : List Equation → Type 0
Named B = (i : ℕ) → i < length B → Names (length B) (nth B i).form (nth B i).first (nth B i).second

abbrev pub Le : ℕ → ℕ → Marking → Marking → Type 0
Le n m X Y = (s i : ℕ) → s < n → i < m → X s i ≡ true → Y s i ≡ true

pub truth_mono : (F : Lts) (X Y : Marking) (n s : ℕ) (f : Form) (x y : ℕ) → Names n f x y → Le F.states n X Y → s < F.states → truth F X s f x y ≡ true → truth F Y s f x y ≡ true
unfolding truth
truth_mono F X Y n s True x y r h l e = e
truth_mono F X Y n s False x y r h l e = e
truth_mono F X Y n s Atom x y r h l e = e
truth_mono F X Y n s Or x y r h l e = or_mono (X s x) (X s y) (Y s x) (Y s y) (h s x l r.0) (h s y l r.1) e
truth_mono F X Y n s And x y r h l e = and_mono (X s x) (X s y) (Y s x) (Y s y) (h s x l r.0) (h s y l r.1) e
truth_mono F X Y n s Diamond a j r h l e =
    some_mono F.states _ _ (λ t m. and_mono (ltb 0 (F.transitions s a t)) (X t j) (ltb 0 (F.transitions s a t)) (Y t j) (λ q. q) (h t j m r)) e
truth_mono F X Y n s Box a j r h l e =
    and_mono (not (F.divergent s a)) _ (not (F.divergent s a)) _ (λ q. q)
    (every_mono F.states _ _ (λ t m. or_mono (eqb 0 (F.transitions s a t)) (X t j) (eqb 0 (F.transitions s a t)) (Y t j) (λ q. q) (h t j m r))) e

pub true_at_mono : (F : Lts) (B : List Equation) → Named B → (X Y : Marking) → Within F B X Y → Within F B (true_at F B X) (true_at F B Y)
unfolding true_at
true_at_mono F B names X Y h s i l k e = truth_mono F X Y (length B) s (nth B i).form (nth B i).first (nth B i).second (names i k) h l e
