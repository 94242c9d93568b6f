-- One more pin.
use Rattle.std.proofs.Common.{◌≡◌, ℕ, ◌+◌, ◌*◌, ◌<◌, Bool, true, false, cond, ◌&&◌, ◌||◌, eqb, List, ◌∷◌, map, length, get_or, take, set, refl, ap, ◌∙◌, ap₂, arith, length-append, length-set}
use Rattle.std.proofs.lemmas.List.{take-append-le}
use Rattle.board.specs.State.{State, with_pinned}
use Rattle.board.specs.Turning.{pin_at, turn}
use Rattle.records.specs.declared.Fixpoint.{Fixpoint}
use Rattle.refinement.proofs.Listing.{Same, Turns, turns}
use Rattle.refinement.proofs.Tables.{get_d_set, place_eqb, place_low}
use Rattle.refinement.specs.Represents.{Shown, pair_at}
use Rattle.semantics.specs.Lts.{Lts}
use Rattle.semantics.specs.Plain.{among, decided, pair, turned}
use Rattle.semantics.specs.declared.Equation.{Equation}
use Rattle.semantics.specs.declared.Pair.{Pair}

pub pin_shown : (F : Lts) (d : Fixpoint) (σ : State) (B : List Equation) (pins taken : List Pair) (seen s i : ℕ) → s < F.states → i < length B → Shown F d σ B pins taken seen →
    Shown F d (pin_at (s * length B + i) σ) B (pair s i ∷ pins) taken seen
unfolding pin_at turned among
pin_shown F d σ B pins taken seen s i l k h =
    record {
      loaded = same.loaded ∙ h.loaded;
      states = same.states ∙ h.states;
      book = same.book ∙ h.book;
      head = same.head ∙ h.head;
      next = same.next ∙ h.next;
      formed = h.formed;
      small = h.small;
      few_equations = h.few_equations;
      turned_long = same.turned_long ∙ h.turned_long;
      pinned_long = ap (length {A = Bool}) same.pinned ∙ length-set σ.pinned at true ∙ h.pinned_long;
      counts_long = same.counts_long ∙ h.counts_long;
      turned = λ v j a b. t.turned (v * n + j) ∙ ap₂ (λ (x y : Bool). x || y) (h.turned v j a b) (place_eqb n s i v j k b) ∙ shuffle (among v j pins) (decided F d B taken v j) (eqb s v && eqb i j);
      pinned = λ v j a b.
          ap (λ (ps : List Bool). get_or ps (v * n + j) false) same.pinned ∙ get_d_set σ.pinned at (v * n + j) true false in_pinned ∙
          ap₂ (λ (x y : Bool). cond x true y) (place_eqb n s i v j k b) (h.pinned v j a b) ∙ cond_or (eqb s v && eqb i j) (among v j pins);
      counts = λ v j a b e. ap (λ (cs : List ℕ). get_or cs (v * n + j) 0) t.counts ∙ h.counts v j a b e;
      listed = t.listed;
      few = let x = same.taken in let y = h.few in let z = ap (length {A = ℕ}) same.work ∙ length-append σ.work same.more in omega arith;
      done = ap₂ (λ (t : ℕ) (w : List ℕ). map (pair_at n) (take t w)) same.taken same.work ∙ ap (map (pair_at n)) (take-append-le σ.taken σ.work same.more h.few) ∙ h.done;
      once = h.once;
      summed = h.summed;
      looks = t.looks ∙ h.looks;
    }
  where
    n : ℕ
    n = length B

    at : ℕ
    at = s * length B + i

    low : at < F.states * length B
    low = place_low F.states (length B) s i l k

    in_pinned : at < length σ.pinned
    in_pinned = let a = h.pinned_long in let b = low in omega arith

    τ : State
    τ = with_pinned σ (set σ.pinned at true)

    t : Turns at τ (turn at τ)
    t = turns at τ (let a = h.turned_long in let b = low in omega arith) (record { exact = h.listed.exact; once = h.listed.once })

    same : Same τ (turn at τ)
    same = t.same

    shuffle : (a e b : Bool) → ((a || e) || b) ≡ ((b || a) || e)
    shuffle true e true = refl
    shuffle true e false = refl
    shuffle false true true = refl
    shuffle false true false = refl
    shuffle false false true = refl
    shuffle false false false = refl

    cond_or : (a b : Bool) → cond a true b ≡ (a || b)
    cond_or true b = refl
    cond_or false b = refl
