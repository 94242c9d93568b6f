-- What one turn changes, and what it keeps.
use Rattle.std.proofs.Common.{◌≡◌, ℕ, ◌<◌, Bool, true, false, cond, ◌&&◌, ◌||◌, eqb, ◌⊎◌, List, [], ◌∷◌, ◌++◌, length, get_or, set, sym, refl, ap, ◌∙◌, subst, inl, inr, append_assoc, append-nil, length-set}
use Rattle.std.proofs.lemmas.Bool.{eqb-true, cases_Bool, cond_both, or_left}
use Rattle.std.proofs.lemmas.List.{get_or_default, get_or-set_same}
use Rattle.board.specs.State.{State, with_turn}
use Rattle.board.specs.Turning.{put, spent, turn}
use Rattle.refinement.proofs.Tables.{distinct_push, elem_push, get_d_set}
use Rattle.refinement.specs.Represents.{Listed}

-- all but what has turned, the counts and the looks
pub record Same (σ τ : State) : Type 0 where
  pub loaded : τ.loaded ≡ σ.loaded
  pub states : τ.states ≡ σ.states
  pub book : τ.book ≡ σ.book
  pub pinned : τ.pinned ≡ σ.pinned
  pub head : τ.head ≡ σ.head
  pub next : τ.next ≡ σ.next
  pub taken : τ.taken ≡ σ.taken
  pub turned_long : length τ.turned ≡ length σ.turned
  pub counts_long : length τ.counts ≡ length σ.counts
  pub more : List ℕ
  pub work : τ.work ≡ σ.work ++ more

pub same_all : (σ : State) → Same σ σ
same_all σ = record { loaded = refl; states = refl; book = refl; pinned = refl; head = refl; next = refl; taken = refl; turned_long = refl; counts_long = refl; more = []; work = sym (append-nil σ.work) }

pub same_then : (σ τ υ : State) → Same σ τ → Same τ υ → Same σ υ
same_then σ τ υ a b =
    record {
      loaded = b.loaded ∙ a.loaded;
      states = b.states ∙ a.states;
      book = b.book ∙ a.book;
      pinned = b.pinned ∙ a.pinned;
      head = b.head ∙ a.head;
      next = b.next ∙ a.next;
      taken = b.taken ∙ a.taken;
      turned_long = b.turned_long ∙ a.turned_long;
      counts_long = b.counts_long ∙ a.counts_long;
      more = a.more ++ b.more;
      work = b.work ∙ ap (λ (w : List ℕ). w ++ b.more) a.work ∙ append_assoc σ.work a.more b.more;
    }

pub record Turns (at : ℕ) (σ τ : State) : Type 0 where
  pub same : Same σ τ
  pub looks : τ.looks ≡ σ.looks
  pub counts : τ.counts ≡ σ.counts
  pub turned : (q : ℕ) → get_or τ.turned q false ≡ (get_or σ.turned q false || eqb at q)
  pub listed : Listed τ

pub turns : (at : ℕ) (σ : State) → at < length σ.turned → Listed σ → Turns at σ (turn at σ)
unfolding turn
turns at σ l h = cond_both (get_or σ.turned at true) σ (with_turn σ (set σ.turned at true) (σ.work ++ (at ∷ []))) (Turns at σ) old new
  where
    old : get_or σ.turned at true ≡ true → Turns at σ σ
    old e = record { same = same_all σ; looks = refl; counts = refl; turned = λ q. go q (cases_Bool (eqb at q)); listed = h }
      where
        go : (q : ℕ) → (eqb at q ≡ true) ⊎ (eqb at q ≡ false) → get_or σ.turned q false ≡ (get_or σ.turned q false || eqb at q)
        go q (inl f) =
            let g : get_or σ.turned q false ≡ true = ap (λ (q : ℕ). get_or σ.turned q false) (sym (eqb-true at q f)) ∙ get_or_default σ.turned at false true l ∙ e in
            g ∙ sym (or_left (get_or σ.turned q false) (eqb at q) g)
        go q (inr f) = rw f (keep (get_or σ.turned q false))
          where
            keep : (b : Bool) → b ≡ (b || false)
            keep true = refl
            keep false = refl

    new : get_or σ.turned at true ≡ false → Turns at σ (with_turn σ (set σ.turned at true) (σ.work ++ (at ∷ [])))
    new e =
        let reads : (q : ℕ) → get_or (set σ.turned at true) q false ≡ (get_or σ.turned q false || eqb at q) = λ q. get_d_set σ.turned at q true false l ∙ flip (eqb at q) (get_or σ.turned q false) in
        record {
          same = record { loaded = refl; states = refl; book = refl; pinned = refl; head = refl; next = refl; taken = refl; turned_long = length-set σ.turned at true; counts_long = refl; more = at ∷ []; work = refl };
          looks = refl;
          counts = refl;
          turned = reads;
          listed = record {
            exact = λ q. elem_push q σ.work at ∙ ap (λ (b : Bool). b || eqb at q) (h.exact q) ∙ sym (reads q);
            once = distinct_push σ.work at h.once (h.exact at ∙ get_or_default σ.turned at false true l ∙ e);
          };
        }
      where
        flip : (b c : Bool) → cond b true c ≡ (c || b)
        flip true true = refl
        flip true false = refl
        flip false true = refl
        flip false false = refl

-- A count put anew, with a turn where it is 0

pub record Puts (may : Bool) (at c : ℕ) (σ τ : State) : Type 0 where
  pub same : Same σ τ
  pub looks : τ.looks ≡ σ.looks
  pub counts : (q : ℕ) → get_or τ.counts q 0 ≡ cond (eqb at q) c (get_or σ.counts q 0)
  pub turned : (q : ℕ) → get_or τ.turned q false ≡ (get_or σ.turned q false || (eqb at q && (may && eqb c 0)))
  pub listed : Listed τ

pub puts : (may : Bool) (at c : ℕ) (σ : State) → at < length σ.turned → at < length σ.counts → Listed σ → Puts may at c σ (spent may at (put at c σ))
unfolding spent
puts may at c σ l k h = subst (λ (x : ℕ). Puts may at c σ (cond (may && eqb x 0) (turn at τ) τ)) (sym (get_or-set_same σ.counts at c 1 k)) (cond_both (may && eqb c 0) (turn at τ) τ (Puts may at c σ) yes no)
  where
    τ : State
    τ = put at c σ

    listed : Listed τ
    listed = record { exact = h.exact; once = h.once }

    same : Same σ τ
    same = record { loaded = refl; states = refl; book = refl; pinned = refl; head = refl; next = refl; taken = refl; turned_long = refl; counts_long = length-set σ.counts at c; more = []; work = sym (append-nil σ.work) }

    yes : (may && eqb c 0) ≡ true → Puts may at c σ (turn at τ)
    yes e =
        let t = turns at τ l listed in
        record {
          same = same_then σ τ (turn at τ) same t.same;
          looks = t.looks;
          counts = λ q. ap (λ (cs : List ℕ). get_or cs q 0) t.counts ∙ get_d_set σ.counts at q c 0 k;
          turned = λ q. t.turned q ∙ rw e (ap (λ (b : Bool). get_or σ.turned q false || b) (and_true (eqb at q)));
          listed = t.listed;
        }
      where
        and_true : (b : Bool) → b ≡ (b && true)
        and_true true = refl
        and_true false = refl

    no : (may && eqb c 0) ≡ false → Puts may at c σ τ
    no e = record { same = same; looks = refl; counts = λ q. get_d_set σ.counts at q c 0 k; turned = λ q. rw e (or_none (get_or σ.turned q false) (eqb at q)); listed = listed }
      where
        or_none : (b a : Bool) → b ≡ (b || (a && false))
        or_none true a = refl
        or_none false true = refl
        or_none false false = refl
