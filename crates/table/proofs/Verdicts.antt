-- Why records are refused, by three tests.
use Rattle.std.proofs.Common.{◌≡◌, ℕ, ◌≤◌, Bool, true, false, cond, ◌&&◌, ◌||◌, leb, List, length, Some, None, refl, arith}
use Rattle.std.proofs.lemmas.Bool.{and_parts, leb-true}
use Rattle.records.specs.declared.Counts.{Counts}
use Rattle.records.specs.declared.Transition.{Transition}
use Rattle.records.specs.declared.Divergence.{Divergence}
use Rattle.records.specs.declared.Label.{Label}
use Rattle.table.specs.declared.TableRefusal.{TableRefusal}
use Rattle.table.specs.declared.TableRefusal.TheVariants.{Limit, Range, Repeated, Memory}
use Rattle.table.specs.declared.lists.Records.{Records}
use Rattle.table.specs.Lists.{few, inside, again, refusal_of}
use Rattle.table.specs.Table.{table_refusal, Refuses}

module _ (r : Records) where
  pub few_parts : few r ≡ true → (length r.transitions.now ≤ 2048) × (length r.divergences.now ≤ 1024) × (length r.labels.now ≤ 2048)
  few_parts e =
      let p = and_parts (leb (length r.transitions.now) 2048 && leb (length r.divergences.now) 1024) (leb (length r.labels.now) 2048) e in
      let q = and_parts (leb (length r.transitions.now) 2048) (leb (length r.divergences.now) 1024) p.0 in
      (leb-true (length r.transitions.now) 2048 q.0, leb-true (length r.divergences.now) 1024 q.1, leb-true (length r.labels.now) 2048 p.1)

  -- what is not refused
  pub none_parts : refusal_of r ≡ None → (few r ≡ true) × (inside r ≡ true) × (again r ≡ false)
  unfolding table_refusal
  none_parts e = go (few r) (inside r) (again r) e
    where
      go : (x y z : Bool) → cond x (cond y (cond z (Some Repeated) None) (Some Range)) (Some Limit) ≡ None → (x ≡ true) × (y ≡ true) × (z ≡ false)
      go true true true e = absurd (let z : ◌≡◌ {A = ℕ} 0 1 = cc in omega arith)
      go true true false e = (refl, refl, refl)
      go true false z e = absurd (let z : ◌≡◌ {A = ℕ} 0 1 = cc in omega arith)
      go false y z e = absurd (let z : ◌≡◌ {A = ℕ} 0 1 = cc in omega arith)

-- what is refused is not for want of memory
pub some_refuses : (c : Counts) (ts : List Transition) (us : List Divergence) (ps : List Label) (why : TableRefusal) → table_refusal c ts us ps ≡ Some why → Refuses (table_refusal c ts us ps) why
unfolding table_refusal
some_refuses c ts us ps Limit e = e
some_refuses c ts us ps Range e = e
some_refuses c ts us ps Repeated e = e
some_refuses c ts us ps Memory e = search (go, e)
  where
    go : (x y z : Bool) → cond x (cond y (cond z (Some Repeated) None) (Some Range)) (Some Limit) ≡ Some Memory → cond x (cond y (cond z (Some Repeated) None) (Some Range)) (Some Limit) ≡ None
    go true true true e = absurd (let z : ◌≡◌ {A = ℕ} 0 1 = cc in omega arith)
    go true true false e = refl
    go true false z e = absurd (let z : ◌≡◌ {A = ℕ} 0 1 = cc in omega arith)
    go false y z e = absurd (let z : ◌≡◌ {A = ℕ} 0 1 = cc in omega arith)

-- nothing is repeated
pub not_again : (a b c : Bool) → (a || b || c) ≡ false → a ≡ false
not_again true b c e = e
not_again false b c e = refl
