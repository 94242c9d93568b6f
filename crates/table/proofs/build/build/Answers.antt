use Rattle.std.proofs.Common.{ℕ, ◌*◌, vec_items, ap₂, ◌∙◌, subst}
use Rattle.sorting.specs.Sorting.{Counted, Sorted}
use Rattle.table.specs.Records.{has, is_divergence, is_label}
use Rattle.table.proofs.Making.{made_table, noted_at}
use Rattle.table.proofs.build.build.Goals as goal

pub returns : goal.returns
returns c =
    let r = c.args.records.now in
    let rows = c.in_ok-sorted.field-0 in
    let places = ap₂ (λ (a n : ℕ). a * n) c.from.ensures c.from-states.ensures in
    made_table r c.requires c.deref.result.now c.deref-2.result.now (vec_items rows.ends) (vec_items rows.items)
    (vec_items c.in_ok-counted.field-0) (vec_items c.in_ok-noted.field-0) (vec_items c.in_ok-noted-2.field-0)
    (c.deref.ensures.value ∙ c.in_ok-arrivals.ensures) (c.deref-2.ensures.value ∙ c.in_ok-departures.ensures)
    (subst (λ n. Sorted c.deref.result.now n (vec_items rows.ends) (vec_items rows.items)) places c.in_ok-sorted.ensures)
    (subst (λ n. Counted c.deref-2.result.now n (vec_items c.in_ok-counted.field-0)) places c.in_ok-counted.ensures)
    (noted_at (vec_items c.in_ok-noted.field-0) (λ s i. has (is_divergence s i) r.divergences.now) _ _ c.from-states.ensures c.in_ok-noted.ensures)
    (noted_at (vec_items c.in_ok-noted-2.field-0) (λ s i. has (is_label i s) r.labels.now) _ _ c.from-states.ensures c.in_ok-noted-2.ensures)
