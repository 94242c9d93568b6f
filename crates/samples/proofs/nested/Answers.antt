use Rattle.std.proofs.Common.{◌≡◌, [], ◌∷◌, vec_items, ap, ◌∙◌}
use Rattle.semantics.specs.Lts.{Lts, all}
use Rattle.lts.specs.Sets.{set_of}
use Rattle.lts.specs.Queue.{queue_lts}
use Rattle.table.specs.Table.{table_lts}
use Rattle.table.specs.TableAnswers.{table_means}
use Rattle.samples.specs.Samples.{nested_lts, sample_counts, sample_transitions, sample_divergences, sample_labels}
use Rattle.samples.proofs.Shapes.{shape, same_shape}
use Rattle.samples.proofs.nested.Goals as goal

pub returns : goal.returns
returns c =
    let whole = c.in_ok-all.ensures in
    let fence = c.in_ok-fenced.ensures in
    let both = c.in_ok-both.ensures in
    let made = c.in_ok-table.ensures in
    let ready = (whole.exact tt (fence.ready (both.exact made.1 tt).1)).1 in
    let x = c.in_ok-all.all in
    let q = queue_lts x.left.capacity x.left.actions x.left.put x.left.take in
    let t = table_means x.right.source.left in
    let u = queue_lts x.right.source.right.capacity x.right.source.right.actions x.right.source.right.put x.right.source.right.take in
    let same : shape q t u (vec_items x.right.sets) x.right.source.shared x.shared ≡ nested_lts =
    same_shape q (queue_lts 2 3 2 0) t (table_lts sample_counts sample_transitions sample_divergences sample_labels) u (queue_lts 1 3 1 2)
    (vec_items x.right.sets) (set_of 3 ∷ []) x.right.source.shared (set_of 2) x.shared (set_of 4)
    (ap (λ y. queue_lts y.capacity y.actions y.put y.take) whole.kept.0 ∙ c.in_ok-new-2.ensures.1)
    (ap (λ y. table_means y.source.left) whole.kept.1 ∙ ap (λ y. table_means y.left) fence.kept.0 ∙ ap table_means both.kept.0 ∙ made.0)
    (ap (λ y. queue_lts y.source.right.capacity y.source.right.actions y.source.right.put y.source.right.take) whole.kept.1 ∙
    ap (λ y. queue_lts y.right.capacity y.right.actions y.right.put y.right.take) fence.kept.0 ∙
    ap (λ y. queue_lts y.capacity y.actions y.put y.take) both.kept.1 ∙ c.in_ok-new.ensures.1)
    (ap (λ y. vec_items y.sets) whole.kept.1 ∙ ap vec_items fence.kept.1 ∙ c.in_ok-sets.ensures.items ∙ ap (λ y. y ∷ []) c.from_bits.ensures)
    (ap (λ y. y.source.shared) whole.kept.1 ∙ ap (λ y. y.shared) fence.kept.0 ∙ both.kept.2 ∙ c.from_bits-2.ensures)
    (whole.kept.2 ∙ c.from_bits-3.ensures) in
    (c.all_transitions.ensures.exact ready ∙ ap all same, c.transitions_between.ensures.exact ready ∙ ap (λ (F : Lts). F.transitions 0 1 3) same)
