use Rattle.std.proofs.Common.{◌+◌, cond, length, Some, None, sym, refl, ap, ◌∙◌, arith}
use Rattle.sorting.specs.Sorting.{key_of, before, found, row}
use Rattle.sorting.specs.Repetition.{repeats}
use Rattle.sorting.proofs.Sorts.{zeros, before_few}
use Rattle.sorting.proofs.Starts.{start_before, row_hits, rows_rise}
use Rattle.sorting.proofs.Twins.{rows_tell, small_parts}
use Rattle.sorting.proofs.repeats.repeated.Goals as goal

pub sort_into-requires-clause-clear : goal.sort_into-requires-clause-clear
sort_into-requires-clause-clear c = λ i h. zeros 1024 i

pub sort_into-requires-clause-room : goal.sort_into-requires-clause-room
sort_into-requires-clause-room c = (small_parts c.args.pairs.now (sym c.if-not-all_small.ensures)).0

pub some_row_repeats-requires-clause-rising : goal.some_row_repeats-requires-clause-rising
some_row_repeats-requires-clause-rising c =
    rows_rise (key_of c.args.pairs.now) (length c.args.pairs.now) c.sort_into.new.ends _ c.sort_into.ensures.ends_at refl

pub some_row_repeats-requires-clause-inside : goal.some_row_repeats-requires-clause-inside
some_row_repeats-requires-clause-inside c = λ i h.
    let ps = c.args.pairs.now in
    let fine = small_parts ps (sym c.if-not-all_small.ensures) in
    omega (arith, c.sort_into.ensures.ends_at i h, before_few (key_of ps) (length ps) (i + 1), fine.0, c.sort_into.auto.items)

pub some_row_repeats-requires-clause-under : goal.some_row_repeats-requires-clause-under
some_row_repeats-requires-clause-under c =
    let fine = small_parts c.args.pairs.now (sym c.if-not-all_small.ensures) in
    c.sort_into.ensures.under 65536 (λ k h. omega (arith, zeros 2048 k)) (λ k h. (fine.1 k h).1)

pub returns : goal.returns
returns c =
    let ps = c.args.pairs.now in
    let key = key_of ps in
    let m = length ps in
    let ends = c.sort_into.new.ends in
    let items = c.sort_into.new.items in
    let n = length ends in
    let at = c.sort_into.ensures.ends_at in
    let fine = small_parts ps (sym c.if-not-all_small.ensures) in
    let tell = rows_tell ps ends items (λ k h. omega (arith, (fine.1 k h).0, c.sort_into.auto.ends))
    (λ i s h. ap (λ b. found items b (row ends i) s) (start_before key m ends n at i (omega arith)) ∙
    ap (λ r. found items (before key m i) r s) (row_hits key m ends n at i h) ∙ c.sort_into.ensures.found_in i s h) in
    ap (λ b. Some b) (c.some_row_repeats.ensures ∙ tell) ∙ ap (λ b. cond b (Some (repeats ps)) None) c.if-not-all_small.ensures
