use Rattle.std.proofs.Common.{ℕ, length, sym, refl, arith, below_more}
use lib.ListN.{length-replicate}
use Rattle.semantics.proofs.Everywhere.{some_from, some_none}
use Rattle.sorting.specs.Repetition.{some_twice}
use Rattle.sorting.proofs.Sorts.{zeros}
use Rattle.sorting.proofs.Starts.{start_first, start_next, row_gone}
use Rattle.sorting.proofs.repeats.some_row_repeats.Goals as goal

pub loop-to-init : goal.loop-to-init
loop-to-init c =
    (refl, start_first c.args.ends.now 0 refl, length-replicate {A = ℕ} 65536 0, (λ v h. omega (arith, zeros 65536 v)), (λ i h. absurd (omega arith)))

pub returns-then-row_repeats : goal.returns-then-row_repeats
unfolding some_twice
returns-then-row_repeats c =
    sym (some_from (length c.args.ends.now) c.loop-to.to-index _ c.loop-to-test.true
    (row_gone c.args.ends.now c.args.items.now c.loop-to.to-index c.loop-to.from _ c.loop-to.invariant.1
    (omega (arith, c.loop-to.invariant.1, c.requires.rising c.loop-to.to-index c.loop-to-test.true)) (c.requires.inside c.loop-to.to-index c.loop-to-test.true) c.if-row_repeats.ensures.exact))

pub loop-to-preserved : goal.loop-to-preserved
loop-to-preserved c =
    let again = row_gone c.args.ends.now c.args.items.now c.loop-to.to-index c.loop-to.from _ c.loop-to.invariant.1
    (omega (arith, c.loop-to.invariant.1, c.requires.rising c.loop-to.to-index c.loop-to-test.true)) (c.requires.inside c.loop-to.to-index c.loop-to-test.true) c.if-row_repeats.ensures.exact in (
      omega (arith, c.loop-to.invariant.0),
      sym (start_next c.args.ends.now c.loop-to.to-index),
      omega (arith, c.row_repeats.auto.stamps, c.loop-to.invariant.2),
      c.row_repeats.ensures.stamped c.if-row_repeats.false,
      below_more _ _ c.loop-to.invariant.4 again,
    )

pub returns : goal.returns
unfolding some_twice
returns c = sym (some_none (length c.args.ends.now) _ (λ i h. c.loop-to.invariant.4 i (omega arith)))
