use Rattle.std.proofs.Common.{ap, sym, ◌∙◌, arith}
use Rattle.std.proofs.lemmas.Bool.{true≢false}
use Rattle.sorting.specs.Repetition.{twice}
use Rattle.sorting.proofs.Stamps.{stamped_none, stamped_at, hit_at}
use Rattle.sorting.proofs.repeats.row_repeats.Goals as goal

pub loop-v-init : goal.loop-v-init
loop-v-init c = stamped_none c.args.row.now 0 c.args.stamps.now c.args.stamp c.requires.older

pub returns-then-stamps-v-clause-exact : goal.returns-then-stamps-v-clause-exact
returns-then-stamps-v-clause-exact c =
    sym (hit_at c.args.row.now c.loop-v.v-index c.loop-v.stamps c.args.stamp c.loop-v-test.true c.loop-v.invariant
    (omega (arith, c.requires.under c.loop-v.v-index c.loop-v-test.true)) c.if-stamps-v.true)

pub loop-v-preserved : goal.loop-v-preserved
loop-v-preserved c =
    stamped_at c.args.row.now c.loop-v.v-index c.loop-v.stamps c.args.stamp c.loop-v.invariant
    (omega (arith, c.requires.under c.loop-v.v-index c.loop-v-test.true)) c.if-stamps-v.false
