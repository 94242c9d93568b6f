use Rattle.std.proofs.Common.{◌<◌, ◌&&◌, ◌||◌, eqb, ltb, length, get_or, ap, ◌∙◌, arith, take_all}
use Rattle.lts.specs.Sets.{member}
use Rattle.table.specs.Records.{has}
use Rattle.table.specs.TableAnswers.{empty_set}
use Rattle.table.proofs.Noting.{note_more, note_skip, has_none}
use Rattle.table.proofs.entries.note.Goals as goal
use Rattle.table.proofs.entries.note.Goals.{then-key-sets, else-key-sets}

pub loop-entry-init : goal.loop-entry-init
loop-entry-init g c = λ s i h. has_none _ c.args.entries.now (member (get_or c.args.sets.now s empty_set) i) (ltb i 64)

pub loop-entry-preserved : goal.loop-entry-preserved
loop-entry-preserved g c = λ s i h.
    let l : s < length c.loop-entry.sets = omega (arith, c.if-key-sets.auto.sets) in
    let xs = c.args.entries.now in
    let x = c.entry-item.result in
    elim c.if-key-sets.branch [
      | then-key-sets w ↦ ap (λ v. member (get_or v s empty_set) i) w.sets-is ∙
          note_more g.E.Entry.key g.E.Entry.value xs c.loop-entry.entry-index x c.loop-entry-test.true c.entry-item.is c.args.sets.now c.loop-entry.sets
          c.pair-key.result.0 c.pair-key.result.1 c.pair-key.ensures.0 c.pair-key.ensures.1 c.loop-entry.invariant w.if-key-sets.true w.with.result w.with.ensures s i l
      | else-key-sets w ↦ ap (λ v. member (get_or v s empty_set) i) w.sets-is ∙
          note_skip g.E.Entry.key g.E.Entry.value xs c.loop-entry.entry-index x c.loop-entry-test.true c.entry-item.is c.args.sets.now c.loop-entry.sets
          c.pair-key.result.0 c.pair-key.ensures.0 c.loop-entry.invariant w.if-key-sets.false s i l
    ]
