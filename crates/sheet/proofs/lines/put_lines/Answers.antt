use Rattle.std.proofs.Common.{◌∙◌, arith}
use Rattle.sheet.proofs.Writing.{counted_on, lines_none, lines_more}
use Rattle.sheet.proofs.lines.put_lines.Goals as goal

pub loop-i-init : goal.loop-i-init
loop-i-init g c = record { wrote = lines_none g.D.Side.FIXPOINT c.args.board.now _; within = omega arith }

pub loop-i-preserved : goal.loop-i-preserved
loop-i-preserved g c =
    record {
      wrote = lines_more g.D.Side.FIXPOINT c.args.board.now c.loop-i.i c.states.result c.on_states-marked.result c.states.ensures.value (c.on_states-marked.ensures.count ∙ counted_on g.D.Side.FIXPOINT c.args.board.now c.loop-i.i c.args.board.now.states) c.loop-i.invariant.wrote c.put_line.ensures.wrote;
      within = omega arith;
    }
