use Rattle.std.proofs.Common.{arith}
use Rattle.report.proofs.Pushing.{line_of, known_more, lines_all}
use Rattle.report.proofs.printing.push_printed.Goals as goal

pub loop-item-preserved : goal.loop-item-preserved
loop-item-preserved g c =
    known_more g.T.Display.output c.args.items.now c.loop-item.item-index _ _ _ c.item-item.result _ (omega arith) c.item-item.is (g.met.T.Printed.known c.item-item.result) c.in_ok-writeln.ensures.bytes c.loop-item.invariant

pub returns : goal.returns
returns g c = lines_all (line_of g.T.Display.output) _ c.loop-item.item-index _ _ c.loop-item.invariant (omega arith)
