use Rattle.std.proofs.Common.{IsSome, sym, subst, arith}
use Rattle.report.proofs.Pushing.{line_of, known_more, lines_all}
use Rattle.report.proofs.printing.push_lines.Goals as goal

pub loop-shown-preserved : goal.loop-shown-preserved
loop-shown-preserved g c known =
    let i = c.loop-shown.shown-index in
    let told = subst (λ (x : g.row.T.Denot). IsSome (g.T.Display.output x)) (sym c.shown-item.is) (known i _ (omega arith)) in
    known_more g.T.Display.output c.args.items.now i _ _ _ c.shown-item.result _ (omega arith) c.shown-item.is told c.in_ok-writeln.ensures.bytes (c.loop-shown.invariant known)

pub returns : goal.returns
returns g c known = lines_all (line_of g.T.Display.output) _ c.loop-shown.shown-index _ _ (c.loop-shown.invariant known) (omega arith)
