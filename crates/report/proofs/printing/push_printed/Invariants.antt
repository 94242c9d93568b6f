use Rattle.std.proofs.Common.{◌≡◌, ◌++◌, drop, string_bytes}
use Rattle.report.specs.Lines.{all_lines}
use Rattle.report.proofs.Pushing.{line_of}
use Rattle.report.proofs.printing.push_printed.Given as goal

abbrev pub invariant-loop-item : goal.invariant-loop-item
invariant-loop-item g l =
    string_bytes l.out ++ all_lines (line_of g.T.Display.output) (drop l.item-index l.items) ≡ string_bytes l.initial.out ++ all_lines (line_of g.T.Display.output) l.items
