use Rattle.std.proofs.Common.{◌≡◌, ◌++◌, IsSome, drop, string_bytes}
use Rattle.std.specs.List.{All}
use Rattle.report.specs.Lines.{all_lines}
use Rattle.report.proofs.Pushing.{line_of}
use Rattle.report.proofs.printing.push_lines.Given as goal

abbrev pub invariant-loop-shown : goal.invariant-loop-shown
invariant-loop-shown g l =
    All (λ (x : g.row.T.Denot). IsSome (g.T.Display.output x)) l.items → string_bytes l.out ++ all_lines (line_of g.T.Display.output) (drop l.shown-index l.items) ≡ string_bytes l.initial.out ++ all_lines (line_of g.T.Display.output) l.items
