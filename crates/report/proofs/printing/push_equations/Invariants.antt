use Rattle.std.proofs.Common.{◌≡◌, ◌++◌, drop, string_bytes}
use Rattle.report.specs.Lines.{equation_lines}
use Rattle.report.proofs.printing.push_equations.Given as goal

abbrev pub invariant-loop-i : goal.invariant-loop-i
invariant-loop-i l = string_bytes l.out ++ equation_lines l.i-counter (drop l.i-counter l.items) ≡ string_bytes l.initial.out ++ equation_lines 0 l.items
