use Rattle.std.proofs.Common.{◌≡◌, length}
use Rattle.flowcheck.proofs.read_input.Given as goal

abbrev pub invariant-loop : goal.invariant-loop
invariant-loop g l = length l.chunk ≡ 4096
