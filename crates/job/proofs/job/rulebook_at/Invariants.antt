use Rattle.std.proofs.Common.{ℕ, ◌<◌, Decides}
use Rattle.job.specs.Jobs.{LineBegins, RulebookBegins}
use Rattle.job.proofs.job.rulebook_at.Given as goal

abbrev pub invariant-loop-at : goal.invariant-loop-at
invariant-loop-at l = Decides l.begins (LineBegins l.text l.at) × ((j : ℕ) → j < l.at → RulebookBegins l.text j → ⊥)
