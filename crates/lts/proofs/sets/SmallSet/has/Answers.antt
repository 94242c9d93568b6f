use Rattle.std.proofs.Common.{sym, refl, ◌∙◌, rules}
use Rattle.std.proofs.lemmas.Bool.{le-ltb}
use Rattle.lts.specs.Sets.{bit}
use Rattle.lts.proofs.Bits.{high_bit}
use Rattle.lts.proofs.sets.SmallSet.has.Goals as goal

pub returns-then-i-lt64 : goal.returns-then-i-lt64
unfolding bit
returns-then-i-lt64 c = refl

pub returns-else-i-lt64 : goal.returns-else-i-lt64
returns-else-i-lt64 c = le-ltb c.args.i 64 c.if-i-lt64.false ∙ sym (high_bit c.args.self.bits c.args.i (search rules) c.if-i-lt64.false)
