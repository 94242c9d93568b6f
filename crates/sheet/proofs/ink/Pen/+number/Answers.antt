use Rattle.std.proofs.Common.{sym, arith}
use Rattle.std.proofs.lemmas.Fmt.{decimal_digit, decimal_step, length-decimal-le}
use Rattle.sheet.proofs.Inks.{pen_then, pen_same}
use Rattle.sheet.proofs.ink.Pen.+number.Goals as goal

pub returns-then-n-lt10 : goal.returns-then-n-lt10
returns-then-n-lt10 t c = record { wrote = pen_same (sym (decimal_digit c.args.n c.if-n-lt10.true)) c.byte.ensures; bound = omega (arith, c.byte.ensures.wrote.next) }

pub returns-else-n-lt10 : goal.returns-else-n-lt10
returns-else-n-lt10 t c =
    let wrote = pen_same (sym (decimal_step c.args.n c.if-n-lt10.false (omega arith))) (pen_then c.number.ensures.wrote c.byte-else-n-lt10.ensures) in
    record { wrote = wrote; bound = omega (arith, wrote.wrote.next, length-decimal-le 20 c.args.n (omega arith) (omega arith) (omega arith)) }
