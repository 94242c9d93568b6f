use Rattle.std.proofs.Common.{refl, rules}
use Rattle.board.proofs.Books.{book_none, book_more, book_all}
use Rattle.board.proofs.renewing.fill.Goals as goal

pub loop-written-init : goal.loop-written-init
loop-written-init c = (book_none c.args.records.now _ c.clear.ensures.items, search rules, refl)

pub loop-written-preserved : goal.loop-written-preserved
loop-written-preserved c = (book_more _ _ _ _ _ _ c.loop-written-test.true c.loop-written.invariant.0 c.push_reserved.ensures.items c.read_equation.ensures, search rules, search rules)

pub returns : goal.returns
returns c = record { items = book_all _ _ _ c.loop-written-test.false c.loop-written.invariant.0; len = search rules; room = search rules }
