use Rattle.std.proofs.Common.{◌∙◌, rules}
use Rattle.std.proofs.lemmas.Iterator.{YieldsList-from_slice}
use Rattle.std.proofs.lemmas.Iterator.Search.{all_from_yields_List}
use borrow.Author.Tests.{tests}
use Rattle.table.proofs.Listing.{each_is}
use Rattle.table.proofs.entries.all_inside.Goals as goal

pub returns : goal.returns
returns g c =
    all_from_yields_List (g.E.Entry.inside c.args.counts) _ _ _ c.all.ensures.ran (YieldsList-from_slice c.args.entries.now cc) (λ x b q k. search (rules, tests)) ∙
    each_is (g.E.Entry.inside c.args.counts) c.args.entries.now
