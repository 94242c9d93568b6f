use Rattle.std.proofs.Common.{not, ◌||◌, ltb, refl, ◌∙◌, rules}
use Rattle.std.proofs.lemmas.Iterator.Search.{all_from_yields_List}
use borrow.Author.Tests.{tests}
use Rattle.lts.specs.Sets.{member, all_below}
use Rattle.lts.proofs.Ranges.{every_range, yields_below}
use Rattle.lts.proofs.sets.SmallSet.all_below.Goals as goal

pub returns : goal.returns
unfolding all_below
returns c =
    all_from_yields_List (λ i. not (member c.args.self i) || ltb i c.args.n) _ _ _ c.all.ensures.ran (yields_below 64 refl) (λ x b q k. search (rules, tests)) ∙
    every_range 64 _
