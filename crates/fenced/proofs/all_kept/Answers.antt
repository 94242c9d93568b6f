use Rattle.std.proofs.Common.{◌∙◌, rules}
use Rattle.std.proofs.lemmas.Iterator.Search.{all_from_yields_List}
use borrow.Author.Tests.{tests}
use Rattle.lts.specs.Sets.{member}
use Rattle.lts.proofs.Ranges.{every_range, yields_below}
use Rattle.fenced.specs.FencedAnswers.{keeps}
use Rattle.fenced.proofs.all_kept.Goals as goal

pub returns : goal.returns
returns g c =
    let A = g.S.Source.answers c.args.source.now in
    all_from_yields_List (keeps A (member c.args.set) c.args.s) _ _ _ c.all.ensures.ran (yields_below A.actions (search rules)) (λ x b q k. search (rules, tests)) ∙
    every_range A.actions _
