use Rattle.std.proofs.Common.{ℕ, ◌&&◌, ltb, leb, length, get_or, sym, ap, ◌∙◌, rules}
use Rattle.std.proofs.lemmas.Bool.{le-leb, lt-leb, and_left}
use Rattle.std.proofs.lemmas.Iterator.{YieldsList-from_slice}
use Rattle.std.proofs.lemmas.Iterator.Search.{all_from_yields_List}
use borrow.Author.Tests.{tests}
use Rattle.semantics.specs.Lts.{every}
use Rattle.sorting.specs.Repetition.{small}
use Rattle.sorting.proofs.Listed.{every_item}
use Rattle.sorting.proofs.repeats.all_small.Goals as goal

pub returns-then-pairs-le2048 : goal.returns-then-pairs-le2048
unfolding small
returns-then-pairs-le2048 c =
    let ps = c.args.pairs.now in
    let p = λ (x : ℕ × ℕ). ltb x.0 1024 && ltb x.1 65536 in
    all_from_yields_List p _ _ _ c.all.ensures.ran (YieldsList-from_slice ps cc) (λ x b q k. search (rules, tests)) ∙ every_item p ps (0, 0) ∙
    ap (λ b. b && every (length ps) (λ k. p (get_or ps k (0, 0)))) (sym (le-leb (length ps) 2048 c.if-pairs-le2048.true))

pub returns-else-pairs-le2048 : goal.returns-else-pairs-le2048
unfolding small
returns-else-pairs-le2048 c =
    let long = lt-leb (length c.args.pairs.now) 2048 c.if-pairs-le2048.false in
    long ∙ sym (and_left (leb (length c.args.pairs.now) 2048) _ long)
