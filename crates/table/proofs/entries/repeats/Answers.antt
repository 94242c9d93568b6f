use Rattle.std.proofs.Common.{false, unwrap_or, ap, ◌∙◌, arith, length-set}
use Rattle.table.proofs.Pairing.{front_repeated}
use Rattle.table.proofs.entries.repeats.Goals as goal

pub returns : goal.returns
returns g c =
    c.unwrap_or.ensures ∙
    ap (λ o. unwrap_or o false)
    (c.repeated.ensures ∙
    front_repeated g.E.Entry.key g.E.Entry.value c.args.entries.now c.loop-k.pairs _ (omega arith) (omega (arith, c.loop-k.invariant.0, c.requires.few))
    (λ k d h. c.loop-k.invariant.1 k d (omega arith)) c.requires.few c.requires.small)
