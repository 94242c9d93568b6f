use Rattle.std.proofs.Common.{◌∙◌, rules}
use Rattle.fields.proofs.Exits.{exit}
use Rattle.flow_text.proofs.Walking as walk
use Rattle.flow_text.proofs.flow.read_flow.Goals as goal

pub returns-in_err-first : goal.returns-in_err-first
returns-in_err-first c = exit _ _ _ c.in_err-first.field-0.0 c.from_residual.ensures.1 (walk.unbegun _ _ _ c.in_err-first.ensures)

pub returns-in_err-counts : goal.returns-in_err-counts
returns-in_err-counts c =
    let e = c.in_ok-first.ensures in
    let f = c.in_err-counts.ensures in
    exit _ _ _ c.in_err-counts.field-0.0 c.from_residual-in_err-counts.ensures.1 (walk.head_misread _ _ (e.0, e.1) _ _ e.2 _ f.0 (f.1 ∙ e.3))

pub returns-in_err-fill : goal.returns-in_err-fill
returns-in_err-fill c =
    let e = c.in_ok-first.ensures in
    let s = walk.headed _ _ (e.0, e.1) _ _ e.2 _ c.in_ok-counts.ensures c.new-transitions.ensures.used c.new-divergences.ensures.used c.new-labels.ensures.used _ e.4 in
    exit _ _ _ c.in_err-fill.field-0.0 c.from_residual-in_err-fill.ensures.1
    (walk.refused_as _ _ _ _ _ (walk.same _ _ _ _ _ _ c.new-transitions.ensures.places c.new-divergences.ensures.places c.new-labels.ensures.places) (walk.same _ _ _ _ _ _ (search rules) (search rules) (search rules)) _ (c.in_err-fill.ensures.fills.fills _ _ s))

pub returns : goal.returns
returns c =
    let e = c.in_ok-first.ensures in
    let s = walk.headed _ _ (e.0, e.1) _ _ e.2 _ c.in_ok-counts.ensures c.new-transitions.ensures.used c.new-divergences.ensures.used c.new-labels.ensures.used _ e.4 in
    (walk.accepted_as _ _ _ _ _ (walk.same _ _ _ _ _ _ c.new-transitions.ensures.places c.new-divergences.ensures.places c.new-labels.ensures.places) (walk.same _ _ _ _ _ _ (search rules) (search rules) (search rules)) _ (c.in_ok-fill.ensures.fills.fills _ _ s))
