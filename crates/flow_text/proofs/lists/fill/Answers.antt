use Rattle.std.proofs.Common.{◌≡◌, Ok, refl, ◌∙◌, rules}
use Rattle.std.proofs.lemmas.Result.{MatchResult-at_ok, MatchResult-at_err}
use Rattle.fields.proofs.Exits.{exit}
use Rattle.flow_text.proofs.Walking as walk
use Rattle.flow_text.proofs.lists.fill.Goals as goal

pub returns-in_err-line-clause-fills : goal.returns-in_err-line-clause-fills
returns-in_err-line-clause-fills c =
    let e = MatchResult-at_err _ _ _ c.in_err-line.was c.in-Some.ensures in
    record { fills = λ text before s. exit _ _ _ c.in_err-line.field-0.0 c.from_residual.ensures.1 (walk.unended text before _ _ _ _ (c.loop-line.invariant.sofar text before s) _ e.0 e.1 e.2) }

pub returns-in_err-x-clause-fills : goal.returns-in_err-x-clause-fills
returns-in_err-x-clause-fills c =
    let e = MatchResult-at_ok _ _ _ c.in_ok-line.was c.in-Some.ensures in
    let f = c.in_err-x.ensures in
    record {
      fills = λ text before s.
          exit _ _ _ c.in_err-x.field-0.0 c.from_residual-in_err-x.ensures.1
          (walk.misread text before _ _ _ _ (c.loop-line.invariant.sofar text before s) _ _ e.0 _ f.0 (f.1 ∙ e.1 ∙ e.2));
    }

pub loop-line-preserved : goal.loop-line-preserved
loop-line-preserved c =
    let e = MatchResult-at_ok _ _ _ c.in_ok-line.was c.in-Some.ensures in
    let put = c.put.ensures in
    let ok : c.put.result ≡ Ok tt = search rules in
    let before = c.loop-line.invariant.names in
    let names = put.names in
    record {
      sofar = λ text before s.
          let so = c.loop-line.invariant.sofar text before s in
          let k = MatchResult-at_ok _ _ _ ok ((put.put c.args.counts).puts before so.records so.kept) in
          walk.placed text before _ _ _ _ so _ _ e.0 c.in_ok-x.x c.in_ok-x.ensures _ _ k.0 k.1 refl _ e.2;
      names = (names.0 ∙ before.0, names.1 ∙ before.1, names.2 ∙ before.2);
    }

pub returns-in_err-put-clause-fills : goal.returns-in_err-put-clause-fills
returns-in_err-put-clause-fills c =
    let e = MatchResult-at_ok _ _ _ c.in_ok-line.was c.in-Some.ensures in
    record {
      fills = λ text before s.
          let so = c.loop-line.invariant.sofar text before s in
          let k = (c.in_err-put.ensures.put c.args.counts).puts before so.records so.kept in
          exit _ _ _ c.in_err-put.field-0.0 c.from_residual-in_err-put.ensures.1
          (walk.unplaced text before _ _ _ _ so _ _ e.0 c.in_ok-x.x c.in_ok-x.ensures _ _ _ k.0 (k.1 ∙ e.1 ∙ e.2) k.2);
    }

pub returns-clause-fills : goal.returns-clause-fills
returns-clause-fills c = record { fills = λ text before s. walk.ended text before _ _ _ _ (c.loop-line.invariant.sofar text before s) c.in_default.ensures.0 }
