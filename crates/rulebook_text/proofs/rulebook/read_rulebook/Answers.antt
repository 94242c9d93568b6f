use Rattle.std.proofs.Common.{◌≡◌, ℕ, ◌+◌, ap, sym, refl, ◌∙◌, subst, arith, rules}
use Rattle.std.proofs.lemmas.Result.{MatchResult-at_ok, MatchResult-at_err}
use Rattle.fields.specs.Faults.{fault}
use Rattle.fields.specs.declared.fault.Cause.TheVariants.{Turn}
use Rattle.fields.proofs.Exits.{exit}
use Rattle.rulebook_text.specs.Reading.{Refuses}
use Rattle.rulebook_text.proofs.Walking as walk
use Rattle.rulebook_text.proofs.rulebook.read_rulebook.Goals as goal

pub returns-in_err-first : goal.returns-in_err-first
returns-in_err-first c = exit _ _ _ c.in_err-first.field-0.0 c.from_residual.ensures.1 (walk.unbegun _ _ _ c.in_err-first.ensures)

pub returns-in_err-book : goal.returns-in_err-book
returns-in_err-book c =
    let e = c.in_ok-first.ensures in
    let f = c.in_err-book.ensures in
    exit _ _ _ c.in_err-book.field-0.0 c.from_residual-in_err-book.ensures.1 (walk.head_misread _ _ (e.0, e.1) _ _ e.2 _ f.0 (f.1 ∙ e.3))

pub loop-line-init : goal.loop-line-init
loop-line-init c =
    let e = c.in_ok-first.ensures in
    record { sofar = walk.headed _ _ (e.0, e.1) _ _ e.2 _ c.in_ok-book.ensures _ e.4; few = omega (arith, e.4, e.5); name = refl }

pub returns-in_err-line : goal.returns-in_err-line
returns-in_err-line c =
    let e = MatchResult-at_err _ _ _ c.in_err-line.was c.in-Some.ensures in
    exit _ _ _ c.in_err-line.field-0.0 c.from_residual-in_err-line.ensures.1
    (walk.refused_as _ _ c.loop-line.equations.list.now _ (search rules) _ (walk.unended _ _ _ _ _ _ _ c.loop-line.invariant.sofar _ e.0 e.1 e.2))

pub returns-in_err-x : goal.returns-in_err-x
returns-in_err-x c =
    let e = MatchResult-at_ok _ _ _ c.in_ok-line.was c.in-Some.ensures in
    let f = c.in_err-x.ensures in
    exit _ _ _ c.in_err-x.field-0.0 c.from_residual-in_err-x.ensures.1
    (walk.refused_as _ _ c.loop-line.equations.list.now _ (search rules) _ (walk.misread _ _ _ _ _ _ _ c.loop-line.invariant.sofar _ _ e.0 _ f.0 (f.1 ∙ e.1 ∙ e.2)))

pub returns-in_err-put : goal.returns-in_err-put
returns-in_err-put c =
    let e = MatchResult-at_ok _ _ _ c.in_ok-line.was c.in-Some.ensures in
    let s = c.loop-line.invariant.sofar in
    let k = c.in_err-put.ensures.put.puts _ s.records s.row in
    exit _ _ _ c.in_err-put.field-0.0 c.from_residual-in_err-put.ensures.1
    (walk.refused_as _ _ c.put.new.self.list.now _ (search rules) _ (walk.unplaced _ _ _ _ _ _ _ s _ _ e.0 _ c.in_ok-x.ensures _ _ k.0 (k.1 ∙ e.1 ∙ e.2) k.2))

pub loop-line-preserved : goal.loop-line-preserved
loop-line-preserved c =
    let e = MatchResult-at_ok _ _ _ c.in_ok-line.was c.in-Some.ensures in
    let s = c.loop-line.invariant.sofar in
    let k = c.in_ok-put.ensures.put.puts _ s.records s.row in
    record {
      sofar = walk.placed _ _ _ _ _ _ _ s _ _ e.0 _ c.in_ok-x.ensures _ k.0 k.1 _ e.2 _ c.in_ok-put.ensures.done;
      few = omega (arith, e.2, e.3, c.loop-line.invariant.few);
      name = c.put.ensures.name ∙ c.loop-line.invariant.name;
    }

pub returns-then-equations-from : goal.returns-then-equations-from
returns-then-equations-from c =
    let e = c.in_default.ensures in
    let at : c.loop-line.lines.count + 1 ≡ c.done.result + 1 = ap (λ n. n + 1) (sym (c.done.ensures ∙ ap (λ l. l.count) e.1)) in
    let P : ℕ → Type 0 = λ n. Refuses c.args.text.now (fault Turn n 0) c.args.equations.now c.loop-line.equations.list.now in
    rw c.at.ensures (walk.refused_as _ _ c.loop-line.equations.list.now _ (search rules) _ (subst P at (walk.missing _ _ _ _ _ _ _ c.loop-line.invariant.sofar e.0 (omega (arith, c.from.ensures)))))

pub returns : goal.returns
returns c = walk.accepted_as _ _ c.loop-line.equations.list.now _ (search rules) _ (walk.ended _ _ _ _ _ _ _ c.loop-line.invariant.sofar c.in_default.ensures.0 (omega (arith, c.from.ensures)))
