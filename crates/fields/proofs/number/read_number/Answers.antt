use Rattle.std.proofs.Common.{◌≡◌, ℕ, ◌+◌, ◌*◌, false, get_or, Some, sym, subst, pow-suc, add-one, arith, rules}
use Rattle.std.proofs.lemmas.Option.{MatchOption-at_some}
use Rattle.fields.specs.Numbers.{digit?}
use Rattle.fields.proofs.Exits.{exit}
use Rattle.fields.proofs.Digits.{Sofar, none_read, one_more, all_read, no_number, wrong_length}
use Rattle.fields.proofs.number.read_number.Goals as goal

pub returns-then-not-contains : goal.returns-then-not-contains
returns-then-not-contains c = (wrong_length _ (λ some few. search (rules, some, few)), c.at-malformed.ensures)

pub loop-b-init : goal.loop-b-init
loop-b-init c = (none_read _, omega arith)

pub returns-in_err-n : goal.returns-in_err-n
returns-in_err-n c =
    let none : digit? (get_or c.args.field.now c.loop-b.b-index 0) ≡ false = search rules in
    exit _ _ _ c.in_err-n.field-0.0 c.from_residual.ensures.1 (no_number _ c.loop-b.b-index c.loop-b-test.true none, search rules)

pub loop-b-preserved : goal.loop-b-preserved
loop-b-preserved c =
    let i = c.loop-b.b-index in
    let is : c.digit.result ≡ Some c.in_ok-n.field-0 = search rules in
    let digit = MatchOption-at_some _ _ _ is c.digit.ensures in
    let P : ℕ → Type 0 = λ d. Sofar c.args.field.now (i + 1) (c.loop-b.n * 10 + d) in
    (subst P (sym digit.1) (one_more _ i _ (omega arith) c.loop-b.invariant.0 digit.0), rw add-one (omega (arith, pow-suc 10 i, digit.2)))

pub returns : goal.returns
returns c =
    let r = all_read _ c.loop-b.b-index _ c.loop-b-test.false (search rules) (search rules) c.loop-b.invariant.0 in
    record { well_formed = r.0; valued = r.1 }
