use Rattle.std.proofs.Common.{◌≡◌, ℕ, ◌+◌, ◌*◌, ◌<◌, ◌≤◌, ◌^◌, Bool, not, cond, length, get_or, false, count_by, arith, rules}
use mathlib.Core.Bool.{beq}
use Rattle.std.specs.List.{range_with_len}
use Rattle.std.proofs.lemmas.Iterator.{YieldsList-from_range, YieldsList-from_map}
use Rattle.std.proofs.lemmas.Iterator.Consumers.{sum_by_from_yields_List, fits_by_from_yields_list}
use Rattle.std.proofs.lemmas.List.Sums.{count_by-le-length}
use Rattle.std.proofs.lemmas.List.FromFn.{length-range_with_len}
use borrow.Author.Tests.{tests}
use Rattle.semantics.specs.Equations.{start}
use Rattle.sheet.proofs.lines.on_states.Goals as goal

-- at most one for each state
counts_low : (p : ℕ → Bool) (n : ℕ) → n ≤ 8192 → count_by p (range_with_len 0 n) ≤ 8192
counts_low p n h = omega (arith, count_by-le-length p (range_with_len 0 n), length-range_with_len 0 n)

pub sum-requires-clause-fits : goal.sum-requires-clause-fits
sum-requires-clause-fits g c =
    let σ = c.args.board.now in
    let on = λ (s : ℕ). not (beq (get_or σ.turned (s * length σ.book + c.args.i) false) (start g.D.Side.FIXPOINT)) in
    let low = counts_low on σ.states (omega arith) in
    let fits : count_by on (range_with_len 0 σ.states) < 2 ^ 64 = omega arith in
    let states = YieldsList-from_range 0 c.states.result σ.states c.map.ensures.source (omega arith) in
    fits_by_from_yields_list (λ s. cond (on s) 1 0) (range_with_len 0 σ.states) c.map.result _ (YieldsList-from_map _ (λ (s : ℕ). cond (on s) 1 0) states c.map.ensures.closure (λ x r q k. search (rules, tests))) fits

pub returns : goal.returns
returns g c =
    let σ = c.args.board.now in
    let on = λ (s : ℕ). not (beq (get_or σ.turned (s * length σ.book + c.args.i) false) (start g.D.Side.FIXPOINT)) in
    let low = counts_low on σ.states (omega arith) in
    let states = YieldsList-from_range 0 c.states.result σ.states c.map.ensures.source (omega arith) in
    let count : c.sum.result ≡ count_by on (range_with_len 0 σ.states) =
    sum_by_from_yields_List (λ s. cond (on s) 1 0) (range_with_len 0 σ.states) c.map.result c.sum.result c.sum.ensures.ran (YieldsList-from_map _ (λ (s : ℕ). cond (on s) 1 0) states c.map.ensures.closure (λ x r q k. search (rules, tests))) in
    record { count = count; bound = omega (arith, count, low) }
