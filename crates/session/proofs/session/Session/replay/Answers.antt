use Rattle.std.proofs.Common.{vec_len, refl, ◌∙◌, arith, rules}
use Rattle.std.proofs.lemmas.List.{length_push}
use Rattle.session.specs.Pages.{page_room}
use Rattle.session.proofs.Paging.{turn, end}
use Rattle.session.proofs.Replaying.{replays_none, replays_more, replays_all, same_source}
use Rattle.session.proofs.session.Session.replay.Goals as goal

pub loop-call-init : goal.loop-call-init
loop-call-init g c = record { kept = (refl, refl); long = c.in_ok-answers.ensures.len; room = c.in_ok-answers.ensures.capacity; law = λ ready. replays_none _ _ _ _ c.in_ok-answers.ensures.items }

pub invariant_of-make : goal.invariant_of-make
invariant_of-make g c =
    let pages = c.in_ok-pages.pages in
    let here = turn page_room vec_len c.args.calls.now pages.items c.in_ok-pages.ensures c.into_iter-call-iterator.result (search rules) (search rules) (search rules) c.loop-call.yielded c.loop-call.call-iterator c.loop-call.yielded_by c.next.result c.next.new.self (c.in-Some.call, c.in-Some.page) c.in-Some.is c.next.ensures.steps in
    record { long = here.fits }

pub loop-call-preserved : goal.loop-call-preserved
loop-call-preserved g c =
    let pages = c.in_ok-pages.pages in
    let here = turn page_room vec_len c.args.calls.now pages.items c.in_ok-pages.ensures c.into_iter-call-iterator.result (search rules) (search rules) (search rules) c.loop-call.yielded c.loop-call.call-iterator c.loop-call.yielded_by c.next.result c.next.new.self (c.in-Some.call, c.in-Some.page) c.in-Some.is c.next.ensures.steps in
    let k = c.loop-call.invariant.kept in
    let l = length_push c.loop-call.yielded (c.in-Some.call, c.in-Some.page) in
    record {
      kept = (c.make-answer.ensures.kept.0 ∙ k.0, c.make-answer.ensures.kept.1 ∙ k.1);
      long = omega (arith, c.loop-call.invariant.long, c.push_reserved.ensures.len);
      room = omega (arith, c.loop-call.invariant.room, c.push_reserved.ensures.capacity);
      law = λ ready.
          replays_more _ _ _ c.loop-call.self.board _ _ _ c.in-Some.call.now _ _ _ here.taken c.push_reserved.ensures.items (c.loop-call.invariant.law ready)
          (same_source g.S.Source.ready g.S.Source.meaning _ _ _ c.loop-call.self.board _ _ _ k.0 c.make-answer.ensures.call ready);
    }

pub returns-clause-law : goal.returns-clause-law
returns-clause-law g c =
    let pages = c.in_ok-pages.pages in
    let all = end page_room vec_len c.args.calls.now pages.items c.in_ok-pages.ensures c.into_iter-call-iterator.result (search rules) (search rules) (search rules) c.loop-call.yielded c.loop-call.call-iterator c.loop-call.yielded_by c.next.result c.next.new.self c.in-None.is c.next.ensures.steps in
    λ ready. replays_all _ _ _ _ _ _ _ all (c.loop-call.invariant.law ready)
