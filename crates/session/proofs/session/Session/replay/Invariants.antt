use Rattle.std.proofs.Common.{◌≡◌, ◌≤◌, length, take, vec_items, vec_len, vec_capacity}
use Rattle.session.specs.Sessions.{Kept}
use Rattle.session.specs.Standing.{Replays}
use Rattle.session.proofs.session.Session.replay.Given as goal

abbrev pub invariant-loop-call : goal.invariant-loop-call
invariant-loop-call g l =
    record {
      kept : Kept l.initial.self l.self;
      long : vec_len l.answers ≡ length l.yielded;
      room : length l.calls ≤ vec_capacity l.answers;
      law : g.S.Source.ready l.initial.self.source → Replays (g.S.Source.meaning l.initial.self.source) g.D.Side.FIXPOINT l.initial.self.board (take (length l.yielded) l.calls) (vec_items l.answers) l.self.board;
    }
