use Rattle.std.proofs.Common.{◌^◌, ◌<◌}
use Rattle.fields.proofs.Digits.{Sofar}
use Rattle.fields.proofs.number.read_number.Given as goal

abbrev pub invariant-loop-b : goal.invariant-loop-b
invariant-loop-b l = Sofar l.field l.b-index l.n × (l.n < 10 ^ l.b-index)
