use Rattle.std.proofs.Common.{refl}
use Rattle.session.proofs.Answering.{begins}
use Rattle.session.proofs.session.Session.new.Goals as goal

pub returns-in-Ok : goal.returns-in-Ok
returns-in-Ok g c = record { kept = (refl, refl); new = begins _ _ _ c.in-Ok.ensures }
