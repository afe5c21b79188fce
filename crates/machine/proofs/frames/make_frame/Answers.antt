use Rattle.machine.proofs.Standing.{framed}
use Rattle.machine.proofs.frames.make_frame.Goals as goal

pub returns-clause-cases : goal.returns-clause-cases
returns-clause-cases c = framed _ _ _ c.put-2.result c.in_ok-part.ensures.long c.in_ok-part.ensures.cases c.put-2.ensures.cases
