use Rattle.std.proofs.Common.{refl}
use Rattle.queue.specs.Line.{room, waiting}
use Rattle.queue.proofs.line.Line.clear.Goals as goal

pub returns-clause-none : goal.returns-clause-none
unfolding waiting room
returns-clause-none c = record { numbers = refl; room = refl }
