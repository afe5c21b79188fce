use Rattle.std.proofs.Common.{refl}
use Rattle.queue.specs.Line.{room, waiting}
use Rattle.queue.proofs.line.Line.new.Goals as goal

pub returns-clause-none : goal.returns-clause-none
unfolding waiting
returns-clause-none c = refl

pub returns-clause-room : goal.returns-clause-room
unfolding room
returns-clause-room c = refl
