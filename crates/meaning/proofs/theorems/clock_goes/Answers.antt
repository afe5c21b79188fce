use Rattle.meaning.proofs.Quiet.{clock_goes}
use Rattle.meaning.proofs.theorems.clock_goes.Goals as goal

pub returns : goal.returns
returns c = clock_goes
