use Rattle.meaning.proofs.Able.{newly_able}
use Rattle.meaning.proofs.theorems.newly_able.Goals as goal

pub returns : goal.returns
returns c = newly_able
