use Rattle.meaning.proofs.Able.{can_stays}
use Rattle.meaning.proofs.theorems.can_stays.Goals as goal

pub returns : goal.returns
returns c = can_stays
