use Rattle.meaning.proofs.Alone.{alone}
use Rattle.meaning.proofs.theorems.alone.Goals as goal

pub returns : goal.returns
returns c = alone
