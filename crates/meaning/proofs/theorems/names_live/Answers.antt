use Rattle.meaning.proofs.Numbers.{names_live}
use Rattle.meaning.proofs.theorems.names_live.Goals as goal

pub returns : goal.returns
returns c = names_live
