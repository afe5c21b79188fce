use Rattle.meaning.proofs.Results.{begins}
use Rattle.meaning.proofs.theorems.begins.Goals as goal

pub returns : goal.returns
returns c = begins
