use Rattle.meaning.proofs.Told.{linked_told}
use Rattle.meaning.proofs.theorems.linked_told.Goals as goal

pub returns : goal.returns
returns c = linked_told
