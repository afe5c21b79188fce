use Rattle.meaning.proofs.Examples.{worked}
use Rattle.meaning.proofs.worked.worked_programs.Goals as goal

pub returns : goal.returns
returns c = worked
