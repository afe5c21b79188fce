use Rattle.code.proofs.Fineness.{reads_fine}
use Rattle.code.proofs.reads_fine.Goals as goal

pub returns : goal.returns
returns c = reads_fine
