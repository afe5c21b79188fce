use Rattle.meaning.proofs.Quiet.{quiet_means}
use Rattle.meaning.proofs.theorems.quiet_means.Goals as goal

pub returns : goal.returns
returns c = quiet_means
