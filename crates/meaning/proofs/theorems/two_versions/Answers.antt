use Rattle.meaning.proofs.Versions.{two_versions}
use Rattle.meaning.proofs.theorems.two_versions.Goals as goal

pub returns : goal.returns
returns c = two_versions
