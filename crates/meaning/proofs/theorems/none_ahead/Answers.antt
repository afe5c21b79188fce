use Rattle.meaning.proofs.Versions.{none_ahead}
use Rattle.meaning.proofs.theorems.none_ahead.Goals as goal

pub returns : goal.returns
returns c = none_ahead
