use Rattle.names.proofs.Naming.{index_below}
use Rattle.names.proofs.laws.index_below.Goals as goal

pub returns : goal.returns
returns c = index_below
