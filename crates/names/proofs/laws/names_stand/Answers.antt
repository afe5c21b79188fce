use Rattle.names.proofs.Naming.{names_stand}
use Rattle.names.proofs.laws.names_stand.Goals as goal

pub returns : goal.returns
returns c = names_stand
