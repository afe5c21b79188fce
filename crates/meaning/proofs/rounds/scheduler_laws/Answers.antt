use Rattle.meaning.proofs.Scheduling.{scheduler_laws}
use Rattle.meaning.proofs.rounds.scheduler_laws.Goals as goal

pub returns : goal.returns
returns c = scheduler_laws
