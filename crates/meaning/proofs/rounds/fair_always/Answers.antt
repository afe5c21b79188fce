use Rattle.meaning.proofs.Fairness.{fair_always}
use Rattle.meaning.proofs.rounds.fair_always.Goals as goal

pub returns : goal.returns
returns c = fair_always
