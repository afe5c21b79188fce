use Rattle.meaning.proofs.NeverStuck.{never_stuck}
use Rattle.meaning.proofs.theorems.never_stuck.Goals as goal

pub returns : goal.returns
returns c = never_stuck
