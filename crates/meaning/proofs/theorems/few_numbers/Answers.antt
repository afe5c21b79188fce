use Rattle.meaning.proofs.Numbers.{few_numbers}
use Rattle.meaning.proofs.theorems.few_numbers.Goals as goal

pub returns : goal.returns
returns c = few_numbers
