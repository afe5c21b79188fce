use Rattle.grammar.proofs.Exact.{one_program}
use Rattle.grammar.proofs.one_program.Goals as goal

pub returns : goal.returns
returns c = one_program
