use Rattle.code.proofs.Functions.{Walks}
use Rattle.code.proofs.program.Program.find.Given as goal

abbrev pub invariant-definitions : goal.invariant-definitions
invariant-definitions l = Walks l.code l.initial.chain l.chain l.counter l.section l.count
