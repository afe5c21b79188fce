use Rattle.std.proofs.Common.{◌≡◌}
use Rattle.code.proofs.Variables.{descend}
use Rattle.code.proofs.environment.look_up.Given as goal

abbrev pub invariant-names : goal.invariant-names
invariant-names l = l.rest ≡ descend l.heap.words.now l.counter l.initial.rest
