use Rattle.std.proofs.Common.{arith}
use Rattle.machine.proofs.Performs.{ask_asks, ask_self, ask_exit}
use Rattle.machine.proofs.performing.ask.Goals as goal

pub returns-in-Itself : goal.returns-in-Itself
returns-in-Itself c = ask_self c.in-Itself.is (omega arith) c.from.ensures

pub returns-in-Exit : goal.returns-in-Exit
returns-in-Exit c = ask_exit c.in-Exit.is c.right.ensures c.if-right-ne-VALUES.true c.left.ensures

pub returns-in_default : goal.returns-in_default
returns-in_default c = ask_asks

pub returns-in_default-2 : goal.returns-in_default-2
returns-in_default-2 c = ask_asks
