use Rattle.std.proofs.Common.{arith}
use Rattle.queue.proofs.Waiting.{front_none, front_some}
use Rattle.queue.proofs.line.Line.front.Goals as goal

pub returns-then-self-clause-is : goal.returns-then-self-clause-is
returns-then-self-clause-is c = front_none c.args.self.now (omega arith)

pub returns-clause-is : goal.returns-clause-is
returns-clause-is c = front_some c.args.self.now c.number.result (omega arith) (cc)
