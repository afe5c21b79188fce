use Rattle.std.proofs.Common.{sym}
use Rattle.queue.proofs.Waiting.{length-waiting}
use Rattle.queue.proofs.line.Line.len.Goals as goal

pub returns : goal.returns
returns c = sym (length-waiting c.args.self.now)
