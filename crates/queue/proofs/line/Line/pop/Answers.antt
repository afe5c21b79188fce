use Rattle.std.proofs.Common.{refl}
use Rattle.queue.proofs.Waiting.{popped}
use Rattle.queue.proofs.line.Line.pop.Goals as goal

pub returns : goal.returns
returns c =
    let front = c.in_ok-number.ensures in
    popped c.args.self.now _ c.in_ok-number.number (front.more refl).0 front.is refl refl refl
