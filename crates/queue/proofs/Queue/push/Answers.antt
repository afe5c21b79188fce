use Rattle.std.proofs.Common.{arith}
use Rattle.std.proofs.lemmas.Grind.{common_steps}
use Rattle.std.proofs.lemmas.Result.{MatchResult-weaker}
use Rattle.queue.proofs.Entries.{workers-append}
use Rattle.queue.proofs.Queue.push.Goals as goal

pub returns : goal.returns
returns c = MatchResult-weaker c.push.result c.push.ensures.cases
    (λ _ more. grind (arith, common_steps, workers-append, more, c.self.view_is))
    (λ _ kept. grind (arith, common_steps, kept, c.self.view_is))
