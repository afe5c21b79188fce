use Rattle.matching.proofs.Mailboxes.{pushed}
use Rattle.matching.proofs.mailbox.Mailbox.push.Goals as goal

pub returns-clause-cases : goal.returns-clause-cases
returns-clause-cases c = pushed c.in_ok-back.ensures.cases
