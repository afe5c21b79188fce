use Rattle.matching.proofs.Mailboxes.{rewound}
use Rattle.matching.proofs.mailbox.Mailbox.rewind.Goals as goal

pub returns-clause-cases : goal.returns-clause-cases
returns-clause-cases c = let p = c.in_ok-front.ensures in rewound p.grows p.cases
