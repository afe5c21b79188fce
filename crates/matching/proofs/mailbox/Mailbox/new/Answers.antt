use Rattle.std.proofs.Common.{refl}
use Rattle.matching.proofs.Mailboxes.{empty_mail}
use Rattle.matching.proofs.mailbox.Mailbox.new.Goals as goal

pub returns : goal.returns
returns c = empty_mail refl
