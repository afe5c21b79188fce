use Rattle.store.proofs.Words.{wrote}
use Rattle.store.proofs.slot.set_slot.Goals as goal

pub returns : goal.returns
returns c = wrote c.args.words.now c.args.j c.args.slot c.requires
