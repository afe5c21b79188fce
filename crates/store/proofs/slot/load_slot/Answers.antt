use Rattle.std.proofs.Common.{refl}
use Rattle.store.specs.Slots.{slot_at}
use Rattle.store.proofs.slot.load_slot.Goals as goal

pub returns : goal.returns
unfolding slot_at
returns c = refl
