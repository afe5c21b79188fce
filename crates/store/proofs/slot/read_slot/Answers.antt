use Rattle.std.proofs.Common.{sym, arith}
use Rattle.store.proofs.Words.{slot_is, slot_past}
use Rattle.store.proofs.slot.read_slot.Goals as goal

pub returns-then-j-whole-2 : goal.returns-then-j-whole-2
returns-then-j-whole-2 c = sym (slot_past c.args.words.now c.args.j (omega arith))

pub returns : goal.returns
returns c =
    sym (slot_is c.args.words.now c.args.j _ (sym c.word.ensures) (sym c.word-2.ensures)
    (sym c.word-3.ensures))
