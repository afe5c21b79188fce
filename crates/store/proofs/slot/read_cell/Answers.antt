use Rattle.store.proofs.Words.{cell_past}
use Rattle.std.proofs.Common.{arith}
use Rattle.store.proofs.slot.read_cell.Goals as goal

pub returns-then-c-words-2 : goal.returns-then-c-words-2
returns-then-c-words-2 c = cell_past c.args.words.now c.args.place.0 (omega arith)
