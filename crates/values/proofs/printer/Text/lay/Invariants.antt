use Rattle.std.proofs.Common.{◌+◌, ◌-◌, ◌*◌, not, nat_eq, length}
use Rattle.values.specs.Walk.{rank}
use Rattle.values.proofs.Printing.{Walked}
use Rattle.values.proofs.printer.Text.lay.Given as goal

abbrev pub invariant-loop-piece : goal.invariant-loop-piece
invariant-loop-piece g l =
    Walked (not (nat_eq g.row.WRITES 0)) (g.N.Names.table l.self.names.now) l.self.words.now l.self.slot
    (length l.initial.walk.stack.words.now) l.walk l.initial.out l.out l.at l.end

abbrev pub decreases-loop-piece : goal.decreases-loop-piece
decreases-loop-piece g l = 2 * (length l.initial.out - l.end) + rank l.walk.cursor.next
