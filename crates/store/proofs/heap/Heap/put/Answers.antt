use Rattle.std.proofs.Common.{arith}
use Rattle.store.proofs.Denoting.{put_cell}
use Rattle.store.proofs.heap.Heap.put.Goals as goal

pub returns-clause-cases : goal.returns-clause-cases
returns-clause-cases c =
    let wrote = c.in_ok-write_cell.ensures in
    put_cell c.args.self.now.words.now c.write_cell.new.words c.args.self.now.used
    c.args.kind _ c.slot.result
    (omega (arith, wrote.0, c.write_cell.auto.words)) c.slot.ensures.kind
    c.slot.ensures.place wrote.1
