use Rattle.std.proofs.Common.{ℕ, List}
use Rattle.store.specs.Heap.{stored, Den}
use Rattle.names.specs.Buckets.{atoms}
use Rattle.names.specs.Table.{table}
use Rattle.names.proofs.Looking.{Walking}
use Rattle.names.proofs.table.NameTable.walk.Given as goal

abbrev pub invariant-loop-step : goal.invariant-loop-step
invariant-loop-step l = (numbers : List ℕ) → Den (stored l.heap) l.initial.at (atoms numbers)
    → Walking (table l.self.text.now l.self.spans.now l.self.count) (stored l.heap) l.at l.word l._step numbers
