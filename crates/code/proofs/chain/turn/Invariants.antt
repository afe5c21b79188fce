use Rattle.std.proofs.Common.{◌-◌, length}
use Rattle.store.specs.Heap.{stored, Grows}
use Rattle.code.proofs.Turning.{Turning}
use Rattle.code.proofs.chain.turn.Given as goal

abbrev pub invariant-values : goal.invariant-values
invariant-values l =
    Grows (stored l.initial.heap) (stored l.heap)
    × Turning l.kind (stored l.initial.heap) (stored l.heap) l.initial.rest l.initial.done l.rest l.done

abbrev pub decreases-values : goal.decreases-values
decreases-values l = length l.heap.words.now - l.heap.used
