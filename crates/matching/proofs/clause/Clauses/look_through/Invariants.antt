use Rattle.std.proofs.Common.{◌-◌, length}
use Rattle.store.specs.Heap.{stored, Grows}
use Rattle.matching.specs.Receives.{Looking}
use Rattle.matching.proofs.clause.Clauses.look_through.Given as goal

abbrev pub invariant-messages : goal.invariant-messages
invariant-messages l =
    Grows (stored l.initial.heap) (stored l.heap)
    × Looking l.self.code.now (stored l.initial.heap) (stored l.heap) l.self.first l.self.env l.initial.seen
    l.initial.rest l.seen l.rest

abbrev pub decreases-messages : goal.decreases-messages
decreases-messages l = length l.heap.words.now - l.heap.used
