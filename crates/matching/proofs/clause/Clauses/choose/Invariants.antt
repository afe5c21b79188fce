use Rattle.store.specs.Heap.{stored, Grows}
use Rattle.matching.specs.Choices.{Choosing}
use Rattle.matching.proofs.clause.Clauses.choose.Given as goal

abbrev pub invariant-clauses : goal.invariant-clauses
invariant-clauses l =
    Grows (stored l.initial.heap) (stored l.heap)
    × Choosing l.self.code.now (stored l.initial.heap) (stored l.heap) l.initial.rest l.value l.self.env l.rest l.counter
