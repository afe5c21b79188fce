use Rattle.store.specs.Heap.{stored, Den}
use Rattle.store.specs.Tree.{Tree}
use Rattle.store_tests.proofs.Walks.{StandsAt}
use Rattle.store_tests.proofs.spine_of.Given as goal

abbrev pub invariant-loop-steps : goal.invariant-loop-steps
invariant-loop-steps l = (t : Tree) → Den (stored l.heap) l.initial.rest t → StandsAt (stored l.heap) l.rest l.steps t
