use Rattle.store.proofs.Collecting.{RootsBelow}
use Rattle.store.proofs.collector.copy_roots.Given as goal

abbrev pub invariant-loop-i : goal.invariant-loop-i
invariant-loop-i l = RootsBelow l.from l.initial.copies l.copies l.roots l.i
