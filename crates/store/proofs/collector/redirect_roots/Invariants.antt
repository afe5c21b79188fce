use Rattle.store.proofs.Collecting.{Redirecting}
use Rattle.store.proofs.collector.redirect_roots.Given as goal

abbrev pub invariant-loop-i : goal.invariant-loop-i
invariant-loop-i l = Redirecting l.initial.roots l.roots l.next l.i
