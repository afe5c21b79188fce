use Rattle.std.proofs.Common.{◌-◌, length}
use Rattle.store.proofs.Collecting.{Scanning}
use Rattle.store.proofs.collector.scan.Given as goal

abbrev pub invariant-loop-j : goal.invariant-loop-j
invariant-loop-j l = Scanning l.from l.initial.copies l.copies l.j

abbrev pub decreases-loop-j : goal.decreases-loop-j
decreases-loop-j l = length l.copies.words.now - l.j
