use Rattle.std.proofs.Common.{◌≡◌, ◌+◌, [], take}
use Rattle.store.specs.Heap.{stored}
use Rattle.names.specs.Names.{own_atoms}
use Rattle.names.specs.Table.{Chained}
use Rattle.names.specs.Collect.{Holds, Stays}
use Rattle.names.proofs.collect.Collector.enter_own_atoms.Given as goal

abbrev pub invariant-loop-atom : goal.invariant-loop-atom
invariant-loop-atom l = record {
  stays : Stays l.initial.self l.self;
  count : l.self.count ≡ l.initial.self.count + l.atom-index;
  used : l.self.heap.now.used ≡ l.initial.self.heap.now.used + l.atom-index;
  stands : l.initial.self.count ≡ 0 → Chained l.initial.self.buckets.now (stored l.initial.self.heap.now) []
      → Holds l.self (take l.atom-index own_atoms);
}
