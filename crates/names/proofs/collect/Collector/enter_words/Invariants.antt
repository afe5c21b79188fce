use Rattle.std.proofs.Common.{◌≡◌, ◌+◌, ◌≤◌, length}
use Rattle.names.specs.Names.{own_atoms}
use Rattle.names.specs.Collect.{Holds, Stays}
use Rattle.names.proofs.Entering.{Behind, Entering}
use Rattle.names.proofs.collect.Collector.enter_words.Given as goal

abbrev pub invariant-loop-lexeme : goal.invariant-loop-lexeme
invariant-loop-lexeme l = record {
  stays : Stays l.initial.self l.self;
  used : l.self.heap.now.used + l.initial.self.count ≡ l.initial.self.heap.now.used + l.self.count;
  more : l.initial.self.count ≤ l.self.count;
  behind : Behind l.text l.rest;
  entering : Holds l.initial.self own_atoms → Entering l.self l.rest;
}

abbrev pub decreases-loop-lexeme : goal.decreases-loop-lexeme
decreases-loop-lexeme l = length l.rest
