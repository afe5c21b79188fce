use Rattle.std.proofs.Common.{◌≡◌, refl}
use Rattle.names.proofs.Entering.{table_pushed}
use Rattle.names.proofs.collect.Collector.enter.Goals as goal

pub returns-clause-cases : goal.returns-clause-cases
returns-clause-cases c =
    let low : c.in-Ok.low ≡ c.args.self.now.count = c.in-Ok.ensures.1 in
    record {
      stands = table_pushed c.args.word.now c.hash-bucket.result c.head-head.result c.in_ok-node.node
          c.hash-bucket.ensures.is c.hash-bucket.ensures.below c.head-head.ensures c.in_ok-write_slot.ensures.1
          (rw low at c.in_ok-node.ensures.cases) c.in_ok-write_slot-2.ensures.1;
      count = refl;
      used = c.in_ok-node.ensures.cases.count;
      small = c.in-Ok.ensures.0;
    }
