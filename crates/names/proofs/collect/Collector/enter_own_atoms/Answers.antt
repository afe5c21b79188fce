use Rattle.std.proofs.Common.{◌≡◌, refl, arith}
use Rattle.names.specs.Names.{own_atoms}
use Rattle.names.proofs.Keywords.{get_or_now}
use Rattle.names.proofs.Entering.{own_more, own_ends, stays_trans}
use Rattle.names.proofs.collect.Collector.enter_own_atoms.Goals as goal

pub loop-atom-preserved : goal.loop-atom-preserved
unfolding own_atoms
loop-atom-preserved c =
    let before = c.loop-atom.invariant in
    let e = c.in_ok-enter.ensures.cases in
    record {
      stays = stays_trans before.stays c.in_ok-enter.ensures.stays;
      count = omega (arith, e.count);
      used = omega (arith, e.used);
      stands = λ none empty. own_more c.loop-atom-test.true (omega (arith, none, before.count)) (rw get_or_now refl) e
          (before.stands none empty);
    }

pub returns-clause-cases : goal.returns-clause-cases
returns-clause-cases c =
    let all : c.loop-atom.atom-index ≡ 16 = omega arith in
    record {
      stands = λ none empty. own_ends c.loop-atom.self c.loop-atom.atom-index all
          (c.loop-atom.invariant.stands none empty);
      used = omega (arith, c.loop-atom.invariant.used);
    }
