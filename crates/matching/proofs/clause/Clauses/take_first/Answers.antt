use Rattle.std.proofs.Common.{rules}
use Rattle.store.specs.Heap.{stored}
use Rattle.matching.specs.Receives.{TakeLacks}
use Rattle.matching.proofs.Receiving.{taken_is, takes_front, none_seen, takes_back, take_lacks_front, take_lacks_turn, take_lacks_back}
use Rattle.matching.proofs.clause.Clauses.take_first.Goals as goal

pub returns-in_err-in_front-clause-cases : goal.returns-in_err-in_front-clause-cases
returns-in_err-in_front-clause-cases c =
    let lacks : TakeLacks c.args.self.code.now (stored c.args.heap.now) c.args.self.first c.args.mailbox c.args.self.env =
    take_lacks_front c.in_err-in_front.ensures.cases in
    search rules

pub returns-then-is_some-clause-cases : goal.returns-then-is_some-clause-cases
returns-then-is_some-clause-cases c =
    let p = c.in_ok-in_front.ensures in
    taken_is c.with_back.ensures (takes_front _ c.if-is_some.ensures p.grows p.cases)

pub returns-in_err-front-clause-cases : goal.returns-in_err-front-clause-cases
returns-in_err-front-clause-cases c =
    let p = c.in_ok-in_front.ensures in
    let lacks = take_lacks_turn (none_seen _ c.if-is_some.ensures p.cases) p.grows c.in_err-front.ensures.cases in
    search rules

pub returns-in_err-in_back-clause-cases : goal.returns-in_err-in_back-clause-cases
returns-in_err-in_back-clause-cases c =
    let p = c.in_ok-in_front.ensures in
    let t = c.in_ok-front.ensures in
    let lacks = take_lacks_back (none_seen _ c.if-is_some.ensures p.cases) p.grows t.cases t.grows
    c.in_err-in_back.ensures.cases in
    search rules

pub returns-clause-cases : goal.returns-clause-cases
returns-clause-cases c =
    let p = c.in_ok-in_front.ensures in
    let t = c.in_ok-front.ensures in
    taken_is c.with_back-2.ensures
    (takes_back _ (none_seen _ c.if-is_some.ensures p.cases) p.grows t.cases t.grows c.in_ok-in_back.ensures.cases)
