use Rattle.std.proofs.Common.{rules}
use Rattle.store.proofs.Growth.{grows_on, grows_put}
use Rattle.matching.proofs.Receiving.{sees_none, sees_first, none_chosen, looking_goes_on, look_lacks_choice, look_lacks_cell}
use Rattle.matching.proofs.clause.Clauses.look_through.Goals as goal

pub returns-in_err-chosen-clause-cases : goal.returns-in_err-chosen-clause-cases
returns-in_err-chosen-clause-cases c =
    let lacks = look_lacks_choice c.messages-test.true c.both-cell.ensures.left c.both-cell.ensures.right
    c.messages.invariant.0 c.in_err-chosen.ensures.cases c.messages.invariant.1 in
    search rules

pub returns-then-is_some-clause-cases : goal.returns-then-is_some-clause-cases
returns-then-is_some-clause-cases c =
    let p = c.in_ok-chosen.ensures in
    sees_first _ c.if-is_some.ensures c.messages-test.true c.both-cell.ensures.left c.both-cell.ensures.right
    c.messages.invariant.0 p.grows p.cases c.messages.invariant.1

pub returns-in_err-seen-clause-cases : goal.returns-in_err-seen-clause-cases
returns-in_err-seen-clause-cases c =
    let p = c.in_ok-chosen.ensures in
    let lacks = look_lacks_cell c.messages-test.true c.both-cell.ensures.left c.both-cell.ensures.right
    c.messages.invariant.0 p.grows (none_chosen _ c.if-is_some.ensures p.cases) c.in_err-seen.ensures.cases.short
    c.messages.invariant.1 in
    search rules

pub messages-preserved : goal.messages-preserved
messages-preserved c =
    let p = c.in_ok-chosen.ensures in
    let w = c.in_ok-seen.ensures in (
      grows_on c.messages.invariant.0 (grows_on p.grows (grows_put w.long w.cases)),
      looking_goes_on c.messages-test.true c.both-cell.ensures.left c.both-cell.ensures.right
          c.messages.invariant.0 p.grows (none_chosen _ c.if-is_some.ensures p.cases)
          w.cases c.messages.invariant.1,
    )

pub returns-clause-cases : goal.returns-clause-cases
returns-clause-cases c = sees_none c.messages-test.false c.messages.invariant.1
