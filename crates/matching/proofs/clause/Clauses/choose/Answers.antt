use Rattle.std.proofs.Common.{rules, arith}
use Rattle.store.proofs.Growth.{grows_none, grows_on}
use Rattle.matching.proofs.Choosing.{matched_is, choosing_starts, chooses_none, chooses_some, choice_lacks, chooses_last, choosing_goes_on}
use Rattle.matching.proofs.clause.Clauses.choose.Goals as goal

pub clauses-init : goal.clauses-init
clauses-init c = (grows_none, choosing_starts)

pub returns-in_default-clause-cases : goal.returns-in_default-clause-cases
returns-in_default-clause-cases c = chooses_none c.in_default.ensures c.clauses.invariant.1

pub returns-in_err-env-clause-cases : goal.returns-in_err-env-clause-cases
returns-in_err-env-clause-cases c =
    let lacks = choice_lacks c.in-Some.ensures c.clauses.invariant.0 c.in_err-env.ensures.cases c.clauses.invariant.1 in
    search rules

pub returns-in-Some-2-clause-cases : goal.returns-in-Some-2-clause-cases
returns-in-Some-2-clause-cases c =
    chooses_some c.in-Some.ensures c.clauses.invariant.0 (matched_is c.in-Some-2.is c.in_ok-env.ensures.cases)
    c.clauses.invariant.1

pub clauses-preserved : goal.clauses-preserved
clauses-preserved c =
    let p = c.in_ok-env.ensures in (
      grows_on c.clauses.invariant.0 p.grows,
      choosing_goes_on c.in-Some.ensures c.clauses.invariant.0 (matched_is c.in_default-2.is p.cases)
          c.clauses.invariant.1,
    )

pub returns-in_default-2-clause-cases : goal.returns-in_default-2-clause-cases
returns-in_default-2-clause-cases c =
    chooses_last (omega arith)
    (choosing_goes_on c.in-Some.ensures c.clauses.invariant.0 (matched_is c.in_default-2.is c.in_ok-env.ensures.cases)
    c.clauses.invariant.1)
