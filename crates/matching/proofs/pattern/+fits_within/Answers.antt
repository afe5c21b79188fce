use Rattle.std.proofs.Common.{rules, sym}
use Rattle.store.proofs.Growth.{grows_none, grows_on}
use Rattle.matching.proofs.Fitting.{fitting_starts, fits_any, fits_leaf, fits_bind, lacks_bind, misfit_kind, misfit_edge, misfit_deep, misfit_left, lacks_left, found_is, fitting_goes_on}
use Rattle.matching.proofs.pattern.+fits_within.Goals as goal
use Rattle.matching.proofs.pattern.+fits_within.Goals.{then-node-value-via-then-node-value, then-node-value-via-else-node-value+then-depth-eq0, then-node-value-via-else-node-value+else-depth-eq0+then-step-edge}

pub parts-init : goal.parts-init
parts-init t c = (grows_none, fitting_starts)

pub returns-in-Any-clause-cases : goal.returns-in-Any-clause-cases
returns-in-Any-clause-cases t c = fits_any c.in-Any.ensures c.parts.invariant.1

pub returns-in_err-put-in-Bind-clause-cases : goal.returns-in_err-put-in-Bind-clause-cases
returns-in_err-put-in-Bind-clause-cases t c =
    let lacks = lacks_bind c.in-Bind.ensures c.parts.invariant.0 c.in_err-put-in-Bind.ensures.cases.short
    c.parts.invariant.1 in
    search rules

pub returns-in-Bind-clause-cases : goal.returns-in-Bind-clause-cases
returns-in-Bind-clause-cases t c =
    fits_bind c.in-Bind.ensures c.in_ok-put-in-Bind.ensures.cases c.parts.invariant.1

pub returns-in-Leaf-clause-cases : goal.returns-in-Leaf-clause-cases
returns-in-Leaf-clause-cases t c =
    found_is (sym c.then_some.ensures) (fits_leaf _ c.in-Leaf.ensures c.eq.ensures c.parts.invariant.1)

pub returns-then-node-value-clause-cases : goal.returns-then-node-value-clause-cases
returns-then-node-value-clause-cases t c = elim c.then-node-value.branch [
  | then-node-value-via-then-node-value w ↦
      misfit_kind c.in-Node.ensures w.if-node-value.true c.parts.invariant.1
  | then-node-value-via-else-node-value+then-depth-eq0 w ↦
      misfit_deep c.in-Node.ensures w.if-node-value.false w.if-depth-eq0.true c.parts.invariant.1
  | then-node-value-via-else-node-value+else-depth-eq0+then-step-edge w ↦
      misfit_edge c.in-Node.ensures w.if-node-value.false w.if-step-edge.true c.parts.invariant.1
]

pub returns-in_err-bound-clause-cases : goal.returns-in_err-bound-clause-cases
returns-in_err-bound-clause-cases t c =
    let lacks = lacks_left c.in-Node.ensures c.if-node-value.false c.both-parts.ensures.left
    c.both-values.ensures.left c.parts.invariant.0 c.in_err-bound.ensures.cases c.parts.invariant.1 in
    search rules

pub returns-in_default-clause-cases : goal.returns-in_default-clause-cases
returns-in_default-clause-cases t c =
    misfit_left c.in-Node.ensures c.if-node-value.false c.both-parts.ensures.left c.both-values.ensures.left
    (found_is c.in_default.is c.in_ok-bound.ensures.cases) c.parts.invariant.1

pub parts-preserved : goal.parts-preserved
parts-preserved t c =
    let p = c.in_ok-bound.ensures in (
      grows_on c.parts.invariant.0 p.grows,
      fitting_goes_on c.in-Node.ensures c.if-node-value.false c.both-parts.ensures.left
          c.both-parts.ensures.right c.both-values.ensures.left
          c.both-values.ensures.right p.grows (found_is c.in-Some.is p.cases) c.parts.invariant.1,
    )
