use Rattle.std.proofs.Common.{refl, ◌∙◌, arith}
use Rattle.names.proofs.Keywords.{same-pointwise}
use Rattle.names.proofs.Looking.{walking_begins, walking_ends, walking_found, walking_on}
use Rattle.names.proofs.table.NameTable.walk.Goals as goal

pub loop-step-init : goal.loop-step-init
loop-step-init c = walking_begins

pub returns-then-at-lt-FIRST_NODE : goal.returns-then-at-lt-FIRST_NODE
returns-then-at-lt-FIRST_NODE c = record {
  first = λ numbers d. walking_ends numbers c.if-at-lt-FIRST_NODE.true (c.loop-step.invariant numbers d);
}

pub returns-then-eq : goal.returns-then-eq
returns-then-eq c =
    record {
      first = λ numbers d. walking_found numbers c.both-cell.result.left
          (record { 0 = c.both-cell.result.left.low }) c.bytes.result.now
          (omega arith) c.both-cell.ensures.left refl c.bytes.ensures
          (c.if-eq.ensures ∙ same-pointwise c.bytes.result.now c.args.word.now) (c.loop-step.invariant numbers d);
    }

pub loop-step-preserved : goal.loop-step-preserved
loop-step-preserved c = λ numbers d.
    walking_on numbers c.both-cell.result.left c.both-cell.result.right
    (record { 0 = c.both-cell.result.left.low }) c.bytes.result.now
    (omega arith) c.both-cell.ensures.left c.both-cell.ensures.right refl
    c.bytes.ensures (c.if-eq.ensures ∙ same-pointwise c.bytes.result.now c.args.word.now)
    (c.loop-step.invariant numbers d)
