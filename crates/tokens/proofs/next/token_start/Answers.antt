use Rattle.std.proofs.Common.{◌+◌, ◌≤◌, sym, arith}
use Rattle.tokens.proofs.Skipping.{blank_passed, comment_entered, comment_past, skipped_all, comment_last}
use Rattle.tokens.proofs.next.token_start.Goals as goal

pub loop-at-preserved-then-is_blank : goal.loop-at-preserved-then-is_blank
loop-at-preserved-then-is_blank c = (
  omega arith,
  blank_passed c.args.text.now c.loop-at.at
      c.loop-at-test.true (sym c.if-is_blank.ensures) c.loop-at.invariant.1,
)

pub returns-in_err-at : goal.returns-in_err-at
returns-in_err-at c =
    let entered = comment_entered c.args.text.now c.loop-at.at c.loop-at-test.true
    (sym c.if-is_blank.ensures) c.if-byte-eq35.true c.loop-at.invariant.1 in
    rw c.from_residual.ensures (comment_last c.args.text.now (c.loop-at.at + 1) entered
    c.in_err-at.ensures.none)

pub loop-at-preserved : goal.loop-at-preserved
loop-at-preserved c =
    let entered = comment_entered c.args.text.now c.loop-at.at c.loop-at-test.true
    (sym c.if-is_blank.ensures) c.if-byte-eq35.true c.loop-at.invariant.1 in
    let on : c.loop-at.at + 1 ≤ c.in_ok-at.at = omega (arith, c.in_ok-at.ensures.first) in (
      c.in_ok-at.ensures.within,
      comment_past c.args.text.now (c.loop-at.at + 1)
          c.in_ok-at.at on entered c.in_ok-at.ensures.skips,
    )

pub returns : goal.returns
returns c = skipped_all c.args.text.now c.loop-at.at c.loop-at-test.false c.loop-at.invariant.1
