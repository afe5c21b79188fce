use Rattle.std.proofs.Common.{◌≡◌, true, false, not, get_or, ap, arith}
use Rattle.std.proofs.lemmas.List.Sums.{prefix_len-drop_yes, prefix_len-drop_no, prefix_len-drop_all}
use Rattle.std.proofs.lemmas.Bool.{eq-eqb, ne_eqb}
use Rattle.tokens.specs.Cutting.{stays_comment}
use Rattle.tokens.proofs.Skipping.{comment_passed, comment_left, comment_open}
use Rattle.tokens.proofs.next.comment_end.Goals as goal

pub returns-then-passed-eq10 : goal.returns-then-passed-eq10
returns-then-passed-eq10 c =
    let text = c.args.text.now in
    let at = c.loop-at.at in
    let ends : stays_comment (get_or text at 0) ≡ false = ap not (eq-eqb (get_or text at 0) 10 c.if-passed-eq10.true) in
    record {
      skips = comment_left text at c.loop-at-test.true c.args.from c.loop-at.invariant.0 c.loop-at.invariant.2
          c.if-passed-eq10.true;
      first = omega (arith, c.loop-at.invariant.3, prefix_len-drop_no stays_comment text at 0 c.loop-at-test.true ends);
      within = omega arith;
    }

pub loop-at-preserved : goal.loop-at-preserved
loop-at-preserved c =
    let text = c.args.text.now in
    let at = c.loop-at.at in
    let stays : stays_comment (get_or text at 0) ≡ true = ap not (ne_eqb (get_or text at 0) 10 c.if-passed-eq10.false) in (
      omega arith,
      omega arith,
      comment_passed text at c.loop-at-test.true c.args.from c.loop-at.invariant.0 c.loop-at.invariant.2
          c.if-passed-eq10.false,
      omega (arith, c.loop-at.invariant.3, prefix_len-drop_yes stays_comment text at 0 c.loop-at-test.true stays),
    )

pub returns : goal.returns
returns c =
    let text = c.args.text.now in
    let at = c.loop-at.at in
    record {
      endless = omega (arith, c.loop-at.invariant.3, prefix_len-drop_all stays_comment text at c.loop-at-test.false);
      none = comment_open text c.args.from at c.loop-at-test.false c.loop-at.invariant.2;
    }
