use Rattle.numbers.proofs.Dividing.{remainder_raised, remainder_kept}
use Rattle.numbers.proofs.division.modulo.Goals as goal

pub returns-then-has_other_sign : goal.returns-then-has_other_sign
returns-then-has_other_sign c =
    remainder_raised c.args.a c.args.b c.ranges.a c.ranges.b c.if-b-eq0.false c.if-has_other_sign.ensures

pub returns-else-has_other_sign : goal.returns-else-has_other_sign
returns-else-has_other_sign c =
    remainder_kept c.args.a c.args.b c.ranges.a c.ranges.b c.if-b-eq0.false c.if-has_other_sign.ensures
