use Rattle.std.proofs.Common.{◌∙◌}
use Rattle.numbers.proofs.Multiplying.{fits_above, fits_below}
use Rattle.numbers.proofs.product.product_fits.Goals as goal

pub returns-then-b-lt0 : goal.returns-then-b-lt0
returns-then-b-lt0 c =
    c.lies_between.ensures
    ∙ fits_below c.args.a c.args.b c.ranges.a c.ranges.b c.if-b-eqminus1.false c.if-b-lt0.true

pub returns-else-b-lt0 : goal.returns-else-b-lt0
returns-else-b-lt0 c =
    c.lies_between-else-b-lt0.ensures
    ∙ fits_above c.args.a c.args.b c.ranges.a c.ranges.b
    c.if-b-eq0.false c.if-b-eqminus1.false c.if-b-lt0.false
