use Rattle.std.proofs.Common.{refl}
use Rattle.matching.proofs.Agreeing.{ends_without, ends_with}
use Rattle.matching.proofs.pattern.fits.Goals as goal

pub returns-then-is_none-clause-cases : goal.returns-then-is_none-clause-cases
returns-then-is_none-clause-cases c =
    ends_without _ _ _ _ _ _ _ _ c.ok.ensures.value c.flatten.ensures c.is_none.ensures c.if-is_none.true
    c.fits_within-found.ensures.cases refl

pub returns-else-is_none-clause-cases : goal.returns-else-is_none-clause-cases
returns-else-is_none-clause-cases c =
    ends_with _ _ _ _ _ _ _ c.ok.ensures.value c.flatten.ensures c.is_none.ensures c.if-is_none.false
    c.fits_within-found.ensures.cases
