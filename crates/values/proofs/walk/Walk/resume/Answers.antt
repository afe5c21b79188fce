use Rattle.std.proofs.Common.{refl, arith}
use Rattle.values.proofs.Walking.{resumed, closing_goes, closing_moves}
use Rattle.values.proofs.walk.Walk.resume.Goals as goal

pub returns-then-self-gt0 : goal.returns-then-self-gt0
returns-then-self-gt0 c =
    record {
      keeps = record { same = refl; long = refl };
      so = λ r. closing_goes c.min-count.result c.requires c.min-count.ensures (resumed c.requires r);
      moves = λ ns. omega (arith, closing_moves ns _ _ c.if-self-gt0.true c.min-count.ensures);
    }
