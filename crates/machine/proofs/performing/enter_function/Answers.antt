use Rattle.std.proofs.Common.{refl}
use Rattle.machine.proofs.Performs.{enter_as}
use Rattle.machine.proofs.performing.enter_function.Goals as goal

pub returns-in_err-body : goal.returns-in_err-body
returns-in_err-body c = enter_as c.from_residual.ensures c.in_err-body.ensures

pub returns : goal.returns
returns c = enter_as refl c.in_ok-body.ensures
