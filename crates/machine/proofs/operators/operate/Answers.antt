use Rattle.machine.proofs.Operating.{operate_first, operate_second, operate_both}
use Rattle.machine.proofs.operators.operate.Goals.{in_default-via-in-Some+in_default, in_default-via-in_default}
use Rattle.machine.proofs.operators.operate.Goals as goal

pub returns-in-Some-Some : goal.returns-in-Some-Some
returns-in-Some-Some c =
    operate_both c.left-second.ensures c.right.ensures c.left-first.ensures c.in-Some-Some.ensures c.in-Some-Some.ensures' c.calculate.ensures

pub returns-in_default : goal.returns-in_default
returns-in_default c =
    elim c.in_default.branch [
      | in_default-via-in-Some+in_default w ↦ operate_second c.left-second.ensures c.right.ensures c.left-first.ensures
          w.in_default.ensures' c.compare.ensures
      | in_default-via-in_default w ↦ operate_first c.left-second.ensures c.right.ensures c.left-first.ensures
          (rw w.in_default.is-0 at c.as_number.ensures) c.compare.ensures
    ]
