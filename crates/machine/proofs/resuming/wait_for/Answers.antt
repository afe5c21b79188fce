use Rattle.machine.proofs.Resumes.{time_no_number, time_below, time_waits}
use Rattle.machine.proofs.resuming.wait_for.Goals.{in_default-via-in-Some+else-time-ge0, in_default-via-in_default}
use Rattle.machine.proofs.resuming.wait_for.Goals as goal

pub returns-in-Some : goal.returns-in-Some
returns-in-Some c = time_waits c.in-Some.ensures c.if-time-ge0.true c.cast_unsigned.ensures

pub returns-in_default : goal.returns-in_default
returns-in_default c = elim c.in_default.branch [
  | in_default-via-in-Some+else-time-ge0 w ↦ time_below w.in-Some.ensures w.if-time-ge0.false
  | in_default-via-in_default w ↦ time_no_number w.in_default.ensures
]
