use Rattle.machine.proofs.Operating.{truth_true, truth_false}
use Rattle.machine.proofs.operators.truth.Goals as goal

pub returns-then-answer : goal.returns-then-answer
returns-then-answer c = record { to = λ x m. truth_true x m c.if-answer.true }

pub returns-else-answer : goal.returns-else-answer
returns-else-answer c = record { to = λ x m. truth_false x m c.if-answer.false }
