-- The queue of the scheduler's model, from the lines alone: workers more at the end of a line are as many entries more, in
-- their order.
use Rattle.std.proofs.Common.{◌≡◌, ℕ, List, [], ◌∷◌, ◌++◌, refl, ap}
use Rattle.meaning.specs.Scheduler.{worker}
use Rattle.queue.specs.Lines.{workers}

pub workers-append : (a b : List ℕ) → workers (a ++ b) ≡ workers a ++ workers b
workers-append [] b = refl
workers-append (n ∷ a) b = ap (λ es. worker n ∷ es) (workers-append a b)
