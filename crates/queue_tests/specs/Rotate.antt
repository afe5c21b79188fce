-- What stands in front of the queue goes to its end.
use Rattle.std.specs.Prelude.{◌≡◌, List, [], ◌∷◌, ◌++◌}
use Rattle.meaning.specs.Scheduler.{Entry}
use Rattle.queue.specs.Lines.{entries}
use Rattle.queue.specs.declared.Queue.{Queue}

pub record Rotated (q q' : Queue) : Type 0 where
  pub is : (e : Entry) (es : List Entry) → entries q ≡ e ∷ es → entries q' ≡ es ++ (e ∷ [])
