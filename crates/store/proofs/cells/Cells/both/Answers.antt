use Rattle.store.specs.Heap.{left_of, right_of}
use Rattle.store.proofs.cells.Cells.both.Goals as goal

pub returns : goal.returns
unfolding left_of right_of
returns g c = record { left = cc; right = cc }
