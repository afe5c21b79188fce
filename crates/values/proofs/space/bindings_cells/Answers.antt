use Rattle.values.proofs.Counting.{bindings_cells}
use Rattle.values.proofs.space.bindings_cells.Goals as goal

pub returns : goal.returns
returns c = bindings_cells
