use Rattle.values.proofs.Counting.{value_cells}
use Rattle.values.proofs.space.value_cells.Goals as goal

pub returns : goal.returns
returns c = value_cells
