use Rattle.values.proofs.Counting.{chain-cells}
use Rattle.values.proofs.space.chain_cells.Goals as goal

pub returns : goal.returns
returns c = chain-cells
