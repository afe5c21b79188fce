use Rattle.grammar.proofs.Exact.{parse_exactly, read_exactly}
use Rattle.grammar.proofs.read_exactly.Goals as goal

pub returns : goal.returns
returns c = record { tokens = parse_exactly; text = read_exactly }
