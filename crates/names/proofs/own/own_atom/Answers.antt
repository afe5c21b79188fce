use Rattle.std.proofs.Common.{arith}
use Rattle.names.specs.Names.{own_atoms}
use Rattle.names.proofs.Keywords.{get_or_now}
use Rattle.names.proofs.own.own_atom.Goals as goal

pub returns : goal.returns
unfolding own_atoms
returns c = rw (c.unwrap_or.ensures, c.copied.ensures, c.get.ensures.lookup.4 (omega arith), get_or_now)
