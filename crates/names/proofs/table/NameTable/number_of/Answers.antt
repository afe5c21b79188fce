use Rattle.names.proofs.Looking.{bucket_found}
use Rattle.names.proofs.table.NameTable.number_of.Goals as goal

pub returns : goal.returns
returns c = bucket_found c.hash.result c.read_slot.result c.hash.ensures.is c.hash.ensures.below
    c.read_slot.ensures c.walk.ensures
