use Rattle.meaning.proofs.Links.{links_both}
use Rattle.meaning.proofs.theorems.links_both.Goals as goal

pub returns : goal.returns
returns c = links_both
