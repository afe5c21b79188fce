use Rattle.std.proofs.lemmas.Result.{MatchResult-weaker}
use Rattle.store.proofs.Collecting.{appended_node}
use Rattle.store.proofs.collector.copy_cell.Goals as goal

pub returns-clause-cases : goal.returns-clause-cases
returns-clause-cases c =
    MatchResult-weaker c.put.result c.put.ensures.cases (λ copy p. appended_node c.requires c.both-cell.ensures p)
    (λ e lacks. lacks)
