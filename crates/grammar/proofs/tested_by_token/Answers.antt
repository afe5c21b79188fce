use Rattle.grammar.proofs.EarlyStops.{tested_by_token, fine_is_sound}
use Rattle.grammar.proofs.tested_by_token.Goals as goal

pub returns : goal.returns
returns c = record { step = tested_by_token; end = fine_is_sound }
