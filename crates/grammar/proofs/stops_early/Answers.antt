use Rattle.grammar.proofs.EarlyStops.{stops_early, stops_at_token}
use Rattle.grammar.proofs.stops_early.Goals as goal

pub returns : goal.returns
returns c = record { state = stops_early; token = stops_at_token }
