use Rattle.std.proofs.Common.{refl}
use Rattle.tokens.proofs.Placing.{behind-front}
use Rattle.tokens.proofs.position.Position.in_text.Goals as goal

pub returns : goal.returns
returns c = behind-front c.args.text.now _ c.args.at c.min-end.result c.past.result.line
    c.past.result.column c.min-end.ensures
    refl c.past.ensures
