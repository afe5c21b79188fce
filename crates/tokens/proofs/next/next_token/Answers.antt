use Rattle.std.proofs.lemmas.List.{take_rest}
use Rattle.tokens.proofs.Cutting.{first_token}
use Rattle.tokens.proofs.next.next_token.Goals as goal

pub returns : goal.returns
returns c = first_token c.args.text.now _ _ c.in_ok-skipped.ensures
    (take_rest c.args.text.now c.in_ok-skipped.skipped) c.leading_token.ensures
