use Rattle.std.proofs.Common.{length, ap, ◌∙◌}
use Rattle.meaning.specs.Tokens.{tokens, gap}
use Rattle.tokens.proofs.Yielding.{length_from_lexemes}
use Rattle.checker.proofs.report.count.Goals as goal

pub returns : goal.returns
returns c =
    let (ls, drained, counted) = c.count.ensures.ran in
    counted ∙ (length_from_lexemes c.new.result ls drained ∙ ap (λ t. length (tokens gap t)) c.new.ensures)
