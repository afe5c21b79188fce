use Rattle.std.proofs.Common.{length, vec_items}
use Rattle.checker.proofs.Lines.{Listed}
use Rattle.checker.proofs.listing.listing.Given as goal

abbrev pub invariant-loop-lexeme : goal.invariant-loop-lexeme
invariant-loop-lexeme l = Listed l.text (vec_items l.lines) l.rest l.position.line l.position.column

abbrev pub decreases-loop-lexeme : goal.decreases-loop-lexeme
decreases-loop-lexeme l = length l.rest
