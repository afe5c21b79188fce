use Rattle.std.proofs.Common.{◌-◌, ◌≤◌, length, take}
use Rattle.meaning.specs.Tokens.{gap}
use Rattle.tokens.specs.Cutting.{Skips}
use Rattle.tokens.proofs.next.token_start.Given as goal

abbrev pub invariant-loop-at : goal.invariant-loop-at
invariant-loop-at l = (l.at ≤ length l.text) × Skips gap (take l.at l.text) gap

abbrev pub decreases-loop-at : goal.decreases-loop-at
decreases-loop-at l = length l.text - l.at
