use Rattle.std.proofs.Common.{◌≡◌, ◌+◌, ◌-◌, ◌≤◌, length, drop}
use Rattle.std.specs.List.{between, prefix_len}
use Rattle.meaning.specs.Tokens.{comment}
use Rattle.tokens.specs.Cutting.{Skips, stays_comment}
use Rattle.tokens.proofs.next.comment_end.Given as goal

abbrev pub invariant-loop-at : goal.invariant-loop-at
invariant-loop-at l = (l.from ≤ l.at) × (l.at ≤ length l.text)
    × Skips comment (between l.from l.at l.text) comment
    × (l.at + prefix_len stays_comment (drop l.at l.text) ≡ l.from + prefix_len stays_comment (drop l.from l.text))

abbrev pub decreases-loop-at : goal.decreases-loop-at
decreases-loop-at l = length l.text - l.at
