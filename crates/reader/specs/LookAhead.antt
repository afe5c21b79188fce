-- What the look-ahead of the code stands for in the grammar.
use Rattle.std.specs.Prelude.{◌≡◌, ℕ, ◌+◌, ◌≤◌, Bool}
use Rattle.std.specs.declared.ops.ControlFlow.{ControlFlow}
use Rattle.std.specs.declared.ops.ControlFlow.TheVariants.{Continue, Break}
use Rattle.grammar.specs.LookAhead as grammar
use Rattle.grammar.specs.LookAhead.{pass}
use Rattle.reader.specs.declared.look_ahead.Landmark.{Landmark}
use Rattle.reader.specs.declared.look_ahead.Landmark.TheVariants.{Open, Close, Equals, Semicolon, Neither}

abbrev pub landmark_means : Landmark → grammar.Landmark
landmark_means Open = grammar.l_open
landmark_means Close = grammar.l_close
landmark_means Equals = grammar.l_equals
landmark_means Semicolon = grammar.l_semicolon
landmark_means Neither = grammar.l_none

-- At depth d the landmark ends the search with an answer, or the search goes on at another depth,
-- whatever the rest of the text gives.
abbrev pub Passes : ℕ → Landmark → ControlFlow Bool ℕ → Type 0
Passes d m (Break found) = (rest : ℕ → Bool) → pass d (landmark_means m) rest ≡ found
Passes d m (Continue n) = (n ≤ d + 1) × ((rest : ℕ → Bool) → pass d (landmark_means m) rest ≡ rest n)
