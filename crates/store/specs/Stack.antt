-- What waits on a stack.
use Rattle.std.specs.Prelude.{ℕ, zero, suc, List, [], ◌∷◌}
use Rattle.store.specs.Slots.{cell_at}
use Rattle.store.specs.declared.slot.Cell.{Cell}
use Rattle.store.specs.declared.stack.Stack.{Stack}

-- the first cells of some words, the last of them first
unfoldable pub cells_of : List ℕ → ℕ → List Cell
cells_of words zero = []
cells_of words (suc n) = cell_at words n ∷ cells_of words n

abbrev pub waiting : Stack → List Cell
waiting s = cells_of s.words.now s.depth
