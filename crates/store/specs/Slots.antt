-- How slots lie in words: slot j is the words 3j, 3j + 1 and 3j + 2, and cell c is the slots 2c and 2c + 1.
-- Words past the end read as 0, so that every read has an answer.
use Rattle.std.specs.Prelude.{◌≡◌, ℕ, ◌+◌, ◌*◌, List, ◌≢◌, slice_index}
use Rattle.store.specs.declared.slot.Cell.{Cell}
use Rattle.store.specs.declared.slot.Slot.{Slot}

-- the slot of number j; shut, so that nothing above words depends on this line
unfoldable pub slot_at : List ℕ → ℕ → Slot
slot_at words j = record { kind = slice_index words (3 * j); low = slice_index words (3 * j + 1); high = slice_index words (3 * j + 2) }

abbrev pub cell_at : List ℕ → ℕ → Cell
cell_at words c = record { left = slot_at words (2 * c); right = slot_at words (2 * c + 1) }

-- the number of the cell that a node's slot refers to
abbrev pub place_of : Slot → ℕ
place_of s = s.low + 4294967296 * s.high

-- the slot j was written, and no other
pub record Wrote (words words' : List ℕ) (j : ℕ) (s : Slot) : Type 0 where
  pub here : slot_at words' j ≡ s
  pub other : (i : ℕ) → (i ≢ j) → slot_at words' i ≡ slot_at words i

-- the cell c was written, and no slot of another
pub record WroteCell (words words' : List ℕ) (c : ℕ) (x : Cell) : Type 0 where
  pub left : slot_at words' (2 * c) ≡ x.left
  pub right : slot_at words' (2 * c + 1) ≡ x.right
  pub other : (i : ℕ) → (i ≢ 2 * c) → (i ≢ 2 * c + 1) → slot_at words' i ≡ slot_at words i
