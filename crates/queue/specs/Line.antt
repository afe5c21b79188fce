-- A line of numbers, read from its words: the numbers lie one to a slot.
use Rattle.std.specs.Prelude.{◌≡◌, ℕ, zero, suc, ◌-◌, ◌/◌, List, [], ◌∷◌, length, Some, None, Option}
use Rattle.store.specs.Slots.{slot_at, place_of}
use Rattle.queue.specs.declared.line.Line.{Line}

-- n numbers from slot i on; a worker's number lies in a slot as a cell's number does
abbrev pub numbers : List ℕ → ℕ → ℕ → List ℕ
numbers words i zero = []
numbers words i (suc n) = place_of (slot_at words i) ∷ numbers words (suc i) n

-- the numbers that have yet to be taken, the first in front
unfoldable pub waiting : Line → List ℕ
waiting l = numbers l.words.now l.from (l.upto - l.from)

-- how many numbers the whole line has room for
unfoldable pub room : Line → ℕ
room l = length l.words.now / 3

-- the number in front of a line
abbrev pub front : List ℕ → Option ℕ
front [] = None
front (n ∷ ns) = Some n

-- the line has these numbers now, and the room that it had
pub record Becomes (l l' : Line) (ns : List ℕ) : Type 0 where
  pub numbers : waiting l' ≡ ns
  pub room : room l' ≡ room l
