-- What a slot of a store denotes, and what making a cell keeps.
-- Other crates use the laws in proofs/Laws.antt, and open nothing of this.
use Rattle.std.specs.Prelude.{◌≡◌, ℕ, ◌+◌, ◌*◌, ◌<◌, ◌≤◌, List, [], ◌∷◌, length}
use Rattle.store.specs.Slots.{slot_at, place_of}
use Rattle.store.specs.Tree.{Tree, leaf, node}
use Rattle.store.specs.declared.heap.Heap.{Heap}
use Rattle.store.specs.declared.slot.Cell.{Cell}
use Rattle.store.specs.declared.slot.Slot.{Slot}

-- words, and how many cells of them are in use
pub record Store : Type 0 where
  pub words : List ℕ
  pub used : ℕ

abbrev pub store_of : List ℕ → ℕ → Store
store_of words used = record { words = words; used = used }

abbrev pub stored : Heap → Store
stored h = record { words = h.words.now; used = h.used }

-- the two slots of the cell that a slot refers to
unfoldable pub left_of : List ℕ → Slot → Slot
left_of words s = slot_at words (2 * place_of s)

unfoldable pub right_of : List ℕ → Slot → Slot
right_of words s = slot_at words (2 * place_of s + 1)

-- x has both of them
pub record BothOf (words : List ℕ) (s : Slot) (x : Cell) : Type 0 where
  pub left : x.left ≡ left_of words s
  pub right : x.right ≡ right_of words s

-- a kind below 16 is a leaf's; a node's slot refers to a cell in use, whose slots denote its trees
abbrev pub Denotes : List ℕ → ℕ → Slot → Tree → Type 0
Denotes words used s (leaf k l h) = (s.kind < 16) × (s.kind ≡ k) × (s.low ≡ l) × (s.high ≡ h)
Denotes words used s (node k a b) =
    (16 ≤ s.kind) × (s.kind ≡ k) × (place_of s < used)
    × Denotes words used (slot_at words (2 * place_of s)) a
    × Denotes words used (slot_at words (2 * place_of s + 1)) b

-- the slot s of the store m denotes the tree t
pub record Den (m : Store) (s : Slot) (t : Tree) : Type 0 where
  pub is : Denotes m.words m.used s t

-- the cells in use stay as they are
pub record Kept (m m' : Store) : Type 0 where
  pub more : m.used ≤ m'.used
  pub same : (j : ℕ) → j < 2 * m.used → slot_at m'.words j ≡ slot_at m.words j

-- memory is as long as it was, and the cells in use stay as they are: a clause and no type's invariant, as it is of before and
-- after
pub record Grows (m m' : Store) : Type 0 where
  pub long : length m'.words ≡ length m.words
  pub kept : Kept m m'

-- the heap has the words that it had, lent as before
abbrev pub SameWords : Heap → Heap → Type 0
SameWords h h' = record {
  long : length h'.words.now ≡ length h.words.now;
  lent : h'.words.ghost_name ≡ h.words.ghost_name;
}

-- r refers to a new cell with the slots a and b
pub record Put (m m' : Store) (kind : ℕ) (a b r : Slot) : Type 0 where
  pub kept : Kept m m'
  pub stands : {s t : Tree} → 16 ≤ kind → Den m a s → Den m b t → Den m' r (node kind s t)
  pub count : m'.used ≡ m.used + 1
  pub fits : 6 * m'.used ≤ length m'.words
  pub place : place_of r ≡ m.used
  pub kind_is : r.kind ≡ kind
  pub left : left_of m'.words r ≡ a
  pub right : right_of m'.words r ≡ b

-- there is no cell left, and nothing has changed
pub record Lacks (m m' : Store) : Type 0 where
  pub short : length m.words < 6 * (m.used + 1)
  pub same : m' ≡ m

-- the slots of some words from j on denote these trees, in the store m
abbrev pub Slots : Store → List ℕ → ℕ → List Tree → Type 0
Slots m words j [] = Unit {0}
Slots m words j (t ∷ ts) = Den m (slot_at words j) t × Slots m words (j + 1) ts
