-- Two cells made one after the other.
use Rattle.std.specs.Prelude.{◌≡◌, ℕ, ◌+◌, ◌*◌, ◌<◌, length}
use Rattle.store.specs.Heap.{Store, Den, Kept}
use Rattle.store.specs.Tree.{Tree, node}
use Rattle.store.specs.declared.slot.Slot.{Slot}

-- r denotes a pair of what a denotes and a pair of what b and c denote
pub record Triple (m m' : Store) (a b c r : Slot) : Type 0 where
  pub kept : Kept m m'
  pub stands : {s t u : Tree} → Den m a s → Den m b t → Den m c u → Den m' r (node 16 s (node 16 t u))
  pub count : m'.used ≡ m.used + 2

-- there are no n cells left
pub record Short (m : Store) (n : ℕ) : Type 0 where
  pub short : length m.words < 6 * (m.used + n)
