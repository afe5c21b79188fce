-- A chain of values turned round: the last one first, in nodes of any kind, before what stands in another slot.
use Rattle.std.specs.Prelude.{◌≡◌, ℕ, ◌+◌, ◌*◌, ◌<◌, ◌≤◌, List, reverse, length}
use Rattle.meaning.specs.Basics.{Name}
use Rattle.meaning.specs.Values.{Value}
use Rattle.store.specs.Heap.{Store, Den}
use Rattle.store.specs.Tree.{Tree}
use Rattle.store.specs.declared.slot.Slot.{Slot}
use Rattle.values.specs.Space.{chain}
use Rattle.code.specs.Environment.{Chain}

-- r is the chain in s, turned round before `onto`, by a cell for each value
pub record Turned (kind : ℕ) (m m' : Store) (s onto r : Slot) : Type 0 where
  pub stands : {ns : List Name} {vs : List Value} {t : Tree} → 16 ≤ kind → Chain ns m s vs → Den m onto t
      → Den m' r (chain ns kind t (reverse vs))
  pub count : {ns : List Name} {vs : List Value} → Chain ns m s vs → m'.used ≡ m.used + length vs

-- there are fewer cells left than values in the chain
pub record TurnLacks (m : Store) (s : Slot) : Type 0 where
  pub short : {ns : List Name} {vs : List Value} → Chain ns m s vs → length m.words < 6 * (m.used + length vs)
