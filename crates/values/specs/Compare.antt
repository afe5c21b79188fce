-- Whether two slots hold the same value.
use Rattle.std.specs.Prelude.{◌≡◌, ℕ, ◌*◌, ◌<◌, Bool, ◌⊎◌, List, length}
use Rattle.meaning.specs.Basics.{Name}
use Rattle.meaning.specs.Values.{Value, same_v}
use Rattle.store.specs.Heap.{store_of}
use Rattle.store.specs.Tree.{cells}
use Rattle.store.specs.declared.slot.Slot.{Slot}
use Rattle.values.specs.Encoding.{Holds, tree_v}

-- the answer is whether the values are the same
pub record SameValue (words : List ℕ) (a b : Slot) (answer : Bool) : Type 0 where
  pub is : {ns : List Name} {used : ℕ} {u v : Value} → Holds ns (store_of words used) a u
      → Holds ns (store_of words used) b v → answer ≡ same_v u v

-- the first value takes more cells than the scratch has, or than may be looked at
pub record LargeValue (words : List ℕ) (a b : Slot) (scratch : List ℕ) (budget : ℕ) : Type 0 where
  pub short : {ns : List Name} {used : ℕ} {u v : Value} → Holds ns (store_of words used) a u
      → Holds ns (store_of words used) b v → (length scratch < 6 * cells (tree_v ns u)) ⊎ (budget < cells (tree_v ns u))
