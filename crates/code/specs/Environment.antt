-- What names are bound to, in cells: a chain of values without names, since a name's index in it is known from the text.
-- The order of two names that are not alike does not matter, so the chain may have another order than the bindings, as long
-- as every name is found with the same value.
use Rattle.std.specs.Prelude.{◌≡◌, ℕ, List, [], ◌∷◌, length}
use Rattle.std.proofs.Math.Option.{some}
use Rattle.meaning.specs.Basics.{Name}
use Rattle.meaning.specs.Space.{size_values, size_bindings}
use Rattle.meaning.specs.Values.{Value, Binding, look_up}
use Rattle.store.specs.Heap.{Store, store_of, Den}
use Rattle.store.specs.declared.slot.Slot.{Slot}
use Rattle.values.specs.Encoding.{index_of, Known, Fine, Holds}
use Rattle.values.specs.Space.{chain}
use Rattle.code.specs.Trees.{nothing}

-- chains of values in the heap: what names are bound to, operands so far (the last one first), and messages
abbrev pub values_kind : ℕ
values_kind = 31

abbrev pub FineValues : List Name → List Value → Type 0
FineValues ns [] = Unit {0}
FineValues ns (v ∷ vs) = Fine ns v × FineValues ns vs

-- the slot s holds these values, in order
pub record Chain (ns : List Name) (m : Store) (s : Slot) (vs : List Value) : Type 0 where
  pub fine : FineValues ns vs
  pub stands : Den m s (chain ns values_kind nothing vs)

-- names with values, as far as both go
abbrev pub pair_up : List Name → List Value → List Binding
pair_up [] vs = []
pair_up (x ∷ xs) [] = []
pair_up (x ∷ xs) (v ∷ vs) = record { name = x; value = v } ∷ pair_up xs vs

-- names in scope and values in the chain give what the bindings give, and take the same space
pub record Binds (sc : List Name) (vs : List Value) (bs : List Binding) : Type 0 where
  pub long : length vs ≡ length sc
  pub finds : (x : Name) → look_up bs x ≡ look_up (pair_up sc vs) x
  pub size : size_values vs ≡ size_bindings bs

-- the slot s holds an environment for the names sc that is as good as the bindings bs
pub record Environment (ns : List Name) (m : Store) (s : Slot) (sc : List Name) (bs : List Binding) : Type 0 where
  pub values : List Value
  pub holds : Chain ns m s values
  pub binds : Binds sc values bs

-- in every environment that stands at env, the slot r holds the value of the name of index i
pub record LooksUp (words : List ℕ) (env : Slot) (i : ℕ) (r : Slot) : Type 0 where
  pub is : {ns : List Name} {used : ℕ} {sc : List Name} {bs : List Binding} (y : Name) → Environment ns (store_of words used) env sc bs → Known sc y → i ≡ index_of sc y → (v : Value) × (look_up bs y ≡ some v) × Holds ns (store_of words used) r v
