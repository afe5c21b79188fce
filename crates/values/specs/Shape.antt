-- The outermost part of a value, as code sees it, and what it says of the value.
use Rattle.std.specs.Prelude.{◌≡◌, ℕ, List}
use Rattle.meaning.specs.Basics.{Name}
use Rattle.meaning.specs.Values.{Value as Val, v_int, v_atom, v_tuple, v_nil, v_cons, v_pid, Values, no_v, and_v}
use Rattle.store.specs.Heap.{Store, left_of, right_of}
use Rattle.store.specs.declared.slot.Slot.{Slot}
use Rattle.values.specs.Encoding.{Fine, Holds, index_of}
use Rattle.values.specs.declared.value.Value.{Value}
use Rattle.values.specs.declared.value.Value.TheVariants.{
  Number,
  Atom,
  Worker,
  Nil,
  EmptyTuple,
  Tuple,
  Pair,
  Unknown,
}

-- v is a pair, and the cell that s refers to holds its head and its tail
pub record IsPair (ns : List Name) (m : Store) (s : Slot) (v : Val) : Type 0 where
  pub head : Val
  pub tail : Val
  pub is : v ≡ v_cons head tail
  pub whole : Holds ns m s (v_cons head tail)
  pub left : Holds ns m (left_of m.words s) head
  pub right : Holds ns m (right_of m.words s) tail

-- v is a tuple that has elements, and the cell that s refers to holds the first and the tuple of the others
pub record IsTuple (ns : List Name) (m : Store) (s : Slot) (v : Val) : Type 0 where
  pub first : Val
  pub rest : Values
  pub is : v ≡ v_tuple (and_v first rest)
  pub whole : Holds ns m s (v_tuple (and_v first rest))
  pub left : Holds ns m (left_of m.words s) first
  pub right : Holds ns m (right_of m.words s) (v_tuple rest)

-- v is the atom of that number
pub record IsAtom (ns : List Name) (number : ℕ) (v : Val) : Type 0 where
  pub name : Name
  pub is : v ≡ v_atom name
  pub numbered : index_of ns name ≡ number

abbrev pub Shape : List Name → Store → Value → Val → Type 0
Shape ns m (Number z) v = v ≡ v_int z
Shape ns m (Atom a) v = IsAtom ns a.0 v
Shape ns m (Worker w) v = v ≡ v_pid w.0
Shape ns m Nil v = v ≡ v_nil
Shape ns m EmptyTuple v = v ≡ v_tuple no_v
Shape ns m (Tuple s) v = IsTuple ns m s v
Shape ns m (Pair s) v = IsPair ns m s v
Shape ns m (Unknown s) v = ⊥

-- x is the outermost part of whatever the slot s holds
pub record Views (s : Slot) (x : Value) : Type 0 where
  pub value : {ns : List Name} {m : Store} {v : Val} → Holds ns m s v → Shape ns m x v

-- the slot r holds each value of which x is the outermost part
pub record Stands (x : Value) (r : Slot) : Type 0 where
  pub value : {ns : List Name} {m : Store} {v : Val} → Fine ns v → Shape ns m x v → Holds ns m r v
