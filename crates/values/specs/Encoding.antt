-- A value as a tree: numbers, atoms, workers, the empty list and the empty tuple are leaves; a pair and a tuple that has
-- elements are nodes. An atom stands by its number in a table of names.
use Rattle.std.specs.Prelude.{◌≡◌, ℕ, suc, ◌-◌, ◌/◌, ◌%◌, ◌^◌, ◌<◌, true, cond, ◌⊎◌, List, [], ◌∷◌, ℤ, pos, negsuc}
use Rattle.meaning.specs.Basics.{Name, same}
use Rattle.meaning.specs.Values.{Value, v_int, v_atom, v_tuple, v_nil, v_cons, v_pid, Values, no_v, and_v, fits}
use Rattle.store.specs.Heap.{Store, Den}
use Rattle.store.specs.Tree.{Tree, leaf, node}
use Rattle.store.specs.declared.slot.Slot.{Slot}

-- the number of a name: where it stands first in the table
abbrev pub index_of : List Name → Name → ℕ
index_of [] x = 0
index_of (y ∷ ys) x = cond (same y x) 0 (suc (index_of ys x))

-- the table has the name
abbrev pub Known : List Name → Name → Type 0
Known [] x = ⊥
Known (y ∷ ys) x = (same y x ≡ true) ⊎ Known ys x

-- the 64 bits of a number with its sign
abbrev pub bits64 : ℤ → ℕ
bits64 (pos n) = n
bits64 (negsuc n) = 2 ^ 64 - suc n

-- a leaf that holds 64 bits
abbrev pub number : ℕ → ℕ → Tree
number kind n = leaf kind (n % 2 ^ 32) (n / 2 ^ 32)

-- the rest of a tuple is the tree of a tuple itself
abbrev mutual
  pub tree_v : List Name → Value → Tree
  tree_v ns (v_int z) = number 0 (bits64 z)
  tree_v ns (v_atom x) = leaf 1 (index_of ns x) 0
  tree_v ns (v_tuple vs) = tree_vs ns vs
  tree_v ns v_nil = leaf 2 0 0
  tree_v ns (v_cons a b) = node 16 (tree_v ns a) (tree_v ns b)
  tree_v ns (v_pid n) = number 3 n

  pub tree_vs : List Name → Values → Tree
  tree_vs ns no_v = leaf 4 0 0
  tree_vs ns (and_v v vs) = node 17 (tree_v ns v) (tree_vs ns vs)

-- the values that have a tree of their own: atoms are in the table, numbers fit 64 bits
abbrev mutual
  pub Fine : List Name → Value → Type 0
  Fine ns (v_int z) = fits z ≡ true
  Fine ns (v_atom x) = Known ns x
  Fine ns (v_tuple vs) = Fines ns vs
  Fine ns v_nil = Unit {0}
  Fine ns (v_cons a b) = Fine ns a × Fine ns b
  Fine ns (v_pid n) = n < 2 ^ 64

  pub Fines : List Name → Values → Type 0
  Fines ns no_v = Unit {0}
  Fines ns (and_v v vs) = Fine ns v × Fines ns vs

-- the slot s of the store m holds the value v, under the table of names ns
pub record Holds (ns : List Name) (m : Store) (s : Slot) (v : Value) : Type 0 where
  pub fine : Fine ns v
  pub stands : Den m s (tree_v ns v)
