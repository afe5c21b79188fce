-- The cells that values, and chains of values, take against the words that they are counted with.
use Rattle.std.specs.Prelude.{ℕ, ◌+◌, ◌*◌, ◌≤◌, List, [], ◌∷◌}
use Rattle.meaning.specs.Basics.{Name}
use Rattle.meaning.specs.Values.{Value, Binding}
use Rattle.meaning.specs.Space.{size_v, size_values, size_bindings}
use Rattle.store.specs.Tree.{Tree, node, cells}
use Rattle.values.specs.Encoding.{tree_v}

-- values in a chain of nodes of one kind, which ends in a tree: a mailbox, operands, or what names are bound to
abbrev pub chain : List Name → ℕ → Tree → List Value → Tree
chain ns kind end [] = end
chain ns kind end (v ∷ vs) = node kind (tree_v ns v) (chain ns kind end vs)

abbrev pub values_of : List Binding → List Value
values_of [] = []
values_of (b ∷ bs) = b.value ∷ values_of bs

-- a value takes a quarter of its words in cells, and one cell less
abbrev pub ValueCells : Type 0
ValueCells = (ns : List Name) (v : Value) → 4 * cells (tree_v ns v) + 4 ≤ size_v v

-- and each value of a chain takes one cell more
abbrev pub ChainCells : Type 0
ChainCells = (ns : List Name) (kind : ℕ) (end : Tree) (vs : List Value) →
    4 * cells (chain ns kind end vs) ≤ 4 * cells end + size_values vs

abbrev pub BindingsCells : Type 0
BindingsCells = (ns : List Name) (kind : ℕ) (end : Tree) (bs : List Binding) →
    4 * cells (chain ns kind end (values_of bs)) ≤ 4 * cells end + size_bindings bs
