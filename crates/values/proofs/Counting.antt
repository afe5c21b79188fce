-- Each node of a value's tree stands for a pair or for an element, which are counted with four words at least.
use Rattle.std.proofs.Common.{ℕ, ◌+◌, ◌*◌, ◌≤◌, List, [], ◌∷◌, arith}
use Rattle.meaning.specs.Basics.{Name}
use Rattle.meaning.specs.Values.{Value, v_int, v_atom, v_tuple, v_nil, v_cons, v_pid, Values, no_v, and_v, Binding}
use Rattle.meaning.specs.Space.{size_v, size_vs, size_values, size_bindings}
use Rattle.values.specs.Space.{chain, values_of}
use Rattle.store.specs.Tree.{Tree, cells}
use Rattle.values.specs.Encoding.{tree_v, tree_vs}

mutual
  pub value_cells : (ns : List Name) (v : Value) → 4 * cells (tree_v ns v) + 4 ≤ size_v v
  value_cells ns (v_int z) = omega arith
  value_cells ns (v_atom x) = omega arith
  value_cells ns (v_tuple vs) = omega (arith, tuple-cells ns vs)
  value_cells ns v_nil = omega arith
  value_cells ns (v_cons a b) = omega (arith, value_cells ns a, value_cells ns b)
  value_cells ns (v_pid n) = omega arith

  pub tuple-cells : (ns : List Name) (vs : Values) → 4 * cells (tree_vs ns vs) ≤ size_vs vs
  tuple-cells ns no_v = omega arith
  tuple-cells ns (and_v v vs) = omega (arith, value_cells ns v, tuple-cells ns vs)

pub chain-cells : (ns : List Name) (kind : ℕ) (end : Tree) (vs : List Value) →
    4 * cells (chain ns kind end vs) ≤ 4 * cells end + size_values vs
chain-cells ns kind end [] = omega arith
chain-cells ns kind end (v ∷ vs) = omega (arith, value_cells ns v, chain-cells ns kind end vs)

pub bindings_cells : (ns : List Name) (kind : ℕ) (end : Tree) (bs : List Binding)
    → 4 * cells (chain ns kind end (values_of bs)) ≤ 4 * cells end + size_bindings bs
bindings_cells ns kind end [] = omega arith
bindings_cells ns kind end (b ∷ bs) = omega (arith, value_cells ns b.value, bindings_cells ns kind end bs)
