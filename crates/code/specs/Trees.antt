-- Programs as trees. Names stand by their numbers in a table ns, and a variable by its index among the names in scope sc,
-- the newest first. A pattern's tree is shaped like the tree of a value that it matches.
use Rattle.std.specs.Prelude.{ℕ, List}
use Rattle.meaning.specs.Basics.{Name}
use Rattle.meaning.specs.Syntax.{
  Pattern,
  p_any,
  p_var,
  p_int,
  p_atom,
  p_tuple,
  p_nil,
  p_cons,
  Patterns,
  no_p,
  and_p,
  Operator,
  plus,
  minus,
  times,
  divide,
  modulo,
  equal,
  unequal,
  less,
  at_most,
  Builtin,
  send,
  self,
  link,
  exit,
  trap,
  show,
  register,
  whereis,
  swap,
  Operation,
  make_tuple,
  make_pair,
  call,
  far_call,
  spawn,
  far_spawn,
  operate,
  built_in,
  Expr,
  int,
  atom,
  var,
  nil,
  apply,
  case,
  receive,
  receive_until,
  catch,
  Exprs,
  no_e,
  and_e,
  Body,
  last,
  bind,
  Clauses,
  no_c,
  clause,
}
use Rattle.meaning.specs.Bound.{bound_by}
use Rattle.meaning.specs.Grammar.{count}
use Rattle.store.specs.Tree.{Tree, leaf, node}
use Rattle.values.specs.Encoding.{index_of, number}
use Rattle.code.specs.Kinds.{
  variable_kind,
  any_kind,
  bind_kind,
  make_tuple_kind,
  make_pair_kind,
  call_kind,
  spawn_kind,
  operator_kind,
  builtin_kind,
  far_kind,
  operand_kind,
  case_kind,
  receive_kind,
  until_kind,
  timeout_kind,
  catch_kind,
  statement_kind,
  then_kind,
  clauses_kind,
  clause_kind,
}

abbrev pub nothing : Tree
nothing = leaf 2 0 0

abbrev pub name_leaf : List Name → Name → Tree
name_leaf ns x = leaf 1 (index_of ns x) 0

abbrev mutual
  pub tree_p : List Name → Pattern → Tree
  tree_p ns p_any = leaf any_kind 0 0
  tree_p ns (p_var x) = leaf bind_kind 0 0
  tree_p ns (p_int n) = number 0 n
  tree_p ns (p_atom x) = name_leaf ns x
  tree_p ns (p_tuple ps) = tree_ps ns ps
  tree_p ns p_nil = nothing
  tree_p ns (p_cons a b) = node 16 (tree_p ns a) (tree_p ns b)

  pub tree_ps : List Name → Patterns → Tree
  tree_ps ns no_p = leaf 4 0 0
  tree_ps ns (and_p p ps) = node 17 (tree_p ns p) (tree_ps ns ps)

abbrev pub operator_number : Operator → ℕ
operator_number plus = 0
operator_number minus = 1
operator_number times = 2
operator_number divide = 3
operator_number modulo = 4
operator_number equal = 5
operator_number unequal = 6
operator_number less = 7
operator_number at_most = 8

abbrev pub builtin_number : Builtin → ℕ
builtin_number send = 0
builtin_number self = 1
builtin_number link = 2
builtin_number exit = 3
builtin_number trap = 4
builtin_number show = 5
builtin_number register = 6
builtin_number whereis = 7
builtin_number swap = 8

-- an operation on n operands
abbrev pub tree_o : List Name → Operation → ℕ → Tree
tree_o ns make_tuple n = leaf make_tuple_kind 0 0
tree_o ns make_pair n = leaf make_pair_kind 0 0
tree_o ns (call f) n = leaf call_kind (index_of ns f) n
tree_o ns (far_call m f) n = node far_kind (leaf call_kind (index_of ns f) n) (name_leaf ns m)
tree_o ns (spawn f) n = leaf spawn_kind (index_of ns f) n
tree_o ns (far_spawn m f) n = node far_kind (leaf spawn_kind (index_of ns f) n) (name_leaf ns m)
tree_o ns (operate o) n = leaf operator_kind (operator_number o) 0
tree_o ns (built_in b) n = leaf builtin_kind (builtin_number b) n

-- operands are a chain that ends in the operation; the last expression of a body has no cell of its own
abbrev mutual
  pub tree_e : List Name → List Name → Expr → Tree
  tree_e ns sc (int n) = number 0 n
  tree_e ns sc (atom x) = name_leaf ns x
  tree_e ns sc (var x) = leaf variable_kind (index_of sc x) 0
  tree_e ns sc nil = nothing
  tree_e ns sc (apply o es) = tree_es ns sc (tree_o ns o (count es)) es
  tree_e ns sc (case e cs) = node case_kind (tree_e ns sc e) (tree_cs ns sc cs)
  tree_e ns sc (receive cs) = node receive_kind (tree_cs ns sc cs) nothing
  tree_e ns sc (receive_until cs e b) =
      node until_kind (tree_cs ns sc cs) (node timeout_kind (tree_e ns sc e) (tree_b ns sc b))
  tree_e ns sc (catch b) = node catch_kind (tree_b ns sc b) nothing

  pub tree_es : List Name → List Name → Tree → Exprs → Tree
  tree_es ns sc end no_e = end
  tree_es ns sc end (and_e e es) = node operand_kind (tree_e ns sc e) (tree_es ns sc end es)

  pub tree_b : List Name → List Name → Body → Tree
  tree_b ns sc (last e) = tree_e ns sc e
  tree_b ns sc (bind p e b) = node statement_kind (tree_p ns p)
      (node then_kind (tree_e ns sc e) (tree_b ns (bound_by p sc) b))

  pub tree_cs : List Name → List Name → Clauses → Tree
  tree_cs ns sc no_c = nothing
  tree_cs ns sc (clause p b cs) = node clauses_kind (node clause_kind (tree_p ns p) (tree_b ns (bound_by p sc) b))
      (tree_cs ns sc cs)
