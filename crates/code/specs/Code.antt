-- A part of a program that stands in the code's cells: its tree is denoted, and it is fine.
use Rattle.std.specs.Prelude.{ℕ, List}
use Rattle.meaning.specs.Basics.{Name}
use Rattle.meaning.specs.Syntax.{Pattern, Operation, Expr, Exprs, Body, Clauses}
use Rattle.store.specs.Heap.{Store, Den}
use Rattle.store.specs.declared.slot.Slot.{Slot}
use Rattle.code.specs.Trees.{tree_p, tree_o, tree_e, tree_es, tree_b, tree_cs}
use Rattle.code.specs.Fine.{Matchable, FineO, FineE, FineEs, FineB, FineCs}

pub record CodeP (ns : List Name) (code : Store) (s : Slot) (p : Pattern) : Type 0 where
  pub stands : Den code s (tree_p ns p)
  pub fine : Matchable ns p

pub record CodeE (ns sc : List Name) (code : Store) (s : Slot) (e : Expr) : Type 0 where
  pub stands : Den code s (tree_e ns sc e)
  pub fine : FineE ns sc e

pub record CodeB (ns sc : List Name) (code : Store) (s : Slot) (b : Body) : Type 0 where
  pub stands : Den code s (tree_b ns sc b)
  pub fine : FineB ns sc b

pub record CodeCs (ns sc : List Name) (code : Store) (s : Slot) (cs : Clauses) : Type 0 where
  pub stands : Den code s (tree_cs ns sc cs)
  pub fine : FineCs ns sc cs

-- operands still to come, of an operation that takes n in all
pub record CodeEs (ns sc : List Name) (code : Store) (s : Slot) (o : Operation) (n : ℕ) (es : Exprs) : Type 0 where
  pub stands : Den code s (tree_es ns sc (tree_o ns o n) es)
  pub operation : FineO ns o n
  pub fine : FineEs ns sc es
