-- Programs as trees: patterns, expressions, bodies, functions, and modules in versions.
use Rattle.std.specs.Prelude.{List, ℕ}
use Rattle.meaning.specs.Basics.{Name}

mutual
  pub data Pattern : Type 0 where
    p_any : Pattern
    p_var : Name → Pattern
    p_int : ℕ → Pattern
    p_atom : Name → Pattern
    p_tuple : Patterns → Pattern
    p_nil : Pattern
    p_cons : Pattern → Pattern → Pattern

  pub data Patterns : Type 0 where
    no_p : Patterns
    and_p : Pattern → Patterns → Patterns

-- + - * / % == != < <=
pub data Operator : Type 0 where
  plus : Operator
  minus : Operator
  times : Operator
  divide : Operator
  modulo : Operator
  equal : Operator
  unequal : Operator
  less : Operator
  at_most : Operator

-- the built-in functions; `register` and `whereis` are spelled name and where in a text
pub data Builtin : Type 0 where
  send : Builtin
  self : Builtin
  link : Builtin
  exit : Builtin
  trap : Builtin
  show : Builtin
  register : Builtin
  whereis : Builtin
  swap : Builtin

-- what is done with values that were worked out one after another
pub data Operation : Type 0 where
  make_tuple : Operation
  make_pair : Operation
  -- f(..), and m:f(..)
  call : Name → Operation
  far_call : Name → Name → Operation
  -- spawn f(..), and spawn m:f(..)
  spawn : Name → Operation
  far_spawn : Name → Name → Operation
  operate : Operator → Operation
  built_in : Builtin → Operation

mutual
  pub data Expr : Type 0 where
    int : ℕ → Expr
    atom : Name → Expr
    var : Name → Expr
    nil : Expr
    -- an operation on operands, from the left
    apply : Operation → Exprs → Expr
    case : Expr → Clauses → Expr
    receive : Clauses → Expr
    -- receive {..} until e {..}
    receive_until : Clauses → Expr → Body → Expr
    catch : Body → Expr

  pub data Exprs : Type 0 where
    no_e : Exprs
    and_e : Expr → Exprs → Exprs

  -- expressions whose values are matched one after another, and a last one
  pub data Body : Type 0 where
    last : Expr → Body
    bind : Pattern → Expr → Body → Body

  pub data Clauses : Type 0 where
    no_c : Clauses
    clause : Pattern → Body → Clauses → Clauses

pub record Function : Type 0 where
  pub name : Name
  pub params : List Name
  pub body : Body

-- one section of a module; the n-th section of a name is the module's version n, from 1
pub record Module : Type 0 where
  pub name : Name
  pub functions : List Function

abbrev pub Program : Type 0
Program = List Module
