-- What the machine holds between two tokens: the parts that are begun, each with what it waits for.
-- A stack is typed by what it waits for (an expression, a body, a pattern), so that no
-- senseless stack can be written.
use Rattle.std.specs.Prelude.{Bool, cond, List, [], ◌∷◌, ℕ}
use Rattle.std.proofs.Math.Option.{Option, some, none}
use Rattle.meaning.specs.Basics.{Name}
use Rattle.meaning.specs.Syntax.{Pattern, Patterns, and_p, Operation, Expr, Exprs, and_e, Body, bind, Clauses, clause}
use Rattle.meaning.specs.Syntax.{Function, Module, Program}
use Rattle.grammar.specs.Classes.{Bracket}

-- a list that is read from the left: the newest element is the outermost
pub data Snoc (A : Type 0) : Type 0 where
  none_yet : Snoc A
  snoc : Snoc A → A → Snoc A

-- the elements in front of c
abbrev pub onto : {A C : Type 0} → (A → C → C) → Snoc A → C → C
onto f none_yet c = c
onto f (snoc xs x) c = onto f xs (f x c)

-- p = e; of a body, where e; is _ = e;
pub data Statement : Type 0 where
  statement : Pattern → Expr → Statement

-- p -> { b } of a case or a receive
pub data Arm : Type 0 where
  arm : Pattern → Body → Arm

abbrev pub bind_statement : Statement → Body → Body
bind_statement (statement p e) b = bind p e b

abbrev pub add_arm : Arm → Clauses → Clauses
add_arm (arm p b) cs = clause p b cs

abbrev pub exprs_of : Snoc Expr → Exprs → Exprs
exprs_of xs es = onto and_e xs es

abbrev pub patterns_of : Snoc Pattern → Patterns → Patterns
patterns_of xs ps = onto and_p xs ps

abbrev pub body_of : Snoc Statement → Body → Body
body_of xs b = onto bind_statement xs b

abbrev pub clauses_of : Snoc Arm → Clauses → Clauses
clauses_of xs cs = onto add_arm xs cs

abbrev pub list_of : {A : Type 0} → Snoc A → List A → List A
list_of xs l = onto ◌∷◌ xs l

-- the modules before, and the one that is being read
pub data Modules : Type 0 where
  no_module : Modules
  in_module : Modules → Name → Snoc Function → Modules

abbrev pub module_of : Name → List Function → Module
module_of x fs = record { name = x; functions = fs }

abbrev pub program_of : Modules → Program → Program
program_of no_module g = g
program_of (in_module m x fs) g = program_of m (module_of x (list_of fs []) ∷ g)

-- whose clauses are read: those of case e, or of a receive
pub data Owner : Type 0 where
  of_case : Expr → Owner
  of_receive : Owner

mutual
  -- an expression is waited for
  pub data ExprStack : Type 0 where
    -- right of an operator that binds as tightly as the number, with its left operand
    operand : ℕ → Operation → Expr → ExprStack → ExprStack
    in_parens : ExprStack → ExprStack
    -- an element of a list up to a closing bracket, behind the elements read
    in_list : Bracket → Operation → Snoc Expr → ExprStack → ExprStack
    in_case : ExprStack → ExprStack
    in_until : Clauses → ExprStack → ExprStack
    -- a statement without =, or what stands behind =, behind the statements read
    in_statement : Snoc Statement → BodyStack → ExprStack
    in_binding : Pattern → Snoc Statement → BodyStack → ExprStack

  -- a body is waited for
  pub data BodyStack : Type 0 where
    in_arm : Pattern → Owner → Snoc Arm → ExprStack → BodyStack
    in_timeout : Clauses → Expr → ExprStack → BodyStack
    in_catch : ExprStack → BodyStack
    in_function : Name → List Name → Modules → BodyStack

-- a pattern is waited for
pub data PatternStack : Type 0 where
  in_cons : Pattern → PatternStack → PatternStack
  in_group : PatternStack → PatternStack
  in_tuple : Snoc Pattern → PatternStack → PatternStack
  before_equals : Snoc Statement → BodyStack → PatternStack
  -- the pattern of the next clause, or the } behind the last
  before_arrow : Owner → Snoc Arm → ExprStack → PatternStack

pub data State : Type 0 where
  want_expr : ExprStack → State
  have_expr : Expr → ExprStack → State
  -- a name: a variable, or the name of a function or of a module
  after_name : Name → ExprStack → State
  after_colon : Name → ExprStack → State
  -- ( must come, and then operands
  want_operands : Operation → ExprStack → State
  after_quote : ExprStack → State
  after_bracket : ExprStack → State
  after_spawn : ExprStack → State
  after_spawn_name : Name → ExprStack → State
  after_spawn_colon : Name → ExprStack → State
  after_receive : ExprStack → State
  -- the clauses of a receive, with until behind them or without
  after_clauses : Clauses → ExprStack → State
  after_catch : ExprStack → State
  want_statement : Snoc Statement → BodyStack → State
  want_pattern : PatternStack → State
  have_pattern : Pattern → PatternStack → State
  after_pattern_quote : PatternStack → State
  after_pattern_bracket : PatternStack → State
  after_arrow : Pattern → Owner → Snoc Arm → ExprStack → State
  -- between functions or modules
  top_level : Modules → State
  after_module : Modules → State
  after_module_name : Name → Modules → State
  after_fn : Modules → State
  after_fn_name : Name → Modules → State
  -- a parameter must come, or ) if there is none yet
  want_parameter : Name → Snoc Name → Modules → State
  after_parameter : Name → Snoc Name → Modules → State
  after_parameters : Name → List Name → Modules → State

-- go on only if
abbrev pub when : Bool → State → Option State
when b s = cond b (some s) none
