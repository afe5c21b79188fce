-- The stage of a program is the highest of its forms': 0 the core; 1 lists; 2 waiting until;
-- 3 links and ends; 4 several modules; 5 catch; 6 swap; 7 names.
use Rattle.std.specs.Prelude.{Bool, false, ◌||◌, cond, List, [], ◌∷◌, ℕ, max}
use Rattle.meaning.specs.Basics.{Name, same}
use Rattle.meaning.specs.Syntax.{Pattern, p_any, p_var, p_int, p_atom, p_tuple, p_nil, p_cons, Patterns, no_p, and_p}
use Rattle.meaning.specs.Syntax.{Builtin, send, self, link, exit, trap, show, register, whereis, swap, Operation}
use Rattle.meaning.specs.Syntax.{make_tuple, make_pair, call, far_call, spawn, far_spawn, operate, built_in, Expr}
use Rattle.meaning.specs.Syntax.{int, atom, var, nil, apply, case, receive, receive_until, catch, Exprs, no_e, and_e}
use Rattle.meaning.specs.Syntax.{Body, last, bind, Clauses, no_c, clause, Function, Program}

abbrev mutual
  pub stage_pattern : Pattern → ℕ
  stage_pattern p_any = 0
  stage_pattern (p_var x) = 0
  stage_pattern (p_int n) = 0
  stage_pattern (p_atom x) = 0
  stage_pattern (p_tuple ps) = stage_patterns ps
  stage_pattern p_nil = 1
  stage_pattern (p_cons a b) = max 1 (max (stage_pattern a) (stage_pattern b))

  pub stage_patterns : Patterns → ℕ
  stage_patterns no_p = 0
  stage_patterns (and_p p ps) = max (stage_pattern p) (stage_patterns ps)

abbrev pub stage_builtin : Builtin → ℕ
stage_builtin send = 0
stage_builtin self = 0
stage_builtin link = 3
stage_builtin exit = 3
stage_builtin trap = 3
stage_builtin show = 0
stage_builtin register = 7
stage_builtin whereis = 7
stage_builtin swap = 6

abbrev pub stage_operation : Operation → ℕ
stage_operation make_tuple = 0
stage_operation make_pair = 1
stage_operation (call f) = 0
stage_operation (far_call m f) = 4
stage_operation (spawn f) = 0
stage_operation (far_spawn m f) = 4
stage_operation (operate o) = 0
stage_operation (built_in b) = stage_builtin b

abbrev mutual
  pub stage_expr : Expr → ℕ
  stage_expr (int n) = 0
  stage_expr (atom x) = 0
  stage_expr (var x) = 0
  stage_expr nil = 1
  stage_expr (apply o es) = max (stage_operation o) (stage_exprs es)
  stage_expr (case e cs) = max (stage_expr e) (stage_clauses cs)
  stage_expr (receive cs) = stage_clauses cs
  stage_expr (receive_until cs e b) = max 2 (max (stage_clauses cs) (max (stage_expr e) (stage_body b)))
  stage_expr (catch b) = max 5 (stage_body b)

  pub stage_exprs : Exprs → ℕ
  stage_exprs no_e = 0
  stage_exprs (and_e e es) = max (stage_expr e) (stage_exprs es)

  pub stage_body : Body → ℕ
  stage_body (last e) = stage_expr e
  stage_body (bind p e b) = max (stage_pattern p) (max (stage_expr e) (stage_body b))

  pub stage_clauses : Clauses → ℕ
  stage_clauses no_c = 0
  stage_clauses (clause p b cs) = max (stage_pattern p) (max (stage_body b) (stage_clauses cs))

abbrev pub stage_functions : List Function → ℕ
stage_functions [] = 0
stage_functions (f ∷ fs) = max (stage_body f.body) (stage_functions fs)

-- is there a module of that name
abbrev pub has_module : Program → Name → Bool
has_module [] x = false
has_module (m ∷ ms) x = same m.name x || has_module ms x

-- a second section of one name is stage 6
abbrev pub stage_modules : Program → ℕ
stage_modules [] = 0
stage_modules (m ∷ ms) = max (stage_functions m.functions)
    (max (stage_modules ms) (cond (has_module ms m.name) 6 0))

-- more than one section is stage 4
abbrev pub stage : Program → ℕ
stage [] = 0
stage (m ∷ []) = stage_modules (m ∷ [])
stage (m ∷ n ∷ ms) = max 4 (stage_modules (m ∷ n ∷ ms))
