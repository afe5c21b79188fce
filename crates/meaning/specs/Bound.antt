-- What the tree of a program has to meet: every name is bound where it stands, by a parameter or a pattern before it;
-- the parameters of a function differ, no two functions have one name and number, and the first module has main().
use Rattle.std.specs.Prelude.{Bool, true, false, ◌&&◌, not, List, [], ◌∷◌, ℕ, length}
use Rattle.meaning.specs.Basics.{opt, Name, listed}
use Rattle.meaning.specs.Atoms.{a_main}
use Rattle.meaning.specs.Syntax.{Pattern, p_any, p_var, p_int, p_atom, p_tuple, p_nil, p_cons, Patterns, no_p, and_p}
use Rattle.meaning.specs.Syntax.{Expr, int, atom, var, nil, apply, case, receive, receive_until, catch, Exprs, no_e}
use Rattle.meaning.specs.Syntax.{and_e, Body, last, bind, Clauses, no_c, clause, Function, Program}
use Rattle.meaning.specs.System.{function_of}

-- the names bound behind a pattern, the newest first
abbrev mutual
  pub bound_by : Pattern → List Name → List Name
  bound_by p_any ys = ys
  bound_by (p_var x) ys = x ∷ ys
  bound_by (p_int n) ys = ys
  bound_by (p_atom x) ys = ys
  bound_by (p_tuple ps) ys = bound_by_all ps ys
  bound_by p_nil ys = ys
  bound_by (p_cons a b) ys = bound_by b (bound_by a ys)

  pub bound_by_all : Patterns → List Name → List Name
  bound_by_all no_p ys = ys
  bound_by_all (and_p p ps) ys = bound_by_all ps (bound_by p ys)

-- are all names bound, where ys are
abbrev mutual
  pub bound_expr : List Name → Expr → Bool
  bound_expr ys (int n) = true
  bound_expr ys (atom x) = true
  bound_expr ys (var x) = listed x ys
  bound_expr ys nil = true
  bound_expr ys (apply o es) = bound_exprs ys es
  bound_expr ys (case e cs) = bound_expr ys e && bound_clauses ys cs
  bound_expr ys (receive cs) = bound_clauses ys cs
  bound_expr ys (receive_until cs e b) = bound_clauses ys cs && (bound_expr ys e && bound_body ys b)
  bound_expr ys (catch b) = bound_body ys b

  pub bound_exprs : List Name → Exprs → Bool
  bound_exprs ys no_e = true
  bound_exprs ys (and_e e es) = bound_expr ys e && bound_exprs ys es

  pub bound_body : List Name → Body → Bool
  bound_body ys (last e) = bound_expr ys e
  bound_body ys (bind p e b) = bound_expr ys e && bound_body (bound_by p ys) b

  pub bound_clauses : List Name → Clauses → Bool
  bound_clauses ys no_c = true
  bound_clauses ys (clause p b cs) = bound_body (bound_by p ys) b && bound_clauses ys cs

abbrev pub all_different : List Name → Bool
all_different [] = true
all_different (x ∷ xs) = not (listed x xs) && all_different xs

abbrev pub no_function : List Function → Name → ℕ → Bool
no_function fs x n = opt (function_of fs x n) true (λ f. false)

abbrev pub sound_functions : List Function → Bool
sound_functions [] = true
sound_functions (f ∷ fs) = no_function fs f.name (length f.params) &&
    (all_different f.params && (bound_body f.params f.body && sound_functions fs))

abbrev pub sound_modules : Program → Bool
sound_modules [] = true
sound_modules (m ∷ ms) = sound_functions m.functions && sound_modules ms

abbrev pub has_main : Program → Bool
has_main [] = false
has_main (m ∷ ms) = not (no_function m.functions a_main 0)
