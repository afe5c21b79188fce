-- What is checked while a text is read: a state is fine if what is finished in it is bound where it stands, the
-- parameters differ, and no two functions of a module are alike. `passes` says what a token has to be tested for.
use Rattle.std.specs.Prelude.{Bool, true, ◌&&◌, not, cond, List, length}
use Rattle.meaning.specs.Basics.{Name, same, listed}
use Rattle.meaning.specs.Syntax.{Expr}
use Rattle.meaning.specs.Grammar.{k_until, open_paren, colon}
use Rattle.meaning.specs.Bound.{bound_by, bound_expr, bound_body, bound_clauses, all_different, no_function}
use Rattle.meaning.specs.Bound.{sound_functions}
use Rattle.grammar.specs.Classes.{Class, c_number, c_name, c_operator, c_open, c_close, c_builtin, c_start}
use Rattle.grammar.specs.Classes.{c_separate, c_other, class_of}
use Rattle.grammar.specs.Scopes.{newest, after_statements, scope, body_scope}
use Rattle.grammar.specs.Stack.{Snoc, none_yet, snoc, Statement, statement, Arm, arm, Modules, no_module, in_module}
use Rattle.grammar.specs.Stack.{Owner, of_case, of_receive, ExprStack, operand, in_parens, in_list, in_case}
use Rattle.grammar.specs.Stack.{in_until, in_statement, in_binding, BodyStack, in_arm, in_timeout, in_catch}
use Rattle.grammar.specs.Stack.{in_function, PatternStack, in_cons, in_group, in_tuple, before_equals, before_arrow}
use Rattle.grammar.specs.Stack.{State, want_expr, have_expr, after_name, after_colon, want_operands, after_quote}
use Rattle.grammar.specs.Stack.{after_bracket, after_spawn, after_spawn_name, after_spawn_colon, after_receive}
use Rattle.grammar.specs.Stack.{after_clauses, after_catch, want_statement, want_pattern, have_pattern}
use Rattle.grammar.specs.Stack.{after_pattern_quote, after_pattern_bracket, after_arrow, top_level, after_module}
use Rattle.grammar.specs.Stack.{after_module_name, after_fn, after_fn_name, want_parameter, after_parameter}
use Rattle.grammar.specs.Stack.{after_parameters}

-- are the parts that stand side by side bound, where ys are
abbrev pub fine_operands : List Name → Snoc Expr → Bool
fine_operands ys none_yet = true
fine_operands ys (snoc xs e) = bound_expr ys e && fine_operands ys xs

abbrev pub fine_arms : List Name → Snoc Arm → Bool
fine_arms ys none_yet = true
fine_arms ys (snoc xs (arm p b)) = bound_body (bound_by p ys) b && fine_arms ys xs

abbrev pub fine_owner : List Name → Owner → Bool
fine_owner ys (of_case e) = bound_expr ys e
fine_owner ys of_receive = true

-- each statement is bound where the ones before it stand too
abbrev pub fine_statements : List Name → Snoc Statement → Bool
fine_statements ys none_yet = true
fine_statements ys (snoc xs (statement p e)) = bound_expr (after_statements xs ys) e && fine_statements ys xs

abbrev pub fine_modules : Modules → Bool
fine_modules no_module = true
fine_modules (in_module m x fs) = sound_functions (newest fs) && fine_modules m

abbrev mutual
  pub fine_exprs : ExprStack → Bool
  fine_exprs (operand m o a k) = bound_expr (scope k) a && fine_exprs k
  fine_exprs (in_parens k) = fine_exprs k
  fine_exprs (in_list b o xs k) = fine_operands (scope k) xs && fine_exprs k
  fine_exprs (in_case k) = fine_exprs k
  fine_exprs (in_until cs k) = bound_clauses (scope k) cs && fine_exprs k
  fine_exprs (in_statement xs k) = fine_statements (body_scope k) xs && fine_body_stack k
  fine_exprs (in_binding p xs k) = fine_statements (body_scope k) xs && fine_body_stack k

  pub fine_body_stack : BodyStack → Bool
  fine_body_stack (in_arm p h xs k) = fine_owner (scope k) h && (fine_arms (scope k) xs && fine_exprs k)
  fine_body_stack (in_timeout cs e k) = bound_clauses (scope k) cs && (bound_expr (scope k) e && fine_exprs k)
  fine_body_stack (in_catch k) = fine_exprs k
  fine_body_stack (in_function x ps m) = all_different ps && fine_modules m

abbrev pub fine_patterns : PatternStack → Bool
fine_patterns (in_cons a k) = fine_patterns k
fine_patterns (in_group k) = fine_patterns k
fine_patterns (in_tuple xs k) = fine_patterns k
fine_patterns (before_equals xs k) = fine_statements (body_scope k) xs && fine_body_stack k
fine_patterns (before_arrow h xs k) = fine_owner (scope k) h && (fine_arms (scope k) xs && fine_exprs k)

abbrev pub fine_state : State → Bool
fine_state (want_expr k) = fine_exprs k
fine_state (have_expr e k) = bound_expr (scope k) e && fine_exprs k
-- a name may still become the name of a function
fine_state (after_name x k) = fine_exprs k
fine_state (after_colon m k) = fine_exprs k
fine_state (want_operands o k) = fine_exprs k
fine_state (after_quote k) = fine_exprs k
fine_state (after_bracket k) = fine_exprs k
fine_state (after_spawn k) = fine_exprs k
fine_state (after_spawn_name x k) = fine_exprs k
fine_state (after_spawn_colon m k) = fine_exprs k
fine_state (after_receive k) = fine_exprs k
fine_state (after_clauses cs k) = bound_clauses (scope k) cs && fine_exprs k
fine_state (after_catch k) = fine_exprs k
fine_state (want_statement xs k) = fine_statements (body_scope k) xs && fine_body_stack k
fine_state (want_pattern k) = fine_patterns k
fine_state (have_pattern p k) = fine_patterns k
fine_state (after_pattern_quote k) = fine_patterns k
fine_state (after_pattern_bracket k) = fine_patterns k
fine_state (after_arrow p h xs k) = fine_owner (scope k) h && (fine_arms (scope k) xs && fine_exprs k)
fine_state (top_level m) = fine_modules m
fine_state (after_module m) = fine_modules m
fine_state (after_module_name x m) = fine_modules m
fine_state (after_fn m) = fine_modules m
fine_state (after_fn_name x m) = fine_modules m
fine_state (want_parameter x ps m) = all_different (newest ps) && fine_modules m
fine_state (after_parameter x ps m) = all_different (newest ps) && fine_modules m
fine_state (after_parameters x ps m) = all_different ps && fine_modules m

-- where a body ends: a function is new in its module
abbrev pub new_at_end : BodyStack → Bool
new_at_end (in_arm p h xs k) = true
new_at_end (in_timeout cs e k) = true
new_at_end (in_catch k) = true
new_at_end (in_function x ps no_module) = true
new_at_end (in_function x ps (in_module m y fs)) = no_function (newest fs) x (length ps)

-- where a bracket closes what the expression stands in: that is so if a body ends
abbrev pub new_if_closed : ExprStack → Bool
new_if_closed (operand m o a k) = new_if_closed k
new_if_closed (in_parens k) = true
new_if_closed (in_list b o xs k) = true
new_if_closed (in_case k) = true
new_if_closed (in_until cs k) = true
new_if_closed (in_statement xs k) = new_at_end k
new_if_closed (in_binding p xs k) = true

-- what a token behind an expression is tested for
abbrev pub passes_behind : ExprStack → Class → Bool
passes_behind k (c_number n) = true
passes_behind k (c_name x) = true
passes_behind k (c_operator t m o) = true
passes_behind k (c_open b) = true
passes_behind k (c_close b) = new_if_closed k
passes_behind k (c_builtin f) = true
passes_behind k (c_start s) = true
passes_behind k (c_separate s) = true
passes_behind k c_other = true

-- a name that no ( and no : follows is a variable
abbrev pub passes_name : Name → ExprStack → Name → Bool
passes_name x k w =
    cond (same w open_paren) true (cond (same w colon) true (passes_behind k (class_of w) && listed x (scope k)))

-- what a token is tested for: only a variable, a new parameter and the end of a function can be refused
abbrev pub passes : State → Name → Bool
passes (want_expr k) w = true
passes (have_expr e k) w = passes_behind k (class_of w)
passes (after_name x k) w = passes_name x k w
passes (after_colon m k) w = true
passes (want_operands o k) w = true
passes (after_quote k) w = true
passes (after_bracket k) w = true
passes (after_spawn k) w = true
passes (after_spawn_name x k) w = true
passes (after_spawn_colon m k) w = true
passes (after_receive k) w = true
passes (after_clauses cs k) w = cond (same w k_until) true (passes_behind k (class_of w))
passes (after_catch k) w = true
passes (want_statement xs k) w = true
passes (want_pattern k) w = true
passes (have_pattern p k) w = true
passes (after_pattern_quote k) w = true
passes (after_pattern_bracket k) w = true
passes (after_arrow p h xs k) w = true
passes (top_level m) w = true
passes (after_module m) w = true
passes (after_module_name x m) w = true
passes (after_fn m) w = true
passes (after_fn_name x m) w = true
passes (want_parameter x ps m) w = not (listed w (newest ps))
passes (after_parameter x ps m) w = true
passes (after_parameters x ps m) w = true
