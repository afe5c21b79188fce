-- The push-down machine: it takes one token at a time, and goes on or refuses.
use Rattle.std.specs.Prelude.{cond, List, [], ◌∷◌}
use Rattle.std.proofs.Math.Option.{Option, some, none}
use Rattle.meaning.specs.Basics.{on_some, Name, same}
use Rattle.meaning.specs.Syntax.{p_nil, p_atom, far_call, call, spawn, far_spawn, atom, var, nil, receive, Clauses}
use Rattle.meaning.specs.Syntax.{Program}
use Rattle.meaning.specs.Grammar.{k_module, k_fn, k_until, open_paren, close_paren, close_bracket, open_brace, comma}
use Rattle.meaning.specs.Grammar.{semicolon, colon, is_name, is_atom}
use Rattle.grammar.specs.Classes.{paren, class_of}
use Rattle.grammar.specs.Expressions.{start_expr, after_expr}
use Rattle.grammar.specs.LookAhead.{binds}
use Rattle.grammar.specs.Patterns.{start_pattern, after_pattern}
use Rattle.grammar.specs.Stack.{none_yet, snoc, list_of, Modules, no_module, in_module, program_of, of_receive}
use Rattle.grammar.specs.Stack.{ExprStack, in_list, in_until, in_statement, in_arm, in_catch, in_function}
use Rattle.grammar.specs.Stack.{before_equals, before_arrow, State, want_expr, have_expr, after_name, after_colon}
use Rattle.grammar.specs.Stack.{want_operands, after_quote, after_bracket, after_spawn, after_spawn_name}
use Rattle.grammar.specs.Stack.{after_spawn_colon, after_receive, after_clauses, after_catch, want_statement}
use Rattle.grammar.specs.Stack.{want_pattern, have_pattern, after_pattern_quote, after_pattern_bracket, after_arrow}
use Rattle.grammar.specs.Stack.{top_level, after_module, after_module_name, after_fn, after_fn_name, want_parameter}
use Rattle.grammar.specs.Stack.{after_parameter, after_parameters, when}

-- a token behind a name: a call, a name in another module, or the name is a variable
abbrev pub name_ends : Name → ExprStack → Name → Option State
name_ends x k w =
    cond (same w open_paren) (some (want_expr (in_list paren (call x) none_yet k)))
    (cond (same w colon) (some (after_colon x k)) (after_expr (var x) k (class_of w)))

-- a token behind the clauses of a receive
abbrev pub clauses_end : Clauses → ExprStack → Name → Option State
clauses_end cs k w = cond (same w k_until) (some (want_expr (in_until cs k))) (after_expr (receive cs) k (class_of w))

abbrev pub at_top_level : Modules → Name → Option State
at_top_level no_module w = when (same w k_module) (after_module no_module)
at_top_level (in_module m x fs) w =
    cond (same w k_module) (some (after_module (in_module m x fs))) (when (same w k_fn) (after_fn (in_module m x fs)))

-- one token; only where a statement begins do the tokens behind it count too
abbrev pub step : State → Name → List Name → Option State
step (want_expr k) w ws = start_expr k (class_of w)
step (have_expr e k) w ws = after_expr e k (class_of w)
step (after_name x k) w ws = name_ends x k w
step (after_colon m k) w ws = when (is_name w) (want_operands (far_call m w) k)
step (want_operands o k) w ws = when (same w open_paren) (want_expr (in_list paren o none_yet k))
step (after_quote k) w ws = when (is_atom w) (have_expr (atom w) k)
step (after_bracket k) w ws = when (same w close_bracket) (have_expr nil k)
step (after_spawn k) w ws = when (is_name w) (after_spawn_name w k)
step (after_spawn_name x k) w ws =
    cond (same w open_paren) (some (want_expr (in_list paren (spawn x) none_yet k)))
    (when (same w colon) (after_spawn_colon x k))
step (after_spawn_colon m k) w ws = when (is_name w) (want_operands (far_spawn m w) k)
step (after_receive k) w ws = when (same w open_brace) (want_pattern (before_arrow of_receive none_yet k))
step (after_clauses cs k) w ws = clauses_end cs k w
step (after_catch k) w ws = when (same w open_brace) (want_statement none_yet (in_catch k))
step (want_statement xs k) w ws =
    cond (binds 0 (w ∷ ws)) (start_pattern (before_equals xs k) (class_of w))
    (start_expr (in_statement xs k) (class_of w))
step (want_pattern k) w ws = start_pattern k (class_of w)
step (have_pattern p k) w ws = after_pattern p k (class_of w)
step (after_pattern_quote k) w ws = when (is_atom w) (have_pattern (p_atom w) k)
step (after_pattern_bracket k) w ws = when (same w close_bracket) (have_pattern p_nil k)
step (after_arrow p h xs k) w ws = when (same w open_brace) (want_statement none_yet (in_arm p h xs k))
step (top_level m) w ws = at_top_level m w
step (after_module m) w ws = when (is_name w) (after_module_name w m)
step (after_module_name x m) w ws = when (same w semicolon) (top_level (in_module m x none_yet))
step (after_fn m) w ws = when (is_name w) (after_fn_name w m)
step (after_fn_name x m) w ws = when (same w open_paren) (want_parameter x none_yet m)
step (want_parameter x none_yet m) w ws =
    cond (same w close_paren) (some (after_parameters x [] m))
    (when (is_name w) (after_parameter x (snoc none_yet w) m))
step (want_parameter x (snoc ps y) m) w ws = when (is_name w) (after_parameter x (snoc (snoc ps y) w) m)
step (after_parameter x ps m) w ws =
    cond (same w comma) (some (want_parameter x ps m))
    (when (same w close_paren) (after_parameters x (list_of ps []) m))
step (after_parameters x ps m) w ws = when (same w open_brace) (want_statement none_yet (in_function x ps m))

abbrev pub run : State → List Name → Option State
run s [] = some s
run s (w ∷ ws) = on_some (step s w ws) (λ t. run t ws)

-- the program, where the tokens end: only between functions
abbrev pub program_at : State → Option Program
program_at (top_level m) = some (program_of m [])
program_at (want_expr k) = none
program_at (have_expr e k) = none
program_at (after_name x k) = none
program_at (after_colon m k) = none
program_at (want_operands o k) = none
program_at (after_quote k) = none
program_at (after_bracket k) = none
program_at (after_spawn k) = none
program_at (after_spawn_name x k) = none
program_at (after_spawn_colon m k) = none
program_at (after_receive k) = none
program_at (after_clauses cs k) = none
program_at (after_catch k) = none
program_at (want_statement xs k) = none
program_at (want_pattern k) = none
program_at (have_pattern p k) = none
program_at (after_pattern_quote k) = none
program_at (after_pattern_bracket k) = none
program_at (after_arrow p h xs k) = none
program_at (after_module m) = none
program_at (after_module_name x m) = none
program_at (after_fn m) = none
program_at (after_fn_name x m) = none
program_at (want_parameter x ps m) = none
program_at (after_parameter x ps m) = none
program_at (after_parameters x ps m) = none

-- the program that tokens are, if they are one
abbrev pub parse : List Name → Option Program
parse s = on_some (run (top_level no_module) s) program_at
