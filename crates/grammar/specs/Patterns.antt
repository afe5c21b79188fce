-- Patterns: a token where one may begin, and a token behind one.
use Rattle.std.specs.Prelude.{Bool, true, false}
use Rattle.std.proofs.Math.Option.{Option, some, none}
use Rattle.meaning.specs.Syntax.{Pattern, p_any, p_var, p_int, p_tuple, p_cons, no_p, and_p, Operation, make_tuple}
use Rattle.meaning.specs.Syntax.{make_pair, call, far_call, spawn, far_spawn, operate, built_in, case, Clauses, no_c}
use Rattle.grammar.specs.Classes.{Bracket, paren, brace, same_bracket, Class, c_number, c_name, c_operator, c_open}
use Rattle.grammar.specs.Classes.{c_close, c_builtin, c_start, c_separate, c_other, s_quote, s_bracket, s_underscore}
use Rattle.grammar.specs.Classes.{s_case, s_receive, s_catch, s_spawn, s_comma, s_semicolon, s_equals, s_arrow}
use Rattle.grammar.specs.Stack.{none_yet, snoc, patterns_of, clauses_of, Owner, of_case, of_receive, ExprStack}
use Rattle.grammar.specs.Stack.{in_binding, PatternStack, in_cons, in_group, in_tuple, before_equals, before_arrow}
use Rattle.grammar.specs.Stack.{State, want_expr, have_expr, after_clauses, want_pattern, have_pattern}
use Rattle.grammar.specs.Stack.{after_pattern_quote, after_pattern_bracket, after_arrow, when}

-- } behind the clauses of a case or a receive
abbrev pub close_clauses : Owner → Clauses → ExprStack → State
close_clauses (of_case e) cs k = have_expr (case e cs) k
close_clauses of_receive cs k = after_clauses cs k

-- put together what :: holds apart, and go on
abbrev pub reduce_pattern : Pattern → PatternStack → (Pattern → PatternStack → Option State) → Option State
reduce_pattern p (in_cons a k) f = reduce_pattern (p_cons a p) k f
reduce_pattern p (in_group k) f = f p (in_group k)
reduce_pattern p (in_tuple xs k) f = f p (in_tuple xs k)
reduce_pattern p (before_equals xs k) f = f p (before_equals xs k)
reduce_pattern p (before_arrow h xs k) f = f p (before_arrow h xs k)

-- a closing bracket behind a pattern
abbrev pub close_pattern : Bracket → Pattern → PatternStack → Option State
close_pattern b p (in_cons a k) = none
close_pattern b p (in_group k) = when (same_bracket b paren) (have_pattern p k)
close_pattern b p (in_tuple xs k) =
    when (same_bracket b brace) (have_pattern (p_tuple (patterns_of xs (and_p p no_p))) k)
close_pattern b p (before_equals xs k) = none
close_pattern b p (before_arrow h xs k) = none

-- a comma behind a pattern
abbrev pub next_pattern : Pattern → PatternStack → Option State
next_pattern p (in_cons a k) = none
next_pattern p (in_group k) = none
next_pattern p (in_tuple xs k) = some (want_pattern (in_tuple (snoc xs p) k))
next_pattern p (before_equals xs k) = none
next_pattern p (before_arrow h xs k) = none

-- = behind a pattern
abbrev pub bind_pattern : Pattern → PatternStack → Option State
bind_pattern p (in_cons a k) = none
bind_pattern p (in_group k) = none
bind_pattern p (in_tuple xs k) = none
bind_pattern p (before_equals xs k) = some (want_expr (in_binding p xs k))
bind_pattern p (before_arrow h xs k) = none

-- -> behind a pattern
abbrev pub begin_arm : Pattern → PatternStack → Option State
begin_arm p (in_cons a k) = none
begin_arm p (in_group k) = none
begin_arm p (in_tuple xs k) = none
begin_arm p (before_equals xs k) = none
begin_arm p (before_arrow h xs k) = some (after_arrow p h xs k)

-- a closing bracket where a pattern could begin: the tuple is empty, or there are no more clauses
abbrev pub close_without : Bracket → PatternStack → Option State
close_without b (in_cons a k) = none
close_without b (in_group k) = none
close_without b (in_tuple none_yet k) = when (same_bracket b brace) (have_pattern (p_tuple no_p) k)
close_without b (in_tuple (snoc xs p) k) = none
close_without b (before_equals xs k) = none
close_without b (before_arrow h xs k) = when (same_bracket b brace) (close_clauses h (clauses_of xs no_c) k)

abbrev pub is_pair : Operation → Bool
is_pair make_tuple = false
is_pair make_pair = true
is_pair (call f) = false
is_pair (far_call m f) = false
is_pair (spawn f) = false
is_pair (far_spawn m f) = false
is_pair (operate o) = false
is_pair (built_in f) = false

-- a token where a pattern may begin
abbrev pub start_pattern : PatternStack → Class → Option State
start_pattern k (c_number n) = some (have_pattern (p_int n) k)
start_pattern k (c_name x) = some (have_pattern (p_var x) k)
start_pattern k (c_operator t m o) = none
start_pattern k (c_open paren) = some (want_pattern (in_group k))
start_pattern k (c_open brace) = some (want_pattern (in_tuple none_yet k))
start_pattern k (c_close b) = close_without b k
start_pattern k (c_builtin f) = none
start_pattern k (c_start s_quote) = some (after_pattern_quote k)
start_pattern k (c_start s_bracket) = some (after_pattern_bracket k)
start_pattern k (c_start s_underscore) = some (have_pattern p_any k)
start_pattern k (c_start s_case) = none
start_pattern k (c_start s_receive) = none
start_pattern k (c_start s_catch) = none
start_pattern k (c_start s_spawn) = none
start_pattern k (c_separate s) = none
start_pattern k c_other = none

-- a token behind a pattern
abbrev pub after_pattern : Pattern → PatternStack → Class → Option State
after_pattern p k (c_number n) = none
after_pattern p k (c_name x) = none
after_pattern p k (c_operator t m o) = when (is_pair o) (want_pattern (in_cons p k))
after_pattern p k (c_open b) = none
after_pattern p k (c_close b) = reduce_pattern p k (close_pattern b)
after_pattern p k (c_builtin f) = none
after_pattern p k (c_start s) = none
after_pattern p k (c_separate s_comma) = reduce_pattern p k next_pattern
after_pattern p k (c_separate s_semicolon) = none
after_pattern p k (c_separate s_equals) = reduce_pattern p k bind_pattern
after_pattern p k (c_separate s_arrow) = reduce_pattern p k begin_arm
after_pattern p k c_other = none
