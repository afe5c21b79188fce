-- Expressions: a token where one may begin, and a token behind one. Operators wait on the stack until what follows
-- binds less tightly; then they are applied to their operands.
use Rattle.std.specs.Prelude.{Bool, true, false, ◌&&◌, ◌||◌, cond, ℕ, eqb, leb}
use Rattle.std.proofs.Math.Option.{Option, some, none}
use Rattle.meaning.specs.Syntax.{p_any, Builtin, send, self, link, exit, trap, show, register, whereis, swap}
use Rattle.meaning.specs.Syntax.{Operation, make_tuple, make_pair, call, far_call, spawn, far_spawn, operate}
use Rattle.meaning.specs.Syntax.{built_in, Expr, int, apply, receive_until, catch, Exprs, no_e, and_e, Body, last}
use Rattle.meaning.specs.Grammar.{count}
use Rattle.grammar.specs.Classes.{Bracket, paren, brace, same_bracket, Class, c_number, c_name, c_operator, c_open}
use Rattle.grammar.specs.Classes.{c_close, c_builtin, c_start, c_separate, c_other, s_quote, s_bracket, s_underscore}
use Rattle.grammar.specs.Classes.{s_case, s_receive, s_catch, s_spawn, s_comma, s_semicolon, s_equals, s_arrow}
use Rattle.grammar.specs.Stack.{none_yet, snoc, statement, arm, exprs_of, body_of, no_module, in_module, of_case}
use Rattle.grammar.specs.Stack.{ExprStack, operand, in_parens, in_list, in_case, in_until, in_statement, in_binding}
use Rattle.grammar.specs.Stack.{BodyStack, in_arm, in_timeout, in_catch, in_function, before_arrow, State, want_expr}
use Rattle.grammar.specs.Stack.{have_expr, after_name, want_operands, after_quote, after_bracket, after_spawn}
use Rattle.grammar.specs.Stack.{after_receive, after_catch, want_statement, want_pattern, top_level, when}

abbrev pub binary : Operation → Expr → Expr → Expr
binary o a b = apply o (and_e a (and_e b no_e))

pub record Reduced : Type 0 where
  pub expr : Expr
  pub stack : ExprStack

abbrev pub reduced : Expr → ExprStack → Reduced
reduced e k = record { expr = e; stack = k }

-- apply the operators that wait and bind at least as tightly as t
abbrev pub reduce : ℕ → Expr → ExprStack → Reduced
reduce t e (operand m o a k) = cond (leb t m) (reduce t (binary o a e) k) (reduced e (operand m o a k))
reduce t e (in_parens k) = reduced e (in_parens k)
reduce t e (in_list c o xs k) = reduced e (in_list c o xs k)
reduce t e (in_case k) = reduced e (in_case k)
reduce t e (in_until cs k) = reduced e (in_until cs k)
reduce t e (in_statement xs k) = reduced e (in_statement xs k)
reduce t e (in_binding p xs k) = reduced e (in_binding p xs k)

-- does a comparison wait on top
abbrev pub comparing : ExprStack → Bool
comparing (operand m o a k) = eqb m 0
comparing (in_parens k) = false
comparing (in_list c o xs k) = false
comparing (in_case k) = false
comparing (in_until cs k) = false
comparing (in_statement xs k) = false
comparing (in_binding p xs k) = false

-- behind an operator, its right operand is waited for; a comparison is no operand of a comparison
abbrev pub shift : ℕ → Operation → Expr → ExprStack → Option State
shift m o e k = cond (eqb m 0 && comparing k) none (some (want_expr (operand m o e k)))

-- a built-in function takes so many arguments
abbrev pub takes : Builtin → ℕ → Bool
takes send n = eqb n 2
takes self n = eqb n 0
takes link n = eqb n 1
takes exit n = eqb n 1 || eqb n 2
takes trap n = eqb n 1
takes show n = eqb n 1
takes register n = eqb n 1
takes whereis n = eqb n 1
takes swap n = eqb n 1

abbrev pub arity_fits : Operation → Exprs → Bool
arity_fits make_tuple es = true
arity_fits make_pair es = true
arity_fits (call f) es = true
arity_fits (far_call m f) es = true
arity_fits (spawn f) es = true
arity_fits (far_spawn m f) es = true
arity_fits (operate o) es = true
arity_fits (built_in f) es = takes f (count es)

-- the bracket b, where c closes the operands
abbrev pub close_list : Bracket → Bracket → Operation → Exprs → ExprStack → Option State
close_list b c o es k = when (same_bracket b c && arity_fits o es) (have_expr (apply o es) k)

-- } behind a body
abbrev pub close_body : Body → BodyStack → Option State
close_body b (in_arm p h xs k) = some (want_pattern (before_arrow h (snoc xs (arm p b)) k))
close_body b (in_timeout cs e k) = some (have_expr (receive_until cs e b) k)
close_body b (in_catch k) = some (have_expr (catch b) k)
close_body b (in_function x ps no_module) = none
close_body b (in_function x ps (in_module m y fs)) =
    some (top_level (in_module m y (snoc fs (record { name = x; params = ps; body = b }))))

-- a closing bracket behind an expression
abbrev pub close_expr : Bracket → Expr → ExprStack → Option State
close_expr b e (operand m o a k) = none
close_expr b e (in_parens k) = when (same_bracket b paren) (have_expr e k)
close_expr b e (in_list c o xs k) = close_list b c o (exprs_of xs (and_e e no_e)) k
close_expr b e (in_case k) = none
close_expr b e (in_until cs k) = none
close_expr b e (in_statement xs k) = cond (same_bracket b brace) (close_body (body_of xs (last e)) k) none
close_expr b e (in_binding p xs k) = none

-- a comma behind an expression
abbrev pub next_expr : Expr → ExprStack → Option State
next_expr e (operand m o a k) = none
next_expr e (in_parens k) = none
next_expr e (in_list c o xs k) = some (want_expr (in_list c o (snoc xs e) k))
next_expr e (in_case k) = none
next_expr e (in_until cs k) = none
next_expr e (in_statement xs k) = none
next_expr e (in_binding p xs k) = none

-- a semicolon behind an expression
abbrev pub next_statement : Expr → ExprStack → Option State
next_statement e (operand m o a k) = none
next_statement e (in_parens k) = none
next_statement e (in_list c o xs k) = none
next_statement e (in_case k) = none
next_statement e (in_until cs k) = none
next_statement e (in_statement xs k) = some (want_statement (snoc xs (statement p_any e)) k)
next_statement e (in_binding p xs k) = some (want_statement (snoc xs (statement p e)) k)

-- { behind an expression
abbrev pub open_block : Expr → ExprStack → Option State
open_block e (operand m o a k) = none
open_block e (in_parens k) = none
open_block e (in_list c o xs k) = none
open_block e (in_case k) = some (want_pattern (before_arrow (of_case e) none_yet k))
open_block e (in_until cs k) = some (want_statement none_yet (in_timeout cs e k))
open_block e (in_statement xs k) = none
open_block e (in_binding p xs k) = none

-- a closing bracket where an expression could begin: the list is empty
abbrev pub close_empty : Bracket → ExprStack → Option State
close_empty b (operand m o a k) = none
close_empty b (in_parens k) = none
close_empty b (in_list c o none_yet k) = close_list b c o no_e k
close_empty b (in_list c o (snoc xs e) k) = none
close_empty b (in_case k) = none
close_empty b (in_until cs k) = none
close_empty b (in_statement xs k) = none
close_empty b (in_binding p xs k) = none

-- a token where an expression may begin
abbrev pub start_expr : ExprStack → Class → Option State
start_expr k (c_number n) = some (have_expr (int n) k)
start_expr k (c_name x) = some (after_name x k)
start_expr k (c_operator t m o) = none
start_expr k (c_open paren) = some (want_expr (in_parens k))
start_expr k (c_open brace) = some (want_expr (in_list brace make_tuple none_yet k))
start_expr k (c_close b) = close_empty b k
start_expr k (c_builtin f) = some (want_operands (built_in f) k)
start_expr k (c_start s_quote) = some (after_quote k)
start_expr k (c_start s_bracket) = some (after_bracket k)
start_expr k (c_start s_underscore) = none
start_expr k (c_start s_case) = some (want_expr (in_case k))
start_expr k (c_start s_receive) = some (after_receive k)
start_expr k (c_start s_catch) = some (after_catch k)
start_expr k (c_start s_spawn) = some (after_spawn k)
start_expr k (c_separate s) = none
start_expr k c_other = none

-- a token behind an expression
abbrev pub after_expr : Expr → ExprStack → Class → Option State
after_expr e k (c_number n) = none
after_expr e k (c_name x) = none
after_expr e k (c_operator t m o) = let r = reduce t e k in shift m o r.expr r.stack
after_expr e k (c_open paren) = none
after_expr e k (c_open brace) = let r = reduce 0 e k in open_block r.expr r.stack
after_expr e k (c_close b) = let r = reduce 0 e k in close_expr b r.expr r.stack
after_expr e k (c_builtin f) = none
after_expr e k (c_start s) = none
after_expr e k (c_separate s_comma) = let r = reduce 0 e k in next_expr r.expr r.stack
after_expr e k (c_separate s_semicolon) = let r = reduce 0 e k in next_statement r.expr r.stack
after_expr e k (c_separate s_equals) = none
after_expr e k (c_separate s_arrow) = none
after_expr e k c_other = none
