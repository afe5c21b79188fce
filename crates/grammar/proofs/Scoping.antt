-- A step keeps a state as fine as it was, up to the tests of `passes`: what was checked part by part is checked of
-- the whole that the parts are put together to. So a state that is not fine never becomes fine again, and where a
-- text ends, fine is what is asked of its program.
use mathlib.Core.Path.{◌≡◌, refl, sym, ap, subst, ◌∙◌}
use mathlib.Core.Bool.{Bool, true, false, ◌&&◌, cond, and_assoc}
use mathlib.Core.Option.{Option, some, none}
use Prim.Native.Nat.{ℕ}
use native.Mathlib.Omega.{arith}
use lib.ListN.{length}
use lib.Dec.{leb, eqb}
use Rattle.meaning.specs.Syntax.{Pattern, Operation, Expr, Exprs, no_e, and_e, Body, last, Clauses, no_c}
use Rattle.meaning.specs.Bound.{bound_expr, bound_exprs, bound_body, bound_clauses, all_different, no_function}
use Rattle.meaning.specs.Bound.{sound_functions}
use Rattle.grammar.specs.Classes.{Bracket, paren, brace, same_bracket, Class, c_number, c_name, c_operator, c_open}
use Rattle.grammar.specs.Classes.{c_close, c_builtin, c_start, c_separate, c_other, s_quote, s_bracket, s_underscore}
use Rattle.grammar.specs.Classes.{s_case, s_receive, s_catch, s_spawn, s_comma, s_semicolon, s_equals, s_arrow}
use Rattle.grammar.specs.Stack.{none_yet, snoc, body_of, clauses_of, exprs_of, no_module}
use Rattle.grammar.specs.Stack.{in_module, Owner, of_case, of_receive, ExprStack, operand, in_parens, in_list, in_case}
use Rattle.grammar.specs.Stack.{in_until, in_statement, in_binding, BodyStack, in_arm, in_timeout, in_catch}
use Rattle.grammar.specs.Stack.{in_function, PatternStack, in_cons, in_group, in_tuple, before_equals, before_arrow}
use Rattle.grammar.specs.Stack.{State, want_expr, when}
use Rattle.grammar.specs.Expressions.{reduced, reduce, binary, comparing, shift, arity_fits, close_list}
use Rattle.grammar.specs.Expressions.{close_body, close_expr, next_expr, next_statement, open_block, close_empty}
use Rattle.grammar.specs.Expressions.{start_expr, after_expr}
use Rattle.grammar.specs.Patterns.{close_clauses, reduce_pattern, close_pattern, next_pattern, bind_pattern}
use Rattle.grammar.specs.Patterns.{begin_arm, close_without, is_pair, start_pattern, after_pattern}
use Rattle.grammar.specs.Scopes.{newest, after_statements, scope, body_scope}
use Rattle.grammar.specs.Checks.{fine_operands, fine_arms, fine_owner, fine_statements, fine_modules, fine_exprs}
use Rattle.grammar.specs.Checks.{fine_body_stack, fine_patterns, fine_state, new_at_end, new_if_closed, passes_behind}
use Rattle.std.proofs.lemmas.Bool.{cond_both}
use Rattle.meaning.proofs.Splits.{OnSome}
use Rattle.grammar.proofs.Pairwise.{and_left_comm}
use Rattle.grammar.proofs.Boundness.{reverse_alike, bound_body_alike, operands_bound, arms_bound, statements_bound}

-- if the machine goes on, then its state is fine exactly if b
abbrev pub Follows : Bool → Option State → Type 0
Follows b o = OnSome (λ s. fine_state s ≡ b) o

pub when-follows : (t : Bool) (s : State) (b : Bool) → fine_state s ≡ b → Follows b (when t s)
when-follows true s b h = h
when-follows false s b h = tt

pub cond_follows : (t : Bool) (x y : Option State) (b : Bool) → Follows b x → Follows b y → Follows b (cond t x y)
cond_follows true x y b h g = h
cond_follows false x y b h g = g

-- conjunctions regrouped: e is what was finished last
pub with_last_operand : (a e f : Bool) → ((a && (e && true)) && f) ≡ (e && (a && f))
with_last_operand a e f = grind arith

pub with_last_arm : (h b x f : Bool) → (h && ((b && x) && f)) ≡ (b && (h && (x && f)))
with_last_arm h b x f = grind arith

pub with_timeout : (c e b f : Bool) → ((c && (e && b)) && f) ≡ (b && (c && (e && f)))
with_timeout c e b f = grind arith

pub with_function : (n d b m g : Bool) → ((n && (d && (b && m))) && g) ≡ (n && (b && (d && (m && g))))
with_function n d b m g = grind arith

pub with_arms : (e x f : Bool) → ((e && (x && true)) && f) ≡ (e && (x && f))
with_arms e x f = grind arith

pub with_last_statement : (n x e k : Bool) → (n && ((x && e) && k)) ≡ (n && (e && (x && k)))
with_last_statement n x e k = grind arith

-- is an expression bound where it stands, in what it stands in
abbrev pub fine_in : Expr → ExprStack → Bool
fine_in e k = bound_expr (scope k) e && fine_exprs k

pub reduce_fine : (t : ℕ) (e : Expr) (k : ExprStack) → fine_in (reduce t e k).expr (reduce t e k).stack ≡ fine_in e k
reduce_fine t e (operand m o a k) =
    cond_both (leb t m) (reduce t (binary o a e) k) (reduced e (operand m o a k)) (λ r. fine_in r.expr r.stack ≡ fine_in e (operand m o a k))
    (λ h. reduce_fine t (binary o a e) k
    ∙ with_last_operand (bound_expr (scope k) a) (bound_expr (scope k) e) (fine_exprs k))
    (λ h. refl)
reduce_fine t e (in_parens k) = refl
reduce_fine t e (in_list c o xs k) = refl
reduce_fine t e (in_case k) = refl
reduce_fine t e (in_until cs k) = refl
reduce_fine t e (in_statement xs k) = refl
reduce_fine t e (in_binding p xs k) = refl

pub reduce-closes : (t : ℕ) (e : Expr) (k : ExprStack) → new_if_closed (reduce t e k).stack ≡ new_if_closed k
reduce-closes t e (operand m o a k) =
    cond_both (leb t m) (reduce t (binary o a e) k) (reduced e (operand m o a k)) (λ r. new_if_closed r.stack ≡ new_if_closed k) (λ h. reduce-closes t (binary o a e) k) (λ h. refl)
reduce-closes t e (in_parens k) = refl
reduce-closes t e (in_list c o xs k) = refl
reduce-closes t e (in_case k) = refl
reduce-closes t e (in_until cs k) = refl
reduce-closes t e (in_statement xs k) = refl
reduce-closes t e (in_binding p xs k) = refl

pub shift_fine : (m : ℕ) (o : Operation) (e : Expr) (k : ExprStack) → Follows (fine_in e k) (shift m o e k)
shift_fine m o e k = cond_follows (eqb m 0 && comparing k) none (some (want_expr (operand m o e k))) (fine_in e k) tt refl

pub close_list_fine :
    (b c : Bracket) (o : Operation) (es : Exprs) (k : ExprStack) →
    Follows (bound_exprs (scope k) es && fine_exprs k) (close_list b c o es k)
close_list_fine b c o es k = when-follows (same_bracket b c && arity_fits o es) _ _ refl

-- a body ends; of a function the parameters are bound, in either order
pub close_body_fine :
    (b : Body) (k : BodyStack) →
    Follows (new_at_end k && (bound_body (body_scope k) b && fine_body_stack k)) (close_body b k)
close_body_fine b (in_arm p h xs k) =
    with_last_arm (fine_owner (scope k) h) (bound_body (body_scope (in_arm p h xs k)) b) (fine_arms (scope k) xs)
    (fine_exprs k)
close_body_fine b (in_timeout cs e k) =
    with_timeout (bound_clauses (scope k) cs) (bound_expr (scope k) e) (bound_body (scope k) b) (fine_exprs k)
close_body_fine b (in_catch k) = refl
close_body_fine b (in_function x ps no_module) = tt
close_body_fine b (in_function x ps (in_module m y fs)) =
    with_function (no_function (newest fs) x (length ps)) (all_different ps) (bound_body ps b)
    (sound_functions (newest fs)) (fine_modules m)
    ∙ ap (λ d. no_function (newest fs) x (length ps) && (d && fine_body_stack (in_function x ps (in_module m y fs))))
    (sym (bound_body_alike b (body_scope (in_function x ps m)) ps (reverse_alike ps)))

pub close_expr_fine :
    (b : Bracket) (e : Expr) (k : ExprStack) → Follows (new_if_closed k && fine_in e k) (close_expr b e k)
close_expr_fine b e (operand m o a k) = tt
close_expr_fine b e (in_parens k) = when-follows (same_bracket b paren) _ _ refl
close_expr_fine b e (in_list c o xs k) =
    subst (λ d. Follows d (close_expr b e (in_list c o xs k)))
    (ap (λ d. d && fine_exprs k) (operands_bound xs (scope k) (and_e e no_e))
    ∙ with_last_operand (fine_operands (scope k) xs) (bound_expr (scope k) e) (fine_exprs k))
    (close_list_fine b c o (exprs_of xs (and_e e no_e)) k)
close_expr_fine b e (in_case k) = tt
close_expr_fine b e (in_until cs k) = tt
close_expr_fine b e (in_statement xs k) =
    cond_follows (same_bracket b brace) (close_body (body_of xs (last e)) k) none _
    (subst (λ d. Follows d (close_body (body_of xs (last e)) k))
    (ap (λ d. new_at_end k && (d && fine_body_stack k)) (statements_bound xs (body_scope k) (last e))
    ∙ with_last_statement (new_at_end k) (fine_statements (body_scope k) xs)
    (bound_expr (after_statements xs (body_scope k)) e) (fine_body_stack k))
    (close_body_fine (body_of xs (last e)) k))
    tt
close_expr_fine b e (in_binding p xs k) = tt

pub next_expr_fine : (e : Expr) (k : ExprStack) → Follows (fine_in e k) (next_expr e k)
next_expr_fine e (operand m o a k) = tt
next_expr_fine e (in_parens k) = tt
next_expr_fine e (in_list c o xs k) =
    and_assoc (bound_expr (scope k) e) (fine_operands (scope k) xs) (fine_exprs k)
next_expr_fine e (in_case k) = tt
next_expr_fine e (in_until cs k) = tt
next_expr_fine e (in_statement xs k) = tt
next_expr_fine e (in_binding p xs k) = tt

pub next_statement_fine : (e : Expr) (k : ExprStack) → Follows (fine_in e k) (next_statement e k)
next_statement_fine e (operand m o a k) = tt
next_statement_fine e (in_parens k) = tt
next_statement_fine e (in_list c o xs k) = tt
next_statement_fine e (in_case k) = tt
next_statement_fine e (in_until cs k) = tt
next_statement_fine e (in_statement xs k) =
    and_assoc (bound_expr (after_statements xs (body_scope k)) e) (fine_statements (body_scope k) xs)
    (fine_body_stack k)
next_statement_fine e (in_binding p xs k) =
    and_assoc (bound_expr (after_statements xs (body_scope k)) e) (fine_statements (body_scope k) xs)
    (fine_body_stack k)

pub open_block_fine : (e : Expr) (k : ExprStack) → Follows (fine_in e k) (open_block e k)
open_block_fine e (operand m o a k) = tt
open_block_fine e (in_parens k) = tt
open_block_fine e (in_list c o xs k) = tt
open_block_fine e (in_case k) = refl
open_block_fine e (in_until cs k) =
    and_left_comm (bound_clauses (scope k) cs) (bound_expr (scope k) e) (fine_exprs k)
open_block_fine e (in_statement xs k) = tt
open_block_fine e (in_binding p xs k) = tt

pub close_empty_fine : (b : Bracket) (k : ExprStack) → Follows (fine_exprs k) (close_empty b k)
close_empty_fine b (operand m o a k) = tt
close_empty_fine b (in_parens k) = tt
close_empty_fine b (in_list c o none_yet k) = close_list_fine b c o no_e k
close_empty_fine b (in_list c o (snoc xs e) k) = tt
close_empty_fine b (in_case k) = tt
close_empty_fine b (in_until cs k) = tt
close_empty_fine b (in_statement xs k) = tt
close_empty_fine b (in_binding p xs k) = tt

-- a token where an expression may begin is never refused
pub start_expr_fine : (k : ExprStack) (c : Class) → Follows (fine_exprs k) (start_expr k c)
start_expr_fine k (c_number n) = refl
start_expr_fine k (c_name x) = refl
start_expr_fine k (c_operator t m o) = tt
start_expr_fine k (c_open paren) = refl
start_expr_fine k (c_open brace) = refl
start_expr_fine k (c_close b) = close_empty_fine b k
start_expr_fine k (c_builtin f) = refl
start_expr_fine k (c_start s_quote) = refl
start_expr_fine k (c_start s_bracket) = refl
start_expr_fine k (c_start s_underscore) = tt
start_expr_fine k (c_start s_case) = refl
start_expr_fine k (c_start s_receive) = refl
start_expr_fine k (c_start s_catch) = refl
start_expr_fine k (c_start s_spawn) = refl
start_expr_fine k (c_separate s) = tt
start_expr_fine k c_other = tt

-- what holds of an expression once all operators that wait are applied holds before
pub after-reduce :
    (t : ℕ) (f : Expr → ExprStack → Option State) → ((e : Expr) (k : ExprStack) → Follows (fine_in e k) (f e k)) →
    (e : Expr) (k : ExprStack) → Follows (fine_in e k) (f (reduce t e k).expr (reduce t e k).stack)
after-reduce t f h e k =
    subst (λ d. Follows d (f (reduce t e k).expr (reduce t e k).stack)) (reduce_fine t e k)
    (h (reduce t e k).expr (reduce t e k).stack)

pub after_expr_fine :
    (e : Expr) (k : ExprStack) (c : Class) → Follows (passes_behind k c && fine_in e k) (after_expr e k c)
after_expr_fine e k (c_number n) = tt
after_expr_fine e k (c_name x) = tt
after_expr_fine e k (c_operator t m o) = after-reduce t (shift m o) (shift_fine m o) e k
after_expr_fine e k (c_open paren) = tt
after_expr_fine e k (c_open brace) = after-reduce 0 open_block open_block_fine e k
after_expr_fine e k (c_close b) =
    subst (λ d. Follows d (close_expr b (reduce 0 e k).expr (reduce 0 e k).stack))
    (ap (λ d. d && fine_in (reduce 0 e k).expr (reduce 0 e k).stack) (reduce-closes 0 e k)
    ∙ ap (λ d. new_if_closed k && d) (reduce_fine 0 e k))
    (close_expr_fine b (reduce 0 e k).expr (reduce 0 e k).stack)
after_expr_fine e k (c_builtin f) = tt
after_expr_fine e k (c_start s) = tt
after_expr_fine e k (c_separate s_comma) = after-reduce 0 next_expr next_expr_fine e k
after_expr_fine e k (c_separate s_semicolon) = after-reduce 0 next_statement next_statement_fine e k
after_expr_fine e k (c_separate s_equals) = tt
after_expr_fine e k (c_separate s_arrow) = tt
after_expr_fine e k c_other = tt

pub reduce_pattern_fine :
    (f : Pattern → PatternStack → Option State) → ((p : Pattern) (k : PatternStack) → Follows (fine_patterns k) (f p k)) →
    (p : Pattern) (k : PatternStack) → Follows (fine_patterns k) (reduce_pattern p k f)
reduce_pattern_fine f h p (in_cons a k) = reduce_pattern_fine f h _ k
reduce_pattern_fine f h p (in_group k) = h p (in_group k)
reduce_pattern_fine f h p (in_tuple xs k) = h p (in_tuple xs k)
reduce_pattern_fine f h p (before_equals xs k) = h p (before_equals xs k)
reduce_pattern_fine f h p (before_arrow o xs k) = h p (before_arrow o xs k)

pub close_pattern_fine :
    (b : Bracket) (p : Pattern) (k : PatternStack) → Follows (fine_patterns k) (close_pattern b p k)
close_pattern_fine b p (in_cons a k) = tt
close_pattern_fine b p (in_group k) = when-follows (same_bracket b paren) _ _ refl
close_pattern_fine b p (in_tuple xs k) = when-follows (same_bracket b brace) _ _ refl
close_pattern_fine b p (before_equals xs k) = tt
close_pattern_fine b p (before_arrow h xs k) = tt

pub next_pattern_fine : (p : Pattern) (k : PatternStack) → Follows (fine_patterns k) (next_pattern p k)
next_pattern_fine p (in_cons a k) = tt
next_pattern_fine p (in_group k) = tt
next_pattern_fine p (in_tuple xs k) = refl
next_pattern_fine p (before_equals xs k) = tt
next_pattern_fine p (before_arrow h xs k) = tt

pub bind_pattern_fine : (p : Pattern) (k : PatternStack) → Follows (fine_patterns k) (bind_pattern p k)
bind_pattern_fine p (in_cons a k) = tt
bind_pattern_fine p (in_group k) = tt
bind_pattern_fine p (in_tuple xs k) = tt
bind_pattern_fine p (before_equals xs k) = refl
bind_pattern_fine p (before_arrow h xs k) = tt

pub begin_arm_fine : (p : Pattern) (k : PatternStack) → Follows (fine_patterns k) (begin_arm p k)
begin_arm_fine p (in_cons a k) = tt
begin_arm_fine p (in_group k) = tt
begin_arm_fine p (in_tuple xs k) = tt
begin_arm_fine p (before_equals xs k) = tt
begin_arm_fine p (before_arrow h xs k) = refl

pub close_clauses_fine :
    (h : Owner) (cs : Clauses) (k : ExprStack) →
    fine_state (close_clauses h cs k) ≡ ((fine_owner (scope k) h && bound_clauses (scope k) cs) && fine_exprs k)
close_clauses_fine (of_case e) cs k = refl
close_clauses_fine of_receive cs k = refl

pub close_without_fine : (b : Bracket) (k : PatternStack) → Follows (fine_patterns k) (close_without b k)
close_without_fine b (in_cons a k) = tt
close_without_fine b (in_group k) = tt
close_without_fine b (in_tuple none_yet k) = when-follows (same_bracket b brace) _ _ refl
close_without_fine b (in_tuple (snoc xs p) k) = tt
close_without_fine b (before_equals xs k) = tt
close_without_fine b (before_arrow h xs k) =
    when-follows (same_bracket b brace) (close_clauses h (clauses_of xs no_c) k) _
    (close_clauses_fine h (clauses_of xs no_c) k
    ∙ ap (λ d. (fine_owner (scope k) h && d) && fine_exprs k) (arms_bound xs (scope k) no_c)
    ∙ with_arms (fine_owner (scope k) h) (fine_arms (scope k) xs) (fine_exprs k))

-- no token in a pattern is refused
pub start_pattern_fine : (k : PatternStack) (c : Class) → Follows (fine_patterns k) (start_pattern k c)
start_pattern_fine k (c_number n) = refl
start_pattern_fine k (c_name x) = refl
start_pattern_fine k (c_operator t m o) = tt
start_pattern_fine k (c_open paren) = refl
start_pattern_fine k (c_open brace) = refl
start_pattern_fine k (c_close b) = close_without_fine b k
start_pattern_fine k (c_builtin f) = tt
start_pattern_fine k (c_start s_quote) = refl
start_pattern_fine k (c_start s_bracket) = refl
start_pattern_fine k (c_start s_underscore) = refl
start_pattern_fine k (c_start s_case) = tt
start_pattern_fine k (c_start s_receive) = tt
start_pattern_fine k (c_start s_catch) = tt
start_pattern_fine k (c_start s_spawn) = tt
start_pattern_fine k (c_separate s) = tt
start_pattern_fine k c_other = tt

pub after_pattern_fine :
    (p : Pattern) (k : PatternStack) (c : Class) → Follows (fine_patterns k) (after_pattern p k c)
after_pattern_fine p k (c_number n) = tt
after_pattern_fine p k (c_name x) = tt
after_pattern_fine p k (c_operator t m o) = when-follows (is_pair o) _ _ refl
after_pattern_fine p k (c_open b) = tt
after_pattern_fine p k (c_close b) = reduce_pattern_fine (close_pattern b) (close_pattern_fine b) p k
after_pattern_fine p k (c_builtin f) = tt
after_pattern_fine p k (c_start s) = tt
after_pattern_fine p k (c_separate s_comma) = reduce_pattern_fine next_pattern next_pattern_fine p k
after_pattern_fine p k (c_separate s_semicolon) = tt
after_pattern_fine p k (c_separate s_equals) = reduce_pattern_fine bind_pattern bind_pattern_fine p k
after_pattern_fine p k (c_separate s_arrow) = reduce_pattern_fine begin_arm begin_arm_fine p k
after_pattern_fine p k c_other = tt
