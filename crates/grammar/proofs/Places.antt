-- The laws that a reader of texts goes by: what each of the three tests asks, and how the names of a pattern are
-- gathered while its parts are put together.
use mathlib.Core.Path.{◌≡◌, refl, sym, ap, ◌∙◌}
use mathlib.Core.Bool.{◌&&◌, not, and_assoc}
use mathlib.Core.List.{List, [], ◌∷◌, ◌++◌, reverse, reverse-cons, append_assoc, append-nil}
use mathlib.Core.Option.{Option}
use lib.ListN.{length}
use Rattle.meaning.specs.Basics.{Name, listed}
use Rattle.meaning.specs.Syntax.{Pattern, p_tuple, p_cons, no_p, and_p, Expr, var, Body, Function}
use Rattle.meaning.specs.Bound.{bound_by, bound_body, all_different, no_function}
use Rattle.grammar.specs.Stack.{Snoc, none_yet, snoc, Statement, statement, Arm, patterns_of, list_of, Modules}
use Rattle.grammar.specs.Stack.{in_module, Owner, ExprStack, in_binding, BodyStack, in_arm, in_function}
use Rattle.grammar.specs.Stack.{PatternStack, in_cons, in_group, in_tuple, before_equals, before_arrow, State}
use Rattle.grammar.specs.Stack.{have_expr, top_level, want_parameter, after_parameter, after_parameters}
use Rattle.grammar.specs.Patterns.{reduce_pattern}
use Rattle.grammar.specs.Scopes.{newest, after_statements, scope, body_scope, pending}
use Rattle.grammar.specs.Checks.{fine_exprs, fine_body_stack, fine_modules, fine_state}
use Rattle.grammar.proofs.Pairwise.{different_newest}
use Rattle.grammar.proofs.Boundness.{patterns_bind}
use Rattle.grammar.proofs.Scoping.{close_body_fine}

-- a variable is listed where it stands
pub variable_fine : (x : Name) (k : ExprStack) → fine_state (have_expr (var x) k) ≡ (listed x (scope k) && fine_exprs k)
variable_fine x k = refl

-- a parameter is not listed among those before
pub parameter_fine :
    (x y : Name) (ps : Snoc Name) (m : Modules) →
    fine_state (after_parameter x (snoc ps y) m) ≡ (not (listed y (newest ps)) && fine_state (want_parameter x ps m))
parameter_fine x y ps m = and_assoc (not (listed y (newest ps))) (all_different (newest ps)) (fine_modules m)

pub parameters_fine :
    (x : Name) (ps : Snoc Name) (m : Modules) →
    fine_state (after_parameters x (list_of ps []) m) ≡ fine_state (after_parameter x ps m)
parameters_fine x ps m = ap (λ d. d && fine_modules m) (different_newest ps)

-- at the end of a function, its module has none of that name and number
pub function_fine :
    (x : Name) (ps : List Name) (b : Body) (m : Modules) (y : Name) (fs : Snoc Function) →
    fine_state (top_level (in_module m y (snoc fs (record { name = x; params = ps; body = b })))) ≡
    (no_function (newest fs) x (length ps)
    && (bound_body (reverse ps) b && fine_body_stack (in_function x ps (in_module m y fs))))
function_fine x ps b m y fs = close_body_fine b (in_function x ps (in_module m y fs))

-- the parameters of a function, the last first, are those read
pub list_of_append :
    {A : Type 0} (xs : Snoc A) (ys : List A) → reverse (list_of xs ys) ≡ (reverse ys ++ newest xs)
list_of_append none_yet ys = sym (append-nil (reverse ys))
list_of_append (snoc xs x) ys =
    list_of_append xs (x ∷ ys) ∙ ap (λ z. z ++ newest xs) (reverse-cons x ys)
    ∙ append_assoc (reverse ys) (x ∷ []) (newest xs)

pub parameters_scope :
    (x : Name) (ps : Snoc Name) (m : Modules) → body_scope (in_function x (list_of ps []) m) ≡ newest ps
parameters_scope x ps m = list_of_append ps []

-- the parts of a pattern bind what the pattern binds
pub pair-binds :
    (a p : Pattern) (k : PatternStack) → bound_by (p_cons a p) (pending k) ≡ bound_by p (pending (in_cons a k))
pair-binds a p k = refl

pub tuple-binds :
    (xs : Snoc Pattern) (p : Pattern) (k : PatternStack) →
    bound_by (p_tuple (patterns_of xs (and_p p no_p))) (pending k) ≡ bound_by p (pending (in_tuple xs k))
tuple-binds xs p k = patterns_bind xs (pending k) (and_p p no_p)

-- behind a whole pattern, its names are in scope: for the statements that follow, and in an arm
pub statement_scope :
    (xs : Snoc Statement) (p : Pattern) (e : Expr) (k : BodyStack) →
    after_statements (snoc xs (statement p e)) (body_scope k) ≡ bound_by p (pending (before_equals xs k))
statement_scope xs p e k = refl

pub arm_scope :
    (p : Pattern) (h : Owner) (xs : Snoc Arm) (k : ExprStack) →
    body_scope (in_arm p h xs k) ≡ bound_by p (pending (before_arrow h xs k))
arm_scope p h xs k = refl

-- but a statement's expression stands before them
pub binding_scope :
    (p : Pattern) (xs : Snoc Statement) (k : BodyStack) →
    scope (in_binding p xs k) ≡ pending (before_equals xs k)
binding_scope p xs k = refl

-- what depends only on the names behind a pattern is the same before and after :: is put together
pub reduce_pattern_binds :
    (f : Pattern → PatternStack → Option State) (P : List Name → Option State → Type 0) →
    ((p : Pattern) (k : PatternStack) → P (bound_by p (pending k)) (f p k)) →
    (p : Pattern) (k : PatternStack) → P (bound_by p (pending k)) (reduce_pattern p k f)
reduce_pattern_binds f P h p (in_cons a k) = reduce_pattern_binds f P h (p_cons a p) k
reduce_pattern_binds f P h p (in_group k) = h p (in_group k)
reduce_pattern_binds f P h p (in_tuple xs k) = h p (in_tuple xs k)
reduce_pattern_binds f P h p (before_equals xs k) = h p (before_equals xs k)
reduce_pattern_binds f P h p (before_arrow o xs k) = h p (before_arrow o xs k)
