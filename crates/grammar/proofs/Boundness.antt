-- Whether names are bound depends only on which names are listed, so not on the order of parameters; and what is
-- bound part by part, as the machine reads it, is bound as a whole.
use mathlib.Core.Path.{◌≡◌, refl, ap, ◌∙◌}
use mathlib.Core.Bool.{Bool, true, false, ◌&&◌, ◌||◌, or-false}
use mathlib.Core.List.{List, [], ◌∷◌, reverse, reverse_aux}
use native.Mathlib.Omega.{arith}
use Rattle.meaning.specs.Basics.{Name, same, listed}
use Rattle.meaning.specs.Syntax.{Pattern, p_any, p_var, p_int, p_atom, p_tuple, p_nil, p_cons, Patterns, no_p, and_p}
use Rattle.meaning.specs.Syntax.{Expr, int, atom, var, nil, apply, case, receive, receive_until, catch, Exprs, no_e}
use Rattle.meaning.specs.Syntax.{and_e, Body, last, bind, Clauses, no_c, clause}
use Rattle.meaning.specs.Bound.{bound_by, bound_by_all, bound_expr, bound_exprs, bound_body, bound_clauses}
use Rattle.grammar.specs.Stack.{Snoc, none_yet, snoc, Statement, statement, Arm, arm, exprs_of, patterns_of, body_of}
use Rattle.grammar.specs.Stack.{clauses_of}
use Rattle.grammar.specs.Scopes.{after_patterns, after_statements}
use Rattle.grammar.specs.Checks.{fine_operands, fine_arms, fine_statements}

-- the same names are listed
abbrev pub Alike : List Name → List Name → Type 0
Alike xs ys = (x : Name) → listed x xs ≡ listed x ys

mutual
  pub bound_by_alike : (p : Pattern) (xs ys : List Name) → Alike xs ys → Alike (bound_by p xs) (bound_by p ys)
  bound_by_alike p_any xs ys h = h
  bound_by_alike (p_var y) xs ys h = λ x. ap (λ b. same x y || b) (h x)
  bound_by_alike (p_int n) xs ys h = h
  bound_by_alike (p_atom y) xs ys h = h
  bound_by_alike (p_tuple ps) xs ys h = bound_by_all_alike ps xs ys h
  bound_by_alike p_nil xs ys h = h
  bound_by_alike (p_cons a b) xs ys h = bound_by_alike b (bound_by a xs) (bound_by a ys) (bound_by_alike a xs ys h)

  pub bound_by_all_alike :
      (ps : Patterns) (xs ys : List Name) → Alike xs ys → Alike (bound_by_all ps xs) (bound_by_all ps ys)
  bound_by_all_alike no_p xs ys h = h
  bound_by_all_alike (and_p p ps) xs ys h =
      bound_by_all_alike ps (bound_by p xs) (bound_by p ys) (bound_by_alike p xs ys h)

pub both : {a b c d : Bool} → a ≡ b → c ≡ d → (a && c) ≡ (b && d)
both p q = cc

mutual
  pub bound_expr_alike : (e : Expr) (xs ys : List Name) → Alike xs ys → bound_expr xs e ≡ bound_expr ys e
  bound_expr_alike (int n) xs ys h = refl
  bound_expr_alike (atom x) xs ys h = refl
  bound_expr_alike (var x) xs ys h = h x
  bound_expr_alike nil xs ys h = refl
  bound_expr_alike (apply o es) xs ys h = bound_exprs_alike es xs ys h
  bound_expr_alike (case e cs) xs ys h = both (bound_expr_alike e xs ys h) (bound_clauses_alike cs xs ys h)
  bound_expr_alike (receive cs) xs ys h = bound_clauses_alike cs xs ys h
  bound_expr_alike (receive_until cs e b) xs ys h =
      both (bound_clauses_alike cs xs ys h) (both (bound_expr_alike e xs ys h) (bound_body_alike b xs ys h))
  bound_expr_alike (catch b) xs ys h = bound_body_alike b xs ys h

  pub bound_exprs_alike : (es : Exprs) (xs ys : List Name) → Alike xs ys → bound_exprs xs es ≡ bound_exprs ys es
  bound_exprs_alike no_e xs ys h = refl
  bound_exprs_alike (and_e e es) xs ys h = both (bound_expr_alike e xs ys h) (bound_exprs_alike es xs ys h)

  pub bound_body_alike : (b : Body) (xs ys : List Name) → Alike xs ys → bound_body xs b ≡ bound_body ys b
  bound_body_alike (last e) xs ys h = bound_expr_alike e xs ys h
  bound_body_alike (bind p e b) xs ys h =
      both (bound_expr_alike e xs ys h)
      (bound_body_alike b (bound_by p xs) (bound_by p ys) (bound_by_alike p xs ys h))

  pub bound_clauses_alike :
      (cs : Clauses) (xs ys : List Name) → Alike xs ys → bound_clauses xs cs ≡ bound_clauses ys cs
  bound_clauses_alike no_c xs ys h = refl
  bound_clauses_alike (clause p b cs) xs ys h =
      both (bound_body_alike b (bound_by p xs) (bound_by p ys) (bound_by_alike p xs ys h))
      (bound_clauses_alike cs xs ys h)

pub or_turned : (a b c : Bool) → (a || (b || c)) ≡ ((b || a) || c)
or_turned true true c = refl
or_turned true false c = refl
or_turned false true c = refl
or_turned false false c = refl

pub listed-reverse-onto :
    (x : Name) (xs ys : List Name) → listed x (reverse_aux xs ys) ≡ (listed x xs || listed x ys)
listed-reverse-onto x [] ys = refl
listed-reverse-onto x (y ∷ xs) ys =
    listed-reverse-onto x xs (y ∷ ys) ∙ or_turned (listed x xs) (same x y) (listed x ys)

-- the order of parameters does not count
pub reverse_alike : (xs : List Name) → Alike (reverse xs) xs
reverse_alike xs = λ x. listed-reverse-onto x xs [] ∙ or-false (listed x xs)

-- the newest part is checked first
pub newest_part_first : (x e s : Bool) → (x && (e && s)) ≡ ((e && x) && s)
newest_part_first x e s = grind arith

pub operands_bound :
    (xs : Snoc Expr) (ys : List Name) (es : Exprs) →
    bound_exprs ys (exprs_of xs es) ≡ (fine_operands ys xs && bound_exprs ys es)
operands_bound none_yet ys es = refl
operands_bound (snoc xs e) ys es =
    operands_bound xs ys (and_e e es)
    ∙ newest_part_first (fine_operands ys xs) (bound_expr ys e) (bound_exprs ys es)

pub arms_bound :
    (xs : Snoc Arm) (ys : List Name) (cs : Clauses) →
    bound_clauses ys (clauses_of xs cs) ≡ (fine_arms ys xs && bound_clauses ys cs)
arms_bound none_yet ys cs = refl
arms_bound (snoc xs (arm p b)) ys cs =
    arms_bound xs ys (clause p b cs)
    ∙ newest_part_first (fine_arms ys xs) (bound_body (bound_by p ys) b) (bound_clauses ys cs)

pub statements_bound :
    (xs : Snoc Statement) (ys : List Name) (b : Body) →
    bound_body ys (body_of xs b) ≡ (fine_statements ys xs && bound_body (after_statements xs ys) b)
statements_bound none_yet ys b = refl
statements_bound (snoc xs (statement p e)) ys b =
    statements_bound xs ys (bind p e b)
    ∙ newest_part_first (fine_statements ys xs) (bound_expr (after_statements xs ys) e)
    (bound_body (bound_by p (after_statements xs ys)) b)

pub patterns_bind :
    (xs : Snoc Pattern) (ys : List Name) (ps : Patterns) →
    bound_by_all (patterns_of xs ps) ys ≡ bound_by_all ps (after_patterns xs ys)
patterns_bind none_yet ys ps = refl
patterns_bind (snoc xs p) ys ps = patterns_bind xs ys (and_p p ps)
