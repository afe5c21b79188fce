-- Which names are in scope while a text is read: at the expression, the body or the pattern that the machine waits
-- for. The newest name is always the first.
use Rattle.std.specs.Prelude.{List, [], ◌∷◌, reverse}
use Rattle.meaning.specs.Basics.{Name}
use Rattle.meaning.specs.Syntax.{Pattern}
use Rattle.meaning.specs.Bound.{bound_by}
use Rattle.grammar.specs.Stack.{Snoc, none_yet, snoc, Statement, statement, ExprStack, operand, in_parens, in_list}
use Rattle.grammar.specs.Stack.{in_case, in_until, in_statement, in_binding, BodyStack, in_arm, in_timeout, in_catch}
use Rattle.grammar.specs.Stack.{in_function, PatternStack, in_cons, in_group, in_tuple, before_equals, before_arrow}

-- the elements, the newest first
abbrev pub newest : {A : Type 0} → Snoc A → List A
newest none_yet = []
newest (snoc xs x) = x ∷ newest xs

-- the names bound behind patterns that stand one after another
abbrev pub after_patterns : Snoc Pattern → List Name → List Name
after_patterns none_yet ys = ys
after_patterns (snoc xs p) ys = bound_by p (after_patterns xs ys)

-- the names bound behind statements: what an expression of a statement needs, its pattern binds for the next
abbrev pub after_statements : Snoc Statement → List Name → List Name
after_statements none_yet ys = ys
after_statements (snoc xs (statement p e)) ys = bound_by p (after_statements xs ys)

abbrev mutual
  -- where an expression stands
  pub scope : ExprStack → List Name
  scope (operand m o a k) = scope k
  scope (in_parens k) = scope k
  scope (in_list b o xs k) = scope k
  scope (in_case k) = scope k
  scope (in_until cs k) = scope k
  scope (in_statement xs k) = after_statements xs (body_scope k)
  scope (in_binding p xs k) = after_statements xs (body_scope k)

  -- where a body begins: in an arm the names of its pattern are added, in a function there are its parameters
  pub body_scope : BodyStack → List Name
  body_scope (in_arm p h xs k) = bound_by p (scope k)
  body_scope (in_timeout cs e k) = scope k
  body_scope (in_catch k) = scope k
  body_scope (in_function x ps m) = reverse ps

-- where a pattern stands, with the names of what is finished of the whole pattern:
-- a pattern p in its place binds, together with those, bound_by p (pending k)
abbrev pub pending : PatternStack → List Name
pending (in_cons a k) = bound_by a (pending k)
pending (in_group k) = pending k
pending (in_tuple xs k) = after_patterns xs (pending k)
pending (before_equals xs k) = after_statements xs (body_scope k)
pending (before_arrow h xs k) = scope k
