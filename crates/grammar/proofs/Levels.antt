-- Which token may follow an expression of a level, and which operators may wait before it.
-- An operator that waits and binds at least as tightly as what follows is applied; the others stay where they are.
-- Each lemma goes through the classes of tokens, or through what a stack may have on top.
use mathlib.Core.Path.{◌≡◌, refl, sym, subst}
use mathlib.Core.Bool.{Bool, true, false, ◌&&◌}
use Prim.Native.Nat.{ℕ, zero, suc, ◌≤◌, ◌<◌}
use native.Mathlib.Omega.{arith}
use lib.Dec.{ltb, leb, T, leb→le, le→leb, ltb→lt, lt→ltb}
use borrow.Author.Tests.{lt-leb}
use Rattle.meaning.specs.Basics.{Name, same}
use Rattle.meaning.specs.Syntax.{Pattern, p_cons, Operation, Expr, var, receive, Clauses}
use Rattle.meaning.specs.Grammar.{k_until, open_paren, colon}
use Rattle.grammar.specs.Classes.{paren, brace, s_comma, s_semicolon, s_equals, s_arrow, Class, c_number, c_name}
use Rattle.grammar.specs.Classes.{c_operator, c_open, c_close, c_builtin, c_start, c_separate, c_other, class_of}
use Rattle.grammar.specs.Expressions.{binary, reduced, reduce, comparing, after_expr}
use Rattle.grammar.specs.Machine.{name_ends, clauses_end}
use Rattle.grammar.specs.Patterns.{is_pair, after_pattern}
use Rattle.grammar.specs.Stack.{ExprStack, operand, in_parens, in_list, in_case, in_until, in_statement, in_binding}
use Rattle.grammar.specs.Stack.{PatternStack, in_cons}
use Rattle.std.proofs.lemmas.Bool.{eqb-false}
use Rattle.meaning.proofs.Splits.{is_true, and_T}
use Rattle.grammar.proofs.Classes.{differ}

-- what may stand behind an expression of level n: what ends it, or an operator that leaves it whole
abbrev pub follows : ℕ → Class → Bool
follows n (c_number y) = false
follows n (c_name x) = false
follows n (c_operator t m o) = leb t n
follows n (c_open paren) = false
follows n (c_open brace) = true
follows n (c_close b) = true
follows n (c_builtin f) = false
follows n (c_start s) = false
follows n (c_separate s_comma) = true
follows n (c_separate s_semicolon) = true
follows n (c_separate s_equals) = false
follows n (c_separate s_arrow) = false
follows n c_other = false

pub follows_looser : (n : ℕ) (c : Class) → T (follows n c) → T (follows (suc n) c)
follows_looser n (c_number y) h = absurd h
follows_looser n (c_name x) h = absurd h
follows_looser n (c_operator t m o) h = le→leb t (suc n) (omega (arith, leb→le t n h))
follows_looser n (c_open paren) h = absurd h
follows_looser n (c_open brace) h = tt
follows_looser n (c_close b) h = tt
follows_looser n (c_builtin f) h = absurd h
follows_looser n (c_start s) h = absurd h
follows_looser n (c_separate s_comma) h = tt
follows_looser n (c_separate s_semicolon) h = tt
follows_looser n (c_separate s_equals) h = absurd h
follows_looser n (c_separate s_arrow) h = absurd h
follows_looser n c_other h = absurd h

pub follows_as : (n : ℕ) {c d : Class} → c ≡ d → T (follows n d) → T (follows n c)
follows_as n e h = subst (λ x. T (follows n x)) (sym e) h

-- an operator that waits before an expression of level n binds less tightly than this
abbrev pub ceiling : ℕ → ℕ
ceiling zero = 0
ceiling (suc zero) = 2
ceiling (suc (suc n)) = suc (suc n)

pub ceiling_grows : (n : ℕ) → ceiling n ≤ ceiling (suc n)
ceiling_grows zero = omega arith
ceiling_grows (suc zero) = omega arith
ceiling_grows (suc (suc n)) = omega arith

-- nothing waits on top that binds as tightly as n
abbrev pub below : ℕ → ExprStack → Bool
below n (operand m o a k) = ltb m n
below n (in_parens k) = true
below n (in_list b o xs k) = true
below n (in_case k) = true
below n (in_until cs k) = true
below n (in_statement xs k) = true
below n (in_binding p xs k) = true

-- an expression of level n may be wanted here
abbrev pub fits : ℕ → ExprStack → Bool
fits n k = below (ceiling n) k

pub fits_looser : (n : ℕ) (k : ExprStack) → T (fits n k) → T (fits (suc n) k)
fits_looser n (operand m o a k) h =
    lt→ltb m (ceiling (suc n)) (omega (arith, ltb→lt m (ceiling n) h, ceiling_grows n))
fits_looser n (in_parens k) h = tt
fits_looser n (in_list b o xs k) h = tt
fits_looser n (in_case k) h = tt
fits_looser n (in_until cs k) h = tt
fits_looser n (in_statement xs k) h = tt
fits_looser n (in_binding p xs k) h = tt

-- nothing is applied where no operator of this tightness waits
pub reduce_stays : (n t : ℕ) (e : Expr) (k : ExprStack) → ceiling n ≤ t → T (fits n k) → reduce t e k ≡ reduced e k
reduce_stays n t e (operand m o a k) q h = rw (lt-leb t m (omega (arith, ltb→lt m (ceiling n) h)))
reduce_stays n t e (in_parens k) q h = refl
reduce_stays n t e (in_list b o xs k) q h = refl
reduce_stays n t e (in_case k) q h = refl
reduce_stays n t e (in_until cs k) q h = refl
reduce_stays n t e (in_statement xs k) q h = refl
reduce_stays n t e (in_binding p xs k) q h = refl

pub not_comparing : (k : ExprStack) → T (fits 0 k) → comparing k ≡ false
not_comparing (operand m o a k) h = absurd (no_less (ltb→lt m 0 h))
  where
    no_less : m < 0 → ⊥
    no_less q = omega arith
not_comparing (in_parens k) h = refl
not_comparing (in_list b o xs k) h = refl
not_comparing (in_case k) h = refl
not_comparing (in_until cs k) h = refl
not_comparing (in_statement xs k) h = refl
not_comparing (in_binding p xs k) h = refl

-- where nothing but a comparison could wait, and none does, nothing waits
pub may_compare : (k : ExprStack) → T (below 1 k) → comparing k ≡ false → T (fits 0 k)
may_compare (operand m o a k) b h = absurd (eqb-false m _ h (omega (arith, ltb→lt m 1 b)))
may_compare (in_parens k) b h = tt
may_compare (in_list c o xs k) b h = tt
may_compare (in_case k) b h = tt
may_compare (in_until cs k) b h = tt
may_compare (in_statement xs k) b h = tt
may_compare (in_binding p xs k) b h = tt

pub all_at_least : (n : ℕ) → leb 0 n ≡ true
all_at_least n = is_true (leb 0 n) (le→leb 0 n (omega arith))

-- what may follow an operand of level m applies the operator that waits for it
pub after_operand :
    (m : ℕ) (o : Operation) (a e : Expr) (k : ExprStack) (c : Class) → T (follows m c) →
    after_expr e (operand m o a k) c ≡ after_expr (binary o a e) k c
after_operand l i a e k (c_number n) h = absurd h
after_operand l i a e k (c_name x) h = absurd h
after_operand l i a e k (c_operator t m o) h = rw (is_true (leb t l) h)
after_operand l i a e k (c_open paren) h = absurd h
after_operand l i a e k (c_open brace) h = rw (all_at_least l)
after_operand l i a e k (c_close b) h = rw (all_at_least l)
after_operand l i a e k (c_builtin f) h = absurd h
after_operand l i a e k (c_start s) h = absurd h
after_operand l i a e k (c_separate s_comma) h = rw (all_at_least l)
after_operand l i a e k (c_separate s_semicolon) h = rw (all_at_least l)
after_operand l i a e k (c_separate s_equals) h = absurd h
after_operand l i a e k (c_separate s_arrow) h = absurd h
after_operand l i a e k c_other h = absurd h

-- what may follow an expression does not make a name a call, nor clauses wait for a time
pub follows_differs :
    (n : ℕ) (w x : Name) → T (follows n (class_of w)) → (T (follows n (class_of x)) → ⊥) → same w x ≡ false
follows_differs n w x h q = differ (λ z. T (follows n (class_of z))) w x h q

pub name_is_variable :
    (n : ℕ) (x : Name) (k : ExprStack) (w : Name) → T (follows n (class_of w)) →
    name_ends x k w ≡ after_expr (var x) k (class_of w)
name_is_variable n x k w h = rw (follows_differs n w open_paren h (λ q. q), follows_differs n w colon h (λ q. q))

pub no_until :
    (n : ℕ) (cs : Clauses) (k : ExprStack) (w : Name) → T (follows n (class_of w)) →
    clauses_end cs k w ≡ after_expr (receive cs) k (class_of w)
no_until n cs k w h = rw (follows_differs n w k_until h (λ q. q))

-- what may stand behind a pattern: of level 1 also ::
abbrev pub follows_pattern : ℕ → Class → Bool
follows_pattern n (c_number y) = false
follows_pattern n (c_name x) = false
follows_pattern n (c_operator t m o) = is_pair o && leb 1 n
follows_pattern n (c_open b) = false
follows_pattern n (c_close b) = true
follows_pattern n (c_builtin f) = false
follows_pattern n (c_start s) = false
follows_pattern n (c_separate s_comma) = true
follows_pattern n (c_separate s_semicolon) = false
follows_pattern n (c_separate s_equals) = true
follows_pattern n (c_separate s_arrow) = true
follows_pattern n c_other = false

pub follows_plain : (c : Class) → T (follows_pattern 0 c) → T (follows_pattern 1 c)
follows_plain (c_number n) h = absurd h
follows_plain (c_name x) h = absurd h
follows_plain (c_operator t m o) h = absurd (and_T (is_pair o) false h).1
follows_plain (c_open b) h = absurd h
follows_plain (c_close b) h = tt
follows_plain (c_builtin f) h = absurd h
follows_plain (c_start s) h = absurd h
follows_plain (c_separate s_comma) h = tt
follows_plain (c_separate s_semicolon) h = absurd h
follows_plain (c_separate s_equals) h = tt
follows_plain (c_separate s_arrow) h = tt
follows_plain c_other h = absurd h

-- behind the right part of :: the two parts are put together
pub after_cons :
    (a p : Pattern) (k : PatternStack) (c : Class) → T (follows_pattern 0 c) →
    after_pattern p (in_cons a k) c ≡ after_pattern (p_cons a p) k c
after_cons a p k (c_number n) h = absurd h
after_cons a p k (c_name x) h = absurd h
after_cons a p k (c_operator t m o) h = absurd (and_T (is_pair o) false h).1
after_cons a p k (c_open b) h = absurd h
after_cons a p k (c_close b) h = refl
after_cons a p k (c_builtin f) h = absurd h
after_cons a p k (c_start s) h = absurd h
after_cons a p k (c_separate s_comma) h = refl
after_cons a p k (c_separate s_semicolon) h = absurd h
after_cons a p k (c_separate s_equals) h = refl
after_cons a p k (c_separate s_arrow) h = refl
after_cons a p k c_other h = absurd h
