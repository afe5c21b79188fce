-- What the machine does with expressions keeps to the grammar: if tokens made the stack, and one more takes the
-- machine on, then these and that one made the new state. Applying an operator that waits is a rule of the grammar,
-- since it binds less tightly than what it waits for.
use mathlib.Core.Path.{◌≡◌, refl, sym, ap, subst, ◌∙◌}
use mathlib.Core.Bool.{false}
use mathlib.Core.List.{List, [], ◌∷◌, ◌++◌, append_assoc, append-nil}
use mathlib.Core.Option.{Option, some, none}
use Prim.Native.Nat.{ℕ, zero, suc, ◌≤◌, ◌<◌}
use native.Mathlib.Omega.{arith}
use lib.Dec.{leb, T, leb→le, ltb→lt, lt→ltb}
use borrow.Author.Tests.{leb-false}
use Rattle.meaning.specs.Basics.{Name, same}
use Rattle.meaning.specs.Syntax.{Operation, Expr, var, receive, Exprs, no_e, and_e, Body, last, Clauses}
use Rattle.meaning.specs.Grammar.{k_receive, k_until, open_paren, open_brace, close_brace, comma, semicolon, colon}
use Rattle.meaning.specs.Grammar.{is_name, ExprAt, looser, compare_e, cons_e, sum_e, product_e, int_e, var_e}
use Rattle.meaning.specs.Grammar.{brackets_e, receive_e, until_e, catch_e, ExprsOf, none_es, one_es, BodyOf, last_b}
use Rattle.meaning.specs.Grammar.{ClausesOf, function_x}
use Rattle.grammar.specs.Classes.{Bracket, paren, brace, closing, s_quote, s_bracket, s_underscore, s_case, s_receive}
use Rattle.grammar.specs.Classes.{s_catch, s_spawn, s_comma, s_semicolon, s_equals, s_arrow, Class, c_number, c_name}
use Rattle.grammar.specs.Classes.{c_operator, c_open, c_close, c_builtin, c_start, c_separate, c_other, class_of}
use Rattle.grammar.specs.Expressions.{binary, Reduced, reduced, reduce, comparing, shift, arity_fits, close_list}
use Rattle.grammar.specs.Expressions.{close_body, close_expr, next_expr, next_statement, open_block, close_empty}
use Rattle.grammar.specs.Expressions.{start_expr, after_expr}
use Rattle.grammar.specs.Machine.{name_ends, clauses_end}
use Rattle.grammar.specs.Stack.{ExprStack, operand, BodyStack, State, want_expr}
use Rattle.std.proofs.lemmas.Bool.{cond_both}
use Rattle.meaning.proofs.Splits.{T_of, bool_all, same_is}
use Rattle.grammar.proofs.Classes.{Joins, comparison, pairing, sum, product, left_level, right_level, Tells}
use Rattle.grammar.proofs.Classes.{class_tells}
use Rattle.grammar.proofs.Levels.{ceiling, below, fits, may_compare}
use Rattle.grammar.proofs.Elements.{made_none, made_more, argument, plain_statement, binding_statement, clause_made}
use Rattle.grammar.proofs.Elements.{made_no_module, made_module, exprs_made, body_made}
use Rattle.grammar.proofs.Made.{made_of_case, OperationMade, open_tuple, open_call, open_builtin, operation_closes}
use Rattle.grammar.proofs.Made.{ExprStackMade, made_operand, made_parens, made_list, made_case, made_until}
use Rattle.grammar.proofs.Made.{made_statement, made_binding, BodyStackMade, made_arm, made_timeout, made_catch}
use Rattle.grammar.proofs.Made.{made_function, made_before_arrow, at_want_expr, at_after_name, at_after_colon}
use Rattle.grammar.proofs.Made.{at_want_operands, at_after_quote, at_after_bracket, at_after_spawn, at_after_receive}
use Rattle.grammar.proofs.Made.{at_after_catch, at_have_expr, at_want_statement, at_want_pattern, at_top, Goes}
use Rattle.grammar.proofs.Made.{when_goes, cond_goes, behind, reshape}

-- an expression of a level is one of any looser level
pub loosen : {s : List Name} {e : Expr} (n m : ℕ) → m ≤ n → n ≤ 4 → ExprAt n s e → ExprAt m s e
loosen {s} {e} zero m h l d = subst (λ x. ExprAt x s e) (zero_is h) d
  where
    zero_is : m ≤ 0 → zero ≡ m
    zero_is q = omega arith
loosen {s} {e} (suc n) m h l d =
    bool_all (λ b. ExprAt m s e) (leb m n)
    (λ q. loosen n m (leb→le m n (T_of q)) (omega arith) (looser (omega arith) d))
    (λ q. subst (λ x. ExprAt x s e) (top_is q) d)
  where
    top_is : leb m n ≡ false → suc n ≡ m
    top_is q = omega (arith, leb-false m n q)

-- two operands of the levels that an operator takes
pub binary_at :
    {m : ℕ} {w : Name} {j : Operation} {s t : List Name} {a b : Expr} → Joins m w j →
    ExprAt (left_level m) s a → ExprAt (right_level m) t b → ExprAt m (s ++ (w ∷ t)) (binary j a b)
binary_at (comparison o) d g = compare_e d o g
binary_at pairing d g = cons_e d g
binary_at (sum o) d g = sum_e d o g
binary_at (product o) d g = product_e d o g

pub right_level-fits : (m n : ℕ) → m < ceiling n → right_level m ≤ n
right_level-fits zero zero h = omega arith
right_level-fits zero (suc zero) h = omega arith
right_level-fits zero (suc (suc n)) h = omega arith
right_level-fits (suc zero) zero h = omega arith
right_level-fits (suc zero) (suc zero) h = omega arith
right_level-fits (suc zero) (suc (suc n)) h = omega arith
right_level-fits (suc (suc m)) zero h = omega arith
right_level-fits (suc (suc m)) (suc zero) h = omega arith
right_level-fits (suc (suc m)) (suc (suc n)) h = omega arith

pub tightness_at_most : {m : ℕ} {w : Name} {j : Operation} → Joins m w j → m ≤ 3
tightness_at_most (comparison o) = omega arith
tightness_at_most pairing = omega arith
tightness_at_most (sum o) = omega arith
tightness_at_most (product o) = omega arith

pub left_level_at_most : {m : ℕ} {w : Name} {j : Operation} → Joins m w j → left_level m ≤ 4
left_level_at_most (comparison o) = omega arith
left_level_at_most pairing = omega arith
left_level_at_most (sum o) = omega arith
left_level_at_most (product o) = omega arith

-- what `reduce` leaves: an expression of level t, and a stack on which nothing that binds so tightly waits
pub record ReducedAt (t : ℕ) (r : Reduced) (v : List Name) : Type 0 where
  pub u : List Name
  pub s : List Name
  pub stack_made : ExprStackMade r.stack u
  pub expr_at : ExprAt t s r.expr
  pub is : v ≡ u ++ s
  pub nothing_waits : T (below t r.stack)

pub unreduced :
    {k : ExprStack} {u : List Name} → ExprStackMade k u → (t n : ℕ) (e : Expr) (s v : List Name) → ExprAt n s e →
    t ≤ n → n ≤ 4 → v ≡ u ++ s → T (below t k) → ReducedAt t (reduced e k) v
unreduced {u = u} st t n e s v d l most is b =
    record { u = u; s = s; stack_made = st; expr_at = loosen n t l most d; is = is; nothing_waits = b }

pub reduce-sound :
    {k : ExprStack} {u : List Name} → ExprStackMade k u → (t n : ℕ) (e : Expr) (s v : List Name) → ExprAt n s e →
    T (fits n k) → t ≤ n → n ≤ 4 → v ≡ u ++ s → ReducedAt t (reduce t e k) v
reduce-sound (made_operand {m = m} {j = j} {a = a} {k = k} {u = u} {s = x} {w = w} st c g o q) t n e s v d f l most is =
    cond_both (leb t m) (reduce t (binary j a e) k) (reduced e (operand m j a k)) (λ r. ReducedAt t r v)
    (λ h. reduce-sound st t m (binary j a e) (x ++ (w ∷ s)) v applied c (leb→le t m (T_of h))
    (omega (arith, tightness_at_most o))
    (is ∙ behind q s ∙ simp append_assoc))
    (λ h. unreduced (made_operand st c g o q) t n e s v d l most is (lt→ltb m t (leb-false t m h)))
  where
    applied : ExprAt m (x ++ (w ∷ s)) (binary j a e)
    applied = binary_at o g (loosen n (right_level m) (right_level-fits m n (ltb→lt m (ceiling n) f)) most d)
reduce-sound (made_parens st q) t n e s v d f l most is = unreduced (made_parens st q) t n e s v d l most is tt
reduce-sound (made_list st o x q) t n e s v d f l most is = unreduced (made_list st o x q) t n e s v d l most is tt
reduce-sound (made_case st q) t n e s v d f l most is = unreduced (made_case st q) t n e s v d l most is tt
reduce-sound (made_until st x q) t n e s v d f l most is = unreduced (made_until st x q) t n e s v d l most is tt
reduce-sound (made_statement st x q) t n e s v d f l most is =
    unreduced (made_statement st x q) t n e s v d l most is tt
reduce-sound (made_binding st x y q) t n e s v d f l most is =
    unreduced (made_binding st x y q) t n e s v d l most is tt

pub fits_tightest : {k : ExprStack} {u : List Name} → ExprStackMade k u → T (fits 4 k)
fits_tightest (made_operand {m = m} st c g o q) = lt→ltb m 4 (omega (arith, tightness_at_most o))
fits_tightest (made_parens st q) = tt
fits_tightest (made_list st o a q) = tt
fits_tightest (made_case st q) = tt
fits_tightest (made_until st x q) = tt
fits_tightest (made_statement st x q) = tt
fits_tightest (made_binding st x y q) = tt

-- behind an operator its right operand is waited for
pub shift-sound :
    {k : ExprStack} {u : List Name} → ExprStackMade k u → {m : ℕ} {j : Operation} {w : Name} → Joins m w j →
    (e : Expr) (s v : List Name) → ExprAt (left_level m) s e → T (below (left_level m) k) → v ≡ u ++ (s ++ (w ∷ [])) →
    Goes (shift m j e k) v
shift-sound {k} st {j = j} (comparison o) e s v d b is =
    cond_both (comparing k) none (some (want_expr (operand 0 j e k))) (λ x. Goes x v) (λ h. tt)
    (λ h. at_want_expr (made_operand st (may_compare k b h) d (comparison o) is))
shift-sound st pairing e s v d b is = at_want_expr (made_operand st b d pairing is)
shift-sound st (sum o) e s v d b is = at_want_expr (made_operand st b d (sum o) is)
shift-sound st (product o) e s v d b is = at_want_expr (made_operand st b d (product o) is)

-- a bracket closes a list of operands
pub close_list_sound :
    {k : ExprStack} {u : List Name} → ExprStackMade k u → (b c : Bracket) {j : Operation} {o : List Name} →
    OperationMade c j o → (s v : List Name) (es : Exprs) → ExprsOf s es → v ≡ u ++ (o ++ (s ++ (closing b ∷ []))) →
    Goes (close_list b c j es k) v
close_list_sound st paren paren {j} op s v es d is =
    when_goes (arity_fits j es) _ v (λ h. at_have_expr st (operation_closes op s es d h) is)
close_list_sound st paren brace op s v es d is = tt
close_list_sound st brace paren op s v es d is = tt
close_list_sound st brace brace {j} op s v es d is =
    when_goes (arity_fits j es) _ v (λ h. at_have_expr st (operation_closes op s es d h) is)

-- a body is read to its }
pub close_body_sound :
    {k : BodyStack} {u : List Name} → BodyStackMade k u → (s v : List Name) (b : Body) → BodyOf s b →
    v ≡ u ++ (s ++ (close_brace ∷ [])) → Goes (close_body b k) v
close_body_sound (made_arm st h c p q) s v b d is =
    at_want_pattern (made_before_arrow st h (made_more c (clause_made p d refl) refl)
    (is ∙ behind q _ ∙ simp append_assoc))
close_body_sound (made_timeout st c e q) s v b d is =
    at_have_expr st (until_e c e d) (is ∙ behind q _ ∙ simp append_assoc)
close_body_sound (made_catch st q) s v b d is = at_have_expr st (catch_e d) (is ∙ behind q _ ∙ simp append_assoc)
close_body_sound (made_function made_no_module h n q) s v b d is = tt
close_body_sound (made_function (made_module m h f e) g n q) s v b d is =
    at_top (made_module m h (made_more f (function_x g n d) refl)
    (is ∙ behind (q ∙ behind e _) _ ∙ simp append_assoc))

-- what follows an expression of level 0: a closing bracket, a comma, a semicolon, {
pub close_expr_sound :
    {k : ExprStack} {u : List Name} → ExprStackMade k u → (b : Bracket) (e : Expr) (s v : List Name) → ExprAt 0 s e →
    v ≡ u ++ (s ++ (closing b ∷ [])) → Goes (close_expr b e k) v
close_expr_sound (made_operand st c g o q) b e s v d is = tt
close_expr_sound (made_parens st q) paren e s v d is =
    at_have_expr st (brackets_e d) (is ∙ behind q _ ∙ simp append_assoc)
close_expr_sound (made_parens st q) brace e s v d is = tt
close_expr_sound (made_list {b = c} {s = x} st op a q) b e s v d is =
    close_list_sound st b c op (x ++ s) v _ (exprs_made a s (and_e e no_e) tt (one_es d))
    (is ∙ behind q _ ∙ simp append_assoc)
close_expr_sound (made_case st q) b e s v d is = tt
close_expr_sound (made_until st x q) b e s v d is = tt
close_expr_sound (made_statement st a q) paren e s v d is = tt
close_expr_sound (made_statement {s = x} st a q) brace e s v d is =
    close_body_sound st (x ++ s) v _ (body_made a s (last e) (last_b d)) (is ∙ behind q _ ∙ simp append_assoc)
close_expr_sound (made_binding st x y q) b e s v d is = tt

pub next_expr_sound :
    {k : ExprStack} {u : List Name} → ExprStackMade k u → (e : Expr) (s v : List Name) → ExprAt 0 s e →
    v ≡ u ++ (s ++ (comma ∷ [])) → Goes (next_expr e k) v
next_expr_sound (made_operand st c g o q) e s v d is = tt
next_expr_sound (made_parens st q) e s v d is = tt
next_expr_sound (made_list st op a q) e s v d is =
    at_want_expr (made_list st op (made_more a (argument d refl) refl) (is ∙ behind q _ ∙ simp append_assoc))
next_expr_sound (made_case st q) e s v d is = tt
next_expr_sound (made_until st x q) e s v d is = tt
next_expr_sound (made_statement st x q) e s v d is = tt
next_expr_sound (made_binding st x y q) e s v d is = tt

pub next_statement_sound :
    {k : ExprStack} {u : List Name} → ExprStackMade k u → (e : Expr) (s v : List Name) → ExprAt 0 s e →
    v ≡ u ++ (s ++ (semicolon ∷ [])) → Goes (next_statement e k) v
next_statement_sound (made_operand st c g o q) e s v d is = tt
next_statement_sound (made_parens st q) e s v d is = tt
next_statement_sound (made_list st op a q) e s v d is = tt
next_statement_sound (made_case st q) e s v d is = tt
next_statement_sound (made_until st x q) e s v d is = tt
next_statement_sound (made_statement st a q) e s v d is =
    at_want_statement st (made_more a (plain_statement d refl) refl) (is ∙ behind q _ ∙ simp append_assoc)
next_statement_sound (made_binding st a p q) e s v d is =
    at_want_statement st (made_more a (binding_statement p d refl) refl) (is ∙ behind q _ ∙ simp append_assoc)

pub open_block_sound :
    {k : ExprStack} {u : List Name} → ExprStackMade k u → (e : Expr) (s v : List Name) → ExprAt 0 s e →
    v ≡ u ++ (s ++ (open_brace ∷ [])) → Goes (open_block e k) v
open_block_sound (made_operand st c g o q) e s v d is = tt
open_block_sound (made_parens st q) e s v d is = tt
open_block_sound (made_list st op a q) e s v d is = tt
open_block_sound (made_case st q) e s v d is =
    at_want_pattern (made_before_arrow st (made_of_case d refl) made_none
    (is ∙ behind q _ ∙ simp (append_assoc, append-nil)))
open_block_sound (made_until st c q) e s v d is =
    at_want_statement (made_timeout st c d refl) made_none (is ∙ behind q _ ∙ simp (append_assoc, append-nil))
open_block_sound (made_statement st x q) e s v d is = tt
open_block_sound (made_binding st x y q) e s v d is = tt

-- a bracket closes an empty list
pub close_empty_sound :
    {k : ExprStack} {u : List Name} → ExprStackMade k u → (b : Bracket) (v : List Name) → v ≡ u ++ (closing b ∷ []) →
    Goes (close_empty b k) v
close_empty_sound (made_operand st c g o q) b v is = tt
close_empty_sound (made_parens st q) b v is = tt
close_empty_sound (made_list {b = c} st op made_none q) b v is =
    close_list_sound st b c op [] v no_e none_es (is ∙ behind q _ ∙ simp (append_assoc, append-nil))
close_empty_sound (made_list st op (made_more a d p) q) b v is = tt
close_empty_sound (made_case st q) b v is = tt
close_empty_sound (made_until st x q) b v is = tt
close_empty_sound (made_statement st x q) b v is = tt
close_empty_sound (made_binding st x y q) b v is = tt

-- before what ends an expression, all operators that wait are applied
pub after_all_sound :
    {k : ExprStack} {u : List Name} → ExprStackMade k u → (e : Expr) (s : List Name) → ExprAt 4 s e →
    (w x : Name) → w ≡ x → (f : Expr → ExprStack → Option State) →
    ((k : ExprStack) (u : List Name) → ExprStackMade k u → (e : Expr) (s v : List Name) → ExprAt 0 s e →
    v ≡ u ++ (s ++ (x ∷ [])) → Goes (f e k) v) →
    Goes (f (reduce 0 e k).expr (reduce 0 e k).stack) (u ++ (s ++ (w ∷ [])))
after_all_sound {u = u} st e s d w x q f sound =
    let r = reduce-sound st 0 4 e s (u ++ s) d (fits_tightest st) (omega arith) (omega arith) refl in
    sound _ r.u r.stack_made _ r.s _ r.expr_at
    (reshape u s r.u r.s w r.is ∙ ap (λ z. r.u ++ (r.s ++ (z ∷ []))) q)

-- a token behind an expression, by its class
pub after_expr_sound :
    {k : ExprStack} {u : List Name} → ExprStackMade k u → (e : Expr) (s : List Name) → ExprAt 4 s e →
    (w : Name) (c : Class) → Tells w c → Goes (after_expr e k c) (u ++ (s ++ (w ∷ [])))
after_expr_sound st e s d w (c_number n) q = tt
after_expr_sound st e s d w (c_name x) q = tt
after_expr_sound {k} {u} st e s d w (c_operator t m o) q =
    let l : t ≤ 4 = omega (arith, q.0, left_level_at_most q.1) in
    let r = reduce-sound st t 4 e s (u ++ s) d (fits_tightest st) l (omega arith) refl in
    shift-sound r.stack_made q.1 _ r.s _
    (subst (λ x. ExprAt x r.s (reduce t e k).expr) q.0 r.expr_at)
    (subst (λ x. T (below x (reduce t e k).stack)) q.0 r.nothing_waits) (reshape u s r.u r.s w r.is)
after_expr_sound st e s d w (c_open paren) q = tt
after_expr_sound st e s d w (c_open brace) q =
    after_all_sound st e s d w open_brace q open_block (λ k u i. open_block_sound i)
after_expr_sound st e s d w (c_close b) q =
    after_all_sound st e s d w (closing b) q (close_expr b) (λ k u i. close_expr_sound i b)
after_expr_sound st e s d w (c_builtin f) q = tt
after_expr_sound st e s d w (c_start i) q = tt
after_expr_sound st e s d w (c_separate s_comma) q =
    after_all_sound st e s d w comma q next_expr (λ k u i. next_expr_sound i)
after_expr_sound st e s d w (c_separate s_semicolon) q =
    after_all_sound st e s d w semicolon q next_statement (λ k u i. next_statement_sound i)
after_expr_sound st e s d w (c_separate s_equals) q = tt
after_expr_sound st e s d w (c_separate s_arrow) q = tt
after_expr_sound st e s d w c_other q = tt

-- a token where an expression may begin, by its class
pub start_expr_sound :
    {k : ExprStack} {u : List Name} → ExprStackMade k u → (w : Name) (c : Class) → Tells w c →
    Goes (start_expr k c) (u ++ (w ∷ []))
start_expr_sound {u = u} st w (c_number n) q = at_have_expr st (int_e q) refl
start_expr_sound {u = u} st w (c_name x) q =
    at_after_name st (subst (λ z. T (is_name z)) (sym q.0) q.1) (ap (λ z. u ++ (z ∷ [])) (sym q.0))
start_expr_sound {u = u} st w (c_operator t m o) q = tt
start_expr_sound {u = u} st w (c_open paren) q = at_want_expr (made_parens st (ap (λ z. u ++ (z ∷ [])) q))
start_expr_sound {u = u} st w (c_open brace) q =
    at_want_expr (made_list st open_tuple made_none (ap (λ z. u ++ (z ∷ [])) q))
start_expr_sound {u = u} st w (c_close b) q = close_empty_sound st b _ (ap (λ z. u ++ (z ∷ [])) q)
start_expr_sound {u = u} st w (c_builtin f) q = at_want_operands (w ∷ []) st (open_builtin q) refl
start_expr_sound {u = u} st w (c_start s_quote) q = at_after_quote st (ap (λ z. u ++ (z ∷ [])) q)
start_expr_sound {u = u} st w (c_start s_bracket) q = at_after_bracket st (ap (λ z. u ++ (z ∷ [])) q)
start_expr_sound {u = u} st w (c_start s_underscore) q = tt
start_expr_sound {u = u} st w (c_start s_case) q = at_want_expr (made_case st (ap (λ z. u ++ (z ∷ [])) q))
start_expr_sound {u = u} st w (c_start s_receive) q = at_after_receive st (ap (λ z. u ++ (z ∷ [])) q)
start_expr_sound {u = u} st w (c_start s_catch) q = at_after_catch st (ap (λ z. u ++ (z ∷ [])) q)
start_expr_sound {u = u} st w (c_start s_spawn) q = at_after_spawn st (ap (λ z. u ++ (z ∷ [])) q)
start_expr_sound {u = u} st w (c_separate s) q = tt
start_expr_sound {u = u} st w c_other q = tt

-- behind a name: a call, a function of another module, or a variable
pub name_ends_sound :
    {k : ExprStack} {u : List Name} → ExprStackMade k u → (x : Name) → T (is_name x) → (w : Name) →
    Goes (name_ends x k w) (u ++ (x ∷ w ∷ []))
name_ends_sound {u = u} st x h w =
    cond_goes (same w open_paren) _ _ _
    (λ e. at_want_expr (made_list st (open_call h) made_none (ap (λ z. u ++ (x ∷ z ∷ [])) (same_is w open_paren e))))
    (cond_goes (same w colon) _ _ _ (λ e. at_after_colon st h (ap (λ z. u ++ (x ∷ z ∷ [])) (same_is w colon e)))
    (after_expr_sound st (var x) (x ∷ []) (var_e h) w (class_of w) (class_tells w)))

-- behind the clauses of a receive: until, or what may follow an expression
pub clauses_end_sound :
    {k : ExprStack} {u : List Name} → ExprStackMade k u → (cs : Clauses) (s : List Name) → ClausesOf s cs →
    (w : Name) → Goes (clauses_end cs k w) (u ++ ((k_receive ∷ open_brace ∷ (s ++ (close_brace ∷ []))) ++ (w ∷ [])))
clauses_end_sound {u = u} st cs s d w =
    cond_goes (same w k_until) _ _ _
    (λ e. at_want_expr (made_until st d
    (ap (λ z. u ++ (k_receive ∷ open_brace ∷ ((s ++ (close_brace ∷ [])) ++ (z ∷ [])))) (same_is w k_until e)
    ∙ simp append_assoc)))
    (after_expr_sound st (receive cs) (k_receive ∷ open_brace ∷ (s ++ (close_brace ∷ []))) (receive_e d) w
    (class_of w)
    (class_tells w))
