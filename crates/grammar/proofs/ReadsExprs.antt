-- The machine reads every expression, body and list of clauses of the grammar, by induction on the derivation.
-- Left recursion costs nothing: the left operand is read, its operator waits, and `after_operand` applies it.
use mathlib.Core.Path.{◌≡◌, refl, sym, ap, subst, ◌∙◌}
use mathlib.Core.Bool.{Bool, true, false}
use mathlib.Core.List.{List, [], ◌∷◌, ◌++◌, append_assoc}
use mathlib.Core.Option.{some}
use Prim.Native.Nat.{ℕ}
use native.Mathlib.Omega.{arith}
use lib.Dec.{T}
use Rattle.meaning.specs.Basics.{Name}
use Rattle.meaning.specs.Syntax.{p_any, Operation, make_tuple, make_pair, call, far_call, spawn, far_spawn, operate}
use Rattle.meaning.specs.Syntax.{built_in, Expr, atom, apply, Exprs, no_e, and_e, Body, Clauses}
use Rattle.meaning.specs.Grammar.{k_until, open_paren, close_paren, open_brace, close_brace, comma, semicolon, colon}
use Rattle.meaning.specs.Grammar.{equals, arrow, double_colon, is_name, is_atom, ExprAt, looser, compare_e, cons_e}
use Rattle.meaning.specs.Grammar.{sum_e, product_e, int_e, atom_e, var_e, nil_e, tuple_e, brackets_e, call_e, far_e}
use Rattle.meaning.specs.Grammar.{spawn_e, spawn_far_e, builtin_e, case_e, receive_e, until_e, catch_e, ExprsOf}
use Rattle.meaning.specs.Grammar.{none_es, one_es, more_es, BodyOf, last_b, then_b, bind_b, ClausesOf, no_cs, more_cs}
use Rattle.grammar.specs.Classes.{Bracket, paren, brace, closing, c_operator, class_of}
use Rattle.grammar.specs.Expressions.{binary, Reduced, reduced, reduce, shift, takes, arity_fits, close_list}
use Rattle.grammar.specs.Expressions.{close_body, start_expr, after_expr}
use Rattle.grammar.specs.LookAhead.{binds}
use Rattle.grammar.specs.Machine.{run}
use Rattle.grammar.specs.Patterns.{close_clauses}
use Rattle.grammar.specs.Stack.{Snoc, none_yet, snoc, Statement, statement, Arm, arm, exprs_of, body_of, clauses_of}
use Rattle.grammar.specs.Stack.{Owner, of_case, of_receive, ExprStack, operand, in_parens, in_list, in_case, in_until}
use Rattle.grammar.specs.Stack.{in_statement, in_binding, BodyStack, in_arm, in_timeout, in_catch, before_equals}
use Rattle.grammar.specs.Stack.{before_arrow, State, want_expr, have_expr, after_name, want_operands}
use Rattle.grammar.specs.Stack.{after_spawn_name, want_statement, want_pattern, when}
use Rattle.meaning.proofs.Splits.{is_true}
use Rattle.grammar.proofs.Classes.{class_number, class_name, class_comparison, class_sum, class_product}
use Rattle.grammar.proofs.Classes.{class_builtin, builtin_takes}
use Rattle.grammar.proofs.Levels.{follows, follows_looser, follows_as, fits, fits_looser, reduce_stays, not_comparing}
use Rattle.grammar.proofs.Levels.{after_operand, name_is_variable, no_until}
use Rattle.grammar.proofs.LookAhead.{pass_pattern, pass_expr}
use Rattle.grammar.proofs.ReadsPatterns.{then_run, reads_pattern}

-- the look-ahead decides whether a statement begins with a pattern
pub statement_expr :
    (acc : Snoc Statement) (k : BodyStack) (s : List Name) (w : Name) (ws : List Name) →
    binds 0 (s ++ (w ∷ ws)) ≡ false →
    run (want_statement acc k) (s ++ (w ∷ ws)) ≡ run (want_expr (in_statement acc k)) (s ++ (w ∷ ws))
statement_expr acc k [] w ws h = rw h
statement_expr acc k (x ∷ xs) w ws h = rw h

pub statement_pattern :
    (acc : Snoc Statement) (k : BodyStack) (s : List Name) (w : Name) (ws : List Name) →
    binds 0 (s ++ (w ∷ ws)) ≡ true →
    run (want_statement acc k) (s ++ (w ∷ ws)) ≡ run (want_pattern (before_equals acc k)) (s ++ (w ∷ ws))
statement_pattern acc k [] w ws h = rw h
statement_pattern acc k (x ∷ xs) w ws h = rw h

-- a name, where an expression is wanted and where a name must come
pub reads_name :
    (x : Name) (k : ExprStack) (ws : List Name) → T (is_name x) → run (want_expr k) (x ∷ ws) ≡ run (after_name x k) ws
reads_name x k ws h = ap (λ c. then_run (start_expr k c) ws) (class_name x h)

pub then-when :
    (x : Name) (st : State) (ws : List Name) → T (is_name x) → then_run (when (is_name x) st) ws ≡ run st ws
then-when x st ws h = ap (λ b. then_run (when b st) ws) (is_true (is_name x) h)

-- behind a comma another expression must come
abbrev pub more_exprs : Snoc Expr → Exprs → Bool
more_exprs none_yet es = true
more_exprs (snoc acc e) no_e = false
more_exprs (snoc acc e) (and_e f es) = true

-- the closing bracket of a list: where the list is empty, and behind its last expression
pub list_closes :
    (b : Bracket) (j : Operation) (es : Exprs) (k : ExprStack) → T (arity_fits j es) →
    close_list b b j es k ≡ some (have_expr (apply j es) k)
list_closes paren j es k h = rw (is_true (arity_fits j es) h)
list_closes brace j es k h = rw (is_true (arity_fits j es) h)

pub list_closes_empty :
    (b : Bracket) (j : Operation) (acc : Snoc Expr) (k : ExprStack) → T (more_exprs acc no_e) →
    start_expr (in_list b j acc k) (class_of (closing b)) ≡ close_list b b j (exprs_of acc no_e) k
list_closes_empty paren j none_yet k h = refl
list_closes_empty brace j none_yet k h = refl
list_closes_empty b j (snoc acc e) k h = absurd h

pub list_closes_last :
    (b : Bracket) (j : Operation) (acc : Snoc Expr) (e : Expr) (k : ExprStack) →
    after_expr e (in_list b j acc k) (class_of (closing b)) ≡ close_list b b j (exprs_of acc (and_e e no_e)) k
list_closes_last paren j acc e k = refl
list_closes_last brace j acc e k = refl

pub closing-follows : (b : Bracket) → T (follows 0 (class_of (closing b)))
closing-follows paren = tt
closing-follows brace = tt

-- two operands: the left one is read, nothing that waits is applied, its operator waits, the right one is read
pub reads_binary :
    {n m : ℕ} {j : Operation} (k : ExprStack) (s t ws : List Name) (v w : Name) (a b : Expr) →
    class_of v ≡ c_operator n m j →
    run (want_expr k) (s ++ (v ∷ (t ++ (w ∷ ws)))) ≡ then_run (after_expr a k (class_of v)) (t ++ (w ∷ ws)) →
    reduce n a k ≡ reduced a k → shift m j a k ≡ some (want_expr (operand m j a k)) →
    run (want_expr (operand m j a k)) (t ++ (w ∷ ws)) ≡ then_run (after_expr b (operand m j a k) (class_of w)) ws →
    T (follows m (class_of w)) →
    run (want_expr k) ((s ++ (v ∷ t)) ++ (w ∷ ws)) ≡ then_run (after_expr (binary j a b) k (class_of w)) ws
reads_binary {n} {m} {j} k s t ws v w a b is left stays shifts right f =
    ap (run (want_expr k)) (append_assoc s (v ∷ t) (w ∷ ws))
    ∙ left
    ∙ ap (λ c. then_run (after_expr a k c) (t ++ (w ∷ ws))) is
    ∙ ap (λ (r : Reduced). then_run (shift m j r.expr r.stack) (t ++ (w ∷ ws))) stays
    ∙ ap (λ o. then_run o (t ++ (w ∷ ws))) shifts
    ∙ right
    ∙ ap (λ o. then_run o ws) (after_operand m j a b k (class_of w) f)

-- the tokens of an expression of level n lead from where it is wanted to where the token behind it decides
abbrev pub ReadsExpr : ℕ → List Name → Expr → Type 0
ReadsExpr n s e =
    (k : ExprStack) → T (fits n k) → (w : Name) → T (follows n (class_of w)) → (ws : List Name) →
    run (want_expr k) (s ++ (w ∷ ws)) ≡ then_run (after_expr e k (class_of w)) ws

mutual
  pub reads_expr : {n : ℕ} {s : List Name} {e : Expr} → ExprAt n s e → ReadsExpr n s e
  reads_expr (looser {n = n} l d) k c w f ws =
      reads_expr d k (fits_looser n k c) w (follows_looser n (class_of w) f) ws
  reads_expr (compare_e {s = s} {t = t} {a = a} {b = b} {w = v} {o = i} d o g) k c w f ws =
      reads_binary k s t ws v w a b (class_comparison o)
      (reads_expr d k (fits_looser 0 k c) v (follows_as 1 (class_comparison o) tt) (t ++ (w ∷ ws)))
      (reduce_stays 0 1 a k (omega arith) c) (rw (not_comparing k c))
      (reads_expr g (operand 0 (operate i) a k) tt w (follows_looser 0 (class_of w) f) ws) f
  reads_expr (cons_e {s = s} {t = t} {a = a} {b = b} d g) k c w f ws =
      reads_binary k s t ws double_colon w a b refl
      (reads_expr d k (fits_looser 1 k c) double_colon tt (t ++ (w ∷ ws)))
      (reduce_stays 1 2 a k (omega arith) c) refl
      (reads_expr g (operand 1 make_pair a k) tt w f ws) f
  reads_expr (sum_e {s = s} {t = t} {a = a} {b = b} {w = v} {o = i} d o g) k c w f ws =
      reads_binary k s t ws v w a b (class_sum o)
      (reads_expr d k c v (follows_as 2 (class_sum o) tt) (t ++ (w ∷ ws)))
      (reduce_stays 2 2 a k (omega arith) c) refl
      (reads_expr g (operand 2 (operate i) a k) tt w (follows_looser 2 (class_of w) f) ws) f
  reads_expr (product_e {s = s} {t = t} {a = a} {b = b} {w = v} {o = i} d o g) k c w f ws =
      reads_binary k s t ws v w a b (class_product o)
      (reads_expr d k c v (follows_as 3 (class_product o) tt) (t ++ (w ∷ ws)))
      (reduce_stays 3 3 a k (omega arith) c) refl
      (reads_expr g (operand 3 (operate i) a k) tt w (follows_looser 3 (class_of w) f) ws) f
  reads_expr (int_e {w = v} {n = n} h) k c w f ws = ap (λ x. then_run (start_expr k x) (w ∷ ws)) (class_number v n h)
  reads_expr (atom_e {x = x} h) k c w f ws =
      ap (λ b. then_run (when b (have_expr (atom x) k)) (w ∷ ws)) (is_true (is_atom x) h)
  reads_expr (var_e {x = x} h) k c w f ws =
      reads_name x k (w ∷ ws) h ∙ ap (λ o. then_run o ws) (name_is_variable 4 x k w f)
  reads_expr nil_e k c w f ws = refl
  reads_expr (tuple_e d) k c w f ws = simp append_assoc (reads_exprs d brace make_tuple none_yet k tt tt (w ∷ ws))
  reads_expr (brackets_e d) k c w f ws = simp append_assoc (reads_expr d (in_parens k) tt close_paren tt (w ∷ ws))
  reads_expr (call_e {f = g} {s = s} h d) k c w f ws =
      simp append_assoc
      (reads_name g k (open_paren ∷ (s ++ (close_paren ∷ w ∷ ws))) h
      ∙ reads_exprs d paren (call g) none_yet k tt tt (w ∷ ws))
  reads_expr (far_e {m = m} {f = g} {s = s} hm h d) k c w f ws =
      simp append_assoc
      (reads_name m k (colon ∷ g ∷ open_paren ∷ (s ++ (close_paren ∷ w ∷ ws))) hm
      ∙ then-when g (want_operands (far_call m g) k) (open_paren ∷ (s ++ (close_paren ∷ w ∷ ws))) h
      ∙ reads_exprs d paren (far_call m g) none_yet k tt tt (w ∷ ws))
  reads_expr (spawn_e {f = g} {s = s} h d) k c w f ws =
      simp append_assoc
      (then-when g (after_spawn_name g k) (open_paren ∷ (s ++ (close_paren ∷ w ∷ ws))) h
      ∙ reads_exprs d paren (spawn g) none_yet k tt tt (w ∷ ws))
  reads_expr (spawn_far_e {m = m} {f = g} {s = s} hm h d) k c w f ws =
      simp append_assoc
      (then-when m (after_spawn_name m k) (colon ∷ g ∷ open_paren ∷ (s ++ (close_paren ∷ w ∷ ws))) hm
      ∙ then-when g (want_operands (far_spawn m g) k) (open_paren ∷ (s ++ (close_paren ∷ w ∷ ws))) h
      ∙ reads_exprs d paren (far_spawn m g) none_yet k tt tt (w ∷ ws))
  reads_expr (builtin_e {s = s} {b = b} p d q) k c w f ws =
      simp append_assoc
      (ap (λ x. then_run (start_expr k x) (open_paren ∷ (s ++ (close_paren ∷ w ∷ ws)))) (class_builtin p)
      ∙ reads_exprs d paren (built_in b) none_yet k tt (subst (λ z. T (takes b z)) (sym q) (builtin_takes p))
      (w ∷ ws))
  reads_expr (case_e {t = t} {e = e} d g) k c w f ws =
      simp append_assoc
      (reads_expr d (in_case k) tt open_brace tt (t ++ (close_brace ∷ w ∷ ws))
      ∙ reads_clauses g (of_case e) none_yet k (w ∷ ws))
  reads_expr (receive_e {cs = cs} d) k c w f ws =
      simp append_assoc
      (reads_clauses d of_receive none_yet k (w ∷ ws) ∙ ap (λ o. then_run o ws) (no_until 4 cs k w f))
  reads_expr (until_e {t = t} {u = u} {cs = cs} {e = e} d g i) k c w f ws =
      simp append_assoc
      (reads_clauses d of_receive none_yet k (k_until ∷ (t ++ (open_brace ∷ (u ++ (close_brace ∷ w ∷ ws)))))
      ∙ reads_expr g (in_until cs k) tt open_brace tt (u ++ (close_brace ∷ w ∷ ws))
      ∙ reads_body i none_yet (in_timeout cs e k) (w ∷ ws))
  reads_expr (catch_e d) k c w f ws = simp append_assoc (reads_body d none_yet (in_catch k) (w ∷ ws))

  pub reads_exprs :
      {s : List Name} {es : Exprs} → ExprsOf s es → (b : Bracket) (j : Operation) (acc : Snoc Expr) (k : ExprStack) →
      T (more_exprs acc es) → T (arity_fits j (exprs_of acc es)) → (ws : List Name) →
      run (want_expr (in_list b j acc k)) (s ++ (closing b ∷ ws)) ≡ run (have_expr (apply j (exprs_of acc es)) k) ws
  reads_exprs none_es b j acc k f r ws =
      ap (λ o. then_run o ws) (list_closes_empty b j acc k f ∙ list_closes b j (exprs_of acc no_e) k r)
  reads_exprs (one_es {e = e} d) b j acc k f r ws =
      reads_expr d (in_list b j acc k) tt (closing b) (closing-follows b) ws
      ∙ ap (λ o. then_run o ws) (list_closes_last b j acc e k ∙ list_closes b j (exprs_of acc (and_e e no_e)) k r)
  reads_exprs (more_es {t = t} {e = e} d ds) b j acc k f r ws =
      simp append_assoc
      (reads_expr d (in_list b j acc k) tt comma tt (t ++ (closing b ∷ ws))
      ∙ reads_exprs ds b j (snoc acc e) k tt r ws)

  pub reads_body :
      {s : List Name} {b : Body} → BodyOf s b → (acc : Snoc Statement) (k : BodyStack) (ws : List Name) →
      run (want_statement acc k) (s ++ (close_brace ∷ ws)) ≡ then_run (close_body (body_of acc b) k) ws
  reads_body (last_b {s = s} d) acc k ws =
      statement_expr acc k s close_brace ws (pass_expr d 0 (close_brace ∷ ws))
      ∙ reads_expr d (in_statement acc k) tt close_brace tt ws
  reads_body (then_b {s = s} {t = t} {e = e} d g) acc k ws =
      simp append_assoc
      (statement_expr acc k s semicolon (t ++ (close_brace ∷ ws))
      (pass_expr d 0 (semicolon ∷ (t ++ (close_brace ∷ ws))))
      ∙ reads_expr d (in_statement acc k) tt semicolon tt (t ++ (close_brace ∷ ws))
      ∙ reads_body g (snoc acc (statement p_any e)) k ws)
  reads_body (bind_b {s = s} {t = t} {u = u} {p = p} {e = e} d g i) acc k ws =
      let behind : List Name = t ++ (semicolon ∷ (u ++ (close_brace ∷ ws))) in
      simp append_assoc
      (statement_pattern acc k s equals behind (pass_pattern d 0 (equals ∷ behind))
      ∙ reads_pattern d (before_equals acc k) equals tt behind
      ∙ reads_expr g (in_binding p acc k) tt semicolon tt (u ++ (close_brace ∷ ws))
      ∙ reads_body i (snoc acc (statement p e)) k ws)

  pub reads_clauses :
      {s : List Name} {cs : Clauses} → ClausesOf s cs →
      (h : Owner) (acc : Snoc Arm) (k : ExprStack) (ws : List Name) →
      run (want_pattern (before_arrow h acc k)) (s ++ (close_brace ∷ ws))
      ≡ run (close_clauses h (clauses_of acc cs) k) ws
  reads_clauses no_cs h acc k ws = refl
  reads_clauses (more_cs {t = t} {u = u} {p = p} {b = b} d g i) h acc k ws =
      simp append_assoc
      (reads_pattern d (before_arrow h acc k) arrow tt (open_brace ∷ (t ++ (close_brace ∷ (u ++ (close_brace ∷ ws)))))
      ∙ reads_body g none_yet (in_arm p h acc k) (u ++ (close_brace ∷ ws))
      ∙ reads_clauses i h (snoc acc (arm p b)) k ws)
