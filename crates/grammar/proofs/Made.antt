-- Which tokens made a stack or a state: each part stands for tokens that were read, and for the tree
-- that the grammar gives them.
use mathlib.Core.Path.{◌≡◌, refl, sym, ap, ◌∙◌}
use mathlib.Core.Bool.{Bool, true, false, cond}
use mathlib.Core.List.{List, [], ◌∷◌, ◌++◌, append_assoc}
use mathlib.Core.Option.{Option}
use Prim.Native.Nat.{ℕ}
use lib.Dec.{T}
use Rattle.meaning.specs.Basics.{Name, same}
use Rattle.meaning.specs.Syntax.{Pattern, Builtin, Operation, make_tuple, call, far_call, spawn, far_spawn, built_in}
use Rattle.meaning.specs.Syntax.{Expr, apply, Exprs, Clauses}
use Rattle.meaning.specs.Grammar.{k_module, k_fn, k_case, k_receive, k_until, k_catch, k_spawn, open_paren}
use Rattle.meaning.specs.Grammar.{close_paren, open_bracket, open_brace, close_brace, colon, equals, quote, arrow}
use Rattle.meaning.specs.Grammar.{double_colon, is_name, count, BuiltinWord, NamesOf, PatternAt, ExprAt, tuple_e}
use Rattle.meaning.specs.Grammar.{call_e, far_e, spawn_e, spawn_far_e, builtin_e, ExprsOf, ClausesOf}
use Rattle.grammar.specs.Classes.{Bracket, paren, brace, closing}
use Rattle.grammar.specs.Expressions.{takes, arity_fits}
use Rattle.grammar.specs.Stack.{Snoc, snoc, Statement, Arm, Modules, Owner, of_case, of_receive, ExprStack, operand}
use Rattle.grammar.specs.Stack.{in_parens, in_list, in_case, in_until, in_statement, in_binding, BodyStack, in_arm}
use Rattle.grammar.specs.Stack.{in_timeout, in_catch, in_function, PatternStack, in_cons, in_group, in_tuple}
use Rattle.grammar.specs.Stack.{before_equals, before_arrow, State, want_expr, have_expr, after_name, after_colon}
use Rattle.grammar.specs.Stack.{want_operands, after_quote, after_bracket, after_spawn, after_spawn_name}
use Rattle.grammar.specs.Stack.{after_spawn_colon, after_receive, after_clauses, after_catch, want_statement}
use Rattle.grammar.specs.Stack.{want_pattern, have_pattern, after_pattern_quote, after_pattern_bracket, after_arrow}
use Rattle.grammar.specs.Stack.{top_level, after_module, after_module_name, after_fn, after_fn_name, want_parameter}
use Rattle.grammar.specs.Stack.{after_parameter, after_parameters, when}
use Rattle.std.proofs.lemmas.Bool.{cond_both}
use Rattle.meaning.proofs.Splits.{T_of, same_is, OnSome}
use Rattle.grammar.proofs.Classes.{Joins, left_level}
use Rattle.grammar.proofs.Levels.{fits}
use Rattle.grammar.proofs.Elements.{Made, Argument, Element, Parameter, StatementMade, ClauseMade, ModulesMade}

-- case e {, or receive {
pub data OwnerMade : Owner → List Name → Type 0 where
  made_of_case :
      {e : Expr} {s v : List Name} → ExprAt 0 s e → v ≡ k_case ∷ (s ++ (open_brace ∷ [])) → OwnerMade (of_case e) v
  made_of_receive : OwnerMade of_receive (k_receive ∷ open_brace ∷ [])

-- what stands up to the opening bracket of a list of operands
pub data OperationMade : Bracket → Operation → List Name → Type 0 where
  open_tuple : OperationMade brace make_tuple (open_brace ∷ [])
  open_call : {f : Name} → T (is_name f) → OperationMade paren (call f) (f ∷ open_paren ∷ [])
  open_far :
      {m f : Name} → T (is_name m) → T (is_name f) →
      OperationMade paren (far_call m f) (m ∷ colon ∷ f ∷ open_paren ∷ [])
  open_spawn : {f : Name} → T (is_name f) → OperationMade paren (spawn f) (k_spawn ∷ f ∷ open_paren ∷ [])
  open_far_spawn :
      {m f : Name} → T (is_name m) → T (is_name f) →
      OperationMade paren (far_spawn m f) (k_spawn ∷ m ∷ colon ∷ f ∷ open_paren ∷ [])
  open_builtin :
      {w : Name} {n : Builtin} → ((k : ℕ) → T (takes n k) → BuiltinWord w n k) →
      OperationMade paren (built_in n) (w ∷ open_paren ∷ [])

-- and then operands and the closing bracket: an expression
pub operation_closes :
    {b : Bracket} {j : Operation} {o : List Name} → OperationMade b j o → (s : List Name) (es : Exprs) →
    ExprsOf s es → T (arity_fits j es) → ExprAt 4 (o ++ (s ++ (closing b ∷ []))) (apply j es)
operation_closes open_tuple s es d r = tuple_e d
operation_closes (open_call h) s es d r = call_e h d
operation_closes (open_far g h) s es d r = far_e g h d
operation_closes (open_spawn h) s es d r = spawn_e h d
operation_closes (open_far_spawn g h) s es d r = spawn_far_e g h d
operation_closes (open_builtin h) s es d r = builtin_e (h (count es) r) d refl

-- Stacks. What waits right of an operand fits its level: that is why applying it later is a rule of the grammar.
mutual
  pub data ExprStackMade : ExprStack → List Name → Type 0 where
    made_operand :
        {m : ℕ} {j : Operation} {a : Expr} {k : ExprStack} {u s v : List Name} {w : Name} → ExprStackMade k u →
        T (fits m k) → ExprAt (left_level m) s a → Joins m w j → v ≡ u ++ (s ++ (w ∷ [])) →
        ExprStackMade (operand m j a k) v
    made_parens :
        {k : ExprStack} {u v : List Name} → ExprStackMade k u → v ≡ u ++ (open_paren ∷ []) →
        ExprStackMade (in_parens k) v
    made_list :
        {b : Bracket} {j : Operation} {acc : Snoc Expr} {k : ExprStack} {u o s v : List Name} → ExprStackMade k u →
        OperationMade b j o → Made Argument acc s → v ≡ u ++ (o ++ s) → ExprStackMade (in_list b j acc k) v
    made_case :
        {k : ExprStack} {u v : List Name} → ExprStackMade k u → v ≡ u ++ (k_case ∷ []) → ExprStackMade (in_case k) v
    made_until :
        {cs : Clauses} {k : ExprStack} {u s v : List Name} → ExprStackMade k u → ClausesOf s cs →
        v ≡ u ++ (k_receive ∷ open_brace ∷ (s ++ (close_brace ∷ k_until ∷ []))) → ExprStackMade (in_until cs k) v
    made_statement :
        {acc : Snoc Statement} {k : BodyStack} {u s v : List Name} → BodyStackMade k u → Made StatementMade acc s →
        v ≡ u ++ s → ExprStackMade (in_statement acc k) v
    made_binding :
        {p : Pattern} {acc : Snoc Statement} {k : BodyStack} {u s y v : List Name} → BodyStackMade k u →
        Made StatementMade acc s → PatternAt 0 y p → v ≡ u ++ (s ++ (y ++ (equals ∷ []))) →
        ExprStackMade (in_binding p acc k) v

  pub data BodyStackMade : BodyStack → List Name → Type 0 where
    made_arm :
        {p : Pattern} {h : Owner} {acc : Snoc Arm} {k : ExprStack} {u o s y v : List Name} → ExprStackMade k u →
        OwnerMade h o → Made ClauseMade acc s → PatternAt 0 y p →
        v ≡ u ++ (o ++ (s ++ (y ++ (arrow ∷ open_brace ∷ [])))) → BodyStackMade (in_arm p h acc k) v
    made_timeout :
        {cs : Clauses} {e : Expr} {k : ExprStack} {u s t v : List Name} → ExprStackMade k u → ClausesOf s cs →
        ExprAt 0 t e → v ≡ u ++ (k_receive ∷ open_brace ∷ (s ++ (close_brace ∷ k_until ∷ (t ++ (open_brace ∷ []))))) →
        BodyStackMade (in_timeout cs e k) v
    made_catch :
        {k : ExprStack} {u v : List Name} → ExprStackMade k u → v ≡ u ++ (k_catch ∷ open_brace ∷ []) →
        BodyStackMade (in_catch k) v
    made_function :
        {x : Name} {ps : List Name} {m : Modules} {u s v : List Name} → ModulesMade m u → T (is_name x) →
        NamesOf s ps → v ≡ u ++ (k_fn ∷ x ∷ open_paren ∷ (s ++ (close_paren ∷ open_brace ∷ []))) →
        BodyStackMade (in_function x ps m) v

pub data PatternStackMade : PatternStack → List Name → Type 0 where
  made_cons :
      {p : Pattern} {k : PatternStack} {u s v : List Name} → PatternStackMade k u → PatternAt 1 s p →
      v ≡ u ++ (s ++ (double_colon ∷ [])) → PatternStackMade (in_cons p k) v
  made_group :
      {k : PatternStack} {u v : List Name} → PatternStackMade k u → v ≡ u ++ (open_paren ∷ []) →
      PatternStackMade (in_group k) v
  made_tuple :
      {acc : Snoc Pattern} {k : PatternStack} {u s v : List Name} → PatternStackMade k u → Made Element acc s →
      v ≡ u ++ (open_brace ∷ s) → PatternStackMade (in_tuple acc k) v
  made_before_equals :
      {acc : Snoc Statement} {k : BodyStack} {u s v : List Name} → BodyStackMade k u → Made StatementMade acc s →
      v ≡ u ++ s → PatternStackMade (before_equals acc k) v
  made_before_arrow :
      {h : Owner} {acc : Snoc Arm} {k : ExprStack} {u o s v : List Name} → ExprStackMade k u → OwnerMade h o →
      Made ClauseMade acc s → v ≡ u ++ (o ++ s) → PatternStackMade (before_arrow h acc k) v

-- States: a stack, and the tokens behind it that are no part yet.
pub data StateMade : State → List Name → Type 0 where
  at_want_expr : {k : ExprStack} {v : List Name} → ExprStackMade k v → StateMade (want_expr k) v
  at_after_name :
      {k : ExprStack} {u v : List Name} {x : Name} → ExprStackMade k u → T (is_name x) → v ≡ u ++ (x ∷ []) →
      StateMade (after_name x k) v
  at_after_colon :
      {k : ExprStack} {u v : List Name} {x : Name} → ExprStackMade k u → T (is_name x) → v ≡ u ++ (x ∷ colon ∷ []) →
      StateMade (after_colon x k) v
  at_want_operands :
      {k : ExprStack} {j : Operation} {u v : List Name} (o : List Name) → ExprStackMade k u →
      OperationMade paren j (o ++ (open_paren ∷ [])) → v ≡ u ++ o → StateMade (want_operands j k) v
  at_after_quote :
      {k : ExprStack} {u v : List Name} → ExprStackMade k u → v ≡ u ++ (quote ∷ []) → StateMade (after_quote k) v
  at_after_bracket :
      {k : ExprStack} {u v : List Name} → ExprStackMade k u → v ≡ u ++ (open_bracket ∷ []) →
      StateMade (after_bracket k) v
  at_after_spawn :
      {k : ExprStack} {u v : List Name} → ExprStackMade k u → v ≡ u ++ (k_spawn ∷ []) → StateMade (after_spawn k) v
  at_after_spawn_name :
      {k : ExprStack} {u v : List Name} {x : Name} → ExprStackMade k u → T (is_name x) → v ≡ u ++ (k_spawn ∷ x ∷ []) →
      StateMade (after_spawn_name x k) v
  at_after_spawn_colon :
      {k : ExprStack} {u v : List Name} {x : Name} → ExprStackMade k u → T (is_name x) →
      v ≡ u ++ (k_spawn ∷ x ∷ colon ∷ []) → StateMade (after_spawn_colon x k) v
  at_after_receive :
      {k : ExprStack} {u v : List Name} → ExprStackMade k u → v ≡ u ++ (k_receive ∷ []) →
      StateMade (after_receive k) v
  at_after_clauses :
      {cs : Clauses} {k : ExprStack} {u s v : List Name} → ExprStackMade k u → ClausesOf s cs →
      v ≡ u ++ (k_receive ∷ open_brace ∷ (s ++ (close_brace ∷ []))) → StateMade (after_clauses cs k) v
  at_after_catch :
      {k : ExprStack} {u v : List Name} → ExprStackMade k u → v ≡ u ++ (k_catch ∷ []) → StateMade (after_catch k) v
  at_have_expr :
      {k : ExprStack} {e : Expr} {u s v : List Name} → ExprStackMade k u → ExprAt 4 s e → v ≡ u ++ s →
      StateMade (have_expr e k) v
  at_want_statement :
      {acc : Snoc Statement} {k : BodyStack} {u s v : List Name} → BodyStackMade k u → Made StatementMade acc s →
      v ≡ u ++ s → StateMade (want_statement acc k) v
  at_want_pattern : {k : PatternStack} {v : List Name} → PatternStackMade k v → StateMade (want_pattern k) v
  at_after_pattern_quote :
      {k : PatternStack} {u v : List Name} → PatternStackMade k u → v ≡ u ++ (quote ∷ []) →
      StateMade (after_pattern_quote k) v
  at_after_pattern_bracket :
      {k : PatternStack} {u v : List Name} → PatternStackMade k u → v ≡ u ++ (open_bracket ∷ []) →
      StateMade (after_pattern_bracket k) v
  at_have_pattern :
      {k : PatternStack} {p : Pattern} {u s v : List Name} → PatternStackMade k u → PatternAt 1 s p → v ≡ u ++ s →
      StateMade (have_pattern p k) v
  at_after_arrow :
      {p : Pattern} {h : Owner} {acc : Snoc Arm} {k : ExprStack} {u o s y v : List Name} → ExprStackMade k u →
      OwnerMade h o → Made ClauseMade acc s → PatternAt 0 y p → v ≡ u ++ (o ++ (s ++ (y ++ (arrow ∷ [])))) →
      StateMade (after_arrow p h acc k) v
  at_top : {m : Modules} {v : List Name} → ModulesMade m v → StateMade (top_level m) v
  at_after_module :
      {m : Modules} {u v : List Name} → ModulesMade m u → v ≡ u ++ (k_module ∷ []) → StateMade (after_module m) v
  at_after_module_name :
      {m : Modules} {u v : List Name} {x : Name} → ModulesMade m u → T (is_name x) → v ≡ u ++ (k_module ∷ x ∷ []) →
      StateMade (after_module_name x m) v
  at_after_fn : {m : Modules} {u v : List Name} → ModulesMade m u → v ≡ u ++ (k_fn ∷ []) → StateMade (after_fn m) v
  at_after_fn_name :
      {m : Modules} {u v : List Name} {x : Name} → ModulesMade m u → T (is_name x) → v ≡ u ++ (k_fn ∷ x ∷ []) →
      StateMade (after_fn_name x m) v
  at_want_parameter :
      {m : Modules} {acc : Snoc Name} {u s v : List Name} {x : Name} → ModulesMade m u → T (is_name x) →
      Made Parameter acc s → v ≡ u ++ (k_fn ∷ x ∷ open_paren ∷ s) → StateMade (want_parameter x acc m) v
  at_after_parameter :
      {m : Modules} {acc : Snoc Name} {u s v : List Name} {x y : Name} → ModulesMade m u → T (is_name x) →
      Made Parameter acc s → T (is_name y) → v ≡ u ++ (k_fn ∷ x ∷ open_paren ∷ (s ++ (y ∷ []))) →
      StateMade (after_parameter x (snoc acc y) m) v
  at_after_parameters :
      {m : Modules} {u s v ps : List Name} {x : Name} → ModulesMade m u → T (is_name x) → NamesOf s ps →
      v ≡ u ++ (k_fn ∷ x ∷ open_paren ∷ (s ++ (close_paren ∷ []))) → StateMade (after_parameters x ps m) v

-- if the machine goes on, then the tokens made its state
abbrev pub Goes : Option State → List Name → Type 0
Goes o v = OnSome (λ s. StateMade s v) o

pub when_goes : (b : Bool) (s : State) (v : List Name) → (T b → StateMade s v) → Goes (when b s) v
when_goes true s v h = h tt
when_goes false s v h = tt

pub cond_goes : (b : Bool) (x y : Option State) (v : List Name) → (T b → Goes x v) → Goes y v → Goes (cond b x y) v
cond_goes b x y v h g = cond_both b x y (λ o. Goes o v) (λ e. h (T_of e)) (λ e. g)

-- texts with one more behind them
pub behind : {v u : List Name} → v ≡ u → (w : List Name) → v ++ w ≡ u ++ w
behind q w = ap (λ z. z ++ w) q

pub reshape : (u s u' s' : List Name) (w : Name) → u ++ s ≡ u' ++ s' → u ++ (s ++ (w ∷ [])) ≡ u' ++ (s' ++ (w ∷ []))
reshape u s u' s' w e = sym (append_assoc u s (w ∷ [])) ∙ (ap (λ z. z ++ (w ∷ [])) e ∙ append_assoc u' s' (w ∷ []))

-- one more token, whichever it is, or the token x
pub followed : {v : List Name} (u s : List Name) → v ≡ u ++ s → (w : Name) → v ++ (w ∷ []) ≡ u ++ (s ++ (w ∷ []))
followed u s q w = behind q (w ∷ []) ∙ append_assoc u s (w ∷ [])

pub followed_by :
    {v : List Name} (u s : List Name) → v ≡ u ++ s → (w x : Name) → T (same w x) →
    v ++ (w ∷ []) ≡ u ++ (s ++ (x ∷ []))
followed_by u s q w x h = followed u s q w ∙ ap (λ z. u ++ (s ++ (z ∷ []))) (same_is w x h)
