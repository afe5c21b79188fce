-- The look-ahead for the = of a statement passes over whole patterns and expressions: they leave the depth of
-- brackets as it was, and hold no = and no ; outside of their own brackets.
-- One clause for each rule of the grammar; texts are grouped to the right first, where they meet the rules again.
use mathlib.Core.Path.{◌≡◌, refl, ap, ◌∙◌}
use mathlib.Core.List.{List, ◌∷◌, ◌++◌, append_assoc}
use Prim.Native.Nat.{ℕ, suc}
use lib.Dec.{T}
use Rattle.meaning.specs.Basics.{Name}
use Rattle.meaning.specs.Syntax.{Pattern, Patterns, Operator, Builtin, Expr, Exprs, Body, Clauses}
use Rattle.meaning.specs.Grammar.{k_until, open_paren, close_paren, open_brace, close_brace, semicolon, colon, equals}
use Rattle.meaning.specs.Grammar.{arrow, is_name, is_atom, Number, Infix, plus_sign, minus_sign, times_sign}
use Rattle.meaning.specs.Grammar.{divide_sign, modulo_sign, equal_sign, unequal_sign, less_sign, at_most_sign}
use Rattle.meaning.specs.Grammar.{BuiltinWord, PatternAt, cons_x, plain_x, any_x, var_x, int_x, atom_x, tuple_x}
use Rattle.meaning.specs.Grammar.{nil_x, brackets_x, PatternsOf, no_x, one_x, more_x, ExprAt, looser, compare_e}
use Rattle.meaning.specs.Grammar.{cons_e, sum_e, product_e, int_e, atom_e, var_e, nil_e, tuple_e, brackets_e, call_e}
use Rattle.meaning.specs.Grammar.{far_e, spawn_e, spawn_far_e, builtin_e, case_e, receive_e, until_e, catch_e}
use Rattle.meaning.specs.Grammar.{ExprsOf, none_es, one_es, more_es, BodyOf, last_b, then_b, bind_b, ClausesOf, no_cs}
use Rattle.meaning.specs.Grammar.{more_cs}
use Rattle.grammar.specs.Classes.{class_of}
use Rattle.grammar.specs.LookAhead.{landmark, l_none, pass, binds}
use Rattle.grammar.proofs.Classes.{class_number, atom_letters, class_name, class_builtin, letters_none}

-- a token that is no landmark
pub pass_over : (d : ℕ) (w : Name) (ws : List Name) → landmark (class_of w) ≡ l_none → binds d (w ∷ ws) ≡ binds d ws
pass_over d w ws h = ap (λ l. pass d l (λ n. binds n ws)) h

pub pass_name : (d : ℕ) (w : Name) (ws : List Name) → T (is_name w) → binds d (w ∷ ws) ≡ binds d ws
pass_name d w ws h = pass_over d w ws (ap landmark (class_name w h))

pub pass-number : (d : ℕ) (w : Name) (n : ℕ) (ws : List Name) → Number w n → binds d (w ∷ ws) ≡ binds d ws
pass-number d w n ws h = pass_over d w ws (ap landmark (class_number w n h))

pub pass_atom : (d : ℕ) (x : Name) (ws : List Name) → T (is_atom x) → binds d (x ∷ ws) ≡ binds d ws
pass_atom d x ws h = pass_over d x ws (letters_none x (atom_letters x h))

pub pass_operator :
    {l : ℕ} {w : Name} {o : Operator} → Infix l w o → (d : ℕ) (ws : List Name) → binds d (w ∷ ws) ≡ binds d ws
pass_operator plus_sign d ws = refl
pass_operator minus_sign d ws = refl
pass_operator times_sign d ws = refl
pass_operator divide_sign d ws = refl
pass_operator modulo_sign d ws = refl
pass_operator equal_sign d ws = refl
pass_operator unequal_sign d ws = refl
pass_operator less_sign d ws = refl
pass_operator at_most_sign d ws = refl

pub pass_builtin :
    {w : Name} {f : Builtin} {n : ℕ} → BuiltinWord w f n → (d : ℕ) (ws : List Name) → binds d (w ∷ ws) ≡ binds d ws
pass_builtin {w} p d ws = pass_over d w ws (ap landmark (class_builtin p))

mutual
  pub pass_pattern :
      {n : ℕ} {s : List Name} {p : Pattern} → PatternAt n s p → (d : ℕ) (ws : List Name) →
      binds d (s ++ ws) ≡ binds d ws
  pass_pattern (cons_x x y) d ws = simp append_assoc (pass_pattern x d _ ∙ pass_pattern y d ws)
  pass_pattern (plain_x x) d ws = pass_pattern x d ws
  pass_pattern any_x d ws = refl
  pass_pattern (var_x {x = x} h) d ws = pass_name d x ws h
  pass_pattern (int_x {w = w} {n = n} h) d ws = pass-number d w n ws h
  pass_pattern (atom_x {x = x} h) d ws = pass_atom d x ws h
  pass_pattern (tuple_x x) d ws = simp append_assoc (pass_patterns x (suc d) (close_brace ∷ ws))
  pass_pattern nil_x d ws = refl
  pass_pattern (brackets_x x) d ws = simp append_assoc (pass_pattern x (suc d) (close_paren ∷ ws))

  pub pass_patterns :
      {s : List Name} {ps : Patterns} → PatternsOf s ps → (d : ℕ) (ws : List Name) → binds d (s ++ ws) ≡ binds d ws
  pass_patterns no_x d ws = refl
  pass_patterns (one_x x) d ws = pass_pattern x d ws
  pass_patterns (more_x x y) d ws = simp append_assoc (pass_pattern x d _ ∙ pass_patterns y d ws)

mutual
  pub pass_expr :
      {n : ℕ} {s : List Name} {e : Expr} → ExprAt n s e → (d : ℕ) (ws : List Name) → binds d (s ++ ws) ≡ binds d ws
  pass_expr (looser l x) d ws = pass_expr x d ws
  pass_expr (compare_e {t = t} x o y) d ws =
      simp append_assoc (pass_expr x d _ ∙ pass_operator o d (t ++ ws) ∙ pass_expr y d ws)
  pass_expr (cons_e x y) d ws = simp append_assoc (pass_expr x d _ ∙ pass_expr y d ws)
  pass_expr (sum_e {t = t} x o y) d ws =
      simp append_assoc (pass_expr x d _ ∙ pass_operator o d (t ++ ws) ∙ pass_expr y d ws)
  pass_expr (product_e {t = t} x o y) d ws =
      simp append_assoc (pass_expr x d _ ∙ pass_operator o d (t ++ ws) ∙ pass_expr y d ws)
  pass_expr (int_e {w = w} {n = n} h) d ws = pass-number d w n ws h
  pass_expr (atom_e {x = x} h) d ws = pass_atom d x ws h
  pass_expr (var_e {x = x} h) d ws = pass_name d x ws h
  pass_expr nil_e d ws = refl
  pass_expr (tuple_e x) d ws = simp append_assoc (pass_exprs x (suc d) (close_brace ∷ ws))
  pass_expr (brackets_e x) d ws = simp append_assoc (pass_expr x (suc d) (close_paren ∷ ws))
  pass_expr (call_e {f = f} {s = s} h x) d ws =
      simp append_assoc
      (pass_name d f (open_paren ∷ (s ++ (close_paren ∷ ws))) h ∙ pass_exprs x (suc d) (close_paren ∷ ws))
  pass_expr (far_e {m = m} {f = f} {s = s} g h x) d ws =
      simp append_assoc
      (pass_name d m (colon ∷ f ∷ open_paren ∷ (s ++ (close_paren ∷ ws))) g
      ∙ pass_name d f (open_paren ∷ (s ++ (close_paren ∷ ws))) h ∙ pass_exprs x (suc d) (close_paren ∷ ws))
  pass_expr (spawn_e {f = f} {s = s} h x) d ws =
      simp append_assoc
      (pass_name d f (open_paren ∷ (s ++ (close_paren ∷ ws))) h ∙ pass_exprs x (suc d) (close_paren ∷ ws))
  pass_expr (spawn_far_e {m = m} {f = f} {s = s} g h x) d ws =
      simp append_assoc
      (pass_name d m (colon ∷ f ∷ open_paren ∷ (s ++ (close_paren ∷ ws))) g
      ∙ pass_name d f (open_paren ∷ (s ++ (close_paren ∷ ws))) h ∙ pass_exprs x (suc d) (close_paren ∷ ws))
  pass_expr (builtin_e {s = s} p x c) d ws =
      simp append_assoc
      (pass_builtin p d (open_paren ∷ (s ++ (close_paren ∷ ws))) ∙ pass_exprs x (suc d) (close_paren ∷ ws))
  pass_expr (case_e {t = t} x y) d ws =
      simp append_assoc (pass_expr x d (open_brace ∷ (t ++ (close_brace ∷ ws))) ∙ pass_clauses y d (close_brace ∷ ws))
  pass_expr (receive_e x) d ws = simp append_assoc (pass_clauses x d (close_brace ∷ ws))
  pass_expr (until_e {t = t} {u = u} x y z) d ws =
      simp append_assoc
      (pass_clauses x d (close_brace ∷ k_until ∷ (t ++ (open_brace ∷ (u ++ (close_brace ∷ ws)))))
      ∙ pass_expr y d (open_brace ∷ (u ++ (close_brace ∷ ws))) ∙ pass_body z d (close_brace ∷ ws))
  pass_expr (catch_e x) d ws = simp append_assoc (pass_body x d (close_brace ∷ ws))

  pub pass_exprs :
      {s : List Name} {es : Exprs} → ExprsOf s es → (d : ℕ) (ws : List Name) → binds d (s ++ ws) ≡ binds d ws
  pass_exprs none_es d ws = refl
  pass_exprs (one_es x) d ws = pass_expr x d ws
  pass_exprs (more_es x y) d ws = simp append_assoc (pass_expr x d _ ∙ pass_exprs y d ws)

  -- a body and clauses stand in brackets, so that their ; and = are passed over
  pub pass_body :
      {s : List Name} {b : Body} → BodyOf s b → (d : ℕ) (ws : List Name) → binds (suc d) (s ++ ws) ≡ binds (suc d) ws
  pass_body (last_b x) d ws = pass_expr x (suc d) ws
  pass_body (then_b x y) d ws = simp append_assoc (pass_expr x (suc d) _ ∙ pass_body y d ws)
  pass_body (bind_b {t = t} {u = u} x y z) d ws =
      simp append_assoc
      (pass_pattern x (suc d) (equals ∷ (t ++ (semicolon ∷ (u ++ ws))))
      ∙ pass_expr y (suc d) (semicolon ∷ (u ++ ws)) ∙ pass_body z d ws)

  pub pass_clauses :
      {s : List Name} {cs : Clauses} → ClausesOf s cs → (d : ℕ) (ws : List Name) →
      binds (suc d) (s ++ ws) ≡ binds (suc d) ws
  pass_clauses no_cs d ws = refl
  pass_clauses (more_cs {t = t} {u = u} x y z) d ws =
      simp append_assoc
      (pass_pattern x (suc d) (arrow ∷ open_brace ∷ (t ++ (close_brace ∷ (u ++ ws))))
      ∙ pass_body y (suc d) (close_brace ∷ (u ++ ws)) ∙ pass_clauses z d ws)
