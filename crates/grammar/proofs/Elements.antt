-- Lists that are read from the left: which tokens made their elements, and that these tokens, before those of a rest,
-- are a list of the grammar. Texts are equations, not indices, so that a text may be grouped
-- in whatever way is at hand.
use mathlib.Core.Path.{◌≡◌, sym, ap, subst, ◌∙◌}
use mathlib.Core.Bool.{Bool, true, false}
use mathlib.Core.List.{List, [], ◌∷◌, ◌++◌, append_assoc, append-nil}
use lib.Dec.{T}
use Rattle.meaning.specs.Basics.{Name}
use Rattle.meaning.specs.Syntax.{Pattern, p_any, Patterns, no_p, and_p, Expr, Exprs, no_e, and_e, Body, bind, Clauses}
use Rattle.meaning.specs.Syntax.{clause, Function, Program}
use Rattle.meaning.specs.Grammar.{k_module, open_brace, close_brace, comma, semicolon, equals, arrow, is_name}
use Rattle.meaning.specs.Grammar.{NamesOf, more_n, PatternAt, PatternsOf, more_x, ExprAt, ExprsOf, more_es, BodyOf}
use Rattle.meaning.specs.Grammar.{then_b, bind_b, ClausesOf, more_cs, FunctionOf, FunctionsOf, no_f, more_f}
use Rattle.meaning.specs.Grammar.{ModulesOf, more_m}
use Rattle.grammar.specs.Stack.{Snoc, none_yet, snoc, onto, Statement, statement, Arm, arm, bind_statement, add_arm}
use Rattle.grammar.specs.Stack.{exprs_of, patterns_of, body_of, clauses_of, list_of, Modules, no_module, in_module}
use Rattle.grammar.specs.Stack.{module_of, program_of}

-- the tokens that made the elements of a list, one after another
pub data Made {A : Type 0} (Each : A → List Name → Type 0) : Snoc A → List Name → Type 0 where
  made_none : Made Each none_yet []
  made_more :
      {xs : Snoc A} {x : A} {s t v : List Name} → Made Each xs s → Each x t → v ≡ s ++ t → Made Each (snoc xs x) v

-- what each element does to a whole, the elements do together
pub made_onto :
    {A C : Type 0} {Each : A → List Name → Type 0} (Whole : List Name → C → Type 0) (f : A → C → C) →
    ((x : A) (t s : List Name) (c : C) → Each x t → Whole s c → Whole (t ++ s) (f x c)) →
    {xs : Snoc A} {s : List Name} → Made Each xs s → (t : List Name) (c : C) → Whole t c →
    Whole (s ++ t) (onto f xs c)
made_onto Whole f one made_none t c d = d
made_onto Whole f one (made_more {xs = xs} {x = x} {s = s} {t = u} m e q) t c d =
    subst (λ z. Whole z (onto f xs (f x c))) (sym (ap (λ z. z ++ t) q ∙ append_assoc s u t))
    (made_onto Whole f one m (u ++ t) (f x c) (one x u t c e d))

-- the elements: each with the sign behind it
pub data Argument : Expr → List Name → Type 0 where
  argument : {e : Expr} {s v : List Name} → ExprAt 0 s e → v ≡ s ++ (comma ∷ []) → Argument e v

pub data Element : Pattern → List Name → Type 0 where
  element : {p : Pattern} {s v : List Name} → PatternAt 0 s p → v ≡ s ++ (comma ∷ []) → Element p v

pub data Parameter : Name → List Name → Type 0 where
  parameter : {x : Name} {v : List Name} → T (is_name x) → v ≡ x ∷ comma ∷ [] → Parameter x v

pub data StatementMade : Statement → List Name → Type 0 where
  plain_statement :
      {e : Expr} {s v : List Name} → ExprAt 0 s e → v ≡ s ++ (semicolon ∷ []) → StatementMade (statement p_any e) v
  binding_statement :
      {p : Pattern} {e : Expr} {s t v : List Name} → PatternAt 0 s p → ExprAt 0 t e →
      v ≡ s ++ (equals ∷ (t ++ (semicolon ∷ []))) → StatementMade (statement p e) v

pub data ClauseMade : Arm → List Name → Type 0 where
  clause_made :
      {p : Pattern} {b : Body} {s t v : List Name} → PatternAt 0 s p → BodyOf t b →
      v ≡ s ++ (arrow ∷ open_brace ∷ (t ++ (close_brace ∷ []))) → ClauseMade (arm p b) v

abbrev pub FunctionMade : Function → List Name → Type 0
FunctionMade f v = FunctionOf v f

pub data ModulesMade : Modules → List Name → Type 0 where
  made_no_module : ModulesMade no_module []
  made_module :
      {m : Modules} {x : Name} {acc : Snoc Function} {s t v : List Name} → ModulesMade m s → T (is_name x) →
      Made FunctionMade acc t → v ≡ s ++ (k_module ∷ x ∷ semicolon ∷ t) → ModulesMade (in_module m x acc) v

-- lists that are not empty, so that a comma may stand before them
abbrev pub begun : Exprs → Bool
begun no_e = false
begun (and_e e es) = true

abbrev pub begun_patterns : Patterns → Bool
begun_patterns no_p = false
begun_patterns (and_p p ps) = true

abbrev pub begun_names : List Name → Bool
begun_names [] = false
begun_names (x ∷ xs) = true

pub exprs_made :
    {acc : Snoc Expr} {s : List Name} → Made Argument acc s → (t : List Name) (es : Exprs) → T (begun es) →
    ExprsOf t es → ExprsOf (s ++ t) (exprs_of acc es)
exprs_made m t es h d = (made_onto (λ v es. T (begun es) × ExprsOf v es) and_e one m t es (h, d)).1
  where
    one :
        (e : Expr) (s t : List Name) (es : Exprs) → Argument e s → T (begun es) × ExprsOf t es →
        T (begun (and_e e es)) × ExprsOf (s ++ t) (and_e e es)
    one e s t no_e a w = absurd w.0
    one e s t (and_e f fs) (argument {s = x} d q) w =
        let text = ap (λ z. z ++ t) q ∙ append_assoc x (comma ∷ []) t in
        (tt, subst (λ z. ExprsOf z (and_e e (and_e f fs))) (sym text) (more_es d w.1))

pub patterns_made :
    {acc : Snoc Pattern} {s : List Name} → Made Element acc s → (t : List Name) (ps : Patterns) →
    T (begun_patterns ps) → PatternsOf t ps → PatternsOf (s ++ t) (patterns_of acc ps)
patterns_made m t ps h d = (made_onto (λ v ps. T (begun_patterns ps) × PatternsOf v ps) and_p one m t ps (h, d)).1
  where
    one :
        (p : Pattern) (s t : List Name) (ps : Patterns) → Element p s → T (begun_patterns ps) × PatternsOf t ps →
        T (begun_patterns (and_p p ps)) × PatternsOf (s ++ t) (and_p p ps)
    one p s t no_p a w = absurd w.0
    one p s t (and_p q qs) (element {s = x} d e) w =
        let text = ap (λ z. z ++ t) e ∙ append_assoc x (comma ∷ []) t in
        (tt, subst (λ z. PatternsOf z (and_p p (and_p q qs))) (sym text) (more_x d w.1))

pub names_made :
    {acc : Snoc Name} {s : List Name} → Made Parameter acc s → (t : List Name) (xs : List Name) → T (begun_names xs) →
    NamesOf t xs → NamesOf (s ++ t) (list_of acc xs)
names_made m t xs h d = (made_onto (λ v xs. T (begun_names xs) × NamesOf v xs) ◌∷◌ one m t xs (h, d)).1
  where
    one :
        (x : Name) (s t : List Name) (xs : List Name) → Parameter x s → T (begun_names xs) × NamesOf t xs →
        T (begun_names (x ∷ xs)) × NamesOf (s ++ t) (x ∷ xs)
    one x s t [] a w = absurd w.0
    one x s t (y ∷ ys) (parameter h q) w =
        (tt, subst (λ z. NamesOf z (x ∷ y ∷ ys)) (sym (ap (λ z. z ++ t) q)) (more_n h w.1))

pub body_made :
    {acc : Snoc Statement} {s : List Name} → Made StatementMade acc s → (t : List Name) (b : Body) → BodyOf t b →
    BodyOf (s ++ t) (body_of acc b)
body_made m t b d = made_onto BodyOf bind_statement one m t b d
  where
    one :
        (x : Statement) (s t : List Name) (b : Body) → StatementMade x s → BodyOf t b →
        BodyOf (s ++ t) (bind_statement x b)
    one (statement p e) s t b (plain_statement {s = x} d q) w =
        subst (λ z. BodyOf z (bind p e b)) (sym (ap (λ z. z ++ t) q ∙ append_assoc x (semicolon ∷ []) t)) (then_b d w)
    one (statement p e) s t b (binding_statement {s = x} {t = y} d g q) w =
        subst (λ z. BodyOf z (bind p e b)) (sym (ap (λ z. z ++ t) q ∙ simp append_assoc)) (bind_b d g w)

pub clauses_made :
    {acc : Snoc Arm} {s : List Name} → Made ClauseMade acc s → (t : List Name) (cs : Clauses) → ClausesOf t cs →
    ClausesOf (s ++ t) (clauses_of acc cs)
clauses_made m t cs d = made_onto ClausesOf add_arm one m t cs d
  where
    one :
        (x : Arm) (s t : List Name) (cs : Clauses) → ClauseMade x s → ClausesOf t cs →
        ClausesOf (s ++ t) (add_arm x cs)
    one (arm p b) s t cs (clause_made {s = x} {t = y} d g q) w =
        subst (λ z. ClausesOf z (clause p b cs)) (sym (ap (λ z. z ++ t) q ∙ simp append_assoc)) (more_cs d g w)

pub functions_made :
    {acc : Snoc Function} {s : List Name} → Made FunctionMade acc s → (t : List Name) (fs : List Function) →
    FunctionsOf t fs → FunctionsOf (s ++ t) (list_of acc fs)
functions_made m t fs d = made_onto FunctionsOf ◌∷◌ (λ f s t fs g w. more_f g w) m t fs d

pub modules_made :
    {m : Modules} {s : List Name} → ModulesMade m s → (t : List Name) (g : Program) → ModulesOf t g →
    ModulesOf (s ++ t) (program_of m g)
modules_made made_no_module t g d = d
modules_made (made_module {m = m} {x = x} {acc = acc} {s = s} {t = u} st h f q) t g d =
    let fs = list_of acc [] in
    let functions : FunctionsOf u fs = subst (λ z. FunctionsOf z fs) (append-nil u) (functions_made f [] [] no_f) in
    subst (λ z. ModulesOf z (program_of m (module_of x fs ∷ g)))
    (sym (ap (λ z. z ++ t) q ∙ append_assoc s (k_module ∷ x ∷ semicolon ∷ u) t))
    (modules_made st (k_module ∷ x ∷ semicolon ∷ (u ++ t)) (module_of x fs ∷ g) (more_m h functions d))
