-- A program that is read is good: code uses only names that are bound, and operations have as many operands as they
-- take. Matching binds just the names of its patterns, so whatever clause is chosen is good under the names bound
-- then.
use mathlib.Core.Path.{◌≡◌, refl, sym, ap, subst}
use mathlib.Core.Bool.{true, false, ◌&&◌, ◌||◌, cond}
use mathlib.Core.List.{List, [], ◌∷◌}
use mathlib.Core.Option.{Option, some, none}
use Prim.Native.Nat.{ℕ}
use native.Mathlib.Omega.{arith}
use lib.ListN.{length}
use lib.IntN.{pos}
use lib.Dec.{eqb, T, eqb→eq}
use Rattle.meaning.specs.Basics.{on_some, Name, same, listed}
use Rattle.meaning.specs.Syntax.{Pattern, p_any, p_var, p_int, p_atom, p_tuple, p_nil, p_cons, Patterns, no_p, and_p}
use Rattle.meaning.specs.Syntax.{Expr, int, atom, var, nil, apply, case, receive, receive_until, catch, Exprs, no_e}
use Rattle.meaning.specs.Syntax.{and_e, Body, last, bind, Clauses, no_c, clause, Function, Program}
use Rattle.meaning.specs.Values.{Value, Values, as_int, as_atom, as_tuple, as_cons, is_nil, first_of, same_some}
use Rattle.meaning.specs.Values.{same_int, Binding, look_up, match, matches}
use Rattle.meaning.specs.System.{functions_of, function_of}
use Rattle.meaning.specs.Turns.{Chosen, Taken, choose, keep_front, take_first, bind_params}
use Rattle.meaning.specs.Bound.{bound_by, bound_by_all, bound_expr, bound_exprs, bound_body, bound_clauses}
use Rattle.meaning.specs.Bound.{all_different, no_function, sound_functions, sound_modules, has_main}
use Rattle.meaning.specs.Grammar.{ExprAt, looser, compare_e, cons_e, sum_e, product_e, int_e, atom_e, var_e, nil_e}
use Rattle.meaning.specs.Grammar.{tuple_e, brackets_e, call_e, far_e, spawn_e, spawn_far_e, builtin_e, case_e}
use Rattle.meaning.specs.Grammar.{receive_e, until_e, catch_e, ExprsOf, none_es, one_es, more_es, BodyOf, last_b}
use Rattle.meaning.specs.Grammar.{then_b, bind_b, ClausesOf, no_cs, more_cs, FunctionOf, function_x, FunctionsOf}
use Rattle.meaning.specs.Grammar.{no_f, more_f, ModulesOf, no_m, more_m, count, Reads}
use Rattle.std.proofs.lemmas.Bool.{cond_both}
use Rattle.meaning.proofs.Splits.{T_of, and_T, no_clash, opt_all, bool_all, none_some, same_is, same_refl, OnSome, on_some_all, on_some_any}
use Rattle.meaning.proofs.Effects.{Arity}

-- code that is good under the names bound
abbrev mutual
  pub GoodExpr : List Name → Expr → Type 0
  GoodExpr ys (int n) = Unit {0}
  GoodExpr ys (atom x) = Unit {0}
  GoodExpr ys (var x) = T (listed x ys)
  GoodExpr ys nil = Unit {0}
  GoodExpr ys (apply j es) = Arity j (count es) × GoodExprs ys es
  GoodExpr ys (case e cs) = GoodExpr ys e × GoodClauses ys cs
  GoodExpr ys (receive cs) = GoodClauses ys cs
  GoodExpr ys (receive_until cs e b) = GoodClauses ys cs × GoodExpr ys e × GoodBody ys b
  GoodExpr ys (catch b) = GoodBody ys b

  pub GoodExprs : List Name → Exprs → Type 0
  GoodExprs ys no_e = Unit {0}
  GoodExprs ys (and_e e es) = GoodExpr ys e × GoodExprs ys es

  pub GoodBody : List Name → Body → Type 0
  GoodBody ys (last e) = GoodExpr ys e
  GoodBody ys (bind p e b) = GoodExpr ys e × GoodBody (bound_by p ys) b

  pub GoodClauses : List Name → Clauses → Type 0
  GoodClauses ys no_c = Unit {0}
  GoodClauses ys (clause p b cs) = GoodBody (bound_by p ys) b × GoodClauses ys cs

-- a text that is read, and whose names are bound, is good code
good_operands : (ys : List Name) (a b : Expr) → T (bound_expr ys a && (bound_expr ys b && true)) →
    (T (bound_expr ys a) → GoodExpr ys a) → (T (bound_expr ys b) → GoodExpr ys b) →
    GoodExpr ys a × (GoodExpr ys b × Unit {0})
good_operands ys a b t f h =
    let u = and_T (bound_expr ys a) (bound_expr ys b && true) t in
    (f u.0, (h (and_T (bound_expr ys b) true u.1).0, tt))

mutual
  good_expr : {n : ℕ} {s : List Name} {e : Expr} → ExprAt n s e → (ys : List Name) → T (bound_expr ys e) →
      GoodExpr ys e
  good_expr (looser h x) ys t = good_expr x ys t
  good_expr (compare_e {a = a} {b = b} x w y) ys t = (refl, good_operands ys a b t (good_expr x ys) (good_expr y ys))
  good_expr (cons_e {a = a} {b = b} x y) ys t = (refl, good_operands ys a b t (good_expr x ys) (good_expr y ys))
  good_expr (sum_e {a = a} {b = b} x w y) ys t = (refl, good_operands ys a b t (good_expr x ys) (good_expr y ys))
  good_expr (product_e {a = a} {b = b} x w y) ys t = (refl, good_operands ys a b t (good_expr x ys) (good_expr y ys))
  good_expr (int_e h) ys t = tt
  good_expr (atom_e h) ys t = tt
  good_expr (var_e h) ys t = t
  good_expr nil_e ys t = tt
  good_expr (tuple_e xs) ys t = (tt, good_exprs xs ys t)
  good_expr (brackets_e x) ys t = good_expr x ys t
  good_expr (call_e h xs) ys t = (tt, good_exprs xs ys t)
  good_expr (far_e h i xs) ys t = (tt, good_exprs xs ys t)
  good_expr (spawn_e h xs) ys t = (tt, good_exprs xs ys t)
  good_expr (spawn_far_e h i xs) ys t = (tt, good_exprs xs ys t)
  good_expr (builtin_e h xs i) ys t = (tt, good_exprs xs ys t)
  good_expr (case_e {e = e} {cs = cs} x y) ys t =
      let u = and_T (bound_expr ys e) (bound_clauses ys cs) t in
      (good_expr x ys u.0, good_clauses y ys u.1)
  good_expr (receive_e x) ys t = good_clauses x ys t
  good_expr (until_e {cs = cs} {e = e} {b = b} x y z) ys t =
      let u = and_T (bound_clauses ys cs) (bound_expr ys e && bound_body ys b) t in
      let v = and_T (bound_expr ys e) (bound_body ys b) u.1 in
      (good_clauses x ys u.0, good_expr y ys v.0, good_body z ys v.1)
  good_expr (catch_e x) ys t = good_body x ys t

  good_exprs : {s : List Name} {es : Exprs} → ExprsOf s es → (ys : List Name) → T (bound_exprs ys es) →
      GoodExprs ys es
  good_exprs none_es ys t = tt
  good_exprs (one_es {e = e} x) ys t = (good_expr x ys (and_T (bound_expr ys e) true t).0, tt)
  good_exprs (more_es {e = e} {f = f} {es = es} x xs) ys t =
      let u = and_T (bound_expr ys e) (bound_exprs ys (and_e f es)) t in
      (good_expr x ys u.0, good_exprs xs ys u.1)

  good_body : {s : List Name} {b : Body} → BodyOf s b → (ys : List Name) → T (bound_body ys b) → GoodBody ys b
  good_body (last_b x) ys t = good_expr x ys t
  good_body (then_b {e = e} {b = b} x y) ys t =
      let u = and_T (bound_expr ys e) (bound_body ys b) t in
      (good_expr x ys u.0, good_body y ys u.1)
  good_body (bind_b {p = p} {e = e} {b = b} h x y) ys t =
      let u = and_T (bound_expr ys e) (bound_body (bound_by p ys) b) t in
      (good_expr x ys u.0, good_body y (bound_by p ys) u.1)

  good_clauses : {s : List Name} {cs : Clauses} → ClausesOf s cs → (ys : List Name) → T (bound_clauses ys cs) →
      GoodClauses ys cs
  good_clauses no_cs ys t = tt
  good_clauses (more_cs {p = p} {b = b} {cs = cs} h x y) ys t =
      let u = and_T (bound_body (bound_by p ys) b) (bound_clauses ys cs) t in
      (good_body x (bound_by p ys) u.0, good_clauses y ys u.1)

-- of functions and modules
abbrev pub GoodFunctions : List Function → Type 0
GoodFunctions [] = Unit {0}
GoodFunctions (f ∷ fs) = GoodBody f.params f.body × GoodFunctions fs

abbrev pub GoodProgram : Program → Type 0
GoodProgram [] = Unit {0}
GoodProgram (m ∷ ms) = GoodFunctions m.functions × GoodProgram ms

good_function : {s : List Name} {f : Function} → FunctionOf s f → T (bound_body f.params f.body) →
    GoodBody f.params f.body
good_function (function_x {ps = ps} h i x) t = good_body x ps t

good_functions : {s : List Name} {fs : List Function} → FunctionsOf s fs → T (sound_functions fs) → GoodFunctions fs
good_functions no_f t = tt
good_functions (more_f {f = f} {fs = fs} x xs) t =
    let u = and_T (no_function fs f.name (length f.params))
    (all_different f.params && (bound_body f.params f.body && sound_functions fs)) t in
    let v = and_T (all_different f.params) (bound_body f.params f.body && sound_functions fs) u.1 in
    let w = and_T (bound_body f.params f.body) (sound_functions fs) v.1 in
    (good_function x w.0, good_functions xs w.1)

good_program : {s : List Name} {g : Program} → ModulesOf s g → T (sound_modules g) → GoodProgram g
good_program no_m t = tt
good_program (more_m {fs = fs} {ms = ms} h xs y) t =
    let u = and_T (sound_functions fs) (sound_modules ms) t in
    (good_functions xs u.0, good_program y u.1)

pub reads_good : (t : List ℕ) (g : Program) → Reads t g → GoodProgram g
reads_good t g r = good_program r.said (and_T (has_main g) (sound_modules g) r.sound).1

pub functions_of_good : (g : Program) (x : Name) (n : ℕ) → GoodProgram g → OnSome GoodFunctions (functions_of g x n)
functions_of_good [] x n h = tt
functions_of_good (m ∷ g) x n h = cond_both (same m.name x) _ _ (OnSome GoodFunctions)
    (λ e. cond_both (eqb n 1) _ _ (OnSome GoodFunctions) (λ d. h.0) (λ d. functions_of_good g x _ h.1))
    (λ e. functions_of_good g x n h.1)

pub function_of_good : (fs : List Function) (x : Name) (n : ℕ) → GoodFunctions fs →
    OnSome (λ (f : Function). GoodBody f.params f.body × (length f.params ≡ n)) (function_of fs x n)
function_of_good [] x n h = tt
function_of_good (f ∷ fs) x n h =
    cond_both (same f.name x && eqb (length f.params) n) (some f) (function_of fs x n) (OnSome (λ (f : Function). GoodBody f.params f.body × (length f.params ≡ n)))
    (λ e. (h.0, eqb→eq (length f.params) n (and_T (same f.name x) (eqb (length f.params) n) (T_of e)).1))
    (λ e. function_of_good fs x n h.1)

-- names that are bound, and what matching binds
abbrev pub names_of : List Binding → List Name
names_of [] = []
names_of (b ∷ bs) = b.name ∷ names_of bs

pub names_of_params : (xs : List Name) (vs : List Value) → length xs ≡ length vs → names_of (bind_params xs vs) ≡ xs
names_of_params [] vs e = refl
names_of_params (x ∷ xs) [] e = absurd (omega arith)
names_of_params (x ∷ xs) (v ∷ vs) e =
    let z : length xs ≡ length vs = omega arith in
    ap (λ (l : List Name). x ∷ l) (names_of_params xs vs z)

pub listed_found : (bs : List Binding) (x : Name) → T (listed x (names_of bs)) → look_up bs x ≡ none → ⊥
listed_found [] x t e = t
listed_found (b ∷ bs) x t e =
    bool_all (λ i. same b.name x ≡ i → cond i (some b.value) (look_up bs x) ≡ none → ⊥) (same b.name x)
    (λ h j d. none_some (sym d)) (λ h j d. listed_found bs x (rest h) d) refl e
  where
    rest : same b.name x ≡ false → T (listed x (names_of bs))
    rest h = bool_all (λ i. same x b.name ≡ i → T (i || listed x (names_of bs)) → T (listed x (names_of bs)))
        (same x b.name) (λ p j d. no_clash
        (subst (λ (z : Name). same b.name z ≡ true) (sym (same_is x b.name (T_of p))) (same_refl b.name)) h)
        (λ p j d. d) refl t

mutual
  pub match-names : (p : Pattern) (v : Value) (bs : List Binding) →
      OnSome (λ cs. names_of cs ≡ bound_by p (names_of bs)) (match p v bs)
  match-names p_any v bs = refl
  match-names (p_var x) v bs = refl
  match-names (p_int n) v bs = cond_both (same_some same_int (pos n) (as_int v)) (some bs) none (OnSome (λ cs. names_of cs ≡ names_of bs)) (λ e. refl) (λ e. tt)
  match-names (p_atom x) v bs = cond_both (same_some same x (as_atom v)) (some bs) none (OnSome (λ cs. names_of cs ≡ names_of bs)) (λ e. refl) (λ e. tt)
  match-names (p_tuple ps) v bs =
      on_some_all (λ vs. Unit {0}) (λ cs. names_of cs ≡ bound_by_all ps (names_of bs)) (as_tuple v)
      (λ vs. matches ps vs bs) (on_some_any (as_tuple v)) (λ vs h. matches-names ps vs bs)
  match-names p_nil v bs = cond_both (is_nil v) (some bs) none (OnSome (λ cs. names_of cs ≡ names_of bs)) (λ e. refl)
      (λ e. tt)
  match-names (p_cons a b) v bs =
      on_some_all (λ t. Unit {0}) (λ cs. names_of cs ≡ bound_by b (bound_by a (names_of bs))) (as_cons v)
      (λ t. on_some (match a t.head bs) (λ cs. match b t.tail cs)) (on_some_any (as_cons v))
      (λ t h. on_some_all (λ cs. names_of cs ≡ bound_by a (names_of bs))
      (λ cs. names_of cs ≡ bound_by b (bound_by a (names_of bs))) (match a t.head bs)
      (λ cs. match b t.tail cs) (match-names a t.head bs)
      (λ cs i. subst (λ (ys : List Name). OnSome (λ ds. names_of ds ≡ bound_by b ys) (match b t.tail cs)) i
      (match-names b t.tail cs)))

  matches-names : (ps : Patterns) (vs : Values) (bs : List Binding) →
      OnSome (λ cs. names_of cs ≡ bound_by_all ps (names_of bs)) (matches ps vs bs)
  matches-names no_p vs bs = opt_all (OnSome (λ cs. names_of cs ≡ names_of bs)) (first_of vs) (some bs) (λ t. none)
      (λ e. refl) (λ t e. tt)
  matches-names (and_p p ps) vs bs =
      on_some_all (λ t. Unit {0}) (λ cs. names_of cs ≡ bound_by_all ps (bound_by p (names_of bs))) (first_of vs)
      (λ t. on_some (match p t.head bs) (λ cs. on_some (as_tuple t.tail) (λ us. matches ps us cs)))
      (on_some_any (first_of vs)) (λ t h. on_some_all (λ cs. names_of cs ≡ bound_by p (names_of bs))
      (λ cs. names_of cs ≡ bound_by_all ps (bound_by p (names_of bs))) (match p t.head bs)
      (λ cs. on_some (as_tuple t.tail) (λ us. matches ps us cs)) (match-names p t.head bs)
      (λ cs i. on_some_all (λ us. Unit {0})
      (λ ds. names_of ds ≡ bound_by_all ps (bound_by p (names_of bs))) (as_tuple t.tail)
      (λ us. matches ps us cs) (on_some_any (as_tuple t.tail))
      (λ us j. subst (λ (ys : List Name). OnSome (λ ds. names_of ds ≡ bound_by_all ps ys) (matches ps us cs)) i
      (matches-names ps us cs))))

pub choose_good : (cs : Clauses) (v : Value) (bs : List Binding) → GoodClauses (names_of bs) cs →
    OnSome (λ (c : Chosen). GoodBody (names_of c.vars) c.body) (choose cs v bs)
choose_good no_c v bs h = tt
choose_good (clause p b cs) v bs h =
    opt_all (OnSome (λ (c : Chosen). GoodBody (names_of c.vars) c.body)) (match p v bs) (choose cs v bs)
    (λ ds. some (record { vars = ds; body = b })) (λ e. choose_good cs v bs h.1)
    (λ ds e. subst (λ (ys : List Name). GoodBody ys b)
    (sym (subst (OnSome (λ cs. names_of cs ≡ bound_by p (names_of bs))) e (match-names p v bs))) h.0)

keep_front_good : (m : Value) (o : Option Taken) →
    OnSome (λ (t : Taken). GoodBody (names_of t.chosen.vars) t.chosen.body) o →
    OnSome (λ (t : Taken). GoodBody (names_of t.chosen.vars) t.chosen.body) (keep_front m o)
keep_front_good m none h = tt
keep_front_good m (some t) h = h

pub take_first_good : (cs : Clauses) (bs : List Binding) (ms : List Value) → GoodClauses (names_of bs) cs →
    OnSome (λ (t : Taken). GoodBody (names_of t.chosen.vars) t.chosen.body) (take_first cs bs ms)
take_first_good cs bs [] h = tt
take_first_good cs bs (m ∷ ms) h =
    opt_all (OnSome (λ (t : Taken). GoodBody (names_of t.chosen.vars) t.chosen.body)) (choose cs m bs)
    (keep_front m (take_first cs bs ms)) (λ c. some (record { chosen = c; rest = ms }))
    (λ e. keep_front_good m (take_first cs bs ms) (take_first_good cs bs ms h))
    (λ c e. subst (OnSome (λ (c : Chosen). GoodBody (names_of c.vars) c.body)) e (choose_good cs m bs h))
