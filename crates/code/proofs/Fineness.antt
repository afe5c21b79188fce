-- A program that was read has trees of its own, under a table that knows the words of its text. Names and counts of operands
-- come from the derivation, bound names from the test on the tree, and depth from the brackets (Nesting).
use Rattle.std.proofs.Common.{◌≡◌, ℕ, suc, true, ◌&&◌, T, leb, List, [], ◌∷◌, ◌++◌, reverse, length, refl, inl, inr, arith}
use mathlib.Core.List.{reverse_aux}
use Rattle.meaning.specs.Basics.{Name}
use Rattle.meaning.specs.Syntax.{Builtin, Pattern, Patterns, Expr, Exprs, and_e, Body, Clauses, Function, Program}
use Rattle.meaning.specs.Tokens.{tokens, gap}
use Rattle.meaning.specs.Bound.{bound_by, bound_expr, bound_exprs, bound_body, bound_clauses, no_function, all_different, sound_functions, sound_modules, has_main}
use Rattle.meaning.specs.Grammar.{is_name, shallow, BuiltinWord, send_word, self_word, link_word, exit_word, exit_to_word, trap_word, show_word, name_word, where_word, swap_word, open_paren, close_paren, open_brace, close_brace, comma, semicolon, colon, equals, arrow, double_colon, k_spawn, k_case, k_receive, k_until, k_catch, k_fn, k_module, PatternAt, cons_x, plain_x, any_x, var_x, int_x, atom_x, tuple_x, nil_x, brackets_x, PatternsOf, no_x, one_x, more_x, ExprAt, looser, compare_e, cons_e, sum_e, product_e, int_e, atom_e, var_e, nil_e, tuple_e, brackets_e, call_e, far_e, spawn_e, spawn_far_e, builtin_e, case_e, receive_e, until_e, catch_e, ExprsOf, none_es, one_es, more_es, BodyOf, last_b, then_b, bind_b, ClausesOf, no_cs, more_cs, FunctionOf, function_x, FunctionsOf, no_f, more_f, ModulesOf, no_m, more_m}
use Rattle.code.specs.Fine.{FineP, FinePs, Matchable, Takes, FineE, FineEs, FineB, FineCs}
use Rattle.code.specs.Program.{Definition, define, definitions, scope_of, FineDefinitions}
use Rattle.code.specs.Reading.{Knows, ReadsFine}
use Rattle.values.specs.Encoding.{Known}
use Rattle.meaning.proofs.Splits.{and_T}
use Rattle.code.proofs.Nesting.{name_atom, listed_known, turned, after, shallow_split, shallow_head, number_fits, pattern_shallow}
use Rattle.code.proofs.Wider.{known_reverse, fine_wider_body}

-- what is given of the tokens of a part: the table knows its words, and its brackets are few, however many were open before
module _ (ns : List Name) where
  pub record Given (s : List Name) : Type 0 where
    pub knows : Knows ns s
    pub open_before : ℕ
    pub few : T (shallow open_before s)

  knows_split : (s t : List Name) → Knows ns (s ++ t) → Knows ns s × Knows ns t
  knows_split [] t k = (tt, k)
  knows_split (w ∷ s) t k = let r = knows_split s t k.1 in ((k.0, r.0), r.1)

  given_front : (s t : List Name) → Given (s ++ t) → Given s
  given_front s t h = record {
    knows = (knows_split s t h.knows).0;
    open_before = h.open_before;
    few =
        (shallow_split h.open_before s t h.few).0;
  }

  given_back : (s t : List Name) → Given (s ++ t) → Given t
  given_back s t h = record {
    knows = (knows_split s t h.knows).1;
    open_before = after h.open_before s;
    few =
        (shallow_split h.open_before s t h.few).1;
  }

  given_tail : (w : Name) (s : List Name) → Given (w ∷ s) → Given s
  given_tail w s h = record {
    knows = h.knows.1;
    open_before = turned h.open_before w;
    few =
        (shallow_head h.open_before w s h.few).1;
  }

  -- behind a part and a token
  given_past : (s : List Name) (w : Name) (t : List Name) → Given (s ++ (w ∷ t)) → Given t
  given_past s w t h = given_tail w t (given_back s (w ∷ t) h)

  known_name : (x : Name) (s : List Name) → Given (x ∷ s) → T (is_name x) → Known ns x
  known_name x s h t = h.knows.0 (name_atom x t)

  mutual
    pattern_fine : {l : ℕ} {s : List Name} {p : Pattern} → PatternAt l s p → Knows ns s → FineP ns p
    pattern_fine (cons_x {s = s} {t = t} x y) k =
        let r = knows_split s (double_colon ∷ t) k in (pattern_fine x r.0, pattern_fine y r.1.1)
    pattern_fine (plain_x x) k = pattern_fine x k
    pattern_fine any_x k = tt
    pattern_fine (var_x h) k = tt
    pattern_fine (int_x {w = w} {n = n} h) k = (number_fits w n h).0
    pattern_fine (atom_x {x = x} h) k = k.1.0 h
    pattern_fine (tuple_x {s = s} xs) k = patterns_fine xs (knows_split s (close_brace ∷ []) k.1).0
    pattern_fine nil_x k = tt
    pattern_fine (brackets_x {s = s} x) k = pattern_fine x (knows_split s (close_paren ∷ []) k.1).0

    patterns_fine : {s : List Name} {ps : Patterns} → PatternsOf s ps → Knows ns s → FinePs ns ps
    patterns_fine no_x k = tt
    patterns_fine (one_x x) k = (pattern_fine x k, tt)
    patterns_fine (more_x {s = s} {t = t} x xs) k =
        let r = knows_split s (comma ∷ t) k in (pattern_fine x r.0, patterns_fine xs r.1.1)

  matchable : {s : List Name} {p : Pattern} → PatternAt 0 s p → Given s → Matchable ns p
  matchable x h = record {
    fine = pattern_fine x h.knows;
    shallow =
        let d = pattern_shallow x h.open_before h.few in omega arith;
  }

  takes : {w : Name} {b : Builtin} {n k : ℕ} → BuiltinWord w b k → n ≡ k → Takes b n
  takes send_word e = e
  takes self_word e = e
  takes link_word e = e
  takes exit_word e = inl e
  takes exit_to_word e = inr e
  takes trap_word e = e
  takes show_word e = e
  takes name_word e = e
  takes where_word e = e
  takes swap_word e = e

  two_bound : (sc : List Name) (a b : Expr) → T (bound_expr sc a && (bound_expr sc b && true)) →
      T (bound_expr sc a) × T (bound_expr sc b)
  two_bound sc a b t = let u = and_T (bound_expr sc a) (bound_expr sc b && true) t in
      (u.0, (and_T (bound_expr sc b) true u.1).0)

  mutual
    expr_fine : {l : ℕ} {s : List Name} {e : Expr} → ExprAt l s e → Given s → (sc : List Name) →
        T (bound_expr sc e) → FineE ns sc e
    expr_fine (looser i x) h sc t = expr_fine x h sc t
    expr_fine (compare_e {s = s} {t = u} {a = a} {b = b} {w = w} x i y) h sc t =
        let r = two_bound sc a b t in (
          refl,
          (expr_fine x (given_front s (w ∷ u) h) sc r.0, (expr_fine y (given_past s w u h) sc r.1, tt)),
        )
    expr_fine (cons_e {s = s} {t = u} {a = a} {b = b} x y) h sc t =
        let r = two_bound sc a b t in (
          refl,
          (
            expr_fine x (given_front s (double_colon ∷ u) h) sc r.0,
            (expr_fine y (given_past s double_colon u h) sc r.1, tt),
          ),
        )
    expr_fine (sum_e {s = s} {t = u} {a = a} {b = b} {w = w} x i y) h sc t =
        let r = two_bound sc a b t in (
          refl,
          (expr_fine x (given_front s (w ∷ u) h) sc r.0, (expr_fine y (given_past s w u h) sc r.1, tt)),
        )
    expr_fine (product_e {s = s} {t = u} {a = a} {b = b} {w = w} x i y) h sc t =
        let r = two_bound sc a b t in (
          refl,
          (expr_fine x (given_front s (w ∷ u) h) sc r.0, (expr_fine y (given_past s w u h) sc r.1, tt)),
        )
    expr_fine (int_e {w = w} {n = n} i) h sc t = (number_fits w n i).0
    expr_fine (atom_e {x = x} i) h sc t = h.knows.1.0 i
    expr_fine (var_e {x = x} i) h sc t = listed_known x sc t
    expr_fine nil_e h sc t = tt
    expr_fine (tuple_e {s = s} xs) h sc t =
        (tt, exprs_fine xs (given_front s (close_brace ∷ []) (given_tail open_brace _ h)) sc t)
    expr_fine (brackets_e {s = s} x) h sc t =
        expr_fine x (given_front s (close_paren ∷ []) (given_tail open_paren _ h)) sc t
    expr_fine (call_e {f = f} {s = s} i xs) h sc t = (
      known_name f _ h i,
      exprs_fine xs
          (given_front s (close_paren ∷ []) (given_tail open_paren _ (given_tail f _ h))) sc t,
    )
    expr_fine (far_e {m = m} {f = f} {s = s} i j xs) h sc t =
        let a = given_tail colon _ (given_tail m _ h) in (
          (known_name m _ h i, known_name f _ a j),
          exprs_fine xs
              (given_front s (close_paren ∷ []) (given_tail open_paren _ (given_tail f _ a))) sc t,
        )
    expr_fine (spawn_e {f = f} {s = s} i xs) h sc t =
        let a = given_tail k_spawn _ h in (
          known_name f _ a i,
          exprs_fine xs
              (given_front s (close_paren ∷ []) (given_tail open_paren _ (given_tail f _ a))) sc t,
        )
    expr_fine (spawn_far_e {m = m} {f = f} {s = s} i j xs) h sc t = let a = given_tail k_spawn _ h in
        let b = given_tail colon _ (given_tail m _ a) in (
          (known_name m _ a i, known_name f _ b j),
          exprs_fine xs
              (given_front s (close_paren ∷ []) (given_tail open_paren _ (given_tail f _ b))) sc t,
        )
    expr_fine (builtin_e {w = w} {s = s} i xs j) h sc t = (
      takes i j,
      exprs_fine xs (given_front s (close_paren ∷ []) (given_tail open_paren _ (given_tail w _ h))) sc
          t,
    )
    expr_fine (case_e {s = s} {t = u} {e = e} {cs = cs} x y) h sc t =
        let r = and_T (bound_expr sc e) (bound_clauses sc cs) t in
        let a = given_tail k_case _ h in (
          expr_fine x (given_front s _ a) sc r.0,
          clauses_fine y
              (given_front u (close_brace ∷ []) (given_past s open_brace _ a)) sc r.1,
        )
    expr_fine (receive_e {s = s} y) h sc t =
        clauses_fine y (given_front s (close_brace ∷ []) (given_tail open_brace _ (given_tail k_receive _ h))) sc t
    expr_fine (until_e {s = s} {t = u} {u = v} {cs = cs} {e = e} {b = b} x y z) h sc t =
        let r = and_T (bound_clauses sc cs) (bound_expr sc e && bound_body sc b) t in
        let q = and_T (bound_expr sc e) (bound_body sc b) r.1 in
        let a = given_tail open_brace _ (given_tail k_receive _ h) in
        let c = given_tail k_until _ (given_past s close_brace _ a) in (
          clauses_fine x (given_front s _ a) sc r.0,
          expr_fine y (given_front u _ c) sc q.0,
          body_fine z
              (given_front v (close_brace ∷ []) (given_past u open_brace _ c)) sc q.1,
        )
    expr_fine (catch_e {s = s} x) h sc t =
        body_fine x (given_front s (close_brace ∷ []) (given_tail open_brace _ (given_tail k_catch _ h))) sc t

    exprs_fine : {s : List Name} {es : Exprs} → ExprsOf s es → Given s → (sc : List Name) → T (bound_exprs sc es) →
        FineEs ns sc es
    exprs_fine none_es h sc t = tt
    exprs_fine (one_es {e = e} x) h sc t = (expr_fine x h sc (and_T (bound_expr sc e) true t).0, tt)
    exprs_fine (more_es {s = s} {t = u} {e = e} {f = f} {es = es} x xs) h sc t =
        let r = and_T (bound_expr sc e) (bound_exprs sc (and_e f es)) t in
        (expr_fine x (given_front s (comma ∷ u) h) sc r.0, exprs_fine xs (given_past s comma u h) sc r.1)

    body_fine : {s : List Name} {b : Body} → BodyOf s b → Given s → (sc : List Name) → T (bound_body sc b) →
        FineB ns sc b
    body_fine (last_b x) h sc t = expr_fine x h sc t
    body_fine (then_b {s = s} {t = u} {e = e} {b = b} x y) h sc t =
        let r = and_T (bound_expr sc e) (bound_body sc b) t in (
          record { fine = tt; shallow = omega arith },
          expr_fine x (given_front s (semicolon ∷ u) h) sc r.0,
          body_fine y (given_past s semicolon u h) sc r.1,
        )
    body_fine (bind_b {s = s} {t = u} {u = v} {p = p} {e = e} {b = b} i x y) h sc t =
        let r = and_T (bound_expr sc e) (bound_body (bound_by p sc) b) t in
        let a = given_past s equals _ h in (
          matchable i (given_front s _ h),
          expr_fine x (given_front u _ a) sc r.0,
          body_fine y
              (given_past u semicolon v a) (bound_by p sc) r.1,
        )

    clauses_fine : {s : List Name} {cs : Clauses} → ClausesOf s cs → Given s → (sc : List Name) →
        T (bound_clauses sc cs) → FineCs ns sc cs
    clauses_fine no_cs h sc t = tt
    clauses_fine (more_cs {s = s} {t = u} {u = v} {p = p} {b = b} {cs = cs} i x y) h sc t =
        let r = and_T (bound_body (bound_by p sc) b) (bound_clauses sc cs) t in
        let a = given_tail open_brace _ (given_past s arrow _ h) in (
          matchable i (given_front s _ h),
          body_fine x (given_front u _ a) (bound_by p sc) r.0,
          clauses_fine y
              (given_past u close_brace v a) sc r.1,
        )

  -- functions and modules
  function_fine : {s : List Name} {f : Function} → FunctionOf s f → Given s → T (bound_body f.params f.body) →
      FineB ns (scope_of f) f.body
  function_fine (function_x {x = x} {s = s} {t = t} {ps = ps} {b = b} i j y) h u =
      let a = given_past s close_paren _ (given_tail open_paren _ (given_tail x _ (given_tail k_fn _ h))) in
      fine_wider_body ns b ps (reverse ps) (known_reverse ps)
      (body_fine y (given_front t (close_brace ∷ []) (given_tail open_brace _ a)) ps u)

  functions_fine : {s : List Name} {fs : List Function} → FunctionsOf s fs → Given s → T (sound_functions fs) →
      (n : ℕ) (ds : List Definition) → FineDefinitions ns ds → FineDefinitions ns (define n fs ds)
  functions_fine no_f h t n ds d = d
  functions_fine (more_f {s = s} {t = u} {f = f} {fs = fs} x xs) h t n ds d =
      let a = and_T (no_function fs f.name (length f.params))
      (all_different f.params && (bound_body f.params f.body && sound_functions fs)) t in
      let b = and_T (all_different f.params) (bound_body f.params f.body && sound_functions fs) a.1 in
      let c = and_T (bound_body f.params f.body) (sound_functions fs) b.1 in
      (function_fine x (given_front s u h) c.0, functions_fine xs (given_back s u h) c.1 n ds d)

  modules_fine : {s : List Name} {g : Program} → ModulesOf s g → Given s → T (sound_modules g) → (n : ℕ) →
      FineDefinitions ns (definitions n g)
  modules_fine no_m h t n = tt
  modules_fine (more_m {x = x} {s = s} {t = u} {fs = fs} {ms = ms} i xs y) h t n =
      let a = and_T (sound_functions fs) (sound_modules ms) t in
      let b = given_tail semicolon _ (given_tail x _ (given_tail k_module _ h)) in
      functions_fine xs (given_front s u b) a.0 n (definitions (suc n) ms)
      (modules_fine y (given_back s u b) a.1 (suc n))

-- in any order
fine_onto : (ns : List Name) (ds es : List Definition) → FineDefinitions ns ds → FineDefinitions ns es →
    FineDefinitions ns (reverse_aux ds es)
fine_onto ns [] es f h = h
fine_onto ns (d ∷ ds) es f h = fine_onto ns ds (d ∷ es) f.1 (f.0, h)

pub reads_fine : ReadsFine
reads_fine ns t g r k =
    let a = and_T (leb (length t) 32768) (shallow 0 (tokens gap t)) r.small in
    fine_onto ns (definitions 0 g) []
    (modules_fine ns r.said (record { knows = k; open_before = 0; few = a.1 })
    (and_T (has_main g) (sound_modules g) r.sound).1 0) tt
