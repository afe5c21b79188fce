-- Every step makes a state fine exactly if it was fine and the token passes its test; so along a run a state that is
-- not fine stays so, and at the end of a text fine is sound. A text that comes to a state that is not fine is
-- therefore no program.
use mathlib.Core.Path.{◌≡◌, refl, sym, ap, subst, ◌∙◌}
use mathlib.Core.Bool.{Bool, true, false, ◌&&◌, not, cond, and-true, and_assoc}
use mathlib.Core.List.{List, [], ◌∷◌, ◌++◌}
use mathlib.Core.Option.{Option, some}
use Prim.Native.Nat.{ℕ}
use lib.Dec.{T}
use Rattle.meaning.specs.Basics.{on_some, Name, same, listed}
use Rattle.meaning.specs.Syntax.{var, receive, Clauses, Program}
use Rattle.meaning.specs.Tokens.{gap, tokens}
use Rattle.meaning.specs.Grammar.{k_module, k_fn, k_until, open_paren, close_paren, close_bracket, open_brace, comma}
use Rattle.meaning.specs.Grammar.{semicolon, colon, is_name, is_atom, Reads}
use Rattle.meaning.specs.Bound.{bound_clauses, all_different, has_main, sound_functions, sound_modules}
use Rattle.grammar.specs.Classes.{class_of}
use Rattle.grammar.specs.Stack.{none_yet, snoc, list_of, Modules, no_module, in_module, module_of, program_of}
use Rattle.grammar.specs.Stack.{ExprStack, in_statement, before_equals}
use Rattle.grammar.specs.Stack.{State, want_expr, have_expr, after_name, after_colon, want_operands, after_quote}
use Rattle.grammar.specs.Stack.{after_bracket, after_spawn, after_spawn_name, after_spawn_colon, after_receive}
use Rattle.grammar.specs.Stack.{after_clauses, after_catch, want_statement, want_pattern, have_pattern}
use Rattle.grammar.specs.Stack.{after_pattern_quote, after_pattern_bracket, after_arrow, top_level, after_module}
use Rattle.grammar.specs.Stack.{after_module_name, after_fn, after_fn_name, want_parameter, after_parameter}
use Rattle.grammar.specs.Stack.{after_parameters}
use Rattle.grammar.specs.Expressions.{after_expr}
use Rattle.grammar.specs.LookAhead.{binds}
use Rattle.grammar.specs.Machine.{name_ends, clauses_end, at_top_level, step, run, program_at, parse}
use Rattle.grammar.specs.Scopes.{newest, scope}
use Rattle.grammar.specs.Checks.{fine_modules, fine_exprs, fine_state, passes_behind, passes_name, passes}
use Rattle.grammar.specs.Promise.{run_before, TestedByToken, FineIsSound, StopsEarly, StopsAtToken}
use Rattle.meaning.proofs.Splits.{is_true, and_T, no_clash, some_is, none_some, on_some_is}
use Rattle.grammar.proofs.Pairwise.{different_newest, sound-newest}
use Rattle.grammar.proofs.Boundness.{newest_part_first}
use Rattle.grammar.proofs.Complete.{complete}
use Rattle.grammar.proofs.Scoping.{Follows, when-follows, cond_follows, after_expr_fine, start_expr_fine}
use Rattle.grammar.proofs.Scoping.{start_pattern_fine, after_pattern_fine}

-- a test and a step that look at the same thing
pub cond_tested :
    (t c d b : Bool) (x y : Option State) → Follows (c && b) x → Follows (d && b) y →
    Follows (cond t c d && b) (cond t x y)
cond_tested true c d b x y h g = h
cond_tested false c d b x y h g = g

-- a variable has to be listed
pub name_ends_fine : (x : Name) (k : ExprStack) (w : Name) → Follows (passes_name x k w && fine_exprs k) (name_ends x k w)
name_ends_fine x k w =
    let variable = passes_behind k (class_of w) && listed x (scope k) in
    cond_tested (same w open_paren) true (cond (same w colon) true variable) (fine_exprs k) _ _ refl
    (cond_tested (same w colon) true variable (fine_exprs k) _ _ refl
    (subst (λ d. Follows d (after_expr (var x) k (class_of w)))
    (sym (and_assoc (passes_behind k (class_of w)) (listed x (scope k)) (fine_exprs k)))
    (after_expr_fine (var x) k (class_of w))))

pub clauses_end_fine :
    (cs : Clauses) (k : ExprStack) (w : Name) →
    Follows (cond (same w k_until) true (passes_behind k (class_of w)) && (bound_clauses (scope k) cs && fine_exprs k))
    (clauses_end cs k w)
clauses_end_fine cs k w =
    cond_tested (same w k_until) true (passes_behind k (class_of w)) (bound_clauses (scope k) cs && fine_exprs k) _ _ refl
    (after_expr_fine (receive cs) k (class_of w))

pub at_top_level_fine : (m : Modules) (w : Name) → Follows (fine_modules m) (at_top_level m w)
at_top_level_fine no_module w = when-follows (same w k_module) _ _ refl
at_top_level_fine (in_module m x fs) w =
    cond_follows (same w k_module) _ _ _ refl (when-follows (same w k_fn) _ _ refl)

pub step_fine : (s : State) (w : Name) (ws : List Name) → Follows (passes s w && fine_state s) (step s w ws)
step_fine (want_expr k) w ws = start_expr_fine k (class_of w)
step_fine (have_expr e k) w ws = after_expr_fine e k (class_of w)
step_fine (after_name x k) w ws = name_ends_fine x k w
step_fine (after_colon m k) w ws = when-follows (is_name w) _ _ refl
step_fine (want_operands o k) w ws = when-follows (same w open_paren) _ _ refl
step_fine (after_quote k) w ws = when-follows (is_atom w) _ _ refl
step_fine (after_bracket k) w ws = when-follows (same w close_bracket) _ _ refl
step_fine (after_spawn k) w ws = when-follows (is_name w) _ _ refl
step_fine (after_spawn_name x k) w ws =
    cond_follows (same w open_paren) _ _ _ refl (when-follows (same w colon) _ _ refl)
step_fine (after_spawn_colon m k) w ws = when-follows (is_name w) _ _ refl
step_fine (after_receive k) w ws = when-follows (same w open_brace) _ _ refl
step_fine (after_clauses cs k) w ws = clauses_end_fine cs k w
step_fine (after_catch k) w ws = when-follows (same w open_brace) _ _ refl
step_fine (want_statement xs k) w ws =
    cond_follows (binds 0 (w ∷ ws)) _ _ _ (start_pattern_fine (before_equals xs k) (class_of w))
    (start_expr_fine (in_statement xs k) (class_of w))
step_fine (want_pattern k) w ws = start_pattern_fine k (class_of w)
step_fine (have_pattern p k) w ws = after_pattern_fine p k (class_of w)
step_fine (after_pattern_quote k) w ws = when-follows (is_atom w) _ _ refl
step_fine (after_pattern_bracket k) w ws = when-follows (same w close_bracket) _ _ refl
step_fine (after_arrow p h xs k) w ws = when-follows (same w open_brace) _ _ refl
step_fine (top_level m) w ws = at_top_level_fine m w
step_fine (after_module m) w ws = when-follows (is_name w) _ _ refl
step_fine (after_module_name x m) w ws = when-follows (same w semicolon) _ _ refl
step_fine (after_fn m) w ws = when-follows (is_name w) _ _ refl
step_fine (after_fn_name x m) w ws = when-follows (same w open_paren) _ _ refl
step_fine (want_parameter x none_yet m) w ws =
    cond_follows (same w close_paren) _ _ _ refl (when-follows (is_name w) _ _ refl)
step_fine (want_parameter x (snoc ps y) m) w ws =
    when-follows (is_name w) _ _
    (and_assoc (not (listed w (newest (snoc ps y)))) (all_different (newest (snoc ps y))) (fine_modules m))
step_fine (after_parameter x ps m) w ws =
    cond_follows (same w comma) _ _ _ refl
    (when-follows (same w close_paren) _ _ (ap (λ d. d && fine_modules m) (different_newest ps)))
step_fine (after_parameters x ps m) w ws = when-follows (same w open_brace) _ _ refl

pub tested_by_token : TestedByToken
tested_by_token s t w ws e = subst (Follows (passes s w && fine_state s)) e (step_fine s w ws)

-- what is fine was fine
pub fine_backwards :
    (s t : State) (w : Name) (ws : List Name) → step s w ws ≡ some t → T (fine_state t) → T (fine_state s)
fine_backwards s t w ws e h = (and_T (passes s w) (fine_state s) (subst T (tested_by_token s t w ws e) h)).1

pub run_backwards : (s t : State) (ws : List Name) → run s ws ≡ some t → T (fine_state t) → T (fine_state s)
run_backwards s t [] e h = subst (λ x. T (fine_state x)) (sym (some_is e)) h
run_backwards s t (w ∷ ws) e h =
    let next = on_some_is (step s w ws) (λ x. run x ws) t e in
    fine_backwards s next.0 w ws next.1 (run_backwards next.0 t ws next.2 h)

-- the modules read, before those of g
pub program_fine : (m : Modules) (g : Program) → sound_modules (program_of m g) ≡ (sound_modules g && fine_modules m)
program_fine no_module g = sym (and-true (sound_modules g))
program_fine (in_module m x fs) g =
    program_fine m (module_of x (list_of fs []) ∷ g)
    ∙ ap (λ d. (d && sound_modules g) && fine_modules m) (sound-newest fs)
    ∙ sym (newest_part_first (sound_modules g) (sound_functions (newest fs)) (fine_modules m))

pub fine_is_sound : FineIsSound
fine_is_sound (top_level m) g e = sym (program_fine m []) ∙ ap sound_modules (some_is e)
fine_is_sound (want_expr k) g e = absurd (none_some e)
fine_is_sound (have_expr x k) g e = absurd (none_some e)
fine_is_sound (after_name x k) g e = absurd (none_some e)
fine_is_sound (after_colon m k) g e = absurd (none_some e)
fine_is_sound (want_operands o k) g e = absurd (none_some e)
fine_is_sound (after_quote k) g e = absurd (none_some e)
fine_is_sound (after_bracket k) g e = absurd (none_some e)
fine_is_sound (after_spawn k) g e = absurd (none_some e)
fine_is_sound (after_spawn_name x k) g e = absurd (none_some e)
fine_is_sound (after_spawn_colon m k) g e = absurd (none_some e)
fine_is_sound (after_receive k) g e = absurd (none_some e)
fine_is_sound (after_clauses cs k) g e = absurd (none_some e)
fine_is_sound (after_catch k) g e = absurd (none_some e)
fine_is_sound (want_statement xs k) g e = absurd (none_some e)
fine_is_sound (want_pattern k) g e = absurd (none_some e)
fine_is_sound (have_pattern p k) g e = absurd (none_some e)
fine_is_sound (after_pattern_quote k) g e = absurd (none_some e)
fine_is_sound (after_pattern_bracket k) g e = absurd (none_some e)
fine_is_sound (after_arrow p h xs k) g e = absurd (none_some e)
fine_is_sound (after_module m) g e = absurd (none_some e)
fine_is_sound (after_module_name x m) g e = absurd (none_some e)
fine_is_sound (after_fn m) g e = absurd (none_some e)
fine_is_sound (after_fn_name x m) g e = absurd (none_some e)
fine_is_sound (want_parameter x ps m) g e = absurd (none_some e)
fine_is_sound (after_parameter x ps m) g e = absurd (none_some e)
fine_is_sound (after_parameters x ps m) g e = absurd (none_some e)

-- the machine runs over all tokens as over the first of them and then the rest
pub run_split :
    (s t : State) (ws rest : List Name) → run_before s ws rest ≡ some t → run s (ws ++ rest) ≡ run t rest
run_split s t [] rest e = ap (λ x. run x rest) (some_is e)
run_split s t (w ∷ ws) rest e =
    let next = on_some_is (step s w (ws ++ rest)) (λ x. run_before x ws rest) t e in
    ap (λ o. on_some o (λ x. run x (ws ++ rest))) next.1 ∙ run_split next.0 t ws rest next.2

-- on the way of a program, every state is one from which the machine comes to that program
pub goes_to_program :
    (t : List ℕ) (ws rest : List Name) (s : State) → tokens gap t ≡ (ws ++ rest) →
    run_before (top_level no_module) ws rest ≡ some s → (g : Program) → Reads t g →
    on_some (run s rest) program_at ≡ some g
goes_to_program t ws rest s split way g r =
    ap (λ o. on_some o program_at) (sym (run_split (top_level no_module) s ws rest way))
    ∙ ap parse (sym split) ∙ complete r.said

-- a program's states are all fine
pub fine_on_the_way :
    (rest : List Name) (s : State) (g : Program) → on_some (run s rest) program_at ≡ some g →
    T (sound_modules g) → T (fine_state s)
fine_on_the_way rest s g e h =
    let end = on_some_is (run s rest) program_at g e in
    run_backwards s end.0 rest end.1 (subst T (sym (fine_is_sound end.0 g end.2)) h)

pub stops_early : StopsEarly
stops_early t ws rest s split way bad g r =
    no_clash
    (is_true (fine_state s)
    (fine_on_the_way rest s g (goes_to_program t ws rest s split way g r)
    (and_T (has_main g) (sound_modules g) r.sound).1))
    bad

pub stops_at_token : StopsAtToken
stops_at_token t ws w rest s split way bad g r =
    let whole = on_some_is (run s (w ∷ rest)) program_at g (goes_to_program t ws (w ∷ rest) s split way g r) in
    let next = on_some_is (step s w rest) (λ x. run x rest) whole.0 whole.1 in
    let end = ap (λ o. on_some o program_at) next.2 ∙ whole.2 in
    let fine = fine_on_the_way rest next.0 g end (and_T (has_main g) (sound_modules g) r.sound).1 in
    no_clash
    (is_true (passes s w)
    (and_T (passes s w) (fine_state s) (subst T (tested_by_token s next.0 w rest next.1) fine)).0)
    bad
