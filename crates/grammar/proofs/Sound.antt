-- What the machine reads is a program of the grammar: at every step, the tokens read so far made the state.
-- `step-sound` and `program_at_sound` go through the states, one by one.
use mathlib.Core.Path.{◌≡◌, refl, sym, ap, subst, ◌∙◌}
use mathlib.Core.List.{List, [], ◌∷◌, ◌++◌, append_assoc, append-nil}
use mathlib.Core.Option.{Option, some, none}
use Rattle.meaning.specs.Basics.{on_some, Name, same}
use Rattle.meaning.specs.Syntax.{Program}
use Rattle.meaning.specs.Grammar.{k_module, k_fn, k_receive, k_catch, k_spawn, open_paren, close_paren, open_bracket}
use Rattle.meaning.specs.Grammar.{close_bracket, open_brace, close_brace, comma, semicolon, colon, quote, arrow}
use Rattle.meaning.specs.Grammar.{is_name, is_atom, no_n, one_n, atom_x, nil_x, atom_e, nil_e, ModulesOf, no_m}
use Rattle.grammar.specs.Classes.{class_of}
use Rattle.grammar.specs.Expressions.{after_expr}
use Rattle.grammar.specs.LookAhead.{binds}
use Rattle.grammar.specs.Machine.{name_ends, clauses_end, at_top_level, step, run, program_at, parse}
use Rattle.grammar.specs.Patterns.{after_pattern}
use Rattle.grammar.specs.Stack.{Modules, no_module, program_of, State, top_level}
use Rattle.meaning.proofs.Splits.{some_is, none_some, same_is, on_some_all}
use Rattle.grammar.proofs.Classes.{class_tells}
use Rattle.grammar.proofs.Elements.{made_none, made_more, parameter, ModulesMade, made_no_module, made_module}
use Rattle.grammar.proofs.Elements.{names_made, modules_made}
use Rattle.grammar.proofs.Made.{made_of_receive, open_far, open_spawn, open_far_spawn, made_list, made_statement}
use Rattle.grammar.proofs.Made.{made_arm, made_catch, made_function, made_before_equals, made_before_arrow, StateMade}
use Rattle.grammar.proofs.Made.{at_want_expr, at_after_name, at_after_colon, at_want_operands, at_after_quote}
use Rattle.grammar.proofs.Made.{at_after_bracket, at_after_spawn, at_after_spawn_name, at_after_spawn_colon}
use Rattle.grammar.proofs.Made.{at_after_receive, at_after_clauses, at_after_catch, at_have_expr, at_want_statement}
use Rattle.grammar.proofs.Made.{at_want_pattern, at_after_pattern_quote, at_after_pattern_bracket, at_have_pattern}
use Rattle.grammar.proofs.Made.{at_after_arrow, at_top, at_after_module, at_after_module_name, at_after_fn}
use Rattle.grammar.proofs.Made.{at_after_fn_name, at_want_parameter, at_after_parameter, at_after_parameters, Goes}
use Rattle.grammar.proofs.Made.{when_goes, cond_goes, followed, followed_by}
use Rattle.grammar.proofs.SoundExprs.{start_expr_sound, after_expr_sound, name_ends_sound, clauses_end_sound}
use Rattle.grammar.proofs.SoundPatterns.{start_pattern_sound, after_pattern_sound}

pub at_top_level_sound :
    {m : Modules} {v : List Name} → ModulesMade m v → (w : Name) → Goes (at_top_level m w) (v ++ (w ∷ []))
at_top_level_sound {v = v} made_no_module w =
    when_goes (same w k_module) _ _
    (λ h. at_after_module made_no_module (ap (λ z. v ++ (z ∷ [])) (same_is w k_module h)))
at_top_level_sound {v = v} (made_module st h f q) w =
    cond_goes (same w k_module) _ _ _
    (λ e. at_after_module (made_module st h f q) (ap (λ z. v ++ (z ∷ [])) (same_is w k_module e)))
    (when_goes (same w k_fn) _ _
    (λ e. at_after_fn (made_module st h f q) (ap (λ z. v ++ (z ∷ [])) (same_is w k_fn e))))

pub step-sound :
    {x : State} {v : List Name} → StateMade x v → (w : Name) (ws : List Name) → Goes (step x w ws) (v ++ (w ∷ []))
step-sound (at_want_expr st) w ws = start_expr_sound st w (class_of w) (class_tells w)
step-sound (at_have_expr {k = k} {e = e} {u = u} {s = s} st d q) w ws =
    subst (Goes (after_expr e k (class_of w))) (sym (followed u s q w))
    (after_expr_sound st e s d w (class_of w) (class_tells w))
step-sound (at_after_name {k = k} {u = u} {x = x} st h q) w ws =
    subst (Goes (name_ends x k w)) (sym (followed u (x ∷ []) q w)) (name_ends_sound st x h w)
step-sound (at_after_colon {u = u} {x = x} st h q) w ws =
    when_goes (is_name w) _ _
    (λ g. at_want_operands (x ∷ colon ∷ w ∷ []) st (open_far h g) (followed u (x ∷ colon ∷ []) q w))
step-sound (at_want_operands {u = u} o st op q) w ws =
    when_goes (same w open_paren) _ _
    (λ g. at_want_expr (made_list st op made_none (followed_by u o q w open_paren g ∙ simp append-nil)))
step-sound (at_after_quote {u = u} st q) w ws =
    when_goes (is_atom w) _ _ (λ g. at_have_expr st (atom_e g) (followed u (quote ∷ []) q w))
step-sound (at_after_bracket {u = u} st q) w ws =
    when_goes (same w close_bracket) _ _
    (λ g. at_have_expr st nil_e (followed_by u (open_bracket ∷ []) q w close_bracket g))
step-sound (at_after_spawn {u = u} st q) w ws =
    when_goes (is_name w) _ _ (λ g. at_after_spawn_name st g (followed u (k_spawn ∷ []) q w))
step-sound (at_after_spawn_name {u = u} {x = x} st h q) w ws =
    cond_goes (same w open_paren) _ _ _
    (λ g. at_want_expr (made_list st (open_spawn h) made_none (followed_by u (k_spawn ∷ x ∷ []) q w open_paren g)))
    (when_goes (same w colon) _ _ (λ g. at_after_spawn_colon st h (followed_by u (k_spawn ∷ x ∷ []) q w colon g)))
step-sound (at_after_spawn_colon {u = u} {x = x} st h q) w ws =
    when_goes (is_name w) _ _
    (λ g. at_want_operands (k_spawn ∷ x ∷ colon ∷ w ∷ []) st (open_far_spawn h g)
    (followed u (k_spawn ∷ x ∷ colon ∷ []) q w))
step-sound (at_after_receive {u = u} st q) w ws =
    when_goes (same w open_brace) _ _
    (λ g. at_want_pattern (made_before_arrow st made_of_receive made_none
    (followed_by u (k_receive ∷ []) q w open_brace g)))
step-sound (at_after_clauses {cs = cs} {k = k} {u = u} {s = s} st c q) w ws =
    subst (Goes (clauses_end cs k w)) (sym (followed u (k_receive ∷ open_brace ∷ (s ++ (close_brace ∷ []))) q w))
    (clauses_end_sound st cs s c w)
step-sound (at_after_catch {u = u} st q) w ws =
    when_goes (same w open_brace) _ _
    (λ g. at_want_statement (made_catch st refl) made_none
    (followed_by u (k_catch ∷ []) q w open_brace g ∙ simp append-nil))
step-sound (at_want_statement st a q) w ws =
    cond_goes (binds 0 (w ∷ ws)) _ _ _
    (λ h. start_pattern_sound (made_before_equals st a q) w (class_of w) (class_tells w))
    (start_expr_sound (made_statement st a q) w (class_of w) (class_tells w))
step-sound (at_want_pattern st) w ws = start_pattern_sound st w (class_of w) (class_tells w)
step-sound (at_have_pattern {k = k} {p = p} {u = u} {s = s} st d q) w ws =
    subst (Goes (after_pattern p k (class_of w))) (sym (followed u s q w))
    (after_pattern_sound st p s d w (class_of w) (class_tells w))
step-sound (at_after_pattern_quote {u = u} st q) w ws =
    when_goes (is_atom w) _ _ (λ g. at_have_pattern st (atom_x g) (followed u (quote ∷ []) q w))
step-sound (at_after_pattern_bracket {u = u} st q) w ws =
    when_goes (same w close_bracket) _ _
    (λ g. at_have_pattern st nil_x (followed_by u (open_bracket ∷ []) q w close_bracket g))
step-sound (at_after_arrow {u = u} {o = o} {s = s} {y = y} st h c d q) w ws =
    when_goes (same w open_brace) _ _
    (λ g. at_want_statement (made_arm st h c d refl) made_none
    (followed_by u (o ++ (s ++ (y ++ (arrow ∷ [])))) q w open_brace g
    ∙ simp (append_assoc, append-nil)))
step-sound (at_top st) w ws = at_top_level_sound st w
step-sound (at_after_module {u = u} st q) w ws =
    when_goes (is_name w) _ _ (λ g. at_after_module_name st g (followed u (k_module ∷ []) q w))
step-sound (at_after_module_name {u = u} {x = x} st h q) w ws =
    when_goes (same w semicolon) _ _
    (λ g. at_top (made_module st h made_none (followed_by u (k_module ∷ x ∷ []) q w semicolon g)))
step-sound (at_after_fn {u = u} st q) w ws =
    when_goes (is_name w) _ _ (λ g. at_after_fn_name st g (followed u (k_fn ∷ []) q w))
step-sound (at_after_fn_name {u = u} {x = x} st h q) w ws =
    when_goes (same w open_paren) _ _
    (λ g. at_want_parameter st h made_none (followed_by u (k_fn ∷ x ∷ []) q w open_paren g))
step-sound (at_want_parameter {u = u} {x = x} st h made_none q) w ws =
    cond_goes (same w close_paren) _ _ _
    (λ g. at_after_parameters st h no_n (followed_by u (k_fn ∷ x ∷ open_paren ∷ []) q w close_paren g))
    (when_goes (is_name w) _ _
    (λ g. at_after_parameter st h made_none g (followed u (k_fn ∷ x ∷ open_paren ∷ []) q w)))
step-sound (at_want_parameter {u = u} {s = s} {x = x} st h (made_more n p e) q) w ws =
    when_goes (is_name w) _ _
    (λ g. at_after_parameter st h (made_more n p e) g (followed u (k_fn ∷ x ∷ open_paren ∷ s) q w))
step-sound (at_after_parameter {u = u} {s = s} {x = x} {y = y} st h n p q) w ws =
    cond_goes (same w comma) _ _ _
    (λ g. at_want_parameter st h (made_more n (parameter p refl) refl)
    (followed_by u (k_fn ∷ x ∷ open_paren ∷ (s ++ (y ∷ []))) q w comma g ∙ simp append_assoc))
    (when_goes (same w close_paren) _ _
    (λ g. at_after_parameters st h (names_made n (y ∷ []) (y ∷ []) tt (one_n p))
    (followed_by u (k_fn ∷ x ∷ open_paren ∷ (s ++ (y ∷ []))) q w close_paren g)))
step-sound (at_after_parameters {u = u} {s = s} {x = x} st h n q) w ws =
    when_goes (same w open_brace) _ _
    (λ g. at_want_statement (made_function st h n refl) made_none
    (followed_by u (k_fn ∷ x ∷ open_paren ∷ (s ++ (close_paren ∷ []))) q w open_brace g
    ∙ simp (append_assoc, append-nil)))

pub run_sound : (ws : List Name) (x : State) (v : List Name) → StateMade x v → Goes (run x ws) (v ++ ws)
run_sound [] x v i = subst (StateMade x) (sym (append-nil v)) i
run_sound (w ∷ ws) x v i =
    subst (Goes (run x (w ∷ ws))) (append_assoc v (w ∷ []) ws)
    (on_some_all (λ y. StateMade y (v ++ (w ∷ []))) (λ y. StateMade y ((v ++ (w ∷ [])) ++ ws)) (step x w ws)
    (λ y. run y ws)
    (step-sound i w ws) (λ y j. run_sound ws y (v ++ (w ∷ [])) j))

-- a program ends between functions: in every other state there is none
pub program_at_sound :
    {x : State} {v : List Name} → StateMade x v → (g : Program) → program_at x ≡ some g → ModulesOf v g
program_at_sound {v = v} (at_top {m = m} st) g e =
    subst (ModulesOf v) (some_is e)
    (subst (λ z. ModulesOf z (program_of m [])) (append-nil v) (modules_made st [] [] no_m))
program_at_sound (at_want_expr st) g e = absurd (none_some e)
program_at_sound (at_have_expr st d q) g e = absurd (none_some e)
program_at_sound (at_after_name st h q) g e = absurd (none_some e)
program_at_sound (at_after_colon st h q) g e = absurd (none_some e)
program_at_sound (at_want_operands o st h q) g e = absurd (none_some e)
program_at_sound (at_after_quote st q) g e = absurd (none_some e)
program_at_sound (at_after_bracket st q) g e = absurd (none_some e)
program_at_sound (at_after_spawn st q) g e = absurd (none_some e)
program_at_sound (at_after_spawn_name st h q) g e = absurd (none_some e)
program_at_sound (at_after_spawn_colon st h q) g e = absurd (none_some e)
program_at_sound (at_after_receive st q) g e = absurd (none_some e)
program_at_sound (at_after_clauses st c q) g e = absurd (none_some e)
program_at_sound (at_after_catch st q) g e = absurd (none_some e)
program_at_sound (at_want_statement st a q) g e = absurd (none_some e)
program_at_sound (at_want_pattern st) g e = absurd (none_some e)
program_at_sound (at_have_pattern st d q) g e = absurd (none_some e)
program_at_sound (at_after_pattern_quote st q) g e = absurd (none_some e)
program_at_sound (at_after_pattern_bracket st q) g e = absurd (none_some e)
program_at_sound (at_after_arrow st h c d q) g e = absurd (none_some e)
program_at_sound (at_after_module st q) g e = absurd (none_some e)
program_at_sound (at_after_module_name st h q) g e = absurd (none_some e)
program_at_sound (at_after_fn st q) g e = absurd (none_some e)
program_at_sound (at_after_fn_name st h q) g e = absurd (none_some e)
program_at_sound (at_want_parameter st h n q) g e = absurd (none_some e)
program_at_sound (at_after_parameter st h n p q) g e = absurd (none_some e)
program_at_sound (at_after_parameters st h n q) g e = absurd (none_some e)

-- what the machine reads is a program of the grammar
pub sound : (s : List Name) (g : Program) → parse s ≡ some g → ModulesOf s g
sound s g e = way (run (top_level no_module) s) (run_sound s (top_level no_module) [] (at_top made_no_module)) e
  where
    way : (o : Option State) → Goes o s → on_some o program_at ≡ some g → ModulesOf s g
    way none i e = absurd (none_some e)
    way (some x) i e = program_at_sound i g e
