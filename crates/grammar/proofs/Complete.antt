-- The machine reads every program of the grammar, function by function and module by module.
use mathlib.Core.Path.{◌≡◌, refl, ap, ◌∙◌}
use mathlib.Core.Bool.{Bool, true, false}
use mathlib.Core.List.{List, [], ◌∷◌, ◌++◌, append_assoc}
use mathlib.Core.Option.{some}
use lib.Dec.{T}
use Rattle.meaning.specs.Basics.{on_some, Name}
use Rattle.meaning.specs.Syntax.{Function, Program}
use Rattle.meaning.specs.Grammar.{k_module, open_paren, close_paren, open_brace, close_brace, comma, semicolon}
use Rattle.meaning.specs.Grammar.{is_name, NamesOf, no_n, one_n, more_n, FunctionOf, function_x, FunctionsOf, no_f}
use Rattle.meaning.specs.Grammar.{more_f, ModulesOf, no_m, more_m}
use Rattle.grammar.specs.Machine.{at_top_level, run, program_at, parse}
use Rattle.grammar.specs.Stack.{Snoc, none_yet, snoc, list_of, Modules, no_module, in_module, module_of, program_of}
use Rattle.grammar.specs.Stack.{in_function, top_level, after_module, after_module_name, after_fn_name}
use Rattle.grammar.specs.Stack.{want_parameter, after_parameter, after_parameters}
use Rattle.grammar.proofs.Classes.{differ}
use Rattle.grammar.proofs.ReadsPatterns.{then_run}
use Rattle.grammar.proofs.ReadsExprs.{then-when, reads_body}

-- parameters: behind a comma another must come
abbrev pub more_names : Snoc Name → List Name → Bool
more_names none_yet xs = true
more_names (snoc acc x) [] = false
more_names (snoc acc x) (y ∷ ys) = true

pub reads_parameter :
    (x : Name) (acc : Snoc Name) (m : Modules) (y : Name) (ws : List Name) → T (is_name y) →
    run (want_parameter x acc m) (y ∷ ws) ≡ run (after_parameter x (snoc acc y) m) ws
reads_parameter x none_yet m y ws h =
    rw (differ (λ z. T (is_name z)) y close_paren h (λ q. q))
    (then-when y (after_parameter x (snoc none_yet y) m) ws h)
reads_parameter x (snoc acc z) m y ws h = then-when y (after_parameter x (snoc (snoc acc z) y) m) ws h

pub reads_names :
    {s ps : List Name} → NamesOf s ps → (x : Name) (acc : Snoc Name) (m : Modules) →
    T (more_names acc ps) → (ws : List Name) →
    run (want_parameter x acc m) (s ++ (close_paren ∷ ws)) ≡ run (after_parameters x (list_of acc ps) m) ws
reads_names no_n x none_yet m f ws = refl
reads_names no_n x (snoc acc y) m f ws = absurd f
reads_names (one_n {x = y} h) x acc m f ws = reads_parameter x acc m y (close_paren ∷ ws) h
reads_names (more_n {x = y} {s = s} h d) x acc m f ws =
    reads_parameter x acc m y (comma ∷ (s ++ (close_paren ∷ ws))) h ∙ reads_names d x (snoc acc y) m tt ws

-- functions
pub reads_function :
    {s : List Name} {f : Function} → FunctionOf s f →
    (m : Modules) (y : Name) (acc : Snoc Function) (ws : List Name) →
    run (top_level (in_module m y acc)) (s ++ ws) ≡ run (top_level (in_module m y (snoc acc f))) ws
reads_function (function_x {x = x} {s = s} {t = t} {ps = ps} h d g) m y acc ws =
    let here : Modules = in_module m y acc in
    simp append_assoc
    (then-when x (after_fn_name x here) (open_paren ∷ (s ++ (close_paren ∷ open_brace ∷ (t ++ (close_brace ∷ ws))))) h
    ∙ reads_names d x none_yet here tt (open_brace ∷ (t ++ (close_brace ∷ ws)))
    ∙ reads_body g none_yet (in_function x ps here) ws)

abbrev pub snoc_all : Snoc Function → List Function → Snoc Function
snoc_all acc [] = acc
snoc_all acc (f ∷ fs) = snoc_all (snoc acc f) fs

pub list_of_snoc_all : (acc : Snoc Function) (fs : List Function) → list_of (snoc_all acc fs) [] ≡ list_of acc fs
list_of_snoc_all acc [] = refl
list_of_snoc_all acc (f ∷ fs) = list_of_snoc_all (snoc acc f) fs

pub reads_functions :
    {s : List Name} {fs : List Function} → FunctionsOf s fs →
    (m : Modules) (y : Name) (acc : Snoc Function) (ws : List Name) →
    run (top_level (in_module m y acc)) (s ++ ws) ≡ run (top_level (in_module m y (snoc_all acc fs))) ws
reads_functions no_f m y acc ws = refl
reads_functions (more_f {t = t} {f = f} d g) m y acc ws =
    simp append_assoc (reads_function d m y acc (t ++ ws) ∙ reads_functions g m y (snoc acc f) ws)

-- modules
pub module_begins : (m : Modules) → at_top_level m k_module ≡ some (after_module m)
module_begins no_module = refl
module_begins (in_module m x acc) = refl

pub reads_module :
    (x : Name) {s : List Name} {fs : List Function} → T (is_name x) → FunctionsOf s fs →
    (m : Modules) (t : List Name) →
    run (top_level m) (k_module ∷ x ∷ semicolon ∷ (s ++ t)) ≡ run (top_level (in_module m x (snoc_all none_yet fs))) t
reads_module x {s} h d m t =
    ap (λ o. then_run o (x ∷ semicolon ∷ (s ++ t))) (module_begins m)
    ∙ then-when x (after_module_name x m) (semicolon ∷ (s ++ t)) h ∙ reads_functions d m x none_yet t

pub reads_modules :
    {s : List Name} {g : Program} → ModulesOf s g → (m : Modules) →
    on_some (run (top_level m) s) program_at ≡ some (program_of m g)
reads_modules no_m m = refl
reads_modules (more_m {x = x} {t = t} {fs = fs} {ms = ms} h d g) m =
    ap (λ o. on_some o program_at) (reads_module x h d m t)
    ∙ reads_modules g (in_module m x (snoc_all none_yet fs))
    ∙ ap (λ fs. some (program_of m (module_of x fs ∷ ms))) (list_of_snoc_all none_yet fs)

-- whatever tokens are a program, the machine reads that program
pub complete : {s : List Name} {g : Program} → ModulesOf s g → parse s ≡ some g
complete d = reads_modules d no_module
