-- The machine reads every pattern of the grammar: where a pattern is wanted, its tokens lead
-- to where that pattern has been read and the token behind it decides.
use mathlib.Core.Path.{◌≡◌, refl, ap, ◌∙◌}
use mathlib.Core.Bool.{Bool, true, false}
use mathlib.Core.List.{List, ◌∷◌, ◌++◌, append_assoc}
use mathlib.Core.Option.{Option}
use Prim.Native.Nat.{ℕ}
use lib.Dec.{T}
use Rattle.meaning.specs.Basics.{on_some, Name}
use Rattle.meaning.specs.Syntax.{Pattern, p_atom, p_tuple, Patterns, no_p, and_p}
use Rattle.meaning.specs.Grammar.{close_paren, close_brace, comma, double_colon, is_atom, PatternAt, cons_x, plain_x}
use Rattle.meaning.specs.Grammar.{any_x, var_x, int_x, atom_x, tuple_x, nil_x, brackets_x, PatternsOf, no_x, one_x}
use Rattle.meaning.specs.Grammar.{more_x}
use Rattle.grammar.specs.Classes.{class_of}
use Rattle.grammar.specs.Machine.{run}
use Rattle.grammar.specs.Patterns.{start_pattern, after_pattern}
use Rattle.grammar.specs.Stack.{Snoc, none_yet, snoc, patterns_of, PatternStack, in_cons, in_group, in_tuple, State}
use Rattle.grammar.specs.Stack.{want_pattern, have_pattern, when}
use Rattle.meaning.proofs.Splits.{is_true}
use Rattle.grammar.proofs.Classes.{class_number, class_name}
use Rattle.grammar.proofs.Levels.{follows_pattern, follows_plain, after_cons}

-- go on with the tokens, if the machine goes on
abbrev pub then_run : Option State → List Name → Option State
then_run o ws = on_some o (λ s. run s ws)

-- behind a comma another pattern must come
abbrev pub more_patterns : Snoc Pattern → Patterns → Bool
more_patterns none_yet ps = true
more_patterns (snoc acc p) no_p = false
more_patterns (snoc acc p) (and_p q ps) = true

mutual
  pub reads_pattern :
      {n : ℕ} {s : List Name} {p : Pattern} → PatternAt n s p →
      (k : PatternStack) (w : Name) → T (follows_pattern n (class_of w)) → (ws : List Name) →
      run (want_pattern k) (s ++ (w ∷ ws)) ≡ then_run (after_pattern p k (class_of w)) ws
  reads_pattern (cons_x {t = t} {p = p} {q = q} d g) k w f ws =
      simp append_assoc
      (reads_pattern d k double_colon tt (t ++ (w ∷ ws)) ∙ reads_pattern g (in_cons p k) w f ws
      ∙ ap (λ o. then_run o ws) (after_cons p q k (class_of w) f))
  reads_pattern (plain_x d) k w f ws = reads_pattern d k w (follows_plain (class_of w) f) ws
  reads_pattern any_x k w f ws = refl
  reads_pattern (var_x {x = x} h) k w f ws = ap (λ c. then_run (start_pattern k c) (w ∷ ws)) (class_name x h)
  reads_pattern (int_x {w = v} {n = n} h) k w f ws =
      ap (λ c. then_run (start_pattern k c) (w ∷ ws)) (class_number v n h)
  reads_pattern (atom_x {x = x} h) k w f ws =
      ap (λ b. then_run (when b (have_pattern (p_atom x) k)) (w ∷ ws)) (is_true (is_atom x) h)
  reads_pattern (tuple_x d) k w f ws = simp append_assoc (reads_patterns d none_yet k tt (w ∷ ws))
  reads_pattern nil_x k w f ws = refl
  reads_pattern (brackets_x d) k w f ws = simp append_assoc (reads_pattern d (in_group k) close_paren tt (w ∷ ws))

  pub reads_patterns :
      {s : List Name} {ps : Patterns} → PatternsOf s ps →
      (acc : Snoc Pattern) (k : PatternStack) → T (more_patterns acc ps) → (ws : List Name) →
      run (want_pattern (in_tuple acc k)) (s ++ (close_brace ∷ ws))
      ≡ run (have_pattern (p_tuple (patterns_of acc ps)) k) ws
  reads_patterns no_x none_yet k f ws = refl
  reads_patterns no_x (snoc acc p) k f ws = absurd f
  reads_patterns (one_x d) acc k f ws = reads_pattern d (in_tuple acc k) close_brace tt ws
  reads_patterns (more_x {t = t} {p = p} d ds) acc k f ws =
      simp append_assoc
      (reads_pattern d (in_tuple acc k) comma tt (t ++ (close_brace ∷ ws)) ∙ reads_patterns ds (snoc acc p) k tt ws)
