-- From tokens to programs: which tokens are which tree. What makes a text a program is `Reads`, at the end.
use Rattle.std.specs.Prelude.{◌≡◌, Bool, true, ◌&&◌, ◌||◌, not, cond, List, [], ◌∷◌, ◌++◌, ℕ, suc, ◌+◌, ◌-◌, ◌*◌, ◌<◌, length, codes, leb, T}
use Rattle.std.proofs.Math.Option.{Option, some, none}
use Rattle.meaning.specs.Basics.{Name, same, listed}
use Rattle.meaning.specs.Syntax.{Pattern, p_any, p_var, p_int, p_atom, p_tuple, p_nil, p_cons, Patterns, no_p, and_p}
use Rattle.meaning.specs.Syntax.{Operator, plus, minus, times, divide, modulo, equal, unequal, less, at_most, Builtin}
use Rattle.meaning.specs.Syntax.{send, self, link, exit, trap, show, register, whereis, swap, make_tuple, make_pair}
use Rattle.meaning.specs.Syntax.{call, far_call, spawn, far_spawn, operate, built_in, Expr, int, atom, var, nil}
use Rattle.meaning.specs.Syntax.{apply, case, receive, receive_until, catch, Exprs, no_e, and_e, Body, last, bind}
use Rattle.meaning.specs.Syntax.{Clauses, no_c, clause, Function, Program}
use Rattle.meaning.specs.Tokens.{is_digit, is_letter, gap, tokens}
use Rattle.meaning.specs.Bound.{has_main, sound_modules}

-- keywords
abbrev pub k_module : Name
k_module = codes "module"

abbrev pub k_fn : Name
k_fn = codes "fn"

abbrev pub k_case : Name
k_case = codes "case"

abbrev pub k_receive : Name
k_receive = codes "receive"

abbrev pub k_until : Name
k_until = codes "until"

abbrev pub k_catch : Name
k_catch = codes "catch"

abbrev pub k_spawn : Name
k_spawn = codes "spawn"

abbrev pub k_send : Name
k_send = codes "send"

abbrev pub k_self : Name
k_self = codes "self"

abbrev pub k_link : Name
k_link = codes "link"

abbrev pub k_exit : Name
k_exit = codes "exit"

abbrev pub k_trap : Name
k_trap = codes "trap"

abbrev pub k_show : Name
k_show = codes "show"

abbrev pub k_name : Name
k_name = codes "name"

abbrev pub k_where : Name
k_where = codes "where"

abbrev pub k_swap : Name
k_swap = codes "swap"

abbrev pub underscore : Name
underscore = codes "_"

abbrev pub keywords : List Name
keywords = k_module ∷ k_fn ∷ k_case ∷ k_receive ∷ k_until ∷ k_catch ∷ k_spawn ∷ k_send ∷ k_self ∷ k_link ∷ k_exit ∷
    k_trap ∷ k_show ∷ k_name ∷ k_where ∷ k_swap ∷ underscore ∷ []

-- signs
abbrev pub open_paren : Name
open_paren = codes "("

abbrev pub close_paren : Name
close_paren = codes ")"

abbrev pub open_bracket : Name
open_bracket = codes "["

abbrev pub close_bracket : Name
close_bracket = codes "]"

abbrev pub open_brace : Name
open_brace = codes "{"

abbrev pub close_brace : Name
close_brace = codes "}"

abbrev pub comma : Name
comma = codes ","

abbrev pub semicolon : Name
semicolon = codes ";"

abbrev pub colon : Name
colon = codes ":"

abbrev pub equals : Name
equals = codes "="

abbrev pub quote : Name
quote = codes "'"

abbrev pub arrow : Name
arrow = codes "->"

abbrev pub double_colon : Name
double_colon = codes "::"

-- names: 1 to 32 letters, digits and _, no digit first, and no keyword
abbrev pub all_letters : Name → Bool
all_letters [] = true
all_letters (c ∷ cs) = is_letter c && all_letters cs

abbrev pub digit_first : Name → Bool
digit_first [] = true
digit_first (c ∷ cs) = is_digit c

abbrev pub is_name : Name → Bool
is_name x = leb 1 (length x) &&
    (leb (length x) 32 && (all_letters x && (not (digit_first x) && not (listed x keywords))))

-- an atom, behind ', may be a keyword too
abbrev pub is_atom : Name → Bool
is_atom x = leb 1 (length x) && (leb (length x) 32 && (all_letters x && not (digit_first x)))

-- numbers: 1 to 18 digits
abbrev pub number_from : ℕ → List ℕ → Option ℕ
number_from n [] = some n
number_from n (c ∷ cs) = cond (is_digit c) (number_from (n * 10 + (c - 48)) cs) none

abbrev pub Number : Name → ℕ → Type 0
Number w n = T (leb 1 (length w) && leb (length w) 18) × (number_from 0 w ≡ some n)

-- operators between operands: how tight, which token
pub data Infix : ℕ → Name → Operator → Type 0 where
  plus_sign : Infix 2 (codes "+") plus
  minus_sign : Infix 2 (codes "-") minus
  times_sign : Infix 3 (codes "*") times
  divide_sign : Infix 3 (codes "/") divide
  modulo_sign : Infix 3 (codes "%") modulo
  equal_sign : Infix 0 (codes "==") equal
  unequal_sign : Infix 0 (codes "!=") unequal
  less_sign : Infix 0 (codes "<") less
  at_most_sign : Infix 0 (codes "<=") at_most

-- built-in functions: their word, and how many arguments they take
pub data BuiltinWord : Name → Builtin → ℕ → Type 0 where
  send_word : BuiltinWord k_send send 2
  self_word : BuiltinWord k_self self 0
  link_word : BuiltinWord k_link link 1
  exit_word : BuiltinWord k_exit exit 1
  exit_to_word : BuiltinWord k_exit exit 2
  trap_word : BuiltinWord k_trap trap 1
  show_word : BuiltinWord k_show show 1
  name_word : BuiltinWord k_name register 1
  where_word : BuiltinWord k_where whereis 1
  swap_word : BuiltinWord k_swap swap 1

-- names with commas between
pub data NamesOf : List Name → List Name → Type 0 where
  no_n : NamesOf [] []
  one_n : {x : Name} → T (is_name x) → NamesOf (x ∷ []) (x ∷ [])
  more_n : {x y : Name} {s xs : List Name} → T (is_name x) → NamesOf s (y ∷ xs) → NamesOf (x ∷ comma ∷ s) (x ∷ y ∷ xs)

-- patterns: level 0 has p :: q, to the right; level 1 the rest
mutual
  pub data PatternAt : ℕ → List Name → Pattern → Type 0 where
    cons_x : {s t : List Name} {p q : Pattern} → PatternAt 1 s p → PatternAt 0 t q →
        PatternAt 0 (s ++ (double_colon ∷ t)) (p_cons p q)
    plain_x : {s : List Name} {p : Pattern} → PatternAt 1 s p → PatternAt 0 s p
    any_x : PatternAt 1 (underscore ∷ []) p_any
    var_x : {x : Name} → T (is_name x) → PatternAt 1 (x ∷ []) (p_var x)
    int_x : {w : Name} {n : ℕ} → Number w n → PatternAt 1 (w ∷ []) (p_int n)
    atom_x : {x : Name} → T (is_atom x) → PatternAt 1 (quote ∷ x ∷ []) (p_atom x)
    tuple_x : {s : List Name} {ps : Patterns} → PatternsOf s ps →
        PatternAt 1 (open_brace ∷ (s ++ (close_brace ∷ []))) (p_tuple ps)
    nil_x : PatternAt 1 (open_bracket ∷ close_bracket ∷ []) p_nil
    brackets_x : {s : List Name} {p : Pattern} → PatternAt 0 s p →
        PatternAt 1 (open_paren ∷ (s ++ (close_paren ∷ []))) p

  pub data PatternsOf : List Name → Patterns → Type 0 where
    no_x : PatternsOf [] no_p
    one_x : {s : List Name} {p : Pattern} → PatternAt 0 s p → PatternsOf s (and_p p no_p)
    more_x : {s t : List Name} {p q : Pattern} {ps : Patterns} → PatternAt 0 s p → PatternsOf t (and_p q ps) →
        PatternsOf (s ++ (comma ∷ t)) (and_p p (and_p q ps))

abbrev pub count : Exprs → ℕ
count no_e = 0
count (and_e e es) = 1 + count es

-- expressions, from loose to tight: 0 one comparison, 1 :: to the right, 2 sums, 3 products, 4 the rest
mutual
  pub data ExprAt : ℕ → List Name → Expr → Type 0 where
    looser : {n : ℕ} {s : List Name} {e : Expr} → n < 4 → ExprAt (suc n) s e → ExprAt n s e
    compare_e : {s t : List Name} {a b : Expr} {w : Name} {o : Operator} → ExprAt 1 s a → Infix 0 w o →
        ExprAt 1 t b → ExprAt 0 (s ++ (w ∷ t)) (apply (operate o) (and_e a (and_e b no_e)))
    cons_e : {s t : List Name} {a b : Expr} → ExprAt 2 s a → ExprAt 1 t b →
        ExprAt 1 (s ++ (double_colon ∷ t)) (apply make_pair (and_e a (and_e b no_e)))
    sum_e : {s t : List Name} {a b : Expr} {w : Name} {o : Operator} → ExprAt 2 s a → Infix 2 w o → ExprAt 3 t b →
        ExprAt 2 (s ++ (w ∷ t)) (apply (operate o) (and_e a (and_e b no_e)))
    product_e : {s t : List Name} {a b : Expr} {w : Name} {o : Operator} → ExprAt 3 s a → Infix 3 w o →
        ExprAt 4 t b → ExprAt 3 (s ++ (w ∷ t)) (apply (operate o) (and_e a (and_e b no_e)))
    int_e : {w : Name} {n : ℕ} → Number w n → ExprAt 4 (w ∷ []) (int n)
    atom_e : {x : Name} → T (is_atom x) → ExprAt 4 (quote ∷ x ∷ []) (atom x)
    var_e : {x : Name} → T (is_name x) → ExprAt 4 (x ∷ []) (var x)
    nil_e : ExprAt 4 (open_bracket ∷ close_bracket ∷ []) nil
    tuple_e : {s : List Name} {es : Exprs} → ExprsOf s es →
        ExprAt 4 (open_brace ∷ (s ++ (close_brace ∷ []))) (apply make_tuple es)
    brackets_e : {s : List Name} {e : Expr} → ExprAt 0 s e → ExprAt 4 (open_paren ∷ (s ++ (close_paren ∷ []))) e
    call_e : {f : Name} {s : List Name} {es : Exprs} → T (is_name f) → ExprsOf s es →
        ExprAt 4 (f ∷ open_paren ∷ (s ++ (close_paren ∷ []))) (apply (call f) es)
    far_e : {m f : Name} {s : List Name} {es : Exprs} → T (is_name m) → T (is_name f) → ExprsOf s es →
        ExprAt 4 (m ∷ colon ∷ f ∷ open_paren ∷ (s ++ (close_paren ∷ []))) (apply (far_call m f) es)
    spawn_e : {f : Name} {s : List Name} {es : Exprs} → T (is_name f) → ExprsOf s es →
        ExprAt 4 (k_spawn ∷ f ∷ open_paren ∷ (s ++ (close_paren ∷ []))) (apply (spawn f) es)
    spawn_far_e : {m f : Name} {s : List Name} {es : Exprs} → T (is_name m) → T (is_name f) → ExprsOf s es →
        ExprAt 4 (k_spawn ∷ m ∷ colon ∷ f ∷ open_paren ∷ (s ++ (close_paren ∷ []))) (apply (far_spawn m f) es)
    builtin_e : {w : Name} {s : List Name} {es : Exprs} {b : Builtin} {k : ℕ} → BuiltinWord w b k → ExprsOf s es →
        count es ≡ k → ExprAt 4 (w ∷ open_paren ∷ (s ++ (close_paren ∷ []))) (apply (built_in b) es)
    case_e : {s t : List Name} {e : Expr} {cs : Clauses} → ExprAt 0 s e → ClausesOf t cs →
        ExprAt 4 (k_case ∷ (s ++ (open_brace ∷ (t ++ (close_brace ∷ []))))) (case e cs)
    receive_e : {s : List Name} {cs : Clauses} → ClausesOf s cs →
        ExprAt 4 (k_receive ∷ open_brace ∷ (s ++ (close_brace ∷ []))) (receive cs)
    until_e : {s t u : List Name} {cs : Clauses} {e : Expr} {b : Body} → ClausesOf s cs → ExprAt 0 t e → BodyOf u b →
        ExprAt 4
        (k_receive ∷ open_brace ∷ (s ++ (close_brace ∷ k_until ∷ (t ++ (open_brace ∷ (u ++ (close_brace ∷ [])))))))
        (receive_until cs e b)
    catch_e : {s : List Name} {b : Body} → BodyOf s b →
        ExprAt 4 (k_catch ∷ open_brace ∷ (s ++ (close_brace ∷ []))) (catch b)

  pub data ExprsOf : List Name → Exprs → Type 0 where
    none_es : ExprsOf [] no_e
    one_es : {s : List Name} {e : Expr} → ExprAt 0 s e → ExprsOf s (and_e e no_e)
    more_es : {s t : List Name} {e f : Expr} {es : Exprs} → ExprAt 0 s e → ExprsOf t (and_e f es) →
        ExprsOf (s ++ (comma ∷ t)) (and_e e (and_e f es))

  -- e; .. drops a value, p = e; .. matches it, and the last is no p = e
  pub data BodyOf : List Name → Body → Type 0 where
    last_b : {s : List Name} {e : Expr} → ExprAt 0 s e → BodyOf s (last e)
    then_b : {s t : List Name} {e : Expr} {b : Body} → ExprAt 0 s e → BodyOf t b →
        BodyOf (s ++ (semicolon ∷ t)) (bind p_any e b)
    bind_b : {s t u : List Name} {p : Pattern} {e : Expr} {b : Body} → PatternAt 0 s p → ExprAt 0 t e → BodyOf u b →
        BodyOf (s ++ (equals ∷ (t ++ (semicolon ∷ u)))) (bind p e b)

  pub data ClausesOf : List Name → Clauses → Type 0 where
    no_cs : ClausesOf [] no_c
    more_cs : {s t u : List Name} {p : Pattern} {b : Body} {cs : Clauses} → PatternAt 0 s p → BodyOf t b →
        ClausesOf u cs → ClausesOf (s ++ (arrow ∷ open_brace ∷ (t ++ (close_brace ∷ u)))) (clause p b cs)

-- fn f(x, y) { body }
pub data FunctionOf : List Name → Function → Type 0 where
  function_x : {x : Name} {s t : List Name} {ps : List Name} {b : Body} → T (is_name x) → NamesOf s ps → BodyOf t b →
      FunctionOf (k_fn ∷ x ∷ open_paren ∷ (s ++ (close_paren ∷ open_brace ∷ (t ++ (close_brace ∷ [])))))
      (record { name = x; params = ps; body = b })

pub data FunctionsOf : List Name → List Function → Type 0 where
  no_f : FunctionsOf [] []
  more_f : {s t : List Name} {f : Function} {fs : List Function} → FunctionOf s f → FunctionsOf t fs →
      FunctionsOf (s ++ t) (f ∷ fs)

-- module m; functions; and the next module
pub data ModulesOf : List Name → Program → Type 0 where
  no_m : ModulesOf [] []
  more_m : {x : Name} {s t : List Name} {fs : List Function} {ms : Program} → T (is_name x) → FunctionsOf s fs →
      ModulesOf t ms → ModulesOf (k_module ∷ x ∷ semicolon ∷ (s ++ t)) (record { name = x; functions = fs } ∷ ms)

-- at most 48 brackets are open at once
abbrev pub opens : Name → Bool
opens w = same w open_paren || (same w open_bracket || same w open_brace)

abbrev pub closes : Name → Bool
closes w = same w close_paren || (same w close_bracket || same w close_brace)

abbrev pub shallow : ℕ → List Name → Bool
shallow n [] = true
shallow n (w ∷ ws) = leb n 48 && shallow (cond (opens w) (n + 1) (cond (closes w) (n - 1) n)) ws

-- the text t is the program g
pub record Reads (t : List ℕ) (g : Program) : Type 0 where
  pub said : ModulesOf (tokens gap t) g
  pub small : T (leb (length t) 32768 && shallow 0 (tokens gap t))
  pub sound : T (has_main g && sound_modules g)
