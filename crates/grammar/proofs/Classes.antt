-- What the class of a token tells of it, and which class a token of the grammar has.
-- The table is checked entry by entry; from the class that a token has then follows which token it is.
use mathlib.Core.Path.{◌≡◌, refl, sym, ap, subst, ◌∙◌}
use mathlib.Core.Bool.{Bool, true, false, ◌&&◌, ◌||◌, not, cond}
use mathlib.Core.List.{List, [], ◌∷◌}
use mathlib.Core.Option.{some, none}
use Prim.Native.Nat.{ℕ, zero, suc, ◌+◌, ◌-◌, ◌*◌}
use lib.ListN.{length}
use lib.Dec.{eqb, leb, T, eqb→eq}
use Rattle.meaning.specs.Basics.{opt, Name, same, listed}
use Rattle.meaning.specs.Syntax.{Operator, Builtin, exit, Operation, make_pair, operate}
use Rattle.meaning.specs.Tokens.{is_digit}
use Rattle.meaning.specs.Grammar.{keywords, k_case, k_receive, k_catch, k_spawn, k_exit, underscore, open_bracket}
use Rattle.meaning.specs.Grammar.{comma, semicolon, equals, quote, arrow, double_colon, all_letters, digit_first}
use Rattle.meaning.specs.Grammar.{is_name, is_atom, number_from, Number, Infix, plus_sign, minus_sign, times_sign}
use Rattle.meaning.specs.Grammar.{divide_sign, modulo_sign, equal_sign, unequal_sign, less_sign, at_most_sign}
use Rattle.meaning.specs.Grammar.{BuiltinWord, send_word, self_word, link_word, exit_word, exit_to_word, trap_word}
use Rattle.meaning.specs.Grammar.{show_word, name_word, where_word, swap_word}
use Rattle.grammar.specs.Classes.{Bracket, paren, brace, opening, closing, Starter, s_quote, s_bracket, s_underscore}
use Rattle.grammar.specs.Classes.{s_case, s_receive, s_catch, s_spawn, Separator, s_comma, s_semicolon, s_equals}
use Rattle.grammar.specs.Classes.{s_arrow, Class, c_number, c_name, c_operator, c_open, c_close, c_builtin, c_start}
use Rattle.grammar.specs.Classes.{c_separate, c_other, Entry, table, class_in, number_of, class_of}
use Rattle.grammar.specs.Expressions.{takes}
use Rattle.grammar.specs.LookAhead.{landmark, l_none}
use Rattle.std.proofs.lemmas.Bool.{cond_both}
use Rattle.meaning.proofs.Splits.{T_of, is_true, is_false, and_T, opt_all, bool_all, none_some, same_is}

-- what holds of one token and not of another tells them apart
pub differ : (P : Name → Type 0) (x y : Name) → P x → (P y → ⊥) → same x y ≡ false
differ P x y h q = is_false (same x y) (λ e. q (subst P (same_is x y e) h))

-- numbers and names
pub class_number : (w : Name) (n : ℕ) → Number w n → class_of w ≡ c_number n
class_number w n h =
    let e : number_of w ≡ some n =
    ap (λ b. cond b (number_from 0 w) none) (is_true (leb 1 (length w) && leb (length w) 18) h.0) ∙ h.1 in
    ap (λ o. opt o (cond (is_name w) (c_name w) (class_in table w)) c_number) e

pub no_number : (w : Name) → T (not (digit_first w)) → number_of w ≡ none
no_number [] h = absurd h
no_number (c ∷ cs) h =
    cond_both (leb 1 (length (c ∷ cs)) && leb (length (c ∷ cs)) 18) (number_from 0 (c ∷ cs)) none (λ o. o ≡ none)
    (λ e. ap (λ b. cond b (number_from (0 * 10 + (c - 48)) cs) none) (not-true (is_digit c) h)) (λ e. refl)
  where
    not-true : (b : Bool) → T (not b) → b ≡ false
    not-true true q = absurd q
    not-true false q = refl

-- a name has no digit first, and an atom has letters only
pub name_no_digit : (w : Name) → T (is_name w) → T (not (digit_first w))
name_no_digit w h =
    let short =
    and_T (leb 1 (length w))
    (leb (length w) 32 && (all_letters w && (not (digit_first w) && not (listed w keywords)))) h in
    let plain =
    and_T (leb (length w) 32) (all_letters w && (not (digit_first w) && not (listed w keywords))) short.1 in
    let word = and_T (all_letters w) (not (digit_first w) && not (listed w keywords)) plain.1 in
    (and_T (not (digit_first w)) (not (listed w keywords)) word.1).0

pub atom_letters : (w : Name) → T (is_atom w) → T (all_letters w)
atom_letters w h =
    let short = and_T (leb 1 (length w)) (leb (length w) 32 && (all_letters w && not (digit_first w))) h in
    let plain = and_T (leb (length w) 32) (all_letters w && not (digit_first w)) short.1 in
    (and_T (all_letters w) (not (digit_first w)) plain.1).0

pub class_name : (w : Name) → T (is_name w) → class_of w ≡ c_name w
class_name w h =
    ap (λ o. opt o (cond (is_name w) (c_name w) (class_in table w)) c_number) (no_number w (name_no_digit w h))
    ∙ ap (λ b. cond b (c_name w) (class_in table w)) (is_true (is_name w) h)

-- an operator between operands: how tightly it binds, its token, what it does
pub data Joins : ℕ → Name → Operation → Type 0 where
  comparison : {w : Name} {o : Operator} → Infix 0 w o → Joins 0 w (operate o)
  pairing : Joins 1 double_colon make_pair
  sum : {w : Name} {o : Operator} → Infix 2 w o → Joins 2 w (operate o)
  product : {w : Name} {o : Operator} → Infix 3 w o → Joins 3 w (operate o)

-- the levels of its operands
abbrev pub left_level : ℕ → ℕ
left_level zero = 1
left_level (suc zero) = 2
left_level (suc (suc n)) = suc (suc n)

abbrev pub right_level : ℕ → ℕ
right_level zero = 1
right_level (suc zero) = 1
right_level (suc (suc n)) = suc (suc (suc n))

abbrev pub starter : Starter → Name
starter s_quote = quote
starter s_bracket = open_bracket
starter s_underscore = underscore
starter s_case = k_case
starter s_receive = k_receive
starter s_catch = k_catch
starter s_spawn = k_spawn

abbrev pub separator : Separator → Name
separator s_comma = comma
separator s_semicolon = semicolon
separator s_equals = equals
separator s_arrow = arrow

-- what its class tells of a token
abbrev pub Tells : Name → Class → Type 0
Tells w (c_number n) = Number w n
Tells w (c_name x) = (x ≡ w) × T (is_name w)
Tells w (c_operator t m o) = (t ≡ left_level m) × Joins m w o
Tells w (c_open b) = w ≡ opening b
Tells w (c_close b) = w ≡ closing b
Tells w (c_builtin f) = (n : ℕ) → T (takes f n) → BuiltinWord w f n
Tells w (c_start s) = w ≡ starter s
Tells w (c_separate s) = w ≡ separator s
Tells w c_other = Unit {0}

infixr 5 ◌also◌
-- what the classes tell holds of each entry
pub data AllTell : List Entry → Type 0 where
  no_more : AllTell []
  ◌also◌ : {x : Entry} {xs : List Entry} → Tells x.text x.class → AllTell xs → AllTell (x ∷ xs)

pub class_in_tells : {xs : List Entry} → AllTell xs → (w : Name) → Tells w (class_in xs w)
class_in_tells no_more w = tt
class_in_tells (◌also◌ {x = x} {xs = xs} h hs) w =
    cond_both (same w x.text) x.class (class_in xs w) (Tells w)
    (λ e. subst (λ y. Tells y x.class) (sym (same_is w x.text (T_of e))) h) (λ e. class_in_tells hs w)

pub takes_only : {w : Name} {f : Builtin} (m : ℕ) → BuiltinWord w f m → (n : ℕ) → T (eqb n m) → BuiltinWord w f n
takes_only {w} {f} m p n h = subst (λ z. BuiltinWord w f z) (sym (eqb→eq n m h)) p

pub exit_takes : (n : ℕ) → T (eqb n 1 || eqb n 2) → BuiltinWord k_exit exit n
exit_takes n =
    bool_all (λ b. T (b || eqb n 2) → BuiltinWord k_exit exit n) (eqb n 1)
    (λ e h. takes_only 1 exit_word n (T_of e)) (λ e h. takes_only 2 exit_to_word n h)

-- in the table's order: operators; brackets, separators and starters; built-in functions
pub table_tells : AllTell table
table_tells =
    (refl, comparison equal_sign) also (refl, comparison unequal_sign)
    also (refl, comparison less_sign) also (refl, comparison at_most_sign)
    also (refl, pairing)
    also (refl, sum plus_sign) also (refl, sum minus_sign)
    also (refl, product times_sign) also (refl, product divide_sign) also (refl, product modulo_sign)
    also refl also refl also refl also refl
    also refl also refl also refl also refl
    also refl also refl also refl also refl also refl also refl also refl
    also takes_only 2 send_word also takes_only 0 self_word also takes_only 1 link_word also exit_takes
    also takes_only 1 trap_word also takes_only 1 show_word also takes_only 1 name_word
    also takes_only 1 where_word also takes_only 1 swap_word
    also no_more

pub class_tells : (w : Name) → Tells w (class_of w)
class_tells w =
    opt_all (Tells w) (number_of w) (cond (is_name w) (c_name w) (class_in table w)) c_number
    (λ e. cond_both (is_name w) (c_name w) (class_in table w) (Tells w) (λ h. (refl, T_of h))
    (λ h. class_in_tells table_tells w))
    (λ n e. is_number n (leb 1 (length w) && leb (length w) 18) refl e)
  where
    is_number :
        (n : ℕ) (b : Bool) → (leb 1 (length w) && leb (length w) 18) ≡ b → cond b (number_from 0 w) none ≡ some n →
        Number w n
    is_number n true h e = (T_of h, e)
    is_number n false h e = absurd (none_some e)

-- the classes of the operators and of the built-in functions
pub class_comparison : {w : Name} {o : Operator} → Infix 0 w o → class_of w ≡ c_operator 1 0 (operate o)
class_comparison equal_sign = refl
class_comparison unequal_sign = refl
class_comparison less_sign = refl
class_comparison at_most_sign = refl

pub class_sum : {w : Name} {o : Operator} → Infix 2 w o → class_of w ≡ c_operator 2 2 (operate o)
class_sum plus_sign = refl
class_sum minus_sign = refl

pub class_product : {w : Name} {o : Operator} → Infix 3 w o → class_of w ≡ c_operator 3 3 (operate o)
class_product times_sign = refl
class_product divide_sign = refl
class_product modulo_sign = refl

pub class_builtin : {w : Name} {f : Builtin} {n : ℕ} → BuiltinWord w f n → class_of w ≡ c_builtin f
class_builtin send_word = refl
class_builtin self_word = refl
class_builtin link_word = refl
class_builtin exit_word = refl
class_builtin exit_to_word = refl
class_builtin trap_word = refl
class_builtin show_word = refl
class_builtin name_word = refl
class_builtin where_word = refl
class_builtin swap_word = refl

pub builtin_takes : {w : Name} {f : Builtin} {n : ℕ} → BuiltinWord w f n → T (takes f n)
builtin_takes send_word = tt
builtin_takes self_word = tt
builtin_takes link_word = tt
builtin_takes exit_word = tt
builtin_takes exit_to_word = tt
builtin_takes trap_word = tt
builtin_takes show_word = tt
builtin_takes name_word = tt
builtin_takes where_word = tt
builtin_takes swap_word = tt

-- a word of letters is no bracket and no separator
pub letters_none : (x : Name) → T (all_letters x) → landmark (class_of x) ≡ l_none
letters_none x h = way (class_of x) (class_tells x)
  where
    opening_no : (b : Bracket) → T (all_letters (opening b)) → ⊥
    opening_no paren q = q
    opening_no brace q = q

    closing_no : (b : Bracket) → T (all_letters (closing b)) → ⊥
    closing_no paren q = q
    closing_no brace q = q

    way : (c : Class) → Tells x c → landmark c ≡ l_none
    way (c_number n) q = refl
    way (c_name y) q = refl
    way (c_operator t m o) q = refl
    way (c_open b) q = absurd (opening_no b (subst (λ z. T (all_letters z)) q h))
    way (c_close b) q = absurd (closing_no b (subst (λ z. T (all_letters z)) q h))
    way (c_builtin f) q = refl
    way (c_start s) q = refl
    way (c_separate s_comma) q = refl
    way (c_separate s_semicolon) q = absurd (subst (λ z. T (all_letters z)) q h)
    way (c_separate s_equals) q = absurd (subst (λ z. T (all_letters z)) q h)
    way (c_separate s_arrow) q = refl
    way c_other q = refl
