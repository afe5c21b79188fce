-- What a token is to the grammar, where no quote stands before it.
use Rattle.std.specs.Prelude.{Bool, true, false, ◌&&◌, cond, List, [], ◌∷◌, ℕ, length, codes, leb}
use Rattle.std.proofs.Math.Option.{Option, none}
use Rattle.meaning.specs.Basics.{opt, Name, same}
use Rattle.meaning.specs.Syntax.{plus, minus, times, divide, modulo, equal, unequal, less, at_most, Builtin, send}
use Rattle.meaning.specs.Syntax.{self, link, exit, trap, show, register, whereis, swap, Operation, make_pair, operate}
use Rattle.meaning.specs.Grammar.{k_case, k_receive, k_catch, k_spawn, k_send, k_self, k_link, k_exit, k_trap, k_show}
use Rattle.meaning.specs.Grammar.{k_name, k_where, k_swap, underscore, open_paren, close_paren, open_bracket}
use Rattle.meaning.specs.Grammar.{open_brace, close_brace, comma, semicolon, equals, quote, arrow, double_colon}
use Rattle.meaning.specs.Grammar.{is_name, number_from}

-- the brackets that others stand between: ( ) and { }
pub data Bracket : Type 0 where
  paren : Bracket
  brace : Bracket

abbrev pub opening : Bracket → Name
opening paren = open_paren
opening brace = open_brace

abbrev pub closing : Bracket → Name
closing paren = close_paren
closing brace = close_brace

abbrev pub same_bracket : Bracket → Bracket → Bool
same_bracket paren paren = true
same_bracket paren brace = false
same_bracket brace paren = false
same_bracket brace brace = true

-- what begins an expression or a pattern: ' [ _ and the keywords case, receive, catch, spawn
pub data Starter : Type 0 where
  s_quote : Starter
  s_bracket : Starter
  s_underscore : Starter
  s_case : Starter
  s_receive : Starter
  s_catch : Starter
  s_spawn : Starter

-- what stands between two parts: , ; = ->
pub data Separator : Type 0 where
  s_comma : Separator
  s_semicolon : Separator
  s_equals : Separator
  s_arrow : Separator

pub data Class : Type 0 where
  c_number : ℕ → Class
  c_name : Name → Class
  -- c_operator t m o: what waits and binds at least as tightly as t is applied before it; itself it binds as m
  c_operator : ℕ → ℕ → Operation → Class
  c_open : Bracket → Class
  c_close : Bracket → Class
  c_builtin : Builtin → Class
  c_start : Starter → Class
  c_separate : Separator → Class
  -- no token, or one that stands only where no other can: ] : until module fn
  c_other : Class

pub record Entry : Type 0 where
  pub text : Name
  pub class : Class

abbrev pub entry : Name → Class → Entry
entry x c = record { text = x; class = c }

-- the tokens that are no numbers and no names.
-- A comparison (tightness 0) stands alone; :: (1) groups to the right, since a :: that waits is not applied before
-- the next; sums (2) and products (3) group to the left.
abbrev pub table : List Entry
table =
    entry (codes "==") (c_operator 1 0 (operate equal))
    ∷ entry (codes "!=") (c_operator 1 0 (operate unequal))
    ∷ entry (codes "<") (c_operator 1 0 (operate less))
    ∷ entry (codes "<=") (c_operator 1 0 (operate at_most))
    ∷ entry double_colon (c_operator 2 1 make_pair)
    ∷ entry (codes "+") (c_operator 2 2 (operate plus))
    ∷ entry (codes "-") (c_operator 2 2 (operate minus))
    ∷ entry (codes "*") (c_operator 3 3 (operate times))
    ∷ entry (codes "/") (c_operator 3 3 (operate divide))
    ∷ entry (codes "%") (c_operator 3 3 (operate modulo))
    ∷ entry open_paren (c_open paren)
    ∷ entry open_brace (c_open brace)
    ∷ entry close_paren (c_close paren)
    ∷ entry close_brace (c_close brace)
    ∷ entry comma (c_separate s_comma)
    ∷ entry semicolon (c_separate s_semicolon)
    ∷ entry equals (c_separate s_equals)
    ∷ entry arrow (c_separate s_arrow)
    ∷ entry quote (c_start s_quote)
    ∷ entry open_bracket (c_start s_bracket)
    ∷ entry underscore (c_start s_underscore)
    ∷ entry k_case (c_start s_case)
    ∷ entry k_receive (c_start s_receive)
    ∷ entry k_catch (c_start s_catch)
    ∷ entry k_spawn (c_start s_spawn)
    ∷ entry k_send (c_builtin send)
    ∷ entry k_self (c_builtin self)
    ∷ entry k_link (c_builtin link)
    ∷ entry k_exit (c_builtin exit)
    ∷ entry k_trap (c_builtin trap)
    ∷ entry k_show (c_builtin show)
    ∷ entry k_name (c_builtin register)
    ∷ entry k_where (c_builtin whereis)
    ∷ entry k_swap (c_builtin swap)
    ∷ []

abbrev pub class_in : List Entry → Name → Class
class_in [] w = c_other
class_in (x ∷ xs) w = cond (same w x.text) x.class (class_in xs w)

-- the number that a token is: 1 to 18 digits
abbrev pub number_of : Name → Option ℕ
number_of w = cond (leb 1 (length w) && leb (length w) 18) (number_from 0 w) none

abbrev pub class_of : Name → Class
class_of w = opt (number_of w) (cond (is_name w) (c_name w) (class_in table w)) c_number
