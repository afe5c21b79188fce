-- What the classes of the code stand for in the grammar.
use Rattle.std.specs.Prelude.{◌≡◌, ℕ, true, false, List, Some, None, Option}
use Rattle.std.proofs.Math.Option.{Option as Optional, some, none}
use Rattle.meaning.specs.Basics.{Name, listed}
use Rattle.meaning.specs.Syntax as syntax
use Rattle.meaning.specs.Grammar.{keywords, all_letters}
use Rattle.grammar.specs.Classes as grammar
use Rattle.grammar.specs.Classes.{class_of}
use Rattle.code.specs.Operation.{operator_of, builtin_of}
use Rattle.code.specs.declared.operation.Operator.{Operator}
use Rattle.code.specs.declared.operation.Operator.TheVariants.{Equal, Unequal, Less, AtMost}
use Rattle.code.specs.declared.operation.Operator.TheVariants.{Plus, Minus, Times, Divide, Modulo}
use Rattle.reader.specs.declared.class.Class.{Class}
use Rattle.reader.specs.declared.class.Class.TheVariants as class
use Rattle.reader.specs.declared.class.Bracket.{Bracket}
use Rattle.reader.specs.declared.class.Bracket.TheVariants.{Paren, Brace}
use Rattle.reader.specs.declared.class.Starter.{Starter}
use Rattle.reader.specs.declared.class.Starter.TheVariants as starter
use Rattle.reader.specs.declared.class.Separator.{Separator}
use Rattle.reader.specs.declared.class.Separator.TheVariants.{Comma, Semicolon, Equals, Arrow}

abbrev pub option_means : Option ℕ → Optional ℕ
option_means None = none
option_means (Some n) = some n

abbrev pub bracket_means : Bracket → grammar.Bracket
bracket_means Paren = grammar.paren
bracket_means Brace = grammar.brace

-- how tightly an operator binds, whatever it does
abbrev pub tightness : Operator → syntax.Operation → grammar.Class
tightness Equal = grammar.c_operator 1 0
tightness Unequal = grammar.c_operator 1 0
tightness Less = grammar.c_operator 1 0
tightness AtMost = grammar.c_operator 1 0
tightness Plus = grammar.c_operator 2 2
tightness Minus = grammar.c_operator 2 2
tightness Times = grammar.c_operator 3 3
tightness Divide = grammar.c_operator 3 3
tightness Modulo = grammar.c_operator 3 3

-- how tightly an operator binds, and which operation it is
abbrev pub operator_means : Operator → grammar.Class
operator_means o = tightness o (syntax.operate (operator_of o))

abbrev pub starter_means : Starter → grammar.Starter
starter_means starter.Quote = grammar.s_quote
starter_means starter.Bracket = grammar.s_bracket
starter_means starter.Underscore = grammar.s_underscore
starter_means starter.Case = grammar.s_case
starter_means starter.Receive = grammar.s_receive
starter_means starter.Catch = grammar.s_catch
starter_means starter.Spawn = grammar.s_spawn

abbrev pub separator_means : Separator → grammar.Separator
separator_means Comma = grammar.s_comma
separator_means Semicolon = grammar.s_semicolon
separator_means Equals = grammar.s_equals
separator_means Arrow = grammar.s_arrow

-- the class of the word w
abbrev pub class_means : Class → Name → grammar.Class
class_means (class.Number n) w = grammar.c_number n
class_means class.Name w = grammar.c_name w
class_means (class.Operator o) w = operator_means o
class_means class.Cons w = grammar.c_operator 2 1 syntax.make_pair
class_means (class.Open b) w = grammar.c_open (bracket_means b)
class_means (class.Close b) w = grammar.c_close (bracket_means b)
class_means (class.Builtin f) w = grammar.c_builtin (builtin_of f)
class_means (class.Start s) w = grammar.c_start (starter_means s)
class_means (class.Separate s) w = grammar.c_separate (separator_means s)
class_means class.Other w = grammar.c_other

-- r is the class of the word
pub record Classified (w : Name) (r : Class) : Type 0 where
  pub class : class_means r w ≡ class_of w

-- r is the class of the word, if it is a word of letters
abbrev pub ClassifiedWord : Name → Class → Type 0
ClassifiedWord w r = all_letters w ≡ true → Classified w r

-- r is the class of the word, if it is a word of letters and no keyword
abbrev pub ClassifiedFree : Name → Class → Type 0
ClassifiedFree w r = all_letters w ≡ true → listed w keywords ≡ false → Classified w r

-- r is the class of the word; or the word is none of these keywords
abbrev pub Reserved : List Name → Name → Option Class → Type 0
Reserved ks w None = listed w ks ≡ false
Reserved ks w (Some r) = Classified w r
