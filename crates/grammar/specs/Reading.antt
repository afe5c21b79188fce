-- From the bytes of a text to the program that it is, if it is one.
use Rattle.std.specs.Prelude.{Bool, ◌&&◌, cond, List, ℕ, length, leb}
use Rattle.std.proofs.Math.Option.{Option, some, none}
use Rattle.meaning.specs.Basics.{on_some}
use Rattle.meaning.specs.Syntax.{Program}
use Rattle.meaning.specs.Tokens.{gap, tokens}
use Rattle.meaning.specs.Bound.{has_main, sound_modules}
use Rattle.meaning.specs.Grammar.{shallow}
use Rattle.grammar.specs.Machine.{parse}

-- the size of a text, and how deep its brackets go
abbrev pub within_limits : List ℕ → Bool
within_limits t = leb (length t) 32768 && shallow 0 (tokens gap t)

-- every name is bound, no two functions are alike, and main is there
abbrev pub checked : Program → Option Program
checked g = cond (has_main g && sound_modules g) (some g) none

-- the program that a text is, if it is one
abbrev pub read : List ℕ → Option Program
read t = cond (within_limits t) (on_some (parse (tokens gap t)) checked) none
