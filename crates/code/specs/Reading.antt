-- What a table of names has to have for a text: every word of its tokens that can be a name or an atom.
use Rattle.std.specs.Prelude.{ℕ, T, List, [], ◌∷◌}
use Rattle.meaning.specs.Basics.{Name}
use Rattle.meaning.specs.Syntax.{Program}
use Rattle.meaning.specs.Tokens.{gap, tokens}
use Rattle.meaning.specs.Grammar.{is_atom, Reads}
use Rattle.values.specs.Encoding.{Known}
use Rattle.code.specs.Program.{newest_first, FineDefinitions}

abbrev pub Knows : List Name → List Name → Type 0
Knows ns [] = Unit {0}
Knows ns (w ∷ ws) = (T (is_atom w) → Known ns w) × Knows ns ws

-- all functions of a program that was read have trees of their own
abbrev pub ReadsFine : Type 0
ReadsFine = (ns : List Name) (t : List ℕ) (g : Program) → Reads t g → Knows ns (tokens gap t) →
    FineDefinitions ns (newest_first g)
