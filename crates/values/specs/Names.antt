-- A table of names, as printing reads it.
use Rattle.std.specs.Prelude.{ℕ, List, [], slice_index_or}
use Rattle.meaning.specs.Basics.{Name}

-- the name of a number, and no byte where the table has none
abbrev pub name_at : List Name → ℕ → Name
name_at ns i = slice_index_or ns i []
