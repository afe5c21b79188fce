-- The pieces of a text, and the bytes of each.
use Rattle.std.specs.Prelude.{ℕ, List, [], ◌∷◌, ◌++◌, replicate, min, pos}
use Rattle.meaning.specs.Basics.{Name}
use Rattle.meaning.specs.Values.{decimal}
use Rattle.values.specs.Names.{name_at}
use Rattle.values.specs.declared.piece.Piece.{Piece}
use Rattle.values.specs.declared.piece.Piece.TheVariants.{Sign, Signs, Closing, Number, Atom, Worker}

-- the brackets that close n pairs
abbrev pub closed : ℕ → List ℕ
closed n = replicate n 93

abbrev pub worker_text : ℕ → List ℕ
worker_text n = 60 ∷ (decimal (pos n) ++ (62 ∷ []))

abbrev pub piece_text : List Name → Piece → List ℕ
piece_text ns (Sign a) = a ∷ []
piece_text ns (Signs a b) = a ∷ b ∷ []
piece_text ns (Closing n) = closed (min n 22)
piece_text ns (Number z) = decimal z
piece_text ns (Atom a) = name_at ns a.0
piece_text ns (Worker w) = worker_text w.0
