-- The names of a text, each once: the atoms that the language itself uses, which have fixed numbers, and then the words of
-- the text that can be a name or an atom, in the order in which they come first.
use Rattle.std.specs.Prelude.{◌≡◌, ℕ, ◌+◌, ◌*◌, ◌<◌, ◌≤◌, cond, not, ◌&&◌, List, [], ◌∷◌, ◌++◌, length}
use Rattle.std.specs.List.{AllByRecursion}
use Rattle.meaning.specs.Atoms.{a_type, a_match, a_clause, a_zero, a_big, a_undef, a_normal, a_old, a_gone, a_ok, a_error, a_exit, a_none, a_true, a_false, a_main}
use Rattle.meaning.specs.Basics.{Name, listed}
use Rattle.meaning.specs.Grammar.{is_atom}
use Rattle.meaning.specs.Tokens.{gap, tokens}
use Rattle.values.specs.Encoding.{index_of, Known}
use Rattle.code.specs.Reading.{Knows}

-- the atoms of the language, in the order of their numbers
unfoldable pub own_atoms : List Name
own_atoms = a_type ∷ a_match ∷ a_clause ∷ a_zero ∷ a_big ∷ a_undef ∷ a_normal ∷ a_old ∷ a_gone ∷ a_ok ∷ a_error ∷ a_exit
    ∷ a_none ∷ a_true ∷ a_false ∷ a_main ∷ []

-- a word that can be an atom goes to the end, unless it is there
abbrev pub with_word : List Name → Name → List Name
with_word ns w = cond (is_atom w && not (listed w ns)) (ns ++ (w ∷ [])) ns

abbrev pub with_words : List Name → List Name → List Name
with_words ns [] = ns
with_words ns (w ∷ ws) = with_words (with_word ns w) ws

-- the names of a text
abbrev pub names_of : List ℕ → List Name
names_of text = with_words own_atoms (tokens gap text)

-- no name stands twice
abbrev pub Distinct : List Name → Type 0
Distinct [] = Unit {0}
Distinct (x ∷ xs) = (Known xs x → ⊥) × Distinct xs

-- the numbers of the atoms of the language
pub record OwnNumbers (ns : List Name) : Type 0 where
  pub type_is : index_of ns a_type ≡ 0
  pub match_is : index_of ns a_match ≡ 1
  pub clause_is : index_of ns a_clause ≡ 2
  pub zero_is : index_of ns a_zero ≡ 3
  pub big_is : index_of ns a_big ≡ 4
  pub undef_is : index_of ns a_undef ≡ 5
  pub normal_is : index_of ns a_normal ≡ 6
  pub old_is : index_of ns a_old ≡ 7
  pub gone_is : index_of ns a_gone ≡ 8
  pub ok_is : index_of ns a_ok ≡ 9
  pub error_is : index_of ns a_error ≡ 10
  pub exit_is : index_of ns a_exit ≡ 11
  pub none_is : index_of ns a_none ≡ 12
  pub true_is : index_of ns a_true ≡ 13
  pub false_is : index_of ns a_false ≡ 14
  pub main_is : index_of ns a_main ≡ 15

-- What is proved of the names of every text.
pub record NamesOf (text : List ℕ) : Type 0 where
  -- every word of the text that can be a name or an atom is there
  pub knows : Knows (names_of text) (tokens gap text)
  pub own_known : AllByRecursion (Known (names_of text)) own_atoms
  pub own_numbers : OwnNumbers (names_of text)
  pub distinct : Distinct (names_of text)
  pub least : 16 ≤ length (names_of text)
  -- a name for each two bytes and one more, at most
  pub most : 2 * length (names_of text) ≤ 33 + length text

abbrev pub NamesStand : Type 0
NamesStand = (text : List ℕ) → NamesOf text

-- the number of a name is below the number of names
abbrev pub IndexBelow : Type 0
IndexBelow = (ns : List Name) (w : Name) → Known ns w → index_of ns w < length ns
