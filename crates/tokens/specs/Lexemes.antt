-- The tokens of a text, one after another: each is the first of the text that the one before it left.
use Rattle.std.specs.Prelude.{◌≡◌, List, length, [], MatchOption, Option, ℕ}
use Rattle.std.specs.Iterator.{Count, at_most}
use Rattle.tokens.specs.declared.lexemes.Lexemes.{Lexemes}
use Rattle.tokens.specs.declared.token.Lexeme.{Lexeme}
use Rattle.tokens.specs.Cutting.{First}
use Rattle.meaning.specs.Tokens.{tokens, gap}

-- the text whose tokens are still to come
abbrev pub text_left : Lexemes → List ℕ
text_left s = s.rest.now

-- each token has a byte of its own
abbrev pub bytes_left : Lexemes → Count
bytes_left s = at_most (length (text_left s))

-- the first token of the text that is left, and what follows it is left then; nothing where no token is left
abbrev pub CutsNext : Lexemes → Option Lexeme → Lexemes → Type 0
CutsNext s r t = MatchOption r ((tokens gap (text_left s) ≡ []) × (text_left t ≡ text_left s))
    (λ l. First (text_left s) l × (text_left t ≡ l.rest.now))
