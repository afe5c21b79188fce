-- What the program answers: a line for each token where that is asked, and how many tokens there are.
use Rattle.std.specs.Prelude.{◌≡◌, ℕ, Bool, cond, ◌&&◌, List, [], ◌∷◌, ◌++◌, length, take, codes, decimal, ◌==◌, nat_le}
use Rattle.meaning.specs.Tokens.{tokens, gap}
use Rattle.tokens.specs.declared.token.Lexeme.{Lexeme}
use Rattle.tokens.specs.declared.token.Token.{Token}
use Rattle.tokens.specs.declared.token.Token.TheVariants as token
use Rattle.tokens.specs.Cutting.{spelling, sign_bytes, First}
use Rattle.tokens.specs.Position.{Behind}
use Rattle.checker.specs.declared.options.Detail.{Detail}
use Rattle.checker.specs.declared.options.Detail.TheVariants as detail

-- the bytes that can be shown as they are
abbrev pub is_printable : ℕ → Bool
is_printable b = nat_le 33 b && nat_le b 126

-- a byte that stands alone, by its number where it cannot be shown
abbrev pub described_byte : ℕ → List ℕ
described_byte b = cond (is_printable b) (codes "sign " ++ (b ∷ [])) (codes "byte " ++ decimal b)

-- a token's kind and its bytes
abbrev pub described : Token → List ℕ
described (token.Word w) = codes "word " ++ w.now
described (token.Sign s) = codes "sign " ++ sign_bytes s
described (token.Byte b) = described_byte b

-- as 3:14 word receive
abbrev pub token_line : ℕ → ℕ → Token → List ℕ
token_line line column t = decimal line ++ (codes ":" ++ (decimal column ++ (codes " " ++ (described t ++ (10 ∷ [])))))

-- The lines list the tokens of a text that follows the bytes before: each token with the position of its first byte.
pub data Lists : List ℕ → List ℕ → List ℕ → Type 0 where
  no_more : {before text : List ℕ} → tokens gap text ≡ [] → Lists before text []
  one_more : {before text lines : List ℕ} {line column : ℕ} (l : Lexeme) → First text l
      → Behind (before ++ take l.skipped text) line column
      → Lists (before ++ (take l.skipped text ++ spelling l.token)) l.rest.now lines
      → Lists before text (token_line line column l.token ++ lines)

-- as 7 tokens
abbrev pub total_line : ℕ → List ℕ
total_line n = decimal n ++ cond (n == 1) (codes " token" ++ (10 ∷ [])) (codes " tokens" ++ (10 ∷ []))

-- the whole answer
abbrev pub Reports : Detail → List ℕ → List ℕ → Type 0
Reports detail.Count text answer = answer ≡ total_line (length (tokens gap text))
Reports detail.Tokens text answer = (lines : List ℕ) × Lists [] text lines
    × (answer ≡ lines ++ total_line (length (tokens gap text)))
