-- What a token is spelled as, and what it is to cut a text at its first token.
use Rattle.std.specs.Prelude.{◌≡◌, ℕ, ◌+◌, ◌<◌, ◌≤◌, Bool, true, false, not, List, [], ◌∷◌, ◌++◌, length, take, drop, Some, None, codes, Option, ◌==◌, nat_eq, slice_index}
use Rattle.std.specs.List.{between, prefix_len}
use Rattle.meaning.specs.Basics.{Name}
use Rattle.meaning.specs.Grammar.{all_letters}
use Rattle.meaning.specs.Tokens.{is_letter, is_blank, joins, Lexing, gap, comment, tokens}
use Rattle.tokens.specs.declared.token.Lexeme.{Lexeme}
use Rattle.tokens.specs.declared.token.Sign.{Sign}
use Rattle.tokens.specs.declared.token.Sign.TheVariants.{Arrow, DoubleColon, Equal, Unequal, AtMost}
use Rattle.tokens.specs.declared.token.Token.{Token}
use Rattle.tokens.specs.declared.token.Token.TheVariants as token

abbrev pub sign_bytes : Sign → Name
sign_bytes Arrow = codes "->"
sign_bytes DoubleColon = codes "::"
sign_bytes Equal = codes "=="
sign_bytes Unequal = codes "!="
sign_bytes AtMost = codes "<="

-- the sign that two bytes make, or nothing where they make none
abbrev pub Makes : ℕ → ℕ → Option Sign → Type 0
Makes first second None = joins first second ≡ false
Makes first second (Some s) = (joins first second ≡ true) × (sign_bytes s ≡ first ∷ second ∷ [])

-- the bytes of a token
abbrev pub spelling : Token → Name
spelling (token.Word w) = w.now
spelling (token.Sign s) = sign_bytes s
spelling (token.Byte b) = b ∷ []

-- a byte that begins a token: no blank, and not the # that begins a comment
pub record Begins (c : ℕ) : Type 0 where
  pub no_blank : is_blank c ≡ false
  pub no_comment : nat_eq c 35 ≡ false

-- A token has its one form: a word is of letters, and a byte that stands alone is none.
abbrev pub Proper : Token → Type 0
Proper (token.Word w) = (0 < length w.now) × (all_letters w.now ≡ true)
Proper (token.Sign s) = Unit {0}
Proper (token.Byte b) = Begins b × (is_letter b ≡ false)

-- The bytes complete no token, and behind them reading goes on in another way.
abbrev pub Skips : Lexing → List ℕ → Lexing → Type 0
Skips m skipped n = (rest : List ℕ) → tokens m (skipped ++ rest) ≡ tokens n rest

-- the bytes that a comment goes on with: all but the line feed
abbrev pub stays_comment : ℕ → Bool
stays_comment c = not (c == 10)

-- behind the first line feed, which ends the comment in which `from` stands
pub record CommentEnds (text : List ℕ) (from to : ℕ) : Type 0 where
  pub skips : Skips comment (between from to text) gap
  pub first : to ≡ from + prefix_len stays_comment (drop from text) + 1
  pub within : to ≤ length text

-- no line feed ends the comment in which `from` stands, so no token follows
pub record CommentOpen (text : List ℕ) (from : ℕ) : Type 0 where
  pub endless : from + prefix_len stays_comment (drop from text) ≡ length text
  pub none : tokens comment (drop from text) ≡ []

-- where the first token of a text begins
pub record Starts (text : List ℕ) (at : ℕ) : Type 0 where
  pub skips : Skips gap (take at text) gap
  pub within : at < length text
  pub begins : Begins (slice_index text at)

-- the first two bytes of the text make the sign; or they make none
pub record Joined (text : List ℕ) (s : Sign) : Type 0 where
  pub two : 1 < length text
  pub join : joins (slice_index text 0) (slice_index text 1) ≡ true
  pub bytes : sign_bytes s ≡ slice_index text 0 ∷ slice_index text 1 ∷ []

abbrev pub Unjoined : List ℕ → Type 0
Unjoined text = 1 < length text → joins (slice_index text 0) (slice_index text 1) ≡ false

-- the text begins with the token, and the rest follows
pub record Leads (text : List ℕ) (t : Token) (rest : List ℕ) : Type 0 where
  pub place : text ≡ spelling t ++ rest
  pub cut : tokens gap text ≡ spelling t ∷ tokens gap rest
  pub proper : Proper t

-- The first token of the text stands behind the skipped bytes, which hold none, and the rest follows it.
pub record First (text : List ℕ) (l : Lexeme) : Type 0 where
  pub before : tokens gap (take l.skipped text) ≡ []
  pub place : text ≡ take l.skipped text ++ (spelling l.token ++ l.rest.now)
  pub cut : tokens gap text ≡ spelling l.token ∷ tokens gap l.rest.now
  pub proper : Proper l.token
  pub within : l.skipped < length text
  pub shorter : length l.rest.now < length text

-- the first token, or nothing where the text has none
abbrev pub Next : List ℕ → Option Lexeme → Type 0
Next text None = tokens gap text ≡ []
Next text (Some l) = First text l
