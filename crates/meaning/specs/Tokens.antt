-- From bytes to tokens: words of letters, digits and _; the signs -> :: == != <=; all other bytes one by one.
-- Blanks, tabs, CR and LF only part tokens, and # begins a comment that goes to the end of the line.
use Rattle.std.specs.Prelude.{Bool, ◌&&◌, ◌||◌, cond, List, [], ◌∷◌, ◌++◌, ℕ, eqb, leb}
use Rattle.meaning.specs.Basics.{Name}

abbrev pub is_digit : ℕ → Bool
is_digit c = leb 48 c && leb c 57

-- a letter, a digit or _
abbrev pub is_letter : ℕ → Bool
is_letter c = (leb 97 c && leb c 122) || ((leb 65 c && leb c 90) || (eqb c 95 || is_digit c))

abbrev pub is_blank : ℕ → Bool
is_blank c = eqb c 32 || (eqb c 10 || (eqb c 13 || eqb c 9))

-- the bytes that may begin a sign of two: - : = ! <
abbrev pub begins_sign : ℕ → Bool
begins_sign c = eqb c 45 || (eqb c 58 || (eqb c 61 || (eqb c 33 || eqb c 60)))

-- do the two bytes make one sign
abbrev pub joins : ℕ → ℕ → Bool
joins d c = (eqb d 45 && eqb c 62) || ((eqb d 58 && eqb c 58) || (eqb c 61 && (eqb d 61 || (eqb d 33 || eqb d 60))))

-- between tokens; in a word; after a byte that may begin a sign; in a comment
pub data Lexing : Type 0 where
  gap : Lexing
  word : Name → Lexing
  sign : ℕ → Lexing
  comment : Lexing

-- the tokens that a byte completes, and how reading goes on
pub record Cut : Type 0 where
  pub out : List Name
  pub then : Lexing

abbrev pub cut : List Name → Lexing → Cut
cut o m = record { out = o; then = m }

-- a byte where no token is open; o is what it completed
abbrev pub fresh : List Name → ℕ → Cut
fresh o c = cond (is_blank c) (cut o gap)
    (cond (eqb c 35) (cut o comment)
    (cond (is_letter c) (cut o (word (c ∷ [])))
    (cond (begins_sign c) (cut o (sign c)) (cut (o ++ ((c ∷ []) ∷ [])) gap))))

abbrev pub next_byte : Lexing → ℕ → Cut
next_byte gap c = fresh [] c
next_byte (word w) c = cond (is_letter c) (cut [] (word (w ++ (c ∷ [])))) (fresh (w ∷ []) c)
next_byte (sign d) c = cond (joins d c) (cut ((d ∷ c ∷ []) ∷ []) gap) (fresh ((d ∷ []) ∷ []) c)
next_byte comment c = cond (eqb c 10) (cut [] gap) (cut [] comment)

abbrev pub last_token : Lexing → List Name
last_token gap = []
last_token (word w) = w ∷ []
last_token (sign d) = (d ∷ []) ∷ []
last_token comment = []

-- the tokens of a text, from gap on
abbrev pub tokens : Lexing → List ℕ → List Name
tokens m [] = last_token m
tokens m (c ∷ cs) = let t = next_byte m c in t.out ++ tokens t.then cs
