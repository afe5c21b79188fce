-- What one byte does to the reading of tokens. `fresh` looks at four tests of a byte; with their
-- outcomes known it computes. A word or a sign that a byte ends goes out before what the byte begins.
use Rattle.std.proofs.Common.{◌≡◌, ℕ, Bool, true, false, cond, eqb, List, [], ◌∷◌, ◌++◌, refl, ap, ◌∙◌, append_assoc}
use Rattle.meaning.specs.Basics.{Name}
use Rattle.meaning.specs.Tokens.{is_letter, is_blank, begins_sign, joins, Lexing, gap, word, sign, comment, Cut, cut, fresh, tokens}
use Rattle.tokens.specs.Cutting.{Skips, Begins}

-- what a cut and the text behind it give
abbrev pub goes_on : Cut → List ℕ → List Name
goes_on t rest = t.out ++ tokens t.then rest

-- `fresh` by the outcomes of its tests: a blank, a #, a letter, the begin of a sign
abbrev pub ways : List Name → ℕ → Bool → Bool → Bool → Bool → Cut
ways o c blank hash letter begins = cond blank (cut o gap)
    (cond hash (cut o comment) (cond letter (cut o (word (c ∷ [])))
    (cond begins (cut o (sign c)) (cut (o ++ ((c ∷ []) ∷ [])) gap))))

pub gap_cons : (c : ℕ) (rest : List ℕ) (blank hash letter begins : Bool) → is_blank c ≡ blank → eqb c 35 ≡ hash
    → is_letter c ≡ letter → begins_sign c ≡ begins
    → tokens gap (c ∷ rest) ≡ goes_on (ways [] c blank hash letter begins) rest
gap_cons c rest blank hash letter begins p q r s =
    ap (λ b. goes_on (ways [] c b (eqb c 35) (is_letter c) (begins_sign c)) rest) p
    ∙ (ap (λ b. goes_on (ways [] c blank b (is_letter c) (begins_sign c)) rest) q
    ∙ (ap (λ b. goes_on (ways [] c blank hash b (begins_sign c)) rest) r
    ∙ ap (λ b. goes_on (ways [] c blank hash letter b) rest) s))

-- what was completed before a byte goes out first
pub ways_out : (o : List Name) (c : ℕ) (rest : List ℕ) (blank hash letter begins : Bool)
    → goes_on (ways o c blank hash letter begins) rest ≡ o ++ goes_on (ways [] c blank hash letter begins) rest
ways_out o c rest true hash letter begins = refl
ways_out o c rest false true letter begins = refl
ways_out o c rest false false true begins = refl
ways_out o c rest false false false true = refl
ways_out o c rest false false false false = append_assoc o ((c ∷ []) ∷ []) (tokens gap rest)

pub fresh_out : (o : List Name) (c : ℕ) (rest : List ℕ) → goes_on (fresh o c) rest ≡ o ++ tokens gap (c ∷ rest)
fresh_out o c rest = ways_out o c rest (is_blank c) (eqb c 35) (is_letter c) (begins_sign c)

-- bytes between tokens and in comments
pub skips_append : (l m n : Lexing) (s t : List ℕ) → Skips l s m → Skips m t n → Skips l (s ++ t) n
skips_append l m n s t p q rest = ap (tokens l) (append_assoc s t rest) ∙ (p (t ++ rest) ∙ q rest)

pub blank_skips : (c : ℕ) → is_blank c ≡ true → Skips gap (c ∷ []) gap
blank_skips c p rest = gap_cons c rest true _ _ _ p refl refl refl

pub comment_begins : (c : ℕ) → is_blank c ≡ false → eqb c 35 ≡ true → Skips gap (c ∷ []) comment
comment_begins c p q rest = gap_cons c rest false true _ _ p q refl refl

pub comment_skips : (c : ℕ) → eqb c 10 ≡ false → Skips comment (c ∷ []) comment
comment_skips c p rest = ap (λ b. goes_on (cond b (cut [] gap) (cut [] comment)) rest) p

pub comment_ends : (c : ℕ) → eqb c 10 ≡ true → Skips comment (c ∷ []) gap
comment_ends c p rest = ap (λ b. goes_on (cond b (cut [] gap) (cut [] comment)) rest) p

-- bytes of words and signs
pub word_begins : (c : ℕ) (rest : List ℕ) → Begins c → is_letter c ≡ true
    → tokens gap (c ∷ rest) ≡ tokens (word (c ∷ [])) rest
word_begins c rest b r = gap_cons c rest false false true _ b.no_blank b.no_comment r refl

pub word_more : (w : Name) (c : ℕ) (rest : List ℕ) → is_letter c ≡ true
    → tokens (word w) (c ∷ rest) ≡ tokens (word (w ++ (c ∷ []))) rest
word_more w c rest r = ap (λ b. goes_on (cond b (cut [] (word (w ++ (c ∷ [])))) (fresh (w ∷ []) c)) rest) r

pub word_ends : (w : Name) (c : ℕ) (rest : List ℕ) → is_letter c ≡ false
    → tokens (word w) (c ∷ rest) ≡ w ∷ tokens gap (c ∷ rest)
word_ends w c rest r = ap (λ b. goes_on (cond b (cut [] (word (w ++ (c ∷ [])))) (fresh (w ∷ []) c)) rest) r
    ∙ fresh_out (w ∷ []) c rest

pub sign_begins : (c : ℕ) (rest : List ℕ) → Begins c → is_letter c ≡ false → begins_sign c ≡ true
    → tokens gap (c ∷ rest) ≡ tokens (sign c) rest
sign_begins c rest b r s = gap_cons c rest false false false true b.no_blank b.no_comment r s

pub sign_joins : (d c : ℕ) (rest : List ℕ) → joins d c ≡ true
    → tokens (sign d) (c ∷ rest) ≡ (d ∷ c ∷ []) ∷ tokens gap rest
sign_joins d c rest p = ap (λ b. goes_on (cond b (cut ((d ∷ c ∷ []) ∷ []) gap) (fresh ((d ∷ []) ∷ []) c)) rest) p

pub sign_alone : (d c : ℕ) (rest : List ℕ) → joins d c ≡ false
    → tokens (sign d) (c ∷ rest) ≡ (d ∷ []) ∷ tokens gap (c ∷ rest)
sign_alone d c rest p = ap (λ b. goes_on (cond b (cut ((d ∷ c ∷ []) ∷ []) gap) (fresh ((d ∷ []) ∷ []) c)) rest) p
    ∙ fresh_out ((d ∷ []) ∷ []) c rest

pub byte_alone : (c : ℕ) (rest : List ℕ) → Begins c → is_letter c ≡ false → begins_sign c ≡ false
    → tokens gap (c ∷ rest) ≡ (c ∷ []) ∷ tokens gap rest
byte_alone c rest b r s = gap_cons c rest false false false false b.no_blank b.no_comment r s
