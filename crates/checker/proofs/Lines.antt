-- What is listed so far is completed by whatever lists the rest. One more token moves its line to the front of the
-- rest's lines, and the position on by what the token took.
use Rattle.std.proofs.Common.{◌≡◌, ℕ, ◌+◌, ◌-◌, List, [], ◌++◌, length, take, sym, ap, ◌∙◌, subst, append_assoc, append-nil, arith}
use Rattle.std.proofs.lemmas.List.{take_at, length-append}
use Rattle.meaning.specs.Tokens.{tokens, gap}
use Rattle.tokens.specs.declared.token.Lexeme.{Lexeme}
use Rattle.tokens.specs.Cutting.{spelling, First}
use Rattle.tokens.specs.Position.{Behind, Passes}
use Rattle.checker.specs.Listing.{Lists, no_more, one_more, token_line}

abbrev pub Listed : List ℕ → List ℕ → List ℕ → ℕ → ℕ → Type 0
Listed text done rest line column = (before : List ℕ) × Behind before line column
    × ((lines : List ℕ) → Lists before rest lines → Lists [] text (done ++ lines))

-- what a token and the bytes before it take of a text
pub taken : (t : List ℕ) (l : Lexeme) → First t l
    → take (length t - length l.rest.now) t ≡ take l.skipped t ++ spelling l.token
taken t l f =
    let front = take l.skipped t ++ spelling l.token in
    let whole : t ≡ front ++ l.rest.now =
    f.place ∙ sym (append_assoc (take l.skipped t) (spelling l.token) l.rest.now) in
    let long : length t ≡ length front + length l.rest.now = ap length whole ∙ length-append front l.rest.now in
    ap (λ s. take (length t - length l.rest.now) s) whole
    ∙ take_at front l.rest.now (length t - length l.rest.now) (omega (arith, long))

-- one more token: `skipped` stands before it, `used` is what it took, and reading goes on at the place behind that
module _ (text done rest : List ℕ) (l : Lexeme) (line column : ℕ) (f : First rest l) where
  pub listed_more : (done' skipped used : List ℕ) (start-line start-column line' column' : ℕ)
      → Listed text done rest line column → skipped ≡ take l.skipped rest
      → Passes line column skipped start-line start-column
      → done' ≡ done ++ token_line start-line start-column l.token
      → used ≡ take (length rest - length l.rest.now) rest
      → Passes line column used line' column'
      → Listed text done' l.rest.now line' column'
  listed_more done' skipped used start-line start-column line' column' (before, b, completes) skipped-is starts
      done-is used-is ends =
      let entry = token_line start-line start-column l.token in
      let Start : List ℕ → Type 0 = λ s. Behind (before ++ s) start-line start-column in
      let End : List ℕ → Type 0 = λ s. Behind (before ++ s) line' column' in
      let Whole : List ℕ → Type 0 = λ s. Lists [] text s in
      let joined : (lines : List ℕ) → done ++ (entry ++ lines) ≡ done' ++ lines =
      λ lines. sym (ap (λ s. s ++ lines) done-is ∙ append_assoc done entry lines) in (
        before ++ (take l.skipped rest ++ spelling l.token),
        subst End (used-is ∙ taken rest l f) (ends before b),
        λ lines m. subst Whole (joined lines)
            (completes (entry ++ lines) (one_more l f (subst Start skipped-is (starts before b)) m)),
      )

pub listed_all : (text done rest : List ℕ) (line column : ℕ) → Listed text done rest line column
    → tokens gap rest ≡ [] → Lists [] text done
listed_all text done rest line column (before, b, completes) e =
    let Whole : List ℕ → Type 0 = λ s. Lists [] text s in
    subst Whole (append-nil done) (completes [] (no_more e))
