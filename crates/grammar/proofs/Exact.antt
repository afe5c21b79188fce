-- The machine reads exactly the programs: complete and sound on tokens, and then the tests of a whole text,
-- each of which `read` makes and `Reads` asks for.
use mathlib.Core.Path.{◌≡◌, sym, ap, subst, ◌∙◌}
use mathlib.Core.Bool.{Bool, true, false, ◌&&◌, cond}
use mathlib.Core.List.{List}
use mathlib.Core.Option.{Option, some, none}
use Prim.Native.Nat.{ℕ}
use lib.Dec.{T}
use Rattle.meaning.specs.Basics.{on_some}
use Rattle.meaning.specs.Syntax.{Program}
use Rattle.meaning.specs.Tokens.{gap, tokens}
use Rattle.meaning.specs.Bound.{has_main, sound_modules}
use Rattle.meaning.specs.Grammar.{Reads}
use Rattle.grammar.specs.Promise.{ParseExactly, ReadExactly, NoProgram}
use Rattle.meaning.specs.Promise.{OneProgram}
use Rattle.grammar.specs.Machine.{parse}
use Rattle.grammar.specs.Reading.{within_limits, checked, read}
use Rattle.std.proofs.lemmas.Bool.{cond-true}
use Rattle.meaning.proofs.Splits.{is_true, some_is, none_some, on_some_is}
use Rattle.grammar.proofs.Complete.{complete}
use Rattle.grammar.proofs.Sound.{sound}

pub parse_exactly : ParseExactly
parse_exactly s g = (λ d. complete d, λ e. sound s g e)

pub read_complete : (t : List ℕ) (g : Program) → Reads t g → read t ≡ some g
read_complete t g r =
    cond-true (within_limits t) (on_some (parse (tokens gap t)) checked) none (is_true (within_limits t) r.small)
    ∙ ap (λ o. on_some o checked) (complete r.said)
    ∙ cond-true (has_main g && sound_modules g) (some g) none (is_true (has_main g && sound_modules g) r.sound)

-- a test that gives what it tests
pub tested : {A : Type 0} (b : Bool) (o : Option A) (y : A) → cond b o none ≡ some y → T b × (o ≡ some y)
tested true o y e = (tt, e)
tested false o y e = absurd (none_some e)

pub read-sound : (t : List ℕ) (g : Program) → read t ≡ some g → Reads t g
read-sound t g e =
    let within = tested (within_limits t) (on_some (parse (tokens gap t)) checked) g e in
    let parsed = on_some_is (parse (tokens gap t)) checked g within.1 in
    let good = tested (has_main parsed.0 && sound_modules parsed.0) (some parsed.0) g parsed.2 in
    let reads : Reads t parsed.0 =
    record { said = sound (tokens gap t) parsed.0 parsed.1; small = within.0; sound = good.0 } in
    subst (Reads t) (some_is good.1) reads

pub read_exactly : ReadExactly
read_exactly t g = (λ r. read_complete t g r, λ e. read-sound t g e)

pub one_program : OneProgram
one_program t g h r s = some_is (sym (read_complete t g r) ∙ read_complete t h s)

-- what `read` refuses is no program
pub refused : (t : List ℕ) → read t ≡ none → NoProgram t
refused t e g r = none_some (sym e ∙ read_complete t g r)
