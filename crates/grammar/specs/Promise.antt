-- What is promised of reading: the machine reads exactly the programs of the grammar, and who runs it may test each
-- token as it comes, and stop at the first that fails.
use Rattle.std.specs.Prelude.{◌≡◌, ◌↔◌, false, ◌&&◌, List, [], ◌∷◌, ◌++◌, ℕ}
use Rattle.std.proofs.Math.Option.{Option, some}
use Rattle.meaning.specs.Basics.{on_some, Name}
use Rattle.meaning.specs.Syntax.{Program}
use Rattle.meaning.specs.Tokens.{gap, tokens}
use Rattle.meaning.specs.Bound.{sound_modules}
use Rattle.meaning.specs.Grammar.{ModulesOf, Reads}
use Rattle.grammar.specs.Stack.{State, no_module, top_level}
use Rattle.grammar.specs.Machine.{step, program_at, parse}
use Rattle.grammar.specs.Checks.{fine_state, passes}
use Rattle.grammar.specs.Reading.{read}

-- tokens are the program g exactly if the machine gives g
abbrev pub ParseExactly : Type 0
ParseExactly = (s : List Name) (g : Program) → ModulesOf s g ↔ (parse s ≡ some g)

-- a text is the program g exactly if `read` gives g
abbrev pub ReadExactly : Type 0
ReadExactly = (t : List ℕ) (g : Program) → Reads t g ↔ (read t ≡ some g)

-- a text that is no program
abbrev pub NoProgram : List ℕ → Type 0
NoProgram t = (g : Program) → Reads t g → ⊥

-- the state behind the tokens ws, where the tokens rest follow: the machine looks ahead, so they count
abbrev pub run_before : State → List Name → List Name → Option State
run_before s [] rest = some s
run_before s (w ∷ ws) rest = on_some (step s w (ws ++ rest)) (λ t. run_before t ws rest)

-- behind a token the state is fine exactly if it was fine before, and the token passes its test
abbrev pub TestedByToken : Type 0
TestedByToken =
    (s t : State) (w : Name) (ws : List Name) → step s w ws ≡ some t → fine_state t ≡ (passes s w && fine_state s)

-- where a text ends, the state is fine exactly if the program is sound
abbrev pub FineIsSound : Type 0
FineIsSound = (s : State) (g : Program) → program_at s ≡ some g → fine_state s ≡ sound_modules g

-- a text on whose way a state is not fine is no program, whatever follows
abbrev pub StopsEarly : Type 0
StopsEarly =
    (t : List ℕ) (ws rest : List Name) (s : State) → tokens gap t ≡ (ws ++ rest) →
    run_before (top_level no_module) ws rest ≡ some s → fine_state s ≡ false → NoProgram t

-- nor is one on whose way a token fails its test
abbrev pub StopsAtToken : Type 0
StopsAtToken =
    (t : List ℕ) (ws : List Name) (w : Name) (rest : List Name) (s : State) → tokens gap t ≡ (ws ++ (w ∷ rest)) →
    run_before (top_level no_module) ws (w ∷ rest) ≡ some s → passes s w ≡ false → NoProgram t
