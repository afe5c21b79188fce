-- What each step of a turn promises: whatever its slots stand for, its outcome is what the meaning's own function gives,
-- or it refuses for a reason that held at entry.
use Rattle.std.specs.Prelude.{◌≡◌, ℕ, ◌+◌, ◌*◌, ◌<◌, List, [], ◌∷◌, reverse, length, Ok, Err, Result}
use Rattle.meaning.specs.Basics.{Name}
use Rattle.meaning.specs.Syntax.{Operation, Expr, Exprs, Body}
use Rattle.meaning.specs.Values.{Value, v_atom}
use Rattle.meaning.specs.System.{Scope, Frame, Worker, System}
use Rattle.meaning.specs.Turns.{Outcome as Means, pair, operands, evaluate, begin_body, unwind}
use Rattle.meaning.specs.Grammar.{count}
use Rattle.code.specs.Code.{CodeE, CodeEs, CodeB}
use Rattle.code.specs.Environment.{Chain}
use Rattle.machine.specs.Outcomes.{Reached, Runs}
use Rattle.machine.specs.State.{World, SiteIs, FramesAt}
use Rattle.machine.specs.declared.state.Outcome.{Outcome}
use Rattle.machine.specs.declared.state.Refusal.{Refusal}
use Rattle.machine.specs.declared.state.Refusal.TheVariants.{Full, TooLarge}
use Rattle.machine.specs.declared.state.Site.{Site}
use Rattle.store.specs.Heap.{Store}
use Rattle.store.specs.Tree.{cells}
use Rattle.store.specs.declared.slot.Slot.{Slot}
use Rattle.values.specs.Encoding.{tree_v, Holds}

-- the first of these operands takes more cells than the scratch words are for
abbrev pub Large : World → List ℕ → List Value → Type 0
Large x scratch [] = ⊥
Large x scratch (u ∷ us) = length scratch < 6 * cells (tree_v x.names u)

-- a refusal has a cause: there were not n cells left, or an operand was too large to compare
abbrev pub Refused : World → Store → List ℕ → ℕ → List Value → Refusal → Type 0
Refused x m scratch n vs Full = length m.words < 6 * (m.used + n)
Refused x m scratch n vs TooLarge = Large x scratch vs

-- the step's answer stands for o, and took at most n cells; or it was refused
abbrev pub Answer : World → System → Worker → Store → Store → List ℕ → ℕ → List Value → Result Outcome Refusal →
    Means → Type 0
Answer x s me m m' scratch n vs (Ok r) o = Reached x s me m m' n r o
Answer x s me m m' scratch n vs (Err e) o = Refused x m scratch n vs e

pub record BeginSim (code : List ℕ) (m m' : Store) (p : Slot) (a : Site) (f : Slot) (r : Result Outcome Refusal) :
    Type 0 where
  pub to : (x : World) (s : System) (me : Worker) (k : List Frame) (sc : List Name) (b : Body) (w : Scope) →
      x.code.words ≡ code → CodeB x.names sc x.code p b → SiteIs x m sc a w → FramesAt x m f k →
      Answer x s me m m' [] 2 [] r (begin_body k s b w)

pub record OperandsSim (code functions : List ℕ) (m m' : Store) (scratch : List ℕ) (pid : ℕ) (q st : Slot) (a : Site)
    (f : Slot) (r : Result Outcome Refusal) : Type 0 where
  pub to : (x : World) (s : System) (me : Worker) (k : List Frame) (sc : List Name) (o : Operation) (vs : List Value)
      (es : Exprs) (w : Scope) → Runs x code functions → me.pid ≡ pid →
      CodeEs x.names sc x.code q o (length vs + count es) es → Chain x.names m st (reverse vs) →
      SiteIs x m sc a w → FramesAt x m f k →
      Answer x s me m m' scratch (3 + length vs) vs r (operands x.program k s me.pid w o vs es)

pub record EvaluateSim (code functions : List ℕ) (m m' : Store) (scratch : List ℕ) (pid : ℕ) (p : Slot) (a : Site)
    (f : Slot) (r : Result Outcome Refusal) : Type 0 where
  pub to : (x : World) (s : System) (me : Worker) (k : List Frame) (sc : List Name) (e : Expr) (w : Scope) →
      Runs x code functions → me.pid ≡ pid → CodeE x.names sc x.code p e → SiteIs x m sc a w →
      FramesAt x m f k → Answer x s me m m' scratch 3 [] r (evaluate x.program k s me.pid e w)

pub record UnwindSim (m m' : Store) (v f : Slot) (r : Result Outcome Refusal) : Type 0 where
  pub to : (x : World) (s : System) (me : Worker) (k : List Frame) (u : Value) → Holds x.names m v u →
      FramesAt x m f k → Answer x s me m m' [] 2 [] r (unwind s me u k)

-- r is the tuple of an atom and a value, of two cells
pub record Tagged (m m' : Store) (atom value r : Slot) : Type 0 where
  pub holds : {ns : List Name} {y : Name} {v : Value} → Holds ns m atom (v_atom y) → Holds ns m value v →
      Holds ns m' r (pair (v_atom y) v)
  pub count : m'.used ≡ m.used + 2
