-- What an operation on operands leads to.
use Rattle.std.specs.Prelude.{◌≡◌, ℕ, ◌+◌, List, reverse, length, Some, None, Option, Result}
use Rattle.std.proofs.Math.Option.{Option as Maybe, some, none}
use Rattle.meaning.specs.Basics.{Name}
use Rattle.meaning.specs.Syntax.{Operation}
use Rattle.meaning.specs.Values.{Value}
use Rattle.meaning.specs.System.{Scope, Control as Meant, Frame, Worker, System}
use Rattle.meaning.specs.Turns.{enter_function, call_builtin, perform}
use Rattle.code.specs.Environment.{Chain}
use Rattle.code.specs.Fine.{FineO, Takes}
use Rattle.code.specs.Operation.{builtin_of}
use Rattle.code.specs.Trees.{tree_o}
use Rattle.code.specs.declared.operation.Builtin.{Builtin}
use Rattle.machine.specs.Outcomes.{OutcomeIs, Runs}
use Rattle.machine.specs.State.{World, Sited, ControlIs, FramesAt}
use Rattle.machine.specs.Steps.{Answer}
use Rattle.machine.specs.declared.state.Control.{Control}
use Rattle.machine.specs.declared.state.Control.TheVariants.{Enter}
use Rattle.machine.specs.declared.state.Outcome.{Outcome}
use Rattle.machine.specs.declared.state.Refusal.{Refusal}
use Rattle.store.specs.Heap.{Store, Den}
use Rattle.store.specs.declared.slot.Slot.{Slot}
use Rattle.values.specs.Encoding.{index_of, Known}

-- the control with which a function's body begins, if there is one
pub data Enters (x : World) (m : Store) : Option Control → Maybe Meant → Type 0 where
  no_entry : Enters x m None none
  entry : {c : Control} {c' : Meant} → ControlIs x m c c' → Enters x m (Some c) (some c')

-- the body in that slot, with the operands as its environment
abbrev pub entered : Slot → ℕ → Option Slot → Option Control
entered st n None = None
entered st n (Some b) = Some (Enter b (record { env = st; section = n }))

pub record EnterSim (code functions : List ℕ) (n i c : ℕ) (st : Slot) (r : Option Control) : Type 0 where
  pub to : (x : World) {m : Store} (y : Name) (vs : List Value) (w : Scope) → Runs x code functions →
      Sited x.program n w → Known x.names y → i ≡ index_of x.names y → c ≡ length vs →
      Chain x.names m st (reverse vs) → Enters x m r (enter_function x.program w.home w.version y vs)

pub record AskSim (m : Store) (pid : ℕ) (b : Builtin) (st f : Slot) (r : Outcome) : Type 0 where
  pub to : (x : World) (s : System) (me : Worker) (k : List Frame) (vs : List Value) → me.pid ≡ pid →
      Takes (builtin_of b) (length vs) → Chain x.names m st (reverse vs) → FramesAt x m f k →
      OutcomeIs x s me m r (call_builtin x.program k s me.pid (builtin_of b) vs)

pub record PerformSim (code functions : List ℕ) (m m' : Store) (scratch : List ℕ) (pid : ℕ) (q st : Slot) (n : ℕ)
    (f : Slot) (r : Result Outcome Refusal) : Type 0 where
  pub to : (x : World) (s : System) (me : Worker) (k : List Frame) (o : Operation) (vs : List Value) (w : Scope) →
      Runs x code functions → me.pid ≡ pid → Den x.code q (tree_o x.names o (length vs)) →
      FineO x.names o (length vs) → Chain x.names m st (reverse vs) → Sited x.program n w →
      FramesAt x m f k → Answer x s me m m' scratch (1 + length vs) vs r (perform x.program k s me.pid w o vs)
