-- What a turn leads to, in cells and in the meaning: the system s is as it was, but for what is asked for.
use Rattle.std.specs.Prelude.{◌≡◌, ℕ, ◌+◌, ◌≤◌, List, reverse, length}
use Rattle.meaning.specs.Basics.{Name}
use Rattle.meaning.specs.Syntax.{Expr, receive_until, Body, Clauses}
use Rattle.meaning.specs.Values.{Value, v_pid}
use Rattle.meaning.specs.System.{Scope, until, Control as Meant, wait, Frame, Worker, System, with_new, ended}
use Rattle.meaning.specs.Turns.{
  Outcome as Means,
  goes_on,
  leaves,
  gives,
  call_code,
  spawn_code,
  enter_current,
  call_builtin,
}
use Rattle.code.specs.Code.{CodeE}
use Rattle.code.specs.Environment.{Chain}
use Rattle.code.specs.Fine.{Takes}
use Rattle.code.specs.Operation.{builtin_of, FarIs}
use Rattle.code.specs.declared.operation.Builtin.{Builtin}
use Rattle.code.specs.declared.operation.Far.{Far}
use Rattle.machine.specs.State.{World, SiteIs, FramesAt, ControlIs}
use Rattle.machine.specs.declared.state.Control.{Control}
use Rattle.machine.specs.declared.state.Outcome.{Outcome}
use Rattle.machine.specs.declared.state.Outcome.TheVariants.{GoesOn, Ended, Spawns, Asks, Calls, SpawnsFar, WaitsFor}
use Rattle.machine.specs.declared.frames.Continuation.{Continuation}
use Rattle.store.specs.Heap.{Store}
use Rattle.store.specs.declared.slot.Slot.{Slot}
use Rattle.values.specs.Encoding.{Holds}

pub data OutcomeIs (x : World) (s : System) (me : Worker) (m : Store) : Outcome → Means → Type 0 where
  goes_on_is : {c : Control} {f : Slot} {c' : Meant} {k : List Frame} → ControlIs x m c c' → FramesAt x m f k →
      OutcomeIs x s me m (GoesOn c f) (goes_on c' k s)
  ended_is : {r : Slot} (v : Value) → Holds x.names m r v → OutcomeIs x s me m (Ended r) (leaves (ended s me v))
  spawns_is : {c : Control} {f : Slot} {c' : Meant} {k : List Frame} → ControlIs x m c c' → FramesAt x m f k →
      OutcomeIs x s me m (Spawns c f) (gives k (with_new s c') (v_pid s.next))
  asks_is : {b : Builtin} {a f : Slot} (vs : List Value) {k : List Frame} → Takes (builtin_of b) (length vs) →
      Chain x.names m a (reverse vs) → FramesAt x m f k →
      OutcomeIs x s me m (Asks b a f) (call_builtin x.program k s me.pid (builtin_of b) vs)
  calls_is : {h : Far} {a f : Slot} (vs : List Value) {n y : Name} {k : List Frame} →
      FarIs x.names h n y (length vs) → Chain x.names m a (reverse vs) → FramesAt x m f k →
      OutcomeIs x s me m (Calls h a f) (call_code k s (enter_current x.program s n y vs))
  spawns_far_is : {h : Far} {a f : Slot} (vs : List Value) {n y : Name} {k : List Frame} →
      FarIs x.names h n y (length vs) → Chain x.names m a (reverse vs) → FramesAt x m f k →
      OutcomeIs x s me m (SpawnsFar h a f) (spawn_code k s (enter_current x.program s n y vs))
  waits_for_is : {n : Continuation} {t : ℕ} (sc : List Name) {cs : Clauses} {e : Expr} {b : Body} {w : Scope}
      {k : List Frame} → CodeE x.names sc x.code n.at (receive_until cs e b) → SiteIs x m sc n.site w →
      FramesAt x m n.below k → OutcomeIs x s me m (WaitsFor n t) (goes_on (wait cs (until (s.clock + t) b) w) k s)

-- a turn led to r, which stands for o, with at most n cells more
pub record Reached (x : World) (s : System) (me : Worker) (m m' : Store) (n : ℕ) (r : Outcome) (o : Means) :
    Type 0 where
  pub outcome : OutcomeIs x s me m' r o
  pub most : m'.used ≤ m.used + n

-- the words of code and of the table of functions are those of the world
pub record Runs (x : World) (code functions : List ℕ) : Type 0 where
  pub code_is : x.code.words ≡ code
  pub functions_is : x.functions ≡ functions
