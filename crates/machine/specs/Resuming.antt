-- What a value leads to that comes back to a frame.
use Rattle.std.specs.Prelude.{◌≡◌, ℕ, suc, ◌+◌, List, [], ◌∷◌, ◌++◌, reverse, length, Result}
use Rattle.meaning.specs.Basics.{Name}
use Rattle.meaning.specs.Syntax.{Operation, Expr, receive_until, Exprs, and_e, Body, Clauses}
use Rattle.meaning.specs.Values.{Value}
use Rattle.meaning.specs.System.{Scope, Frame, until_frame, Worker, System}
use Rattle.meaning.specs.Turns.{operands, resume}
use Rattle.meaning.specs.Grammar.{count}
use Rattle.code.specs.Code.{CodeE, CodeEs}
use Rattle.code.specs.Environment.{Chain}
use Rattle.machine.specs.Outcomes.{OutcomeIs, Runs}
use Rattle.machine.specs.State.{World, SiteIs, FramesAt}
use Rattle.machine.specs.Steps.{Answer}
use Rattle.machine.specs.declared.state.Outcome.{Outcome}
use Rattle.machine.specs.declared.state.Refusal.{Refusal}
use Rattle.machine.specs.declared.state.Site.{Site}
use Rattle.store.specs.Heap.{Store}
use Rattle.store.specs.declared.slot.Slot.{Slot}
use Rattle.values.specs.Encoding.{Holds}

pub record OperandSim (code functions : List ℕ) (m m' : Store) (scratch : List ℕ) (pid : ℕ) (v p : Slot) (a : Site)
    (u t : Slot) (r : Result Outcome Refusal) : Type 0 where
  pub to : (x : World) (s : System) (me : Worker) (k : List Frame) (sc : List Name) (o : Operation) (e : Expr)
      (vs : List Value) (es : Exprs) (w : Scope) (b : Value) → Runs x code functions → me.pid ≡ pid →
      Holds x.names m v b → CodeEs x.names sc x.code p o (length vs + suc (count es)) (and_e e es) →
      SiteIs x m sc a w → Chain x.names m u (reverse vs) → FramesAt x m t k →
      Answer x s me m m' scratch (5 + length vs) (vs ++ (b ∷ [])) r
      (operands x.program k s me.pid w o (vs ++ (b ∷ [])) es)

pub record TimeSim (v p : Slot) (a : Site) (t : Slot) (r : Outcome) : Type 0 where
  pub to : (x : World) {m : Store} (s : System) (me : Worker) (k : List Frame) (sc : List Name) (cs : Clauses)
      (e : Expr) (b : Body) (w : Scope) (u : Value) → Holds x.names m v u →
      CodeE x.names sc x.code p (receive_until cs e b) → SiteIs x m sc a w → FramesAt x m t k →
      OutcomeIs x s me m r (resume x.program s me u (until_frame cs b w ∷ k))
