-- One turn: what it leads to, and how many cells it may take.
use Rattle.std.specs.Prelude.{◌≡◌, ℕ, ◌+◌, List, [], ◌∷◌, ◌++◌, length, Result}
use Rattle.std.proofs.Math.Option.{some}
use Rattle.meaning.specs.Values.{Value}
use Rattle.meaning.specs.System.{
  Control as Meant,
  eval,
  give,
  enter,
  fail,
  wait,
  Frame,
  operands_frame,
  bind_frame,
  case_frame,
  until_frame,
  catch_frame,
  Worker,
  System,
}
use Rattle.meaning.specs.Turns.{Outcome as Means, resume, turn_with}
use Rattle.machine.specs.Outcomes.{Runs}
use Rattle.machine.specs.State.{World, FramesAt, ControlIs}
use Rattle.machine.specs.Steps.{Answer}
use Rattle.machine.specs.declared.state.Control.{Control}
use Rattle.machine.specs.declared.state.Outcome.{Outcome}
use Rattle.machine.specs.declared.state.Refusal.{Refusal}
use Rattle.matching.specs.Choices.{most_names}
use Rattle.matching.specs.Matches.{names}
use Rattle.store.specs.Heap.{Store}
use Rattle.store.specs.declared.slot.Slot.{Slot}
use Rattle.values.specs.Encoding.{Holds}

-- the cells that a value may take that comes back to these frames: a few, and one for each operand so far or name to bind
abbrev pub resume_cost : List Frame → ℕ
resume_cost [] = 0
resume_cost (operands_frame o vs es w ∷ k) = 5 + length vs
resume_cost (bind_frame p b w ∷ k) = names p
resume_cost (case_frame cs w ∷ k) = most_names cs
resume_cost (until_frame cs b w ∷ k) = 0
resume_cost (catch_frame ∷ k) = 2

-- the operands that are there then
abbrev pub resume_operands : Value → List Frame → List Value
resume_operands v [] = []
resume_operands v (operands_frame o vs es w ∷ k) = vs ++ (v ∷ [])
resume_operands v (bind_frame p b w ∷ k) = []
resume_operands v (case_frame cs w ∷ k) = []
resume_operands v (until_frame cs b w ∷ k) = []
resume_operands v (catch_frame ∷ k) = []

abbrev pub cost : Meant → List Frame → ℕ
cost (eval e w) k = 3
cost (give v) k = resume_cost k
cost (enter b w) k = 2
cost (fail v) k = 2
cost (wait cs u w) k = 0

abbrev pub turn_operands : Meant → List Frame → List Value
turn_operands (eval e w) k = []
turn_operands (give v) k = resume_operands v k
turn_operands (enter b w) k = []
turn_operands (fail v) k = []
turn_operands (wait cs u w) k = []

-- a worker that does not wait for a message
abbrev pub Awake : Meant → Type 0
Awake (eval e w) = Unit {0}
Awake (give v) = Unit {0}
Awake (enter b w) = Unit {0}
Awake (fail v) = Unit {0}
Awake (wait cs u w) = ⊥

pub record ResumeSim (code functions : List ℕ) (m m' : Store) (scratch : List ℕ) (pid : ℕ) (v f : Slot)
    (r : Result Outcome Refusal) : Type 0 where
  pub to : (x : World) (s : System) (me : Worker) (k : List Frame) (u : Value) → Runs x code functions →
      me.pid ≡ pid → Holds x.names m v u → FramesAt x m f k →
      Answer x s me m m' scratch (resume_cost k) (resume_operands u k) r (resume x.program s me u k)

-- the turn of the worker me, whose control is c, has a meaning, and the answer stands for it
pub record Turned (x : World) (s : System) (me : Worker) (c : Meant) (m m' : Store) (scratch : List ℕ)
    (r : Result Outcome Refusal) : Type 0 where
  pub meaning : Means
  pub is : turn_with x.program s me c ≡ some meaning
  pub answer : Answer x s me m m' scratch (cost c me.frames) (turn_operands c me.frames) r meaning

-- for every worker that the control and the frames stand for
pub record TurnSim (code functions : List ℕ) (m m' : Store) (scratch : List ℕ) (pid : ℕ) (control : Control)
    (frames : Slot) (r : Result Outcome Refusal) : Type 0 where
  pub to : (x : World) (s : System) (me : Worker) → Runs x code functions → me.pid ≡ pid → Awake me.control →
      ControlIs x m control me.control → FramesAt x m frames me.frames →
      Turned x s me me.control m m' scratch r
