-- What a value leads to that comes back to a statement or to a case.
use Rattle.std.specs.Prelude.{◌≡◌, ℕ, List, [], ◌∷◌, Result}
use Rattle.meaning.specs.Basics.{Name}
use Rattle.meaning.specs.Syntax.{Pattern, Expr, case, Body, bind, Clauses}
use Rattle.meaning.specs.Values.{Value}
use Rattle.meaning.specs.System.{Scope, Frame, bind_frame, case_frame, Worker, System}
use Rattle.meaning.specs.Turns.{resume}
use Rattle.code.specs.Code.{CodeE, CodeB}
use Rattle.machine.specs.State.{World, SiteIs, FramesAt}
use Rattle.machine.specs.Steps.{Answer}
use Rattle.machine.specs.declared.state.Outcome.{Outcome}
use Rattle.machine.specs.declared.state.Refusal.{Refusal}
use Rattle.machine.specs.declared.state.Site.{Site}
use Rattle.matching.specs.Choices.{most_names}
use Rattle.matching.specs.Matches.{names}
use Rattle.store.specs.Heap.{Store}
use Rattle.store.specs.declared.slot.Slot.{Slot}
use Rattle.values.specs.Encoding.{Holds}

-- a cell for each name that the pattern binds
pub record BindSim (code : List ℕ) (m m' : Store) (v p : Slot) (a : Site) (t : Slot) (r : Result Outcome Refusal) :
    Type 0 where
  pub to : (x : World) (s : System) (me : Worker) (k : List Frame) (sc : List Name) (q : Pattern) (e : Expr)
      (b : Body) (w : Scope) (u : Value) → x.code.words ≡ code → Holds x.names m v u →
      CodeB x.names sc x.code p (bind q e b) → SiteIs x m sc a w → FramesAt x m t k →
      Answer x s me m m' [] (names q) [] r (resume x.program s me u (bind_frame q b w ∷ k))

-- a cell for each name that the pattern of some clause binds
pub record CaseSim (code : List ℕ) (m m' : Store) (v p : Slot) (a : Site) (t : Slot) (r : Result Outcome Refusal) :
    Type 0 where
  pub to : (x : World) (s : System) (me : Worker) (k : List Frame) (sc : List Name) (e : Expr) (cs : Clauses)
      (w : Scope) (u : Value) → x.code.words ≡ code → Holds x.names m v u →
      CodeE x.names sc x.code p (case e cs) → SiteIs x m sc a w → FramesAt x m t k →
      Answer x s me m m' [] (most_names cs) [] r (resume x.program s me u (case_frame cs w ∷ k))
