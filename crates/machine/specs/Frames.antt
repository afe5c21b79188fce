-- Frames as they are made and read: a place of the code, an environment, and what is below.
use Rattle.std.specs.Prelude.{◌≡◌, ℕ, suc, ◌+◌, ◌≤◌, cond, List, [], ◌∷◌, reverse, length, ◌==◌}
use Rattle.meaning.specs.Basics.{Name}
use Rattle.meaning.specs.Syntax.{Pattern, Operation, Expr, case, receive_until, Exprs, and_e, Body, bind, Clauses}
use Rattle.meaning.specs.Values.{Value}
use Rattle.meaning.specs.System.{
  Scope,
  Frame as Waiting,
  operands_frame,
  bind_frame,
  case_frame,
  until_frame,
  catch_frame,
}
use Rattle.meaning.specs.Grammar.{count}
use Rattle.code.specs.Code.{CodeE, CodeEs, CodeB}
use Rattle.code.specs.Environment.{Chain}
use Rattle.code.specs.Kinds.{operand_kind, case_kind, until_kind, statement_kind}
use Rattle.machine.specs.State.{
  World,
  SiteIs,
  FramesAt,
  placed,
  place_kind,
  part_kind,
  operands_frame_kind,
  bind_frame_kind,
  case_frame_kind,
  until_frame_kind,
  catch_frame_kind,
}
use Rattle.machine.specs.declared.frames.Continuation.{Continuation}
use Rattle.machine.specs.declared.frames.Frame.{Frame}
use Rattle.machine.specs.declared.frames.Frame.TheVariants.{Operands, Bind, Case, Until, Catch, Bottom}
use Rattle.store.specs.Heap.{Store, Den, Kept, left_of, right_of}
use Rattle.store.specs.Tree.{Tree, leaf, node}
use Rattle.store.specs.declared.slot.Slot.{Slot}

-- r is a new frame of that kind, of two cells
pub record Framing (m m' : Store) (kind p n : ℕ) (values below r : Slot) : Type 0 where
  pub stands : {s t : Tree} → 16 ≤ kind → Den m values s → Den m below t →
      Den m' r (node kind (node part_kind (leaf place_kind p n) s) t)
  pub count : m'.used ≡ m.used + 2

-- a frame goes on with the node of that kind at a place, in the section that the place says
abbrev pub continuation_at : ℕ → Slot → Slot → Slot → Continuation
continuation_at kind place env below = record {
  at = placed kind place.low;
  site = record { env = env; section = place.high };
  below = below;
}

-- the frame of kind k, with the slots of its parts
abbrev pub frame_by : List ℕ → ℕ → Slot → Slot → Slot → Frame
frame_by words k place values below =
    cond (k == operands_frame_kind)
    (Operands (continuation_at operand_kind place (left_of words values) below) (right_of words values))
    (cond (k == bind_frame_kind) (Bind (continuation_at statement_kind place values below))
    (cond (k == case_frame_kind) (Case (continuation_at case_kind place values below))
    (cond (k == until_frame_kind) (Until (continuation_at until_kind place values below))
    (cond (k == catch_frame_kind) (Catch below) Bottom))))

abbrev pub frame_of : List ℕ → Slot → ℕ → Frame
frame_of words s k = frame_by words k (left_of words (left_of words s)) (right_of words (left_of words s))
    (right_of words s)

abbrev pub frame_at : List ℕ → Slot → Frame
frame_at words s = frame_of words s s.kind

-- a frame as it is read is the innermost of these
pub data FrameIs (x : World) (m : Store) : Frame → List Waiting → Type 0 where
  operands_is : {n : Continuation} {u : Slot} (sc : List Name) (vs : List Value) {o : Operation} {e : Expr} {es : Exprs}
      {w : Scope} {k : List Waiting} →
      CodeEs x.names sc x.code n.at o (length vs + suc (count es)) (and_e e es) → SiteIs x m sc n.site w →
      Chain x.names m u (reverse vs) → FramesAt x m n.below k →
      FrameIs x m (Operands n u) (operands_frame o vs es w ∷ k)
  bind_is : {n : Continuation} (sc : List Name) {q : Pattern} {e : Expr} {b : Body} {w : Scope} {k : List Waiting} →
      CodeB x.names sc x.code n.at (bind q e b) → SiteIs x m sc n.site w → FramesAt x m n.below k →
      FrameIs x m (Bind n) (bind_frame q b w ∷ k)
  case_is : {n : Continuation} (sc : List Name) {e : Expr} {cs : Clauses} {w : Scope} {k : List Waiting} →
      CodeE x.names sc x.code n.at (case e cs) → SiteIs x m sc n.site w → FramesAt x m n.below k →
      FrameIs x m (Case n) (case_frame cs w ∷ k)
  until_is : {n : Continuation} (sc : List Name) {cs : Clauses} {e : Expr} {b : Body} {w : Scope} {k : List Waiting} →
      CodeE x.names sc x.code n.at (receive_until cs e b) → SiteIs x m sc n.site w → FramesAt x m n.below k →
      FrameIs x m (Until n) (until_frame cs b w ∷ k)
  catch_is : {t : Slot} {k : List Waiting} → FramesAt x m t k → FrameIs x m (Catch t) (catch_frame ∷ k)
  bottom_is : FrameIs x m Bottom []
