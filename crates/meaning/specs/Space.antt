-- The space that a system needs, in words of memory: a value counts wherever it stands, shared or not.
use Rattle.std.specs.Prelude.{List, [], ◌∷◌, ℕ, ◌+◌, ◌*◌, length}
use Rattle.meaning.specs.Values.{Value, v_int, v_atom, v_tuple, v_nil, v_cons, v_pid, Values, no_v, and_v, Binding}
use Rattle.meaning.specs.System.{Scope, Control, eval, give, enter, fail, wait, Frame, operands_frame, bind_frame}
use Rattle.meaning.specs.System.{case_frame, until_frame, catch_frame, Worker, Signal, System}

abbrev mutual
  pub size_v : Value → ℕ
  size_v (v_int n) = 4
  size_v (v_atom x) = 4
  size_v (v_tuple vs) = 4 + size_vs vs
  size_v v_nil = 4
  size_v (v_cons a b) = 4 + (size_v a + size_v b)
  size_v (v_pid n) = 4

  pub size_vs : Values → ℕ
  size_vs no_v = 0
  size_vs (and_v v vs) = size_v v + size_vs vs

abbrev pub size_values : List Value → ℕ
size_values [] = 0
size_values (v ∷ vs) = (4 + size_v v) + size_values vs

abbrev pub size_bindings : List Binding → ℕ
size_bindings [] = 0
size_bindings (b ∷ bs) = (4 + size_v b.value) + size_bindings bs

abbrev pub size_scope : Scope → ℕ
size_scope w = 8 + size_bindings w.vars

abbrev pub size_control : Control → ℕ
size_control (eval e w) = size_scope w
size_control (give v) = size_v v
size_control (enter b w) = size_scope w
size_control (fail v) = size_v v
size_control (wait cs u w) = size_scope w

abbrev pub size_frame : Frame → ℕ
size_frame (operands_frame o vs es w) = 8 + (size_values vs + size_scope w)
size_frame (bind_frame p b w) = 8 + size_scope w
size_frame (case_frame cs w) = 8 + size_scope w
size_frame (until_frame cs b w) = 8 + size_scope w
size_frame catch_frame = 8

abbrev pub size_frames : List Frame → ℕ
size_frames [] = 0
size_frames (f ∷ fs) = size_frame f + size_frames fs

abbrev pub size_worker : Worker → ℕ
size_worker w = (32 + size_control w.control) +
    (size_frames w.frames + (size_values w.mail + 4 * length w.links))

abbrev pub size_workers : List Worker → ℕ
size_workers [] = 0
size_workers (w ∷ ws) = size_worker w + size_workers ws

abbrev pub size_signals : List Signal → ℕ
size_signals [] = 0
size_signals (g ∷ gs) = (8 + size_v g.reason) + size_signals gs

abbrev pub needs : System → ℕ
needs s = size_workers s.workers + (size_signals s.signals + 8 * length s.names)
