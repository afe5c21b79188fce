-- A turn does what the meaning says: the frame that was read, or the control, tells which step it is.
use Rattle.std.proofs.Common.{◌≡◌, ℕ, List, [], Ok, Err, Result, sym, refl, subst, arith}
use Rattle.meaning.specs.Atoms.{a_ok, a_normal}
use Rattle.meaning.specs.Values.{Value, v_atom}
use Rattle.meaning.specs.System.{Control as Meant, Frame as Waiting, Worker, System}
use Rattle.meaning.specs.Turns.{Outcome as Means, resume}
use Rattle.machine.specs.Binding.{BindSim, CaseSim}
use Rattle.machine.specs.Frames.{frame_at, FrameIs, operands_is, bind_is, case_is, until_is, catch_is, bottom_is}
use Rattle.machine.specs.Outcomes.{goes_on_is, ended_is, Reached, Runs}
use Rattle.machine.specs.Resuming.{OperandSim, TimeSim}
use Rattle.machine.specs.State.{World, FramesAt, ControlIs, eval_is, give_is, enter_is, fail_is}
use Rattle.machine.specs.Steps.{Answer, EvaluateSim, BeginSim, UnwindSim, Tagged}
use Rattle.machine.specs.Turning.{resume_cost, resume_operands, ResumeSim, Turned, TurnSim}
use Rattle.machine.specs.declared.frames.Continuation.{Continuation}
use Rattle.machine.specs.declared.frames.Frame.{Frame}
use Rattle.machine.specs.declared.frames.Frame.TheVariants.{Operands, Bind, Case, Until, Catch, Bottom}
use Rattle.machine.specs.declared.state.Control.{Control}
use Rattle.machine.specs.declared.state.Control.TheVariants.{Eval, Give, Enter, Fail}
use Rattle.machine.specs.declared.state.Outcome.{Outcome}
use Rattle.machine.specs.declared.state.Outcome.TheVariants.{GoesOn, Ended}
use Rattle.machine.specs.declared.state.Refusal.{Refusal}
use Rattle.machine.specs.declared.state.Refusal.TheVariants.{Full, TooLarge}
use Rattle.machine.specs.declared.state.Site.{Site}
use Rattle.store.specs.Heap.{Store, Kept}
use Rattle.store.specs.declared.slot.Slot.{Slot}
use Rattle.values.specs.Encoding.{Holds}
use Rattle.machine.proofs.Standing.{frames_kept, frame_as}
use Rattle.machine.proofs.Stepping.{atom_holds}

-- a step that compares nothing may be lent any scratch words
unlent : (x : World) (s : System) (me : Worker) (m m' : Store) (scratch : List ℕ) (n : ℕ) (o : Means)
    (r : Result Outcome Refusal) → Answer x s me m m' [] n [] r o → Answer x s me m m' scratch n [] r o
unlent x s me m m' scratch n o (Ok r) h = h
unlent x s me m m' scratch n o (Err Full) h = h
unlent x s me m m' scratch n o (Err TooLarge) h = absurd h

-- a value comes back
module _ (x : World) (s : System) (me : Worker) {m : Store} {v : Slot} (u : Value) (hv : Holds x.names m v u) where
  pub resume_operand : {code functions scratch : List ℕ} {m' : Store} {pid : ℕ} {k : List Waiting} {n : Continuation}
      {b : Slot} (r : Result Outcome Refusal) → FrameIs x m (Operands n b) k → Runs x code functions →
      me.pid ≡ pid → OperandSim code functions m m' scratch pid v n.at n.site b n.below r →
      Answer x s me m m' scratch (resume_cost k) (resume_operands u k) r (resume x.program s me u k)
  resume_operand r (operands_is sc vs {o = o} {e = e} {es = es} {w = w} {k = k} c si ch fs) q i h =
      h.to x s me k sc o e vs es w u q i hv c si ch fs

  pub resume_bind : {code functions : List ℕ} (scratch : List ℕ) {m' : Store} {k : List Waiting} {n : Continuation}
      (r : Result Outcome Refusal) → FrameIs x m (Bind n) k → Runs x code functions →
      BindSim code m m' v n.at n.site n.below r → Answer x s me m m' scratch (resume_cost k) (resume_operands u k) r
      (resume x.program s me u k)
  resume_bind scratch {m' = m'} r (bind_is sc {q = q} {e = e} {b = b} {w = w} {k = k} c si fs) i h =
      unlent x s me m m' scratch _ _ r (h.to x s me k sc q e b w u i.code_is hv c si fs)

  pub resume_case : {code functions : List ℕ} (scratch : List ℕ) {m' : Store} {k : List Waiting} {n : Continuation}
      (r : Result Outcome Refusal) → FrameIs x m (Case n) k → Runs x code functions →
      CaseSim code m m' v n.at n.site n.below r → Answer x s me m m' scratch (resume_cost k) (resume_operands u k) r
      (resume x.program s me u k)
  resume_case scratch {m' = m'} r (case_is sc {e = e} {cs = cs} {w = w} {k = k} c si fs) i h =
      unlent x s me m m' scratch _ _ r (h.to x s me k sc e cs w u i.code_is hv c si fs)

  pub resume_until : {k : List Waiting} {n : Continuation} {r : Outcome} → FrameIs x m (Until n) k →
      TimeSim v n.at n.site n.below r → Reached x s me m m (resume_cost k) r (resume x.program s me u k)
  resume_until (until_is sc {cs = cs} {e = e} {b = b} {w = w} {k = k} c si fs) h =
      record { outcome = h.to x s me k sc cs e b w u hv c si fs; most = omega arith }

  pub resume_catch : {m' : Store} {k : List Waiting} {t r : Slot} → FrameIs x m (Catch t) k → Kept m m' →
      Tagged m m' (record { kind = 1; low = 9; high = 0 }) v r →
      Reached x s me m m' (resume_cost k) (GoesOn (Give r) t) (resume x.program s me u k)
  resume_catch (catch_is fs) g h =
      record {
        outcome = goes_on_is (give_is _ (h.holds (atom_holds x a_ok 9 x.atoms.ok_at (omega arith)) hv))
            (frames_kept g fs);
        most = omega (arith, h.count);
      }

  pub resume_bottom : {k : List Waiting} → FrameIs x m Bottom k →
      Reached x s me m m (resume_cost k) (Ended (record { kind = 1; low = 6; high = 0 }))
      (resume x.program s me u k)
  resume_bottom bottom_is = record {
    outcome =
        ended_is (v_atom a_normal) (atom_holds x a_normal 6 x.atoms.normal_at (omega arith));
    most = omega arith;
  }

-- the control
module _ (x : World) (s : System) (me : Worker) {m m' : Store} {code functions scratch : List ℕ} {f : Slot}
    (r : Result Outcome Refusal) (q : Runs x code functions) (fs : FramesAt x m f me.frames) where
  pub turn_eval : {pid : ℕ} {p : Slot} {a : Site} {c : Meant} → me.pid ≡ pid → ControlIs x m (Eval p a) c →
      EvaluateSim code functions m m' scratch pid p a f r → Turned x s me c m m' scratch r
  turn_eval i (eval_is sc {e = e} {w = w} ce si) h =
      record { meaning = _; is = refl; answer = h.to x s me me.frames sc e w q i ce si fs }

  pub turn_give : {pid : ℕ} {v : Slot} {c : Meant} → me.pid ≡ pid → ControlIs x m (Give v) c →
      ResumeSim code functions m m' scratch pid v f r → Turned x s me c m m' scratch r
  turn_give i (give_is v hv) h = record { meaning = _; is = refl; answer = h.to x s me me.frames v q i hv fs }

  pub turn_enter : {p : Slot} {a : Site} {c : Meant} → ControlIs x m (Enter p a) c → BeginSim code m m' p a f r →
      Turned x s me c m m' scratch r
  turn_enter (enter_is sc {b = b} {w = w} cb si) h =
      record {
        meaning = _;
        is = refl;
        answer =
            unlent x s me m m' scratch 2 _ r (h.to x s me me.frames sc b w q.code_is cb si fs);
      }

  pub turn_fail : {v : Slot} {c : Meant} → ControlIs x m (Fail v) c → UnwindSim m m' v f r →
      Turned x s me c m m' scratch r
  turn_fail (fail_is v hv) h = record {
    meaning = _;
    is = refl;
    answer =
        unlent x s me m m' scratch 2 _ r (h.to x s me me.frames v hv fs);
  }

-- the control as it is matched
pub turn_as : {code functions scratch : List ℕ} {m m' : Store} {pid : ℕ} {c d : Control} {f : Slot}
    {r : Result Outcome Refusal} → c ≡ d → TurnSim code functions m m' scratch pid d f r →
    TurnSim code functions m m' scratch pid c f r
turn_as {code} {functions} {scratch} {m} {m'} {pid} {f = f} {r = r} e h =
    subst (λ z. TurnSim code functions m m' scratch pid z f r) (sym e) h

-- whatever the frames are whose innermost was read
pub resumed : {code functions scratch : List ℕ} {m m' : Store} {pid : ℕ} {v f : Slot} {r : Result Outcome Refusal}
    {i : Frame} → i ≡ frame_at m.words f →
    ((x : World) (s : System) (me : Worker) (u : Value) → Runs x code functions → me.pid ≡ pid →
    Holds x.names m v u → (k : List Waiting) → FrameIs x m i k →
    Answer x s me m m' scratch (resume_cost k) (resume_operands u k) r (resume x.program s me u k)) →
    ResumeSim code functions m m' scratch pid v f r
resumed h step = record { to = λ x s me k u q pid_is hv fs. step x s me u q pid_is hv k (frame_as h fs) }
