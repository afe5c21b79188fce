-- Each way of a step does what the meaning says: what it read tells which clause of the meaning applies.
use Rattle.std.proofs.Common.{◌≡◌, ℕ, suc, ◌+◌, ◌*◌, ◌<◌, Bool, true, false, cond, ◌⊎◌, List, [], ◌∷◌, length, Ok, Err, Some, None, Result, MatchResult, IsErrAnd, sym, refl, ap, ◌∙◌, subst, inl, inr, arith}
use Rattle.meaning.specs.Basics.{Name, same}
use Rattle.meaning.specs.Atoms.{a_error}
use Rattle.meaning.specs.Syntax.{Body}
use Rattle.meaning.specs.Values.{Value, v_atom}
use Rattle.meaning.specs.System.{Scope, Frame as Waiting, Worker, System}
use Rattle.meaning.specs.Turns.{Outcome as Means, begin_body, unwind}
use Rattle.code.specs.Code.{CodeB}
use Rattle.code.specs.Instruction.{start_at, StartIs, statement_is, last_is}
use Rattle.machine.specs.Frames.{Framing, frame_at, FrameIs, operands_is, bind_is, case_is, until_is, catch_is, bottom_is}
use Rattle.machine.specs.Outcomes.{goes_on_is, ended_is, Reached}
use Rattle.machine.specs.State.{World, SiteIs, FramesAt, bind_at, eval_is, give_is, fail_is}
use Rattle.machine.specs.Steps.{Refused, Answer, UnwindSim, Tagged}
use Rattle.machine.specs.declared.frames.Continuation.{Continuation}
use Rattle.machine.specs.declared.frames.Frame.{Frame}
use Rattle.machine.specs.declared.frames.Frame.TheVariants.{Operands, Bind, Case, Until, Catch, Bottom}
use Rattle.machine.specs.declared.state.Control.TheVariants.{Eval, Give, Fail}
use Rattle.machine.specs.declared.state.Outcome.{Outcome}
use Rattle.machine.specs.declared.state.Outcome.TheVariants.{GoesOn, Ended}
use Rattle.machine.specs.declared.state.Refusal.{Refusal}
use Rattle.machine.specs.declared.state.Refusal.TheVariants.{Full}
use Rattle.machine.specs.declared.state.Site.{Site}
use Rattle.store.specs.Heap.{Store, Den, Kept, Put, Lacks}
use Rattle.store.specs.Tree.{leaf}
use Rattle.store.specs.declared.slot.Full.{Full as NoRoom}
use Rattle.store.specs.declared.slot.Slot.{Slot}
use Rattle.values.specs.Encoding.{index_of, Known, Holds}
use Rattle.store.proofs.Laws.{leaf_stands, keeps}
use Rattle.code.proofs.Instructions.{start_as}
use Rattle.machine.proofs.Standing.{site_kept, frames_kept, placed_statement, frame_as}

-- the machine's own atoms
known : (ns : List Name) (y : Name) → index_of ns y < length ns → Known ns y
known [] y h = absurd (omega arith)
known (x ∷ ns) y h = go (same x y) refl h (known ns y)
  where
    go : (t : Bool) → same x y ≡ t → cond t 0 (suc (index_of ns y)) < suc (length ns) →
        (index_of ns y < length ns → Known ns y) → (t ≡ true) ⊎ Known ns y
    go true e h more = inl refl
    go false e h more = inr (more (omega arith))

pub atom_holds : {m : Store} (x : World) (y : Name) (i : ℕ) → index_of x.names y ≡ i → i < 16 →
    Holds x.names m (record { kind = 1; low = i; high = 0 }) (v_atom y)
atom_holds {m} x y i e h = record {
  fine = known x.names y (omega (arith, e, x.atoms.long));
  stands = subst (λ j. Den m (record { kind = 1; low = i; high = 0 }) (leaf 1 j 0)) (sym e)
      (leaf_stands 1 i 0 (omega arith));
}

-- a step for which there was no room
pub no_room : (x : World) (s : System) (me : Worker) (m m' : Store) (n : ℕ) (o : Means) (r : Result Outcome Refusal) →
    IsErrAnd r (λ e. e ≡ Full) → length m.words < 6 * (m.used + n) → Answer x s me m m' [] n [] r o
no_room x s me m m' n o (Ok a) i h = absurd i
no_room x s me m m' n o (Err e) i h = subst (Refused x m [] n []) (sym i) h

-- a frame that waits in a scope
module _ (x : World) (s : System) (me : Worker) {m : Store} {k : List Waiting} {f : Slot} where
  pub begin_statement : {m' : Store} {code : List ℕ} {p q r : Slot} {a : Site} {sc : List Name} {b : Body}
      {w : Scope} → Some q ≡ start_at code p → x.code.words ≡ code → CodeB x.names sc x.code p b →
      SiteIs x m sc a w → FramesAt x m f k →
      Kept m m' → Framing m m' 33 p.low a.section a.env f r →
      Reached x s me m m' 2 (GoesOn (Eval q a) r) (begin_body k s b w)
  begin_statement {m'} {code} {p} {q} {r} {a} {sc} {b} {w} e c cb si fs g h =
      go (start_as (e ∙ ap (λ z. start_at z p) (sym c)) cb)
    where
      go : {b : Body} → StartIs x.names sc x.code p (Some q) b →
          Reached x s me m m' 2 (GoesOn (Eval q a) r) (begin_body k s b w)
      go (statement_is ce cb) = record {
        outcome = goes_on_is (eval_is sc ce (site_kept g si))
            (record {
              tree = _;
              stands = h.stands (omega arith) si.env.holds.stands fs.stands;
              are =
                  bind_at sc si.env.values (placed_statement x cb)
                  (record { sited = si.sited; fine = si.env.holds.fine; binds = si.env.binds }) fs.are;
            });
        most = omega (arith, h.count);
      }

  pub begin_last : {code : List ℕ} {p : Slot} {a : Site} {sc : List Name} {b : Body} {w : Scope} →
      None ≡ start_at code p → x.code.words ≡ code → CodeB x.names sc x.code p b → SiteIs x m sc a w →
      FramesAt x m f k →
      Reached x s me m m 2 (GoesOn (Eval p a) f) (begin_body k s b w)
  begin_last {code} {p} {a} {sc} {b} {w} e c cb si fs = go (start_as (e ∙ ap (λ z. start_at z p) (sym c)) cb)
    where
      go : {b : Body} → StartIs x.names sc x.code p None b →
          Reached x s me m m 2 (GoesOn (Eval p a) f) (begin_body k s b w)
      go (last_is ce) = record { outcome = goes_on_is (eval_is sc ce si) fs; most = omega arith }

-- an error goes outward
module _ (x : World) (s : System) (me : Worker) {m : Store} {v : Slot} (u : Value) (hv : Holds x.names m v u) where
  pub unwind-operands : {k : List Waiting} {n : Continuation} {b : Slot} → FrameIs x m (Operands n b) k →
      Reached x s me m m 2 (GoesOn (Fail v) n.below) (unwind s me u k)
  unwind-operands (operands_is sc vs c si ch fs) =
      record { outcome = goes_on_is (fail_is u hv) fs; most = omega arith }

  pub unwind_bind : {k : List Waiting} {n : Continuation} → FrameIs x m (Bind n) k →
      Reached x s me m m 2 (GoesOn (Fail v) n.below) (unwind s me u k)
  unwind_bind (bind_is sc c si fs) = record { outcome = goes_on_is (fail_is u hv) fs; most = omega arith }

  pub unwind_case : {k : List Waiting} {n : Continuation} → FrameIs x m (Case n) k →
      Reached x s me m m 2 (GoesOn (Fail v) n.below) (unwind s me u k)
  unwind_case (case_is sc c si fs) = record { outcome = goes_on_is (fail_is u hv) fs; most = omega arith }

  pub unwind_until : {k : List Waiting} {n : Continuation} → FrameIs x m (Until n) k →
      Reached x s me m m 2 (GoesOn (Fail v) n.below) (unwind s me u k)
  unwind_until (until_is sc c si fs) = record { outcome = goes_on_is (fail_is u hv) fs; most = omega arith }

  pub unwind_bottom : {k : List Waiting} → FrameIs x m Bottom k → Reached x s me m m 2 (Ended v) (unwind s me u k)
  unwind_bottom bottom_is = record { outcome = ended_is u hv; most = omega arith }

  pub unwind_catch : {k : List Waiting} {m' : Store} {t r : Slot} → FrameIs x m (Catch t) k → Kept m m' →
      Tagged m m' (record { kind = 1; low = 10; high = 0 }) v r →
      Reached x s me m m' 2 (GoesOn (Give r) t) (unwind s me u k)
  unwind_catch (catch_is fs) g h =
      record {
        outcome = goes_on_is (give_is _
            (h.holds (atom_holds x a_error 10 x.atoms.error_at (omega arith)) hv)) (frames_kept g fs);
        most =
            omega (arith, h.count);
      }

pub tagged : {m m₁ m₂ : Store} {a v r q : Slot} → Put m m₁ 17 v (record { kind = 4; low = 0; high = 0 }) q →
    Put m₁ m₂ 17 a q r → Tagged m m₂ a v r
tagged p q = record {
  holds = λ ha hv. record {
    fine = (ha.fine, (hv.fine, tt));
    stands =
        q.stands (omega arith) (keeps p.kept ha.stands)
        (p.stands (omega arith) hv.stands (leaf_stands 4 0 0 (omega arith)));
  };
  count = omega (arith, p.count, q.count);
}

pub tagged_by : {m m₁ : Store} (m₂ : Store) (a : Slot) {v q : Slot} (r : Result Slot NoRoom) → length m₁.words ≡ length m.words →
    Put m m₁ 17 v (record { kind = 4; low = 0; high = 0 }) q →
    MatchResult r (λ s. Put m₁ m₂ 17 a q s) (λ e. Lacks m₁ m₂) →
    MatchResult r (λ s. Tagged m m₂ a v s) (λ e. length m.words < 6 * (m.used + 2))
tagged_by m₂ a (Ok s) l p q = tagged p q
tagged_by m₂ a (Err e) l p q = omega (arith, l, p.count, q.short)

-- whatever the frames are whose innermost was read
pub unwound : {m m' : Store} {v f : Slot} {r : Result Outcome Refusal} {i : Frame} → i ≡ frame_at m.words f →
    ((x : World) (s : System) (me : Worker) (u : Value) → Holds x.names m v u → (k : List Waiting) →
    FrameIs x m i k → Answer x s me m m' [] 2 [] r (unwind s me u k)) → UnwindSim m m' v f r
unwound h step = record { to = λ x s me k u hv fs. step x s me u hv k (frame_as h fs) }

-- the innermost frame waits in a scope, and the error passes it by
pub unwound_on : {m : Store} {v f : Slot} {i : Frame} {n : Continuation} → i ≡ frame_at m.words f →
    ((b : Slot) × (i ≡ Operands n b)) ⊎ ((i ≡ Bind n) ⊎ ((i ≡ Case n) ⊎ (i ≡ Until n))) →
    UnwindSim m m v f (Ok (GoesOn (Fail v) n.below))
unwound_on h (inl o) = unwound (sym o.1 ∙ h) (λ x s me u hv k. unwind-operands x s me u hv)
unwound_on h (inr (inl e)) = unwound (sym e ∙ h) (λ x s me u hv k. unwind_bind x s me u hv)
unwound_on h (inr (inr (inl e))) = unwound (sym e ∙ h) (λ x s me u hv k. unwind_case x s me u hv)
unwound_on h (inr (inr (inr e))) = unwound (sym e ∙ h) (λ x s me u hv k. unwind_until x s me u hv)
