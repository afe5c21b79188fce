-- A value that comes back is one operand more, or the time of a receive.
use Rattle.std.proofs.Common.{◌≡◌, ℕ, suc, ◌+◌, true, false, List, [], ◌∷◌, ◌++◌, reverse, length, ℤ, pos, negsuc, Some, None, Result, sym, refl, ap, ◌∙◌, subst, arith, w64, to_z, of_z}
use mathlib.Core.List.{reverse-append}
use lib.Signed.{le_z}
use Rattle.std.proofs.lemmas.List.{length_push}
use Rattle.std.proofs.lemmas.Int.{to_z-of_z, ints}
use Rattle.meaning.specs.Basics.{Name, opt}
use Rattle.meaning.specs.Atoms.{a_type}
use Rattle.meaning.specs.Syntax.{Body, Clauses}
use Rattle.meaning.specs.Values.{Value, v_int, v_atom, as_int}
use Rattle.meaning.specs.System.{Scope, Frame, until_frame, Worker, System}
use Rattle.meaning.specs.Turns.{error, operands, wait_until, resume}
use Rattle.meaning.specs.Grammar.{count}
use Rattle.code.specs.Code.{CodeEs}
use Rattle.code.specs.Environment.{Chain}
use Rattle.machine.specs.Operators.{AsNumber}
use Rattle.machine.specs.Outcomes.{OutcomeIs, goes_on_is, waits_for_is}
use Rattle.machine.specs.Resuming.{OperandSim, TimeSim}
use Rattle.machine.specs.State.{World, FramesAt, fail_is}
use Rattle.machine.specs.Steps.{OperandsSim}
use Rattle.machine.specs.declared.state.Control.TheVariants.{Fail}
use Rattle.machine.specs.declared.state.Outcome.{Outcome}
use Rattle.machine.specs.declared.state.Outcome.TheVariants.{GoesOn, WaitsFor}
use Rattle.machine.specs.declared.state.Refusal.{Refusal}
use Rattle.machine.specs.declared.state.Site.{Site}
use Rattle.store.specs.Heap.{Store, Put, right_of}
use Rattle.store.specs.declared.slot.Slot.{Slot}
use Rattle.values.specs.Encoding.{Fine, Holds}
use Rattle.store.proofs.Laws.{node_right}
use Rattle.values.proofs.Shapes.{sfits}
use Rattle.meaning.proofs.Splits.{no_clash}
use Rattle.machine.proofs.Standing.{site_kept, frames_kept}
use Rattle.machine.proofs.Stepping.{atom_holds}
use Rattle.machine.proofs.Evaluating.{answer_from}

pub operand_added : {code functions scratch : List ℕ} {m m₁ m' : Store} {pid : ℕ} {v p u all rest t : Slot}
    {a : Site} (r : Result Outcome Refusal) → Put m m₁ 31 v u all → length m₁.words ≡ length m.words →
    rest ≡ right_of code p → OperandsSim code functions m₁ m' scratch pid rest all a t r →
    OperandSim code functions m m' scratch pid v p a u t r
operand_added {code} {functions} {scratch} {m} {m₁} {m'} {pid} {v} {p} {u} {all} {rest} {t} {a} r h l e o = record {
  to = λ x s me k sc d ex vs es w b q i hv ce si ch fs.
      let n : length vs + suc (count es) ≡ length (vs ++ (b ∷ [])) + count es = omega (arith, length_push vs b) in
      let re : rest ≡ right_of x.code.words p = e ∙ ap (λ z. right_of z p) (sym q.code_is) in
      let next : CodeEs x.names sc x.code (right_of x.code.words p) d (length vs + suc (count es)) es =
      record { stands = node_right ce.stands; operation = ce.operation; fine = ce.fine.1 } in
      let here : CodeEs x.names sc x.code rest d (length (vs ++ (b ∷ [])) + count es) es =
      subst (λ z. CodeEs x.names sc x.code z d (length (vs ++ (b ∷ [])) + count es) es) (sym re)
      (subst (λ z. CodeEs x.names sc x.code (right_of x.code.words p) d z es) n next) in
      let more : Chain x.names m₁ all (b ∷ reverse vs) =
      record { fine = (hv.fine, ch.fine); stands = h.stands (omega arith) hv.stands ch.stands } in
      let turned : Chain x.names m₁ all (reverse (vs ++ (b ∷ []))) =
      subst (Chain x.names m₁ all) (sym (reverse-append vs (b ∷ []))) more in
      answer_from x s me m m₁ m' scratch (3 + length (vs ++ (b ∷ []))) (5 + length vs) (vs ++ (b ∷ []))
      (operands x.program k s me.pid w d (vs ++ (b ∷ [])) es) r (omega (arith, h.count, length_push vs b))
      l
      (o.to x s me k sc d (vs ++ (b ∷ [])) es w q i here turned (site_kept h.kept si) (frames_kept h.kept fs));
}

-- a time that is none
no_time : {t : Slot} (x : World) {m : Store} (s : System) (me : Worker) (k : List Frame) (cs : Clauses) (b : Body)
    (w : Scope) (u : Value) → FramesAt x m t k →
    resume x.program s me u (until_frame cs b w ∷ k) ≡ error k s a_type →
    OutcomeIs x s me m (GoesOn (Fail (record { kind = 1; low = 0; high = 0 })) t)
    (resume x.program s me u (until_frame cs b w ∷ k))
no_time {t} x {m} s me k cs b w u fs e =
    subst (OutcomeIs x s me m (GoesOn (Fail (record { kind = 1; low = 0; high = 0 })) t)) (sym e)
    (goes_on_is (fail_is (v_atom a_type) (atom_holds x a_type 0 x.atoms.type_at (omega arith))) fs)

below : (z : ℤ) → le_z (pos 0) z ≡ false → (k : List Frame) (s : System) (cs : Clauses) (b : Body) (w : Scope) →
    wait_until k s cs b w z ≡ error k s a_type
below (pos n) h k s cs b w = absurd (omega (arith, ints, h))
below (negsuc n) h k s cs b w = refl

at_least : (z : ℤ) {d : ℕ} → le_z (pos 0) z ≡ true → d ≡ of_z w64 z → z ≡ pos d
at_least (pos n) h e = ap pos (sym e)
at_least (negsuc n) h e = no_clash h refl

-- a number that a slot holds fits 64 bits
held_back : {v : Slot} {z : ℤ} {ns : List Name} {m : Store} {u : Value} → AsNumber v (Some z) → Holds ns m v u →
    to_z w64 (of_z w64 z) ≡ z
held_back {v} {z} {ns} n hv = to_z-of_z w64 z (sfits z (subst (Fine ns) (n.is hv) hv.fine))

module _ {v p t : Slot} {a : Site} where
  pub time_no_number : AsNumber v None → TimeSim v p a t (GoesOn (Fail (record { kind = 1; low = 0; high = 0 })) t)
  time_no_number n = record {
    to =
        λ x s me k sc cs e b w u hv ce si fs. no_time x s me k cs b w u fs
        (ap (λ o. opt o (error k s a_type) (wait_until k s cs b w)) (n.is hv));
  }

  pub time_below : {z : ℤ} → AsNumber v (Some z) → le_z (pos 0) (to_z w64 (of_z w64 z)) ≡ false →
      TimeSim v p a t (GoesOn (Fail (record { kind = 1; low = 0; high = 0 })) t)
  time_below {z} n h = record {
    to = λ x {m} s me k sc cs e b w u hv ce si fs.
        no_time x s me k cs b w u fs (ap (λ o. opt (as_int o) (error k s a_type) (wait_until k s cs b w)) (n.is hv)
        ∙ below z (subst (λ q. le_z (pos 0) q ≡ false) (held_back n hv) h) k s cs b w);
  }

  pub time_waits : {z : ℤ} {d : ℕ} → AsNumber v (Some z) → le_z (pos 0) (to_z w64 (of_z w64 z)) ≡ true →
      d ≡ of_z w64 (to_z w64 (of_z w64 z)) → TimeSim v p a t (WaitsFor (record { at = p; site = a; below = t }) d)
  time_waits {z} {d} n h q = record {
    to = λ x {m} s me k sc cs e b w u hv ce si fs.
        let back = held_back n hv in
        let g : z ≡ pos d = at_least z (subst (λ q. le_z (pos 0) q ≡ true) back h) (q ∙ ap (of_z w64) back) in
        subst (λ o. OutcomeIs x s me m (WaitsFor (record { at = p; site = a; below = t }) d) (resume x.program s me o (until_frame cs b w ∷ k)))
        (sym (n.is hv ∙ ap v_int g)) (waits_for_is sc ce si fs);
  }
