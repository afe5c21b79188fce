-- A value that comes back to a pattern: what the pattern binds is the environment of the body behind it.
use Rattle.std.proofs.Common.{◌≡◌, ℕ, List, [], ◌∷◌, Some, None, Option, Result, IsErrAnd, sym, ap, ◌∙◌, subst, arith}
use Rattle.meaning.specs.Basics.{Name, opt}
use Rattle.meaning.specs.Atoms.{a_match, a_clause}
use Rattle.meaning.specs.Syntax.{Pattern, Expr, case, Body, bind, Clauses, Program}
use Rattle.meaning.specs.Values.{Value, v_atom, Binding}
use Rattle.meaning.specs.System.{Scope, enter, Frame, bind_frame, case_frame, Worker, System}
use Rattle.meaning.specs.Turns.{goes_on, error, rebind, resume}
use Rattle.meaning.specs.Bound.{bound_by}
use Rattle.code.specs.Code.{CodeP, CodeE, CodeB, CodeCs}
use Rattle.machine.specs.Outcomes.{goes_on_is, Reached}
use Rattle.machine.specs.Steps.{Answer}
use Rattle.machine.specs.State.{World, Sited, SiteIs, FramesAt, enter_is, fail_is}
use Rattle.machine.specs.declared.state.Control.TheVariants.{Enter, Fail}
use Rattle.machine.specs.declared.state.Outcome.{Outcome}
use Rattle.machine.specs.declared.state.Outcome.TheVariants.{GoesOn}
use Rattle.machine.specs.declared.state.Refusal.{Refusal}
use Rattle.machine.specs.declared.state.Refusal.TheVariants.{Full}
use Rattle.machine.specs.declared.state.Site.{Site}
use Rattle.matching.specs.Choices.{most_names, Chooses, ChoiceLacks}
use Rattle.matching.specs.Matches.{names, Matches, MatchLacks}
use Rattle.matching.specs.declared.clause.Chosen.{Chosen}
use Rattle.store.specs.Heap.{Store, store_of, Kept, left_of, right_of}
use Rattle.store.specs.declared.slot.Slot.{Slot}
use Rattle.values.specs.Encoding.{Holds}
use Rattle.store.proofs.Laws.{node_left, node_right}
use Rattle.machine.proofs.Standing.{frames_kept}
use Rattle.machine.proofs.Stepping.{atom_holds, no_room}

-- the same section, with other bindings
rebound : {g : Program} {n : ℕ} {w : Scope} (bs : List Binding) → Sited g n w → Sited g n (rebind w bs)
rebound bs h = record { at_work = h.at_work; there = h.there; home = h.home; version = h.version }

module _ (x : World) (s : System) (me : Worker) {code : List ℕ} {m : Store} {sc : List Name} {v : Slot} {a : Site}
    {w : Scope} (u : Value) (e : x.code.words ≡ code) (hv : Holds x.names m v u) (si : SiteIs x m sc a w) where
  -- the pattern of a statement
  pattern_in : {p : Slot} {q : Pattern} {d : Expr} {b : Body} {l : Slot} →
      CodeB x.names sc x.code p (bind q d b) → l ≡ left_of code p →
      CodeP x.names (store_of x.code.words x.code.used) l q
  pattern_in {p} {q} c h = subst (λ z. CodeP x.names x.code z q) (sym (h ∙ ap (λ z. left_of z p) (sym e)))
      (record { stands = node_left c.stands; fine = c.fine.0 })

  pub bind_some : {m' : Store} {k : List Frame} {p t : Slot} {q : Pattern} {d : Expr} {b : Body} {l n r env : Slot}
      {o : Option Slot} → CodeB x.names sc x.code p (bind q d b) → FramesAt x m t k → l ≡ left_of code p →
      n ≡ right_of code p → r ≡ right_of code n → Kept m m' → o ≡ Some env → Matches code m m' l v a.env o →
      Reached x s me m m' (names q) (GoesOn (Enter r (record { env = env; section = a.section })) t)
      (resume x.program s me u (bind_frame q b w ∷ k))
  bind_some {m'} {k} {p} {t} {q} {d} {b} {l} {n} {r} {env} c fs h i j g is f =
      let o = (subst (λ z. Matches z m m' l v a.env (Some env)) (sym e)
      (subst (λ z. Matches code m m' l v a.env z) is f)).to (pattern_in c h) hv si.env in
      let re : r ≡ right_of x.code.words (right_of x.code.words p) =
      j ∙ (ap (right_of code) i ∙ ap (λ z. right_of z (right_of z p)) (sym e)) in
      let body : CodeB x.names (bound_by q sc) x.code r b =
      subst (λ z. CodeB x.names (bound_by q sc) x.code z b) (sym re)
      (record { stands = node_right (node_right c.stands); fine = c.fine.2 }) in
      subst (λ z. Reached x s me m m' (names q) (GoesOn (Enter r (record { env = env; section = a.section })) t)
      (opt z (error k s a_match) (λ bs. goes_on (enter b (rebind w bs)) k s))) (sym o.is)
      (record {
        outcome = goes_on_is (enter_is (bound_by q sc) body
            (record { env = o.env; sited = rebound o.bindings si.sited })) (frames_kept g fs);
        most =
            omega (arith, o.count);
      })

  pub bind_none : {m' : Store} {k : List Frame} {p t : Slot} {q : Pattern} {d : Expr} {b : Body} {l : Slot}
      {o : Option Slot} → CodeB x.names sc x.code p (bind q d b) → FramesAt x m t k → l ≡ left_of code p →
      Kept m m' → o ≡ None → Matches code m m' l v a.env o →
      Reached x s me m m' (names q) (GoesOn (Fail (record { kind = 1; low = 1; high = 0 })) t)
      (resume x.program s me u (bind_frame q b w ∷ k))
  bind_none {m'} {k} {p} {t} {q} {d} {b} {l} c fs h g is f =
      let o = (subst (λ z. Matches z m m' l v a.env None) (sym e)
      (subst (λ z. Matches code m m' l v a.env z) is f)).to (pattern_in c h) hv si.env in
      subst (λ z. Reached x s me m m' (names q) (GoesOn (Fail (record { kind = 1; low = 1; high = 0 })) t)
      (opt z (error k s a_match) (λ bs. goes_on (enter b (rebind w bs)) k s))) (sym o)
      (record {
        outcome = goes_on_is (fail_is (v_atom a_match)
            (atom_holds x a_match 1 x.atoms.match_at (omega arith))) (frames_kept g fs);
        most =
            omega (arith, f.spared is);
      })

  pub bind_full : {m' : Store} (k : List Frame) {p : Slot} {q : Pattern} {d : Expr} {b : Body} {l : Slot}
      (r : Result Outcome Refusal) → IsErrAnd r (λ z. z ≡ Full) → CodeB x.names sc x.code p (bind q d b) →
      l ≡ left_of code p → MatchLacks code m m' l v a.env →
      Answer x s me m m' [] (names q) [] r (resume x.program s me u (bind_frame q b w ∷ k))
  bind_full {m' = m'} k {l = l} r i c h f = no_room x s me m m' _ _ r i
      ((subst (λ z. MatchLacks z m m' l v a.env) (sym e) f).short (pattern_in c h) hv si.env)

  -- the clauses of a case
  clauses_in : {p : Slot} {d : Expr} {cs : Clauses} {l : Slot} → CodeE x.names sc x.code p (case d cs) →
      l ≡ right_of code p → CodeCs x.names sc (store_of x.code.words x.code.used) l cs
  clauses_in {p} {cs = cs} c h = subst
      (λ z. CodeCs x.names sc x.code z cs) (sym (h ∙ ap (λ z. right_of z p) (sym e)))
      (record { stands = node_right c.stands; fine = c.fine.1 })

  pub case_some : {m' : Store} {k : List Frame} {p t : Slot} {d : Expr} {cs : Clauses} {l : Slot} {r : Chosen}
      {o : Option Chosen} → CodeE x.names sc x.code p (case d cs) → FramesAt x m t k → l ≡ right_of code p →
      Kept m m' → o ≡ Some r → Chooses code m m' l v a.env o →
      Reached x s me m m' (most_names cs)
      (GoesOn (Enter r.body (record { env = r.env; section = a.section })) t)
      (resume x.program s me u (case_frame cs w ∷ k))
  case_some {m'} {k} {p} {t} {d} {cs} {l} {r} c fs h g is f =
      let o = (subst (λ z. Chooses z m m' l v a.env (Some r)) (sym e)
      (subst (λ z. Chooses code m m' l v a.env z) is f)).to (clauses_in c h) hv si.env in
      subst (λ z. Reached x s me m m' (most_names cs)
      (GoesOn (Enter r.body (record { env = r.env; section = a.section })) t)
      (opt z (error k s a_clause) (λ q. goes_on (enter q.body (rebind w q.vars)) k s))) (sym o.is)
      (record {
        outcome = goes_on_is (enter_is o.chosen_at.scope o.chosen_at.body_at
            (record { env = o.chosen_at.env_at; sited = rebound o.choice.vars si.sited })) (frames_kept g fs);
        most = o.count;
      })

  pub case_none : {m' : Store} {k : List Frame} {p t : Slot} {d : Expr} {cs : Clauses} {l : Slot}
      {o : Option Chosen} → CodeE x.names sc x.code p (case d cs) → FramesAt x m t k → l ≡ right_of code p →
      Kept m m' → o ≡ None → Chooses code m m' l v a.env o →
      Reached x s me m m' (most_names cs) (GoesOn (Fail (record { kind = 1; low = 2; high = 0 })) t)
      (resume x.program s me u (case_frame cs w ∷ k))
  case_none {m'} {k} {p} {t} {d} {cs} {l} c fs h g is f =
      let o = (subst (λ z. Chooses z m m' l v a.env None) (sym e)
      (subst (λ z. Chooses code m m' l v a.env z) is f)).to (clauses_in c h) hv si.env in
      subst (λ z. Reached x s me m m' (most_names cs) (GoesOn (Fail (record { kind = 1; low = 2; high = 0 })) t)
      (opt z (error k s a_clause) (λ q. goes_on (enter q.body (rebind w q.vars)) k s))) (sym o)
      (record {
        outcome = goes_on_is (fail_is (v_atom a_clause)
            (atom_holds x a_clause 2 x.atoms.clause_at (omega arith))) (frames_kept g fs);
        most =
            omega (arith, f.spared is);
      })

  pub case_full : {m' : Store} (k : List Frame) {p : Slot} {d : Expr} {cs : Clauses} {l : Slot}
      (r : Result Outcome Refusal) → IsErrAnd r (λ z. z ≡ Full) → CodeE x.names sc x.code p (case d cs) →
      l ≡ right_of code p → ChoiceLacks code m m' l v a.env →
      Answer x s me m m' [] (most_names cs) [] r (resume x.program s me u (case_frame cs w ∷ k))
  case_full {m' = m'} k {l = l} r i c h f = no_room x s me m m' _ _ r i
      ((subst (λ z. ChoiceLacks z m m' l v a.env) (sym e) f).short (clauses_in c h) hv si.env)
