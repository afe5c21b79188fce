-- A worker that waits does what the meaning says of its mailbox and of its time.
use Rattle.std.proofs.Common.{◌≡◌, ℕ, ◌+◌, ◌≤◌, Bool, true, false, cond, List, Ok, Err, Some, None, Result, IsErr, sym, refl, ap, ◌∙◌, subst, arith}
use mathlib.Core.Option.{Option as Maybe, some, none}
use Rattle.meaning.specs.Basics.{Name, opt}
use Rattle.meaning.specs.Syntax.{Clauses}
use Rattle.meaning.specs.System.{
  Scope,
  Until,
  for_ever,
  until,
  Control as Meant,
  enter,
  wait,
  Worker,
  System,
  on_worker,
  set_mail,
}
use Rattle.meaning.specs.Turns.{Taken as TookUp, goes_on, rebind, take_first, timed_out, look_at_mail}
use Rattle.code.specs.Code.{CodeB, CodeCs}
use Rattle.machine.specs.Receiving.{due_at, NextIs, WaitEnds}
use Rattle.machine.specs.State.{World, SiteIs, ControlIs, enter_is, wait_is, wait_until_is}
use Rattle.machine.specs.declared.receiving.Next.TheVariants.{Took, Late, Waits}
use Rattle.machine.specs.declared.receiving.Waited.{Waited}
use Rattle.machine.specs.declared.state.Control.TheVariants.{Enter, Wait}
use Rattle.machine.specs.declared.state.Site.{Site}
use Rattle.matching.specs.Choices.{most_names}
use Rattle.matching.specs.Mailboxes.{Mail}
use Rattle.matching.specs.Receives.{Passed, new_cells, TakeEnds, Takes, TakeLacks}
use Rattle.matching.specs.declared.mailbox.Mailbox.{Mailbox}
use Rattle.matching.specs.declared.clause.Chosen.{Chosen}
use Rattle.matching.specs.declared.receive.Taken.{Taken}
use Rattle.store.specs.Heap.{Store, store_of, Kept, left_of, right_of}
use Rattle.store.specs.declared.slot.Full.{Full}
use Rattle.store.specs.declared.slot.Slot.{Slot}
use Rattle.meaning.proofs.Splits.{no_clash}
use Rattle.store.proofs.Laws.{node_left, node_right}
use Rattle.machine.proofs.Standing.{site_kept}

-- the clauses of a receive, with a time or without, and its site
record Awaits (x : World) (m : Store) (p : Slot) (a : Site) (cs : Clauses) (w : Scope) : Type 0 where
  scope : List Name
  clauses : CodeCs x.names scope x.code (left_of x.code.words p) cs
  site : SiteIs x m scope a w

awaits : {x : World} {m : Store} {p : Slot} {a : Site} {cs : Clauses} {u : Until} {w : Scope} →
    ControlIs x m (Wait p a) (wait cs u w) → Awaits x m p a cs w
awaits (wait_is sc c si) = record {
  scope = sc;
  clauses = record { stands = node_left c.stands; fine = c.fine };
  site = si;
}
awaits (wait_until_is sc c si) =
    record { scope = sc; clauses = record { stands = node_left c.stands; fine = c.fine.0 }; site = si }

-- what the meaning says where a message is taken, and where none is
looked : (s : System) (me : Worker) (cs : Clauses) (u : Until) (w : Scope) {o : Maybe TookUp} →
    take_first cs w.vars me.mail ≡ o → look_at_mail s me cs u w ≡ opt o (timed_out s me.frames u w)
    (λ t. some (goes_on (enter t.chosen.body (rebind w t.chosen.vars)) me.frames
    (on_worker s me.pid (set_mail t.rest))))
looked s me cs u w e = ap (λ z. opt z (timed_out s me.frames u w)
    (λ t. some (goes_on (enter t.chosen.body (rebind w t.chosen.vars)) me.frames
    (on_worker s me.pid (set_mail t.rest))))) e

not_due : (s : System) (me : Worker) (u : Until) (w : Scope) → due_at s u ≡ false →
    timed_out s me.frames u w ≡ none
not_due s me for_ever w h = refl
not_due s me (until t b) w h = ap (λ z. cond z (some (goes_on (enter b w) me.frames s)) none) h

-- the late body
record Later (x : World) (s : System) (me : Worker) (m' : Store) (j : Slot) (a : Site) (u : Until) (w : Scope) :
    Type 0 where
  control : Meant
  is : timed_out s me.frames u w ≡ some (goes_on control me.frames s)
  stands : ControlIs x m' (Enter j a) control

goes_late : {x : World} {m m' : Store} {p j : Slot} {a : Site} {cs : Clauses} {u : Until} {w : Scope} (s : System)
    (me : Worker) → ControlIs x m (Wait p a) (wait cs u w) →
    j ≡ right_of x.code.words (right_of x.code.words p) → Kept m m' → due_at s u ≡ true →
    Later x s me m' j a u w
goes_late s me (wait_is sc c si) e g h = no_clash h refl
goes_late {x} {m} {m'} {p} {j} s me (wait_until_is sc {t = t} {b = b} {w = w} c si) e g h = record {
  control = enter b w;
  is = ap (λ z. cond z (some (goes_on (enter b w) me.frames s)) none) h;
  stands = enter_is sc (subst (λ z. CodeB x.names sc x.code z b) (sym e)
      (record { stands = node_right (node_right c.stands); fine = c.fine.2 })) (site_kept g si);
}

module _ (x : World) (s : System) (me : Worker) {code : List ℕ} {m : Store} {p : Slot} {a : Site} {b : Mailbox}
    (cs : Clauses) (u : Until) (w : Scope) (e : x.code.words ≡ code) (ci : ControlIs x m (Wait p a) (wait cs u w))
    (h : Mail x.names m b me.mail) (ps : Passed cs w.vars h.seen) where
  clauses_at : {l : Slot} → l ≡ left_of code p →
      CodeCs x.names (awaits ci).scope (store_of x.code.words x.code.used) l cs
  clauses_at q = subst (λ z. CodeCs x.names (awaits ci).scope x.code z cs)
      (sym (q ∙ ap (λ z. left_of z p) (sym e))) (awaits ci).clauses

  takes_at : {m' : Store} {l : Slot} {o : Taken} → l ≡ left_of code p → Takes code m m' l b a.env o →
      TakeEnds x.names (store_of x.code.words x.code.used) m m' cs w.vars me.mail (new_cells h) o.chosen o.mailbox
  takes_at {m'} {l} {o} q f =
      (subst (λ z. Takes z m m' l b a.env o) (sym e) f).to (clauses_at q) (awaits ci).site.env h ps

  pub take_full : (m' : Store) {l : Slot} (r : Result Waited Full) → IsErr r → l ≡ left_of code p →
      TakeLacks code m l b a.env → WaitEnds x s me cs u w m m' (new_cells h + most_names cs) r
  take_full m' (Ok r) i q f = no_clash i refl
  take_full m' {l} (Err r) i q f = (subst (λ z. TakeLacks z m l b a.env) (sym e) f).short (clauses_at q)
      (awaits ci).site.env h ps

  pub take_found : {m' : Store} {l : Slot} {c : Chosen} {o : Taken} → l ≡ left_of code p → o.chosen ≡ Some c →
      Takes code m m' l b a.env o →
      NextIs x s me cs u w m' o.mailbox (Took (Enter c.body (record { env = c.env; section = a.section })))
      × (m'.used ≤ m.used + (new_cells h + most_names cs))
  take_found {m'} {l} {c} {o} q is f =
      let t = subst (λ z. TakeEnds x.names (store_of x.code.words x.code.used) m m' cs w.vars me.mail (new_cells h) z o.mailbox)
      is (takes_at q f) in
      let si = (awaits ci).site.sited in (
        record {
          rest = t.taken.rest;
          control = enter t.taken.chosen.body (rebind w t.taken.chosen.vars);
          is = looked s me cs u w t.is;
          stands = enter_is t.chosen_at.scope t.chosen_at.body_at
              (record {
                env = t.chosen_at.env_at;
                sited =
                    record { at_work = si.at_work; there = si.there; home = si.home; version = si.version };
              });
          mail = t.mail_at;
        },
        t.count,
      )

  pub take_waits : {m' : Store} {l : Slot} {o : Taken} {due : Bool} → l ≡ left_of code p →
      due ≡ due_at s u → due ≡ false → o.chosen ≡ None → Takes code m m' l b a.env o →
      NextIs x s me cs u w m' o.mailbox Waits × (m'.used ≤ m.used + (new_cells h + most_names cs))
  take_waits {m'} {l} {o} q d n is f =
      let t = subst (λ z. TakeEnds x.names (store_of x.code.words x.code.used) m m' cs w.vars me.mail (new_cells h) z o.mailbox)
      is (takes_at q f) in (
        record {
          is = looked s me cs u w t.is ∙ not_due s me u w (sym d ∙ n);
          mail = t.mail_at;
          all_seen = t.all_seen;
          passed =
              t.passed;
        },
        omega (arith, t.count),
      )

  pub take_late : {m' : Store} {l i j : Slot} {o : Taken} {due : Bool} → l ≡ left_of code p →
      i ≡ right_of code p → j ≡ right_of code i → due ≡ due_at s u → due ≡ true → Kept m m' → o.chosen ≡ None →
      Takes code m m' l b a.env o → NextIs x s me cs u w m' o.mailbox (Late (Enter j a))
      × (m'.used ≤ m.used + (new_cells h + most_names cs))
  take_late {m'} {l} {i} {j} {o} q ri rj d n g is f =
      let t = subst (λ z. TakeEnds x.names (store_of x.code.words x.code.used) m m' cs w.vars me.mail (new_cells h) z o.mailbox)
      is (takes_at q f) in
      let re : j ≡ right_of x.code.words (right_of x.code.words p) =
      rj ∙ (ap (right_of code) ri ∙ ap (λ z. right_of z (right_of z p)) (sym e)) in
      let late = goes_late s me ci re g (sym d ∙ n) in (
        record {
          control = late.control;
          is = looked s me cs u w t.is ∙ late.is;
          stands = late.stands;
          mail =
              t.mail_at;
        },
        omega (arith, t.count),
      )
