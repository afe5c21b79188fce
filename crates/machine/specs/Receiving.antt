-- A worker that waits: it takes a message, goes on late, or waits on.
use Rattle.std.specs.Prelude.{◌≡◌, ℕ, ◌+◌, ◌*◌, ◌<◌, ◌≤◌, Bool, false, List, reverse, length, Ok, Err, Result, nat_le}
use Rattle.std.proofs.Math.Option.{some, none}
use Rattle.meaning.specs.Syntax.{Clauses}
use Rattle.meaning.specs.Values.{Value}
use Rattle.meaning.specs.System.{
  Scope,
  Until,
  for_ever,
  until,
  Control as Meant,
  wait,
  Worker,
  System,
  on_worker,
  set_mail,
}
use Rattle.meaning.specs.Turns.{goes_on, look_at_mail}
use Rattle.machine.specs.State.{World, ControlIs}
use Rattle.machine.specs.declared.receiving.Waited.{Waited}
use Rattle.machine.specs.declared.receiving.Next.{Next}
use Rattle.machine.specs.declared.receiving.Next.TheVariants.{Took, Late, Waits}
use Rattle.machine.specs.declared.state.Control.{Control}
use Rattle.machine.specs.declared.state.Control.TheVariants.{Wait}
use Rattle.machine.specs.declared.state.Site.{Site}
use Rattle.matching.specs.Choices.{most_names}
use Rattle.matching.specs.Mailboxes.{Mail}
use Rattle.matching.specs.Receives.{Passed, new_cells}
use Rattle.matching.specs.declared.mailbox.Mailbox.{Mailbox}
use Rattle.store.specs.Heap.{Store}
use Rattle.store.specs.declared.slot.Full.{Full}
use Rattle.store.specs.declared.slot.Slot.{Slot}

-- has the time of a wait come
abbrev pub due_at : System → Until → Bool
due_at s for_ever = false
due_at s (until t b) = nat_le t s.clock

-- the worker goes on with c, and with the other messages in b
pub record TakesOne (x : World) (s : System) (me : Worker) (cs : Clauses) (u : Until) (w : Scope) (m' : Store)
    (c : Control) (b : Mailbox) : Type 0 where
  pub rest : List Value
  pub control : Meant
  pub is : look_at_mail s me cs u w ≡ some (goes_on control me.frames (on_worker s me.pid (set_mail rest)))
  pub stands : ControlIs x m' c control
  pub mail : Mail x.names m' b rest

-- it goes on with c, and with the same messages
pub record GoesLate (x : World) (s : System) (me : Worker) (cs : Clauses) (u : Until) (w : Scope) (m' : Store)
    (c : Control) (b : Mailbox) : Type 0 where
  pub control : Meant
  pub is : look_at_mail s me cs u w ≡ some (goes_on control me.frames s)
  pub stands : ControlIs x m' c control
  pub mail : Mail x.names m' b me.mail

-- there is no turn for it: its clauses match no message that it has, and all of them are seen
pub record WaitsOn (x : World) (s : System) (me : Worker) (cs : Clauses) (u : Until) (w : Scope) (m' : Store)
    (b : Mailbox) : Type 0 where
  pub is : look_at_mail s me cs u w ≡ none
  pub mail : Mail x.names m' b me.mail
  pub all_seen : mail.seen ≡ reverse me.mail
  pub passed : Passed cs w.vars mail.seen

abbrev pub NextIs : World → System → Worker → Clauses → Until → Scope → Store → Mailbox → Next → Type 0
NextIs x s me cs u w m' b (Took c) = TakesOne x s me cs u w m' c b
NextIs x s me cs u w m' b (Late c) = GoesLate x s me cs u w m' c b
NextIs x s me cs u w m' b Waits = WaitsOn x s me cs u w m' b

-- with at most n cells more; or there were not so many left
abbrev pub WaitEnds : World → System → Worker → Clauses → Until → Scope → Store → Store → ℕ → Result Waited Full →
    Type 0
WaitEnds x s me cs u w m m' n (Ok r) = NextIs x s me cs u w m' r.mailbox r.next × (m'.used ≤ m.used + n)
WaitEnds x s me cs u w m m' n (Err e) = length m.words < 6 * (m.used + n)

-- for every worker that waits with this control and this mailbox, of whose messages the clauses match none that was seen
pub record TakeSim (code : List ℕ) (m m' : Store) (p : Slot) (a : Site) (b : Mailbox) (due : Bool)
    (r : Result Waited Full) : Type 0 where
  pub to : (x : World) (s : System) (me : Worker) (cs : Clauses) (u : Until) (w : Scope) → x.code.words ≡ code →
      ControlIs x m (Wait p a) (wait cs u w) → (h : Mail x.names m b me.mail) → Passed cs w.vars h.seen →
      due ≡ due_at s u → WaitEnds x s me cs u w m m' (new_cells h + most_names cs) r
