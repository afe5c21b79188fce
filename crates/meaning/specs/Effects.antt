-- What one turn does, by its effects: the one view of a turn that the theorems, the scheduler and the machine share.
use Rattle.std.specs.Prelude.{◌≡◌, Bool, List, ℕ}
use Rattle.std.proofs.Math.Option.{some, none}
use Rattle.meaning.specs.Basics.{Name}
use Rattle.meaning.specs.Atoms.{a_gone, a_old}
use Rattle.meaning.specs.Syntax.{Program}
use Rattle.meaning.specs.Values.{Value, v_atom}
use Rattle.meaning.specs.System.{Scope, Control, Frame, Worker, System, with_line, with_name, with_new, find}
use Rattle.meaning.specs.System.{on_worker, set_mail, set_traps, send_mail, link_both, send_signal, ended, current}
use Rattle.meaning.specs.System.{swapped}
use Rattle.meaning.specs.Turns.{Outcome, goes_on, leaves, stuck, enter_function}
use Rattle.meaning.specs.Promise.{end_reason}

-- code that a call or a spawn takes up: in the version at work, or in a current one
pub data From (g : Program) (s : System) (w : Scope) : Control → Type 0 where
  own : (f : Name) (vs : List Value) {c : Control} → enter_function g w.home w.version f vs ≡ some c →
      From g s w c
  other : (m : Name) (n : ℕ) (f : Name) (vs : List Value) {c : Control} → current s.loaded m ≡ some n →
      enter_function g m n f vs ≡ some c → From g s w c

-- what a turn of the worker me, at work in w, does to the system, before its own control and frames are set
pub data Effect (g : Program) (s : System) (w : Scope) (me : ℕ) : System → Type 0 where
  nothing : Effect g s w me s
  took : (ms : List Value) → Effect g s w me (on_worker s me (set_mail ms))
  spawned : (c : Control) → From g s w c → Effect g s w me (with_new s c)
  showed : (l : List ℕ) → Effect g s w me (with_line s l)
  sent : (q : ℕ) (v : Value) → Effect g s w me (send_mail s q v)
  linked : (q : ℕ) (x : Worker) → (q ≡ me → ⊥) → find s.workers q ≡ some x → Effect g s w me (link_both s me q)
  linked_gone : (q : ℕ) → (q ≡ me → ⊥) → find s.workers q ≡ none →
      Effect g s w me (send_signal s me q (v_atom a_gone))
  exited : (q : ℕ) (r : Value) → Effect g s w me (send_signal s q me r)
  trapped : (b : Bool) → Effect g s w me (on_worker s me (set_traps b))
  named : (x : Name) → Effect g s w me (with_name s x me)

-- a turn: an effect, and the worker goes on; its end; a swap, after which it goes on or is no more; or no meaning
pub data Turned (g : Program) (s : System) (me : Worker) : Outcome → Type 0 where
  turn_goes : (c : Control) (k : List Frame) (w : Scope) {t : System} → Effect g s w me.pid t →
      Turned g s me (goes_on c k t)
  turn_ends : (r : Value) → r ≡ end_reason me.control me.frames → Turned g s me (leaves (ended s me r))
  turn_swaps : (c : Control) (k : List Frame) (x : Name) (n : ℕ) (y : Worker) → current s.loaded x ≡ some n →
      find (swapped s x n).workers me.pid ≡ some y → end_reason me.control me.frames ≡ v_atom a_old →
      Turned g s me (goes_on c k (swapped s x n))
  turn_swapped_out : (x : Name) (n : ℕ) → current s.loaded x ≡ some n →
      find (swapped s x n).workers me.pid ≡ none → end_reason me.control me.frames ≡ v_atom a_old →
      Turned g s me (leaves (swapped s x n))
  turn_stuck : Turned g s me stuck
