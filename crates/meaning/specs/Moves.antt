-- Moves of the whole system, in any order: a worker's turn, the oldest signal delivered, or the clock going on.
use Rattle.std.specs.Prelude.{Bool, true, false, ◌&&◌, ◌||◌, not, cond, List, [], ◌∷◌, ◌++◌, ℕ, min, ltb, leb}
use Rattle.std.proofs.Math.Option.{Option, some, none}
use Rattle.meaning.specs.Basics.{opt, on_some, Name}
use Rattle.meaning.specs.Atoms.{a_normal, a_exit, a_main}
use Rattle.meaning.specs.Syntax.{Program}
use Rattle.meaning.specs.Values.{Value, v_atom, v_tuple, v_pid, no_v, and_v, same_v}
use Rattle.meaning.specs.System.{until, for_ever, Control, eval, give, enter, fail, wait, Worker, Signal, Loaded}
use Rattle.meaning.specs.System.{System, with_signals, with_clock, find, on_worker, set_control, send_mail}
use Rattle.meaning.specs.System.{unlink_both, ended, current}
use Rattle.meaning.specs.Turns.{Outcome, goes_on, leaves, stuck, enter_function, turn_of, can}

pub data Move : Type 0 where
  turn : ℕ → Move
  signal : Move
  tick : Move

-- after a move: a system; the move can't be made; or nothing is meant by it
pub data Result : Type 0 where
  is : System → Result
  not_allowed : Result
  no_meaning : Result

abbrev pub settle : ℕ → Outcome → Result
settle n (goes_on c k s) = is (on_worker s n (set_control c k))
settle n (leaves s) = is s
settle n stuck = no_meaning

-- a signal comes to a worker: who traps gets it as a message {'exit, from, reason}; for the others 'normal only
-- takes the link between the two away, on both sides, and anything else ends the worker with it
abbrev pub exit_message : Signal → Value
exit_message g = v_tuple (and_v (v_atom a_exit) (and_v (v_pid g.from) (and_v g.reason no_v)))

abbrev pub take_signal : System → Signal → Worker → System
take_signal s g w = cond w.traps (send_mail s w.pid (exit_message g))
    (cond (same_v g.reason (v_atom a_normal)) (unlink_both s w.pid g.from) (ended s w g.reason))

-- the oldest signal; to nobody, if its worker is no more
abbrev pub deliver : System → List Signal → Result
deliver s [] = not_allowed
deliver s (g ∷ gs) = opt (find s.workers g.to) (is (with_signals s gs))
    (λ w. is (take_signal (with_signals s gs) g w))

-- the clock goes on to the first time for which somebody waits, if that is later
abbrev pub time_of : Control → Option ℕ
time_of (eval e w) = none
time_of (give v) = none
time_of (enter b w) = none
time_of (fail v) = none
time_of (wait cs for_ever w) = none
time_of (wait cs (until t b) w) = some t

abbrev pub sooner : Option ℕ → Option ℕ → Option ℕ
sooner none o = o
sooner (some a) none = some a
sooner (some a) (some b) = some (min a b)

abbrev pub first_time : List Worker → Option ℕ
first_time [] = none
first_time (w ∷ ws) = sooner (time_of w.control) (first_time ws)

abbrev pub clock_on : System → Result
clock_on s = opt (first_time s.workers) not_allowed
    (λ t. cond (ltb s.clock t) (is (with_clock s t)) not_allowed)

abbrev pub move : Program → System → Move → Result
move g s (turn n) = opt (find s.workers n) not_allowed (λ w. opt (turn_of g s w) not_allowed (settle n))
move g s signal = deliver s s.signals
move g s tick = clock_on s

-- moves one after the other
abbrev pub on_is : Result → (System → Result) → Result
on_is (is s) f = f s
on_is not_allowed f = not_allowed
on_is no_meaning f = no_meaning

abbrev pub moves : Program → System → List Move → Result
moves g s [] = is s
moves g s (m ∷ ms) = on_is (move g s m) (λ t. moves g t ms)

-- nothing can move any more
abbrev pub any_can : Program → System → List Worker → Bool
any_can g s [] = false
any_can g s (w ∷ ws) = can g s w || any_can g s ws

abbrev pub no_signals : List Signal → Bool
no_signals [] = true
no_signals (x ∷ xs) = false

abbrev pub quiet : Program → System → Bool
quiet g s = no_signals s.signals
    && (not (any_can g s s.workers) && opt (first_time s.workers) true (λ t. leb t s.clock))

-- at first every module is loaded in its version 1, and one worker begins with `main` of the first module
abbrev pub first_versions : Program → List Loaded → List Loaded
first_versions [] ls = ls
first_versions (m ∷ ms) ls = first_versions ms
    (opt (current ls m.name) (ls ++ (record { name = m.name; version = 1 } ∷ [])) (λ n. ls))

abbrev pub first_name : Program → Name
first_name [] = []
first_name (m ∷ ms) = m.name

abbrev pub begin : Program → Option System
begin g = on_some (enter_function g (first_name g) 1 a_main []) (λ c. some (record {
  workers = record { pid = 0; control = c; frames = []; mail = []; links = []; traps = false } ∷ [];
  next = 1;
  clock = 0;
  loaded = first_versions g [];
  names = [];
  signals = [];
  shown = [];
}))
