-- A system: its workers, the signals on their way, the clock, which versions are current, and names.
use Rattle.std.specs.Prelude.{◌≡◌, Bool, false, ◌&&◌, ◌||◌, cond, List, [], ◌∷◌, ◌++◌, ℕ, pred, ◌+◌, length, eqb, ltb}
use Rattle.std.proofs.Math.Option.{Option, some, none}
use Rattle.meaning.specs.Basics.{Name, same}
use Rattle.meaning.specs.Atoms.{a_old}
use Rattle.meaning.specs.Syntax.{Pattern, Operation, Expr, Exprs, Body, Clauses, Function, Program}
use Rattle.meaning.specs.Values.{Value, v_atom, Binding}

-- where code is at work: what its names are bound to, in which version of which module
pub record Scope : Type 0 where
  pub vars : List Binding
  pub home : Name
  pub version : ℕ

-- how long a receive waits: for ever, or until the clock comes to a time, and then goes on with a body
pub data Until : Type 0 where
  for_ever : Until
  until : ℕ → Body → Until

-- what a worker does next: take up an expression; go back with a value; begin a body;
-- go outward with an error; wait for a message
pub data Control : Type 0 where
  eval : Expr → Scope → Control
  give : Value → Control
  enter : Body → Scope → Control
  fail : Value → Control
  wait : Clauses → Until → Scope → Control

-- what waits for a value: operands (those so far, and those to come), p = e, case, until n, catch
pub data Frame : Type 0 where
  operands_frame : Operation → List Value → Exprs → Scope → Frame
  bind_frame : Pattern → Body → Scope → Frame
  case_frame : Clauses → Scope → Frame
  until_frame : Clauses → Body → Scope → Frame
  catch_frame : Frame

-- the innermost frame first, the oldest message first
pub record Worker : Type 0 where
  pub pid : ℕ
  pub control : Control
  pub frames : List Frame
  pub mail : List Value
  pub links : List ℕ
  pub traps : Bool

-- the end of a worker, on its way to one that is linked to it, or sent by exit(w, r)
pub record Signal : Type 0 where
  pub to : ℕ
  pub from : ℕ
  pub reason : Value

-- the current version of a module
pub record Loaded : Type 0 where
  pub name : Name
  pub version : ℕ

-- a name that a worker took; the newest first
pub record Registered : Type 0 where
  pub name : Name
  pub pid : ℕ

-- next is the number of the next worker; the oldest signal and the oldest line shown come first
pub record System : Type 0 where
  pub workers : List Worker
  pub next : ℕ
  pub clock : ℕ
  pub loaded : List Loaded
  pub names : List Registered
  pub signals : List Signal
  pub shown : List (List ℕ)

-- a system with one part changed
abbrev pub with_workers : System → List Worker → System
with_workers s ws = record {
  workers = ws;
  next = s.next;
  clock = s.clock;
  loaded = s.loaded;
  names = s.names;
  signals = s.signals;
  shown = s.shown;
}

abbrev pub with_signals : System → List Signal → System
with_signals s gs = record {
  workers = s.workers;
  next = s.next;
  clock = s.clock;
  loaded = s.loaded;
  names = s.names;
  signals = gs;
  shown = s.shown;
}

abbrev pub with_clock : System → ℕ → System
with_clock s t = record {
  workers = s.workers;
  next = s.next;
  clock = t;
  loaded = s.loaded;
  names = s.names;
  signals = s.signals;
  shown = s.shown;
}

-- one line more shown
abbrev pub with_line : System → List ℕ → System
with_line s l = record {
  workers = s.workers;
  next = s.next;
  clock = s.clock;
  loaded = s.loaded;
  names = s.names;
  signals = s.signals;
  shown = s.shown ++ (l ∷ []);
}

-- a name taken by a worker
abbrev pub with_name : System → Name → ℕ → System
with_name s x n = record {
  workers = s.workers;
  next = s.next;
  clock = s.clock;
  loaded = s.loaded;
  names = record { name = x; pid = n } ∷ s.names;
  signals = s.signals;
  shown = s.shown;
}

-- a worker that begins, with the next number
abbrev pub with_new : System → Control → System
with_new s c = record {
  workers = s.workers
      ++ (record { pid = s.next; control = c; frames = []; mail = []; links = []; traps = false } ∷ []);
  next = s.next + 1;
  clock = s.clock;
  loaded = s.loaded;
  names = s.names;
  signals = s.signals;
  shown = s.shown;
}

-- workers by number
abbrev pub find : List Worker → ℕ → Option Worker
find [] n = none
find (w ∷ ws) n = cond (eqb w.pid n) (some w) (find ws n)

-- the worker of that number changed, at its place
abbrev pub change : List Worker → ℕ → (Worker → Worker) → List Worker
change [] n f = []
change (w ∷ ws) n f = cond (eqb w.pid n) (f w ∷ ws) (w ∷ change ws n f)

abbrev pub on_worker : System → ℕ → (Worker → Worker) → System
on_worker s n f = with_workers s (change s.workers n f)

abbrev pub gone : List Worker → ℕ → List Worker
gone [] n = []
gone (w ∷ ws) n = cond (eqb w.pid n) ws (w ∷ gone ws n)

-- no two workers have one number
abbrev pub Apart : List Worker → Type 0
Apart [] = Unit {0}
Apart (w ∷ ws) = (find ws w.pid ≡ none) × Apart ws

-- a worker with one part changed
abbrev pub set_control : Control → List Frame → Worker → Worker
set_control c k w = record {
  pid = w.pid;
  control = c;
  frames = k;
  mail = w.mail;
  links = w.links;
  traps = w.traps;
}

abbrev pub set_mail : List Value → Worker → Worker
set_mail m w = record {
  pid = w.pid;
  control = w.control;
  frames = w.frames;
  mail = m;
  links = w.links;
  traps = w.traps;
}

abbrev pub add_mail : Value → Worker → Worker
add_mail v w = set_mail (w.mail ++ (v ∷ [])) w

abbrev pub set_links : List ℕ → Worker → Worker
set_links ls w = record {
  pid = w.pid;
  control = w.control;
  frames = w.frames;
  mail = w.mail;
  links = ls;
  traps = w.traps;
}

abbrev pub set_traps : Bool → Worker → Worker
set_traps b w = record {
  pid = w.pid;
  control = w.control;
  frames = w.frames;
  mail = w.mail;
  links = w.links;
  traps = b;
}

abbrev pub among : ℕ → List ℕ → Bool
among x [] = false
among x (y ∷ ys) = eqb x y || among x ys

abbrev pub without : ℕ → List ℕ → List ℕ
without x [] = []
without x (y ∷ ys) = cond (eqb x y) (without x ys) (y ∷ without x ys)

abbrev pub add_link : ℕ → Worker → Worker
add_link n w = cond (among n w.links) w (set_links (w.links ++ (n ∷ [])) w)

abbrev pub cut_link : ℕ → Worker → Worker
cut_link n w = set_links (without n w.links) w

-- a message at the end of a worker's mailbox; those that are no more get nothing
abbrev pub send_mail : System → ℕ → Value → System
send_mail s q v = on_worker s q (add_mail v)

-- two workers linked, both ways; and no longer
abbrev pub link_both : System → ℕ → ℕ → System
link_both s p q = on_worker (on_worker s p (add_link q)) q (add_link p)

abbrev pub unlink_both : System → ℕ → ℕ → System
unlink_both s p q = on_worker (on_worker s p (cut_link q)) q (cut_link p)

-- a signal behind all others
abbrev pub send_signal : System → ℕ → ℕ → Value → System
send_signal s to from r = with_signals s (s.signals ++ (record { to = to; from = from; reason = r } ∷ []))

-- the names that a worker had mean whom they meant before
abbrev pub unnamed : List Registered → ℕ → List Registered
unnamed [] n = []
unnamed (k ∷ ks) n = cond (eqb k.pid n) (unnamed ks n) (k ∷ unnamed ks n)

abbrev pub told : ℕ → Value → List ℕ → List Signal
told from r [] = []
told from r (l ∷ ls) = record { to = l; from = from; reason = r } ∷ told from r ls

-- a worker ends: it is no more, its names are free, and those linked to it are told, behind all signals that were there
abbrev pub ended : System → Worker → Value → System
ended s w r = record {
  workers = gone s.workers w.pid;
  next = s.next;
  clock = s.clock;
  loaded = s.loaded;
  names = unnamed s.names w.pid;
  signals = s.signals ++ told w.pid r w.links;
  shown = s.shown;
}

-- code by module, version, name and number of parameters
abbrev pub functions_of : Program → Name → ℕ → Option (List Function)
functions_of [] x n = none
functions_of (m ∷ ms) x n = cond (same m.name x)
    (cond (eqb n 1) (some m.functions) (functions_of ms x (pred n))) (functions_of ms x n)

abbrev pub function_of : List Function → Name → ℕ → Option Function
function_of [] x n = none
function_of (f ∷ fs) x n = cond (same f.name x && eqb (length f.params) n) (some f) (function_of fs x n)

abbrev pub current : List Loaded → Name → Option ℕ
current [] x = none
current (l ∷ ls) x = cond (same l.name x) (some l.version) (current ls x)

abbrev pub now_loaded : List Loaded → Name → ℕ → List Loaded
now_loaded [] x n = []
now_loaded (l ∷ ls) x n = cond (same l.name x) (record { name = x; version = n } ∷ ls) (l ∷ now_loaded ls x n)

abbrev pub pid_of : List Registered → Name → Option ℕ
pid_of [] x = none
pid_of (k ∷ ks) x = cond (same k.name x) (some k.pid) (pid_of ks x)

-- is code of the module x in a version before n still at work: in the control, or in a frame
abbrev pub old_scope : Name → ℕ → Scope → Bool
old_scope x n w = same w.home x && ltb w.version n

abbrev pub old_control : Name → ℕ → Control → Bool
old_control x n (eval e w) = old_scope x n w
old_control x n (give v) = false
old_control x n (enter b w) = old_scope x n w
old_control x n (fail v) = false
old_control x n (wait cs u w) = old_scope x n w

abbrev pub old_frame : Name → ℕ → Frame → Bool
old_frame x n (operands_frame o vs es w) = old_scope x n w
old_frame x n (bind_frame p b w) = old_scope x n w
old_frame x n (case_frame cs w) = old_scope x n w
old_frame x n (until_frame cs b w) = old_scope x n w
old_frame x n catch_frame = false

abbrev pub old_frames : Name → ℕ → List Frame → Bool
old_frames x n [] = false
old_frames x n (f ∷ fs) = old_frame x n f || old_frames x n fs

abbrev pub old : Name → ℕ → Worker → Bool
old x n w = old_control x n w.control || old_frames x n w.frames

-- all of these workers with such code end with 'old
abbrev pub end_old : List Worker → Name → ℕ → System → System
end_old [] x n s = s
end_old (w ∷ ws) x n s = end_old ws x n (cond (old x n w) (ended s w (v_atom a_old)) s)

-- version n of a module becomes current
abbrev pub with_version : System → Name → ℕ → System
with_version s x n = record {
  workers = s.workers;
  next = s.next;
  clock = s.clock;
  loaded = now_loaded s.loaded x n;
  names = s.names;
  signals = s.signals;
  shown = s.shown;
}

-- the version after n becomes current, and what is at work in one older than n ends
abbrev pub swapped : System → Name → ℕ → System
swapped s x n = end_old s.workers x n (with_version s x (n + 1))
