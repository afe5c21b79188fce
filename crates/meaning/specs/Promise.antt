-- What holds of every program, at every stage, in whatever order its moves are made.
use Rattle.std.specs.Prelude.{◌≡◌, ◌⊎◌, ◌↔◌, Bool, true, false, ◌&&◌, ◌||◌, cond, List, [], ◌∷◌, ◌++◌, ℕ, ◌+◌, ◌-◌, ◌<◌, ◌≤◌, length, eqb, ltb}
use Rattle.std.proofs.Math.Option.{some, none}
use Rattle.meaning.specs.Basics.{Name, same}
use Rattle.meaning.specs.Atoms.{a_normal, a_old}
use Rattle.meaning.specs.Syntax.{Program}
use Rattle.meaning.specs.Values.{Value, v_atom}
use Rattle.meaning.specs.System.{Scope, Control, eval, give, enter, fail, wait, Frame, operands_frame, bind_frame}
use Rattle.meaning.specs.System.{case_frame, until_frame, catch_frame, Worker, Signal, System, with_clock, find}
use Rattle.meaning.specs.System.{current, pid_of, among, old}
use Rattle.meaning.specs.Turns.{can}
use Rattle.meaning.specs.Moves.{Move, turn, signal, tick, is, no_meaning, move, moves, quiet, time_of, begin}
use Rattle.meaning.specs.Grammar.{Reads}

-- a text is at most one program, and it begins
abbrev pub OneProgram : Type 0
OneProgram = (t : List ℕ) (g h : Program) → Reads t g → Reads t h → g ≡ h

abbrev pub Begins : Type 0
Begins = (t : List ℕ) (g : Program) → Reads t g → (s : System) × (begin g ≡ some s)

-- in no order does a program come to where nothing is meant
abbrev pub NeverStuck : Type 0
NeverStuck =
    (t : List ℕ) (g : Program) (s : System) (l : List Move) → Reads t g → begin g ≡ some s →
    moves g s l ≡ no_meaning → ⊥

-- the system s is where the program g comes to by the moves l
abbrev pub Reached : Program → List Move → System → Type 0
Reached g l s = (b : System) × (begin g ≡ some b) × (moves g b l ≡ is s)

-- a turn leaves another worker as it is, but for at most one message more, and links
abbrev pub LeftAlone : Worker → Worker → Type 0
LeftAlone w x =
    (x.control ≡ w.control) × (x.frames ≡ w.frames) × (x.traps ≡ w.traps)
    × ((ms : List Value) × (x.mail ≡ w.mail ++ ms) × (length ms ≤ 1))

-- or the turn swapped a module, and the other is no more
abbrev pub AloneOrSwapped : System → ℕ → Worker → System → Type 0
AloneOrSwapped s q w t =
    ((x : Worker) × (find t.workers q ≡ some x) × LeftAlone w x)
    ⊎ ((s.loaded ≡ t.loaded → ⊥) × (find t.workers q ≡ none))

abbrev pub Alone : Type 0
Alone =
    (g : Program) (l : List Move) (s t : System) (n q : ℕ) (w : Worker) → Reached g l s →
    move g s (turn n) ≡ is t → (q ≡ n → ⊥) → find s.workers q ≡ some w → AloneOrSwapped s q w t

-- a signal to q from p with the reason r stands among signals
pub data ToldOf (q p : ℕ) (r : Value) : List Signal → Type 0 where
  this_one : {gs : List Signal} → ToldOf q p r (record { to = q; from = p; reason = r } ∷ gs)
  a_later : {g : Signal} {gs : List Signal} → ToldOf q p r gs → ToldOf q p r (g ∷ gs)

-- why a worker ends in a turn of its own: its body is done, or nobody catches its error; otherwise a swap ended it
abbrev pub end_reason : Control → List Frame → Value
end_reason (eval e w) k = v_atom a_old
end_reason (give v) [] = v_atom a_normal
end_reason (give v) (f ∷ k) = v_atom a_old
end_reason (enter b w) k = v_atom a_old
end_reason (fail r) [] = r
end_reason (fail r) (f ∷ k) = v_atom a_old
end_reason (wait cs u w) k = v_atom a_old

abbrev pub oldest_reason : List Signal → Value
oldest_reason [] = v_atom a_old
oldest_reason (g ∷ gs) = g.reason

-- the reason with which a worker is no more after a move
abbrev pub reason_of : System → Move → Worker → Value
reason_of s (turn n) w = cond (eqb n w.pid) (end_reason w.control w.frames) (v_atom a_old)
reason_of s signal w = oldest_reason s.signals
reason_of s tick w = v_atom a_old

-- the signals hs that were there, without the one that a move may have delivered, come first, and gs behind them
abbrev pub Behind : System → System → List Signal → Type 0
Behind s t gs =
    (hs : List Signal) × (t.signals ≡ hs ++ gs)
    × ((hs ≡ s.signals) ⊎ ((g : Signal) × (s.signals ≡ g ∷ hs)))

-- whoever is linked to a worker that ends is told its end, behind all signals that were there
abbrev pub LinkedTold : Type 0
LinkedTold =
    (g : Program) (l : List Move) (s t : System) (m : Move) (p q : ℕ) (w : Worker) → Reached g l s →
    move g s m ≡ is t → find s.workers p ≡ some w → find t.workers p ≡ none → among q w.links ≡ true →
    (gs : List Signal) × Behind s t gs × ToldOf q p (reason_of s m w) gs

-- of two that are there, one is linked to the other as the other to it
abbrev pub LinksBoth : Type 0
LinksBoth =
    (g : Program) (l : List Move) (s : System) (p q : ℕ) (x y : Worker) → Reached g l s →
    find s.workers p ≡ some x → find s.workers q ≡ some y →
    among q x.links ≡ true → among p y.links ≡ true

-- of each module at most two versions are at work: the current one and the one before it
abbrev pub TwoVersions : Type 0
TwoVersions =
    (g : Program) (l : List Move) (s : System) (x : Name) (n p : ℕ) (w : Worker) → Reached g l s →
    current s.loaded x ≡ some n → find s.workers p ≡ some w → old x (n - 1) w ≡ false

-- and none is ahead of the current one
abbrev pub ahead_scope : Name → ℕ → Scope → Bool
ahead_scope x n w = same w.home x && ltb n w.version

abbrev pub ahead_control : Name → ℕ → Control → Bool
ahead_control x n (eval e w) = ahead_scope x n w
ahead_control x n (give v) = false
ahead_control x n (enter b w) = ahead_scope x n w
ahead_control x n (fail v) = false
ahead_control x n (wait cs u w) = ahead_scope x n w

abbrev pub ahead_frame : Name → ℕ → Frame → Bool
ahead_frame x n (operands_frame o vs es w) = ahead_scope x n w
ahead_frame x n (bind_frame p b w) = ahead_scope x n w
ahead_frame x n (case_frame cs w) = ahead_scope x n w
ahead_frame x n (until_frame cs b w) = ahead_scope x n w
ahead_frame x n catch_frame = false

abbrev pub ahead_frames : Name → ℕ → List Frame → Bool
ahead_frames x n [] = false
ahead_frames x n (f ∷ fs) = ahead_frame x n f || ahead_frames x n fs

abbrev pub NoneAhead : Type 0
NoneAhead =
    (g : Program) (l : List Move) (s : System) (x : Name) (n p : ℕ) (w : Worker) → Reached g l s →
    current s.loaded x ≡ some n → find s.workers p ≡ some w →
    (ahead_control x n w.control || ahead_frames x n w.frames) ≡ false

-- who can take a turn still can after any move but its own, or is no more
abbrev pub CanStays : Type 0
CanStays =
    (g : Program) (l : List Move) (s t : System) (m : Move) (q : ℕ) (w : Worker) → Reached g l s →
    move g s m ≡ is t → (m ≡ turn q → ⊥) → find s.workers q ≡ some w → can g s w ≡ true →
    (find t.workers q ≡ none) ⊎ ((x : Worker) × (find t.workers q ≡ some x) × (can g t x ≡ true))

-- who can after another's turn could before, is the new one, or got one message
abbrev pub NewlyAble : Type 0
NewlyAble =
    (g : Program) (l : List Move) (s t : System) (n q : ℕ) (x : Worker) → Reached g l s →
    move g s (turn n) ≡ is t → (q ≡ n → ⊥) → find t.workers q ≡ some x → can g t x ≡ true →
    (q ≡ s.next)
    ⊎ ((w : Worker) × (find s.workers q ≡ some w)
    × ((can g s w ≡ true) ⊎ ((v : Value) × (x.mail ≡ w.mail ++ (v ∷ [])))))

-- where somebody waits for a time, and nobody's time has come, the clock can go on, to no later than that time
abbrev pub ClockGoes : Type 0
ClockGoes =
    (g : Program) (l : List Move) (s : System) (q t : ℕ) (w : Worker) → Reached g l s →
    find s.workers q ≡ some w → time_of w.control ≡ some t →
    ((p i : ℕ) (x : Worker) → find s.workers p ≡ some x → time_of x.control ≡ some i → s.clock < i) →
    (i : ℕ) × (move g s tick ≡ is (with_clock s i)) × (s.clock < i) × (i ≤ t)

-- quiet means exactly that no move can be made
abbrev pub QuietMeans : Type 0
QuietMeans =
    (t : List ℕ) (g : Program) (l : List Move) (s : System) → Reads t g → Reached g l s →
    (quiet g s ≡ true) ↔ ((m : Move) (u : System) → move g s m ≡ is u → ⊥)

-- at most one number is given out in a move
abbrev pub FewNumbers : Type 0
FewNumbers = (g : Program) (l : List Move) (s : System) → Reached g l s → s.next ≤ 1 + length l

-- a name means somebody who is there
abbrev pub NamesLive : Type 0
NamesLive =
    (g : Program) (l : List Move) (s : System) (x : Name) (n : ℕ) → Reached g l s →
    pid_of s.names x ≡ some n → (w : Worker) × (find s.workers n ≡ some w)
