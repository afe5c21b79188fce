-- What holds of the scheduler's model, for every program at every stage: every order of moves that it makes is fair,
-- each of its actions keeps the queue exact, and it soon makes a move or all is quiet.
use Rattle.std.specs.Prelude.{◌≡◌, ◌⊎◌, true, List, [], ◌∷◌, ◌++◌, ℕ, suc, ◌<◌, ◌≤◌}
use Rattle.std.proofs.Math.Option.{some, none}
use Rattle.meaning.specs.Syntax.{Program}
use Rattle.meaning.specs.System.{System, with_clock}
use Rattle.meaning.specs.Moves.{Move, turn, signal, tick, is, move, moves, first_time, quiet, begin}
use Rattle.meaning.specs.Grammar.{Reads}
use Rattle.meaning.specs.Fair.{Could, WaitsLater, Fair}
use Rattle.meaning.specs.Scheduler.{Entry, round, worker, Mode, serve, flush, slice, batch, alive, Woken, Queues}
use Rattle.meaning.specs.Scheduler.{Idle, Step, Steps, Due, Good, SoFar}

-- whatever order of moves the steps make is fair, and so it is with any one move more
abbrev pub FairAlways : Type 0
FairAlways =
    (g : Program) (s₀ s : System) (m₀ m : Mode) (es₀ es : List Entry) (l : List Move) → Queues g s₀ m₀ es₀ →
    Steps g s₀ m₀ es₀ l s m es → Fair g s₀ l × ((x : Move) → Fair g s₀ (l ++ (x ∷ [])))

-- a step, after which the queue is exact again
abbrev pub Leads : Program → System → Mode → List Entry → List Move → System → Mode → List Entry → Type 0
Leads g s m es l t n fs = Step g s m es l t n fs × Good g t n fs

-- a slice goes on while two turns are left, or one and the worker's time has come
abbrev pub Budget : System → Mode → Type 0
Budget s (serve n k) = (2 ≤ k) ⊎ ((k ≡ 1) × Due s n)
Budget s (flush k) = Unit {0}

-- after finitely many steps without a move there is a move
pub data Soon (g : Program) (s : System) : Mode → List Entry → Type 0 where
  now : {m n : Mode} {es fs : List Entry} {x : Move} {t : System} → Step g s m es (x ∷ []) t n fs → Good g t n fs →
      Budget t n → Soon g s m es
  after : {m n : Mode} {es fs : List Entry} → Step g s m es [] s n fs → Good g s n fs → Soon g s n fs → Soon g s m es

-- where the end of the round stands first: nobody waits for a time, or the clock can go on
abbrev pub AtRound : Program → System → Type 0
AtRound g s =
    ((first_time s.workers ≡ none) × (WaitsLater s → ⊥))
    ⊎ ((u : ℕ) × (s.clock < u) × (first_time s.workers ≡ some u) × (move g s tick ≡ is (with_clock s u)))

pub record SchedulerLaws : Type 0 where
  -- at first
  pub begins : (g : Program) (b : System) → begin g ≡ some b → SoFar g b [] b (flush 0) (worker 0 ∷ round ∷ [])
  pub one_more : (g : Program) (b s t : System) (l x : List Move) (m n : Mode) (es fs : List Entry) →
      SoFar g b l s m es → Leads g s m es x t n fs → SoFar g b (l ++ x) t n fs
  pub fair : (g : Program) (b s : System) (l : List Move) (m : Mode) (es : List Entry) → SoFar g b l s m es →
      (moves g b l ≡ is s) × Fair g b l × ((x : Move) → Fair g b (l ++ (x ∷ [])))
  -- after a turn the worker goes on in its slice; its slice is over, but never where its time has come; it can't go on
  pub turn_on : (g : Program) (s t : System) (n k : ℕ) (es new : List Entry) → Good g s (serve n (suc k)) es →
      move g s (turn n) ≡ is t → Woken g n s t new → Could g t n →
      Leads g s (serve n (suc k)) es (turn n ∷ []) t (serve n k) (alive t es ++ new)
  pub turn_back : (g : Program) (s t : System) (n k : ℕ) (es new : List Entry) → Good g s (serve n (suc k)) es →
      move g s (turn n) ≡ is t → Woken g n s t new → Could g t n → (Due t n → ⊥) →
      Leads g s (serve n (suc k)) es (turn n ∷ []) t (flush batch) (alive t es ++ (new ++ (worker n ∷ [])))
  pub turn_over : (g : Program) (s t : System) (n k : ℕ) (es new : List Entry) → Good g s (serve n (suc k)) es →
      move g s (turn n) ≡ is t → Woken g n s t new → (Could g t n → ⊥) →
      Leads g s (serve n (suc k)) es (turn n ∷ []) t (flush batch) (alive t es ++ new)
  -- whose time has come is past it with its next turn, so one turn more ends a slice
  pub due_once : (g : Program) (s t : System) (n : ℕ) → Due s n → move g s (turn n) ≡ is t → Due t n → ⊥
  -- a signal, the clock, the end of a round, and the next entry
  pub signalled : (g : Program) (s t : System) (k : ℕ) (es new : List Entry) → Good g s (flush (suc k)) es →
      move g s signal ≡ is t → Woken g t.next s t new →
      Leads g s (flush (suc k)) es (signal ∷ []) t (flush k) (alive t es ++ new)
  pub at_round : (g : Program) (s : System) (k : ℕ) (es : List Entry) → Good g s (flush k) (round ∷ es) → AtRound g s
  pub time_goes : (g : Program) (s : System) (k u : ℕ) (es new : List Entry) → Good g s (flush k) (round ∷ es) →
      s.clock < u → Woken g s.next s (with_clock s u) new → Idle s k → move g s tick ≡ is (with_clock s u) →
      Leads g s (flush k) (round ∷ es) (tick ∷ []) (with_clock s u) (flush batch) (es ++ (new ++ (round ∷ [])))
  pub next_round : (g : Program) (s : System) (k : ℕ) (es : List Entry) → Good g s (flush k) (round ∷ es) → Idle s k →
      (WaitsLater s → ⊥) → Leads g s (flush k) (round ∷ es) [] s (flush batch) (es ++ (round ∷ []))
  pub popped : (g : Program) (s : System) (k p n : ℕ) (es : List Entry) → Good g s (flush k) (worker p ∷ es) →
      Idle s k → n ≤ slice → Leads g s (flush k) (worker p ∷ es) [] s (serve p n) es
  -- with nothing queued, no signal and no time to wait for, all is quiet
  pub quiet_now : (g : Program) (s : System) (k : ℕ) → Good g s (flush k) (round ∷ []) → s.signals ≡ [] →
      first_time s.workers ≡ none → quiet g s ≡ true
  -- a program that was read never comes to a standstill unless all is quiet
  pub goes_on_always : (t : List ℕ) (g : Program) (b s : System) (l : List Move) (m : Mode) (es : List Entry) →
      Reads t g → begin g ≡ some b → SoFar g b l s m es → Budget s m → Soon g s m es ⊎ (quiet g s ≡ true)
