-- The scheduler's model: a queue of those that can go on, served in rounds.
use Rattle.std.specs.Prelude.{◌≡◌, ◌⊎◌, List, [], ◌∷◌, ◌++◌, ℕ, zero, suc, ◌≤◌}
use Rattle.std.proofs.Math.Option.{some, none}
use Rattle.meaning.specs.Basics.{opt}
use Rattle.meaning.specs.Syntax.{Program}
use Rattle.meaning.specs.System.{Worker, System, find, Apart}
use Rattle.meaning.specs.Moves.{Move, turn, signal, tick, is, move, time_of}
use Rattle.meaning.specs.Fair.{Could, WaitsLater}

-- what stands in the queue: a worker, or the end of a round
pub data Entry : Type 0 where
  round : Entry
  worker : ℕ → Entry

-- a worker is served, for at most so many turns more; or up to so many signals are delivered, and then the next
-- entry is taken
pub data Mode : Type 0 where
  serve : ℕ → ℕ → Mode
  flush : ℕ → Mode

-- turns in a row, and signals after them: together at most 3,072 moves for an entry. With slices of 4,096 the order
-- would not be fair, since what is done between two slices counts too
abbrev pub slice : ℕ
slice = 2048

abbrev pub batch : ℕ
batch = 1024

-- the entry x stands at a place; somewhere
pub data At (x : Entry) : ℕ → List Entry → Type 0 where
  here : {es : List Entry} → At x zero (x ∷ es)
  there : {n : ℕ} {y : Entry} {es : List Entry} → At x n es → At x (suc n) (y ∷ es)

abbrev pub Mem : Entry → List Entry → Type 0
Mem x es = (n : ℕ) × At x n es

-- no entry stands twice
abbrev pub Distinct : List Entry → Type 0
Distinct [] = Unit {0}
Distinct (x ∷ es) = (Mem x es → ⊥) × Distinct es

-- the queue after a move: workers that are no more may be left out
pub data Kept (s : System) : List Entry → List Entry → Type 0 where
  end : Kept s [] []
  keep : {x : Entry} {es fs : List Entry} → Kept s es fs → Kept s (x ∷ es) (x ∷ fs)
  leave : {p : ℕ} {es fs : List Entry} → find s.workers p ≡ none → Kept s es fs → Kept s (worker p ∷ es) fs

-- the queue without those that are no more
abbrev pub alive : System → List Entry → List Entry
alive s [] = []
alive s (round ∷ es) = round ∷ alive s es
alive s (worker p ∷ es) = opt (find s.workers p) (alive s es) (λ w. worker p ∷ alive s es)

-- the workers other than n that can go on after a move from s to t and could not before, once each
pub record Woken (g : Program) (n : ℕ) (s t : System) (new : List Entry) : Type 0 where
  pub once : Distinct new
  pub each : (x : Entry) → Mem x new → (q : ℕ) × (x ≡ worker q) × (q ≡ n → ⊥) × Could g t q × (Could g s q → ⊥)
  pub all : (q : ℕ) → (q ≡ n → ⊥) → Could g t q → Could g s q ⊎ Mem (worker q) new

-- with the one that is served
abbrev pub queued : Mode → List Entry → List Entry
queued (serve p k) es = worker p ∷ es
queued (flush k) es = es

abbrev pub Small : Mode → Type 0
Small (serve p k) = k ≤ slice
Small (flush k) = k ≤ batch

-- exactly those that can go on are served or in the queue, once each; and the end of the round is in the queue
pub record Queues (g : Program) (s : System) (m : Mode) (es : List Entry) : Type 0 where
  pub once : Distinct (queued m es)
  pub able : (p : ℕ) → Mem (worker p) (queued m es) → Could g s p
  pub all : (p : ℕ) → Could g s p → Mem (worker p) (queued m es)
  pub rounds : Mem round es
  pub small : Small m

-- no signal is to be delivered now
abbrev pub Idle : System → ℕ → Type 0
Idle s k = (k ≡ 0) ⊎ (s.signals ≡ [])

-- after a turn of p: it is served on, or its slice is over
pub data After (p k : ℕ) : Mode → Type 0 where
  same_slice : After p k (serve p k)
  slice_over : After p k (flush batch)

-- one step of the scheduler, by no move or by one
pub data Step (g : Program) (s : System) : Mode → List Entry → List Move → System → Mode → List Entry → Type 0 where
  by_turn : {t : System} {p k : ℕ} {m : Mode} {es fs : List Entry} (new : List Entry) → move g s (turn p) ≡ is t →
      Kept t es fs → After p k m → Step g s (serve p (suc k)) es (turn p ∷ []) t m (fs ++ new)
  by_signal : {t : System} {k : ℕ} {es fs : List Entry} (new : List Entry) → move g s signal ≡ is t →
      Kept t es fs → Step g s (flush (suc k)) es (signal ∷ []) t (flush k) (fs ++ new)
  by_tick : {t : System} {k : ℕ} {es : List Entry} (new : List Entry) → Idle s k → move g s tick ≡ is t →
      Step g s (flush k) (round ∷ es) (tick ∷ []) t (flush batch) (es ++ new)
  -- a round ends where nobody waits for a later time
  by_round : {k : ℕ} {es : List Entry} → Idle s k → (WaitsLater s → ⊥) →
      Step g s (flush k) (round ∷ es) [] s (flush batch) (es ++ (round ∷ []))
  by_pop : {k p : ℕ} (n : ℕ) {es : List Entry} → Idle s k → n ≤ slice →
      Step g s (flush k) (worker p ∷ es) [] s (serve p n) es

-- steps one after the other, the queue exact after each
pub data Steps (g : Program) (s₀ : System) (m₀ : Mode) (es₀ : List Entry) : List Move → System → Mode → List Entry →
    Type 0 where
  start : Steps g s₀ m₀ es₀ [] s₀ m₀ es₀
  and_step : {l x : List Move} {s t : System} {m n : Mode} {es fs : List Entry} → Steps g s₀ m₀ es₀ l s m es →
      Step g s m es x t n fs → Queues g t n fs → Steps g s₀ m₀ es₀ (l ++ x) t n fs

-- numbers are apart, and below the next one
abbrev pub Numbered : System → Type 0
Numbered s = Apart s.workers × ((q : ℕ) → s.next ≤ q → find s.workers q ≡ none)

-- x stands before y
pub data Before (x y : Entry) : List Entry → Type 0 where
  first : {es : List Entry} → Mem y es → Before x y (x ∷ es)
  next : {z : Entry} {es : List Entry} → Before x y es → Before x y (z ∷ es)

-- the time for which q waits has come
abbrev pub Due : System → ℕ → Type 0
Due s q =
    (w : Worker) × (u : ℕ) × (find s.workers q ≡ some w) × (time_of w.control ≡ some u) × (u ≤ s.clock)

-- the queue is exact, and who is due stands before the end of the round: so the clock can go on there
pub record Good (g : Program) (s : System) (m : Mode) (es : List Entry) : Type 0 where
  pub numbered : Numbered s
  pub exact : Queues g s m es
  pub timely : (q : ℕ) → Due s q → Before (worker q) round (queued m es)

-- by the moves l the scheduler came from the first system b to s; at first the queue has worker 0 and the end of the round
pub record SoFar (g : Program) (b : System) (l : List Move) (s : System) (m : Mode) (es : List Entry) : Type 0 where
  pub steps : Steps g b (flush 0) (worker 0 ∷ round ∷ []) l s m es
  pub first : Good g b (flush 0) (worker 0 ∷ round ∷ [])
  pub good : Good g s m es
