-- Fair orders of moves: whoever could move all through a stretch that is long enough moves in it.
use Rattle.std.specs.Prelude.{◌≡◌, true, cond, List, [], ◌∷◌, ◌++◌, ℕ, ◌+◌, ◌*◌, ◌<◌, length}
use Rattle.std.proofs.Math.Option.{some}
use Rattle.meaning.specs.Syntax.{Program}
use Rattle.meaning.specs.System.{Worker, System, find}
use Rattle.meaning.specs.Turns.{can}
use Rattle.meaning.specs.Moves.{Move, turn, signal, tick, is, moves, time_of}

-- how many workers can take a turn
abbrev pub able : Program → System → List Worker → ℕ
able g s [] = 0
able g s (w ∷ ws) = cond (can g s w) 1 0 + able g s ws

-- a stretch of moves is long from s on: more than 4,096 for each worker that could take a turn there, and one more
abbrev pub Long : Program → System → List Move → Type 0
Long g s b = 4096 * (1 + able g s s.workers) < length b

pub data In (m : Move) : List Move → Type 0 where
  here : {l : List Move} → In m (m ∷ l)
  there : {k : Move} {l : List Move} → In m l → In m (k ∷ l)

-- P holds of every system that the moves b come to from s, s among them
abbrev pub AllThrough : Program → System → List Move → (System → Type 0) → Type 0
AllThrough g s b P = (c d : List Move) (t : System) → b ≡ c ++ d → moves g s c ≡ is t → P t

-- the worker q can take a turn
abbrev pub Could : Program → System → ℕ → Type 0
Could g s q = (w : Worker) × (find s.workers q ≡ some w) × (can g s w ≡ true)

-- somebody waits for a time that has not come
abbrev pub WaitsLater : System → Type 0
WaitsLater s =
    (q : ℕ) × (w : Worker) × (t : ℕ) × (find s.workers q ≡ some w) × (time_of w.control ≡ some t)
    × (s.clock < t)

-- the order l is fair from s on: to workers, to the oldest signal, and to the clock
pub record Fair (g : Program) (s : System) (l : List Move) : Type 0 where
  pub turns : (a b c : List Move) (t : System) (q : ℕ) → l ≡ a ++ (b ++ c) → moves g s a ≡ is t →
      AllThrough g t b (λ u. Could g u q) → Long g t b → In (turn q) b
  pub signals : (a b c : List Move) (t : System) → l ≡ a ++ (b ++ c) → moves g s a ≡ is t →
      AllThrough g t b (λ u. u.signals ≡ [] → ⊥) → Long g t b → In signal b
  pub times : (a b c : List Move) (t : System) → l ≡ a ++ (b ++ c) → moves g s a ≡ is t →
      AllThrough g t b (λ u. WaitsLater u) → Long g t b → In tick b
