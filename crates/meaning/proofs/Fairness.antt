-- Every order of moves that the scheduler makes is fair: each step brings whoever waits in the queue nearer by as
-- many moves as it makes, so a stretch without a certain move is short (`stretch_short`), shorter than what counts as
-- long.
use mathlib.Core.Path.{◌≡◌, refl, sym, ap, subst, ◌∙◌}
use mathlib.Core.Logic.{◌⊎◌, inl, inr}
use mathlib.Core.List.{List, [], ◌∷◌, ◌++◌, append_assoc, append-nil}
use Prim.Native.Nat.{ℕ, zero, suc, ◌+◌, ◌*◌, ◌<◌, ◌≤◌}
use native.Mathlib.Omega.{arith}
use native.Mathlib.Decide.{ℕ_discrete}
use lib.ListN.{length}
use Rattle.meaning.specs.Syntax.{Program}
use Rattle.meaning.specs.System.{System}
use Rattle.meaning.specs.Moves.{Move, turn, signal, tick, is, on_is, move, moves}
use Rattle.meaning.specs.Fair.{Could, WaitsLater, able, In, here, there, AllThrough, Fair}
use Rattle.meaning.specs.Scheduler.{Entry, round, worker, Mode, serve, flush, batch, At, Mem, queued, Queues, Small}
use Rattle.meaning.specs.Scheduler.{Idle, After, same_slice, slice_over, Step, by_turn, by_signal, by_tick, by_round}
use Rattle.meaning.specs.Scheduler.{by_pop, Steps, start, and_step}
use Rattle.meaning.specs.Rounds.{FairAlways}
use Rattle.meaning.proofs.Queue.{At-cases, At-append, At-length, kept, queue_bounded, Stays, Mem-cases}
use Rattle.meaning.proofs.Queue.{could_not_gone}
use Rattle.meaning.proofs.Splits.{impossible}

-- what is still to come: steps, and perhaps one move of any kind
data Runs (g : Program) : System → Mode → List Entry → List Move → Type 0 where
  stop : {s : System} {m : Mode} {es : List Entry} → Runs g s m es []
  any_move : {s : System} {m : Mode} {es : List Entry} {x : Move} → Runs g s m es (x ∷ [])
  quietly : {s s' : System} {m m' : Mode} {es es' : List Entry} {l : List Move} → Step g s m es [] s' m' es' →
      s ≡ s' → Queues g s' m' es' → Runs g s' m' es' l → Runs g s m es l
  moving : {s s' : System} {m m' : Mode} {es es' : List Entry} {x : Move} {l : List Move} →
      Step g s m es (x ∷ []) s' m' es' → move g s x ≡ is s' → Queues g s' m' es' → Runs g s' m' es' l →
      Runs g s m es (x ∷ l)

-- the longest that it takes until the entry at place n is served
abbrev moves_left : Mode → ℕ
moves_left (serve p k) = k + batch
moves_left (flush k) = k

abbrev moves_until : Mode → ℕ → ℕ
moves_until m n = moves_left m + 3072 * n

moves_until_bounded : (g : Program) (s : System) (m : Mode) (es : List Entry) (x : Entry) (n : ℕ) → Queues g s m es →
    At x n es → 1 + moves_until m n ≤ 4096 * (1 + able g s s.workers)
moves_until_bounded g s (serve p k) es x n i a =
    let h = queue_bounded g s s.workers (worker p ∷ es) i.once i.able in
    let j = At-length a in
    let y = i.small in
    omega arith
moves_until_bounded g s (flush k) es x n i a =
    let h = queue_bounded g s s.workers es i.once i.able in
    let j = At-length a in
    let y = i.small in
    omega arith

In-none : {x : Move} → In x [] → ⊥
In-none a = elim a as (λ l b. is_none l → ⊥) [ here ↦ λ e. e | there b ↦ λ e. e ] tt
  where
    is_none : List Move → Type 0
    is_none [] = Unit {0}
    is_none (x ∷ es) = ⊥

In-cases : {x y : Move} {l : List Move} → In x (y ∷ l) → (x ≡ y) ⊎ In x l
In-cases here = inl refl
In-cases (there i) = inr i

turn_same : {p q : ℕ} → turn p ≡ turn q → p ≡ q
turn_same e = cc

same_move : (x y : Move) → (x ≡ y) ⊎ (x ≡ y → ⊥)
same_move (turn p) (turn q) = go (ℕ_discrete p q)
  where
    go : Dec (p ≡ q) → (turn p ≡ turn q) ⊎ (turn p ≡ turn q → ⊥)
    go (yes e) = inl (ap turn e)
    go (no f) = inr (λ e. f (turn_same e))
same_move (turn p) signal = inr (λ e. impossible (cc))
same_move (turn p) tick = inr (λ e. impossible (cc))
same_move signal (turn q) = inr (λ e. impossible (cc))
same_move signal signal = inl refl
same_move signal tick = inr (λ e. impossible (cc))
same_move tick (turn q) = inr (λ e. impossible (cc))
same_move tick signal = inr (λ e. impossible (cc))
same_move tick tick = inl refl

In_or_not : (x : Move) (l : List Move) → In x l ⊎ (In x l → ⊥)
In_or_not x [] = inr In-none
In_or_not x (y ∷ l) = go (same_move x y) (In_or_not x l)
  where
    go : (x ≡ y) ⊎ (x ≡ y → ⊥) → In x l ⊎ (In x l → ⊥) → In x (y ∷ l) ⊎ (In x (y ∷ l) → ⊥)
    go (inl e) i = inl (subst (λ z. In x (z ∷ l)) e here)
    go (inr f) (inl i) = inl (there i)
    go (inr f) (inr h) = inr (λ i. other (In-cases i))
      where
        other : (x ≡ y) ⊎ In x l → ⊥
        other (inl e) = f e
        other (inr i) = h i

-- a step brings what stands in the queue nearer, by as much as it moves; or it was its time
abbrev Served : Entry → List Move → System → Mode → Type 0
Served round l s m = (l ≡ tick ∷ []) ⊎ ((l ≡ []) × (WaitsLater s → ⊥))
Served (worker q) l s m = (l ≡ []) × ((k : ℕ) × (m ≡ serve q k))

abbrev NearerBy : Mode → Entry → ℕ → List Move → Mode → List Entry → Type 0
NearerBy m x n l m' es' = (k : ℕ) × At x k es' × (length l + moves_until m' k ≤ moves_until m n)

step_nearer : (g : Program) (s : System) {m m' : Mode} {es es' : List Entry} {l : List Move} {s' : System}
    (x : Entry) (n : ℕ) → Step g s m es l s' m' es' → Stays s' x → At x n es →
    NearerBy m x n l m' es' ⊎ Served x l s m'
step_nearer g s {s' = s'} x n (by_turn {p = p} {k = k} {m = m'} {es = es} {fs = fs} new e r over) c a =
    inl (go (kept x n c r a) over)
  where
    go : {m' : Mode} → (j : ℕ) × (j ≤ n) × At x j fs → After p k m' →
        NearerBy (serve p (suc k)) x n (turn p ∷ []) m' (fs ++ new)
    go (j, le, b) same_slice = (j, At-append new b, omega arith)
    go (j, le, b) slice_over = (j, At-append new b, omega arith)
step_nearer g s {s' = s'} x n (by_signal {k = k} {es = es} {fs = fs} new e r) c a = inl (go (kept x n c r a))
  where
    go : (j : ℕ) × (j ≤ n) × At x j fs → NearerBy (flush (suc k)) x n (signal ∷ []) (flush k) (fs ++ new)
    go (j, le, b) = (j, At-append new b, omega arith)
step_nearer g s x n (by_tick {k = k} {es = es} new i e) c a = go (At-cases a)
  where
    go : (x ≡ round) ⊎ ((j : ℕ) × (n ≡ suc j) × At x j es) →
        NearerBy (flush k) x n (tick ∷ []) (flush batch) (es ++ new) ⊎ Served x (tick ∷ []) s (flush batch)
    go (inl d) = inr (subst (λ z. Served z (tick ∷ []) s (flush batch)) (sym d) (inl refl))
    go (inr (j, d, b)) = inl (j, At-append new b, omega arith)
step_nearer g s x n (by_round {k = k} {es = es} i f) c a = go (At-cases a)
  where
    go : (x ≡ round) ⊎ ((j : ℕ) × (n ≡ suc j) × At x j es) →
        NearerBy (flush k) x n [] (flush batch) (es ++ (round ∷ [])) ⊎ Served x [] s (flush batch)
    go (inl d) = inr (subst (λ z. Served z [] s (flush batch)) (sym d) (inr (refl, f)))
    go (inr (j, d, b)) = inl (j, At-append (round ∷ []) b, omega arith)
step_nearer g s x n (by_pop {k = k} {p = p} t {es = es} i h) c a = go (At-cases a)
  where
    go : (x ≡ worker p) ⊎ ((j : ℕ) × (n ≡ suc j) × At x j es) → NearerBy (flush k) x n [] (serve p t) es
        ⊎ Served x [] s (serve p t)
    go (inl d) = inr (subst (λ z. Served z [] s (serve p t)) (sym d) (refl, (t, refl)))
    go (inr (j, d, b)) = inl (j, b, omega arith)

-- while a worker is served, nobody else moves
serving_turns : {g : Program} {s : System} {m m' : Mode} {es es' : List Entry} {l : List Move} {s' : System}
    (q k : ℕ) → Step g s m es l s' m' es' → m ≡ serve q k → l ≡ turn q ∷ []
serving_turns q k (by_turn new e r over) h = cc
serving_turns q k (by_signal new e r) h = cc
serving_turns q k (by_tick new i e) h = cc
serving_turns q k (by_round i f) h = cc
serving_turns q k (by_pop t i f) h = cc

serving_short : {g : Program} {s : System} {m : Mode} {es : List Entry} {b : List Move} (q k : ℕ) → Runs g s m es b →
    m ≡ serve q k → (In (turn q) b → ⊥) → length b ≤ 1
serving_short q k stop e h = omega arith
serving_short q k any_move e h = omega arith
serving_short q k (quietly st d i r) e h = impossible (cc (serving_turns q k st e))
serving_short q k (moving {x = x} {l = l} st d i r) e h =
    let y : x ≡ turn q = cc (serving_turns q k st e) in
    absurd (h (subst (λ z. In (turn q) (z ∷ l)) (sym y) here))

all_through_now : (g : Program) (s : System) (b : List Move) (P : System → Type 0) → AllThrough g s b P → P s
all_through_now g s b P all = all [] b s refl refl

all_through_later : (g : Program) (s s' : System) (x : Move) (l : List Move) (P : System → Type 0) →
    move g s x ≡ is s' → AllThrough g s (x ∷ l) P → AllThrough g s' l P
all_through_later g s s' x l P e all =
    λ c d t h k. all (x ∷ c) d t (ap (λ y. x ∷ y) h) (ap (λ r. on_is r (λ u. moves g u c)) e ∙ k)

-- a stretch without the move x is short, if each step brings x nearer, as `Due-in` counts, or is x, or nearly ends
-- the stretch
abbrev NearlyEnds : Program → Move → List Move → System → Mode → List Entry → Type 0
NearlyEnds g x l s m es = (b : List Move) → Runs g s m es b → (In x (l ++ b) → ⊥) → length (l ++ b) ≤ 1

abbrev Nears : Program → (System → Type 0) → Move → (Mode → List Entry → ℕ → Type 0) → Type 0
Nears g P x Due-in = (s s' : System) (m m' : Mode) (es es' : List Entry) (l : List Move) (n : ℕ) →
    Step g s m es l s' m' es' → P s → P s' → Due-in m es n → ((k : ℕ) × (length l + k ≤ n) × Due-in m' es' k)
    ⊎ NearlyEnds g x l s' m' es'

stretch_short : (g : Program) (P : System → Type 0) (x : Move) (Due-in : Mode → List Entry → ℕ → Type 0) →
    Nears g P x Due-in → {s : System} {m : Mode} {es : List Entry} {b : List Move} (n : ℕ) → Runs g s m es b →
    Due-in m es n → AllThrough g s b P → (In x b → ⊥) → length b ≤ suc n
stretch_short g P x Due-in step n stop a all h = omega arith
stretch_short g P x Due-in step n any_move a all h = omega arith
stretch_short g P x Due-in step {s} {m} {es} {b} n (quietly {s' = s'} {m' = m'} {es' = es'} st d i r) a all h =
    go (step s s' m m' es es' [] n st (all_through_now g s b P all) (all_through_now g s' b P all') a)
    (λ k c. stretch_short g P x Due-in step k r c all' h)
  where
    all' : AllThrough g s' b P
    all' = subst (λ z. AllThrough g z b P) d all

    go : ((k : ℕ) × (0 + k ≤ n) × Due-in m' es' k) ⊎ NearlyEnds g x [] s' m' es' →
        ((k : ℕ) → Due-in m' es' k → length b ≤ suc k) → length b ≤ suc n
    go (inl (k, le, c)) ih = let j = ih k c in omega arith
    go (inr f) ih = let j = f b r h in omega arith
stretch_short g P x Due-in step {s} {m} {es} n (moving {s' = s'} {m' = m'} {es' = es'} {x = y} {l = l} st d i r) a
    all h =
    go (step s s' m m' es es' (y ∷ []) n st (all_through_now g s (y ∷ l) P all) (all_through_now g s' l P all') a)
    (λ k c. stretch_short g P x Due-in step k r c all' (λ z. h (there z)))
  where
    all' : AllThrough g s' l P
    all' = all_through_later g s s' y l P d all

    go : ((k : ℕ) × (1 + k ≤ n) × Due-in m' es' k) ⊎ NearlyEnds g x (y ∷ []) s' m' es' →
        ((k : ℕ) → Due-in m' es' k → length l ≤ suc k) → length (y ∷ l) ≤ suc n
    go (inl (k, le, c)) ih = let j = ih k c in omega arith
    go (inr f) ih = let j = f l r h in omega arith

by_the_move : {g : Program} {s : System} {m : Mode} {es : List Entry} {l : List Move} (x : Move) → l ≡ x ∷ [] →
    NearlyEnds g x l s m es
by_the_move x e b r h = absurd (h (subst (λ z. In x (z ++ b)) (sym e) here))

-- an entry of the queue: a worker is served, and the round ends
abbrev PlaceIn : Entry → Mode → List Entry → ℕ → Type 0
PlaceIn x m es n = (k : ℕ) × At x k es × (moves_until m k ≤ n)

turn_nears : (g : Program) (q : ℕ) → Nears g (λ u. Could g u q) (turn q) (PlaceIn (worker q))
turn_nears g q s s' m m' es es' l n st c c' (k, a, le) =
    go (step_nearer g s (worker q) k st (λ e. could_not_gone g s' q e c') a)
  where
    go : NearerBy m (worker q) k l m' es' ⊎ Served (worker q) l s m' →
        ((j : ℕ) × (length l + j ≤ n) × PlaceIn (worker q) m' es' j) ⊎ NearlyEnds g (turn q) l s' m' es'
    go (inl (j, b, d)) = inl (moves_until m' j, omega arith, (j, b, omega arith))
    go (inr (e, (j, f))) = inr (λ b r h.
        let y = serving_short q j r f (λ i. h (subst (λ z. In (turn q) (z ++ b)) (sym e) i)) in
        let z : length (l ++ b) ≡ length b = ap (λ c. length (c ++ b)) e in omega arith)

tick_nears : (g : Program) → Nears g WaitsLater tick (PlaceIn round)
tick_nears g s s' m m' es es' l n st c c' (k, a, le) = go (step_nearer g s round k st tt a)
  where
    go : NearerBy m round k l m' es' ⊎ Served round l s m' →
        ((j : ℕ) × (length l + j ≤ n) × PlaceIn round m' es' j) ⊎ NearlyEnds g tick l s' m' es'
    go (inl (j, b, d)) = inl (moves_until m' j, omega arith, (j, b, omega arith))
    go (inr (inl e)) = inr (by_the_move tick e)
    go (inr (inr (e, f))) = absurd (f c)

-- signals are delivered after each slice
abbrev until_signal : Mode → ℕ
until_signal (serve p k) = k
until_signal (flush zero) = 2049
until_signal (flush (suc k)) = 0

abbrev SignalSooner : System → Mode → List Move → Mode → Type 0
SignalSooner s m l m' = (length l + until_signal m' ≤ until_signal m) ⊎ ((l ≡ signal ∷ []) ⊎ (s.signals ≡ []))

step_signal_sooner : {g : Program} {s : System} {m m' : Mode} {es es' : List Entry} {l : List Move} {s' : System} →
    Step g s m es l s' m' es' → SignalSooner s m l m'
step_signal_sooner {s = s} (by_turn {p = p} {k = k} new e r over) = go over
  where
    go : {m' : Mode} → After p k m' → SignalSooner s (serve p (suc k)) (turn p ∷ []) m'
    go same_slice = inl (omega arith)
    go slice_over = inl (omega arith)
step_signal_sooner (by_signal new e r) = inr (inl refl)
step_signal_sooner {s = s} (by_tick {k = k} new i e) = go k i
  where
    go : (k : ℕ) → Idle s k → SignalSooner s (flush k) (tick ∷ []) (flush batch)
    go zero i = inl (omega arith)
    go (suc k) (inl e) = inl (omega arith)
    go (suc k) (inr e) = inr (inr e)
step_signal_sooner {s = s} (by_round {k = k} i f) = go k i
  where
    go : (k : ℕ) → Idle s k → SignalSooner s (flush k) [] (flush batch)
    go zero i = inl (omega arith)
    go (suc k) (inl e) = inl (omega arith)
    go (suc k) (inr e) = inr (inr e)
step_signal_sooner {s = s} (by_pop {k = k} {p = p} t i f) = go k i
  where
    go : (k : ℕ) → Idle s k → SignalSooner s (flush k) [] (serve p t)
    go zero i = inl (omega arith)
    go (suc k) (inl e) = inl (omega arith)
    go (suc k) (inr e) = inr (inr e)

abbrev SignalIn : Mode → List Entry → ℕ → Type 0
SignalIn m es n = until_signal m ≤ n

signal_nears : (g : Program) → Nears g (λ u. u.signals ≡ [] → ⊥) signal SignalIn
signal_nears g s s' m m' es es' l n st c c' le = go (step_signal_sooner st)
  where
    go : SignalSooner s m l m' → ((k : ℕ) × (length l + k ≤ n) × SignalIn m' es' k)
        ⊎ NearlyEnds g signal l s' m' es'
    go (inl d) = inl (until_signal m', omega arith, omega arith)
    go (inr (inl e)) = inr (by_the_move signal e)
    go (inr (inr e)) = absurd (c e)

-- so no stretch without the move is long
abbrev Short : Program → System → List Move → Type 0
Short g t b = length b ≤ 4096 * (1 + able g t t.workers)

module _ (g : Program) (t : System) (es : List Entry) (b : List Move) where
  turn_in_time : (q : ℕ) (m : Mode) → Queues g t m es → Runs g t m es b → AllThrough g t b (λ v. Could g v q) →
      (In (turn q) b → ⊥) → Short g t b
  turn_in_time q m i r all f = go m i r (i.all q (all_through_now g t b (λ v. Could g v q) all))
    where
      queued_there : (m : Mode) → Queues g t m es → Runs g t m es b → Mem (worker q) es → Short g t b
      queued_there m i r (n, a) =
          let le = stretch_short g (λ v. Could g v q) (turn q) (PlaceIn (worker q)) (turn_nears g q)
          (moves_until m n) r (n, a, omega arith) all f in
          let y = moves_until_bounded g t m es (worker q) n i a in
          omega arith

      side : (p k : ℕ) → Queues g t (serve p k) es → Runs g t (serve p k) es b →
          (worker q ≡ worker p) ⊎ Mem (worker q) es → Short g t b
      side p k i r (inl d) =
          let z : p ≡ q = cc in
          let le = serving_short q k r (ap (λ o. serve o k) z) f in
          omega arith
      side p k i r (inr a) = queued_there (serve p k) i r a

      go : (m : Mode) → Queues g t m es → Runs g t m es b → Mem (worker q) (queued m es) → Short g t b
      go (serve p k) i r a = side p k i r (Mem-cases a)
      go (flush k) i r a = queued_there (flush k) i r a

  tick_in_time : (m : Mode) → Queues g t m es → Runs g t m es b → AllThrough g t b WaitsLater → (In tick b → ⊥) →
      Short g t b
  tick_in_time m i r all f =
      let n = i.rounds.0 in
      let le = stretch_short g WaitsLater tick (PlaceIn round) (tick_nears g) (moves_until m n) r
      (n, i.rounds.1, omega arith) all f in
      let y = moves_until_bounded g t m es round n i i.rounds.1 in
      omega arith

  signal_in_time : (m : Mode) → Queues g t m es → Runs g t m es b → AllThrough g t b (λ v. v.signals ≡ [] → ⊥) →
      (In signal b → ⊥) → Short g t b
  signal_in_time m i r all f =
      let le = stretch_short g (λ v. v.signals ≡ [] → ⊥) signal SignalIn (signal_nears g) (until_signal m) r
      (omega arith) all f in
      let y = small m i.small in
      omega arith
    where
      small : (m : Mode) → Small m → suc (until_signal m) ≤ 4096
      small (serve p k) h = omega arith
      small (flush zero) h = omega arith
      small (flush (suc k)) h = omega arith

-- what is left after some moves, and a part of it from its front
record Rest (g : Program) (t : System) (r : List Move) : Type 0 where
  mode : Mode
  queue : List Entry
  exact : Queues g t mode queue
  runs : Runs g t mode queue r

cons_not_none : {x : Move} {l : List Move} → [] ≡ x ∷ l → ⊥
cons_not_none e = impossible (cc)

tail_is : {x y : Move} {l r : List Move} → x ∷ l ≡ y ∷ r → l ≡ r
tail_is e = cc

head_is : {x y : Move} {l r : List Move} → x ∷ l ≡ y ∷ r → x ≡ y
head_is e = cc

append_none_right : (a r : List Move) → [] ≡ a ++ r → r ≡ []
append_none_right [] r e = sym e
append_none_right (x ∷ a) r e = absurd (cons_not_none e)

append_none_left : (a r : List Move) → [] ≡ a ++ r → [] ≡ a
append_none_left [] r e = refl
append_none_left (x ∷ a) r e = absurd (cons_not_none e)

rest_at_once : (g : Program) {s : System} {m : Mode} {es : List Entry} {l : List Move} (r : List Move) (t : System) →
    Queues g s m es → Runs g s m es l → l ≡ r → moves g s [] ≡ is t → (r ≡ []) ⊎ Rest g t r
rest_at_once g {s} {m} {es} r t i u e h = let y : s ≡ t = cc in inr (subst (λ z. Rest g z r) y (record {
  mode = m;
  queue = es;
  exact = i;
  runs = subst (Runs g s m es) e u;
}))

rest_after : (g : Program) {s : System} {m : Mode} {es : List Entry} {l : List Move} → Runs g s m es l →
    (a r : List Move) (t : System) → Queues g s m es → l ≡ a ++ r → moves g s a ≡ is t → (r ≡ []) ⊎ Rest g t r
rest_after g stop [] r t i e h = rest_at_once g r t i stop e h
rest_after g stop (x ∷ a) r t i e h = absurd (cons_not_none e)
rest_after g any_move [] r t i e h = rest_at_once g r t i any_move e h
rest_after g any_move (x ∷ a) r t i e h = inl (append_none_right a r (tail_is e))
rest_after g (quietly st d j u) [] r t i e h = rest_at_once g r t i (quietly st d j u) e h
rest_after g (quietly st d j u) (x ∷ a) r t i e h =
    rest_after g u (x ∷ a) r t j e (subst (λ z. moves g z (x ∷ a) ≡ is t) d h)
rest_after g (moving st d j u) [] r t i e h = rest_at_once g r t i (moving st d j u) e h
rest_after g (moving {s = s} {s' = s'} {x = y} {l = l} st d j u) (x ∷ a) r t i e h =
    rest_after g u a r t j (tail_is e)
    (sym (ap (λ z. on_is z (λ v. moves g v a)) (subst (λ z. move g s z ≡ is s') (head_is e) d)) ∙ h)

runs_front : {g : Program} {s : System} {m : Mode} {es : List Entry} {l : List Move} → Runs g s m es l →
    (b c : List Move) → l ≡ b ++ c → Runs g s m es b
runs_front stop [] c e = stop
runs_front stop (x ∷ b) c e = absurd (cons_not_none e)
runs_front any_move [] c e = stop
runs_front {g} {s} {m} {es} any_move (x ∷ b) c e =
    subst (λ z. Runs g s m es (x ∷ z)) (append_none_left b c (tail_is e)) any_move
runs_front (quietly st d j u) [] c e = stop
runs_front (quietly st d j u) (x ∷ b) c e = quietly st d j (runs_front u (x ∷ b) c e)
runs_front (moving st d j u) [] c e = stop
runs_front {g} {s} {m} {es} (moving {x = y} {l = l} st d j u) (x ∷ b) c e =
    subst (λ z. Runs g s m es (z ∷ b)) (head_is e) (moving st d j (runs_front u b c (tail_is e)))

module _ (g : Program) where
  -- a long stretch of the order has the move
  long_has : {s : System} {m : Mode} {es : List Entry} {l : List Move} → Queues g s m es → Runs g s m es l →
      (x : Move) (a b c : List Move) (t : System) → l ≡ a ++ (b ++ c) → moves g s a ≡ is t →
      4096 * (1 + able g t t.workers) < length b →
      ((es : List Entry) (m : Mode) → Queues g t m es → Runs g t m es b → (In x b → ⊥) → Short g t b) → In x b
  long_has i u x a b c t e h long short = go (rest_after g u a (b ++ c) t i e h) (In_or_not x b)
    where
      none_long : b ++ c ≡ [] → ⊥
      none_long d = let y : length b ≡ 0 = ap length (sym (append_none_left b c (sym d))) in omega arith

      go : (b ++ c ≡ []) ⊎ Rest g t (b ++ c) → In x b ⊎ (In x b → ⊥) → In x b
      go w (inl y) = y
      go (inl d) (inr f) = absurd (none_long d)
      go (inr w) (inr f) =
          let le = short w.queue w.mode w.exact (runs_front w.runs b c refl) f in
          absurd (omega arith)

  runs_fair : {s : System} {m : Mode} {es : List Entry} {l : List Move} → Queues g s m es → Runs g s m es l →
      Fair g s l
  runs_fair i u = record {
    turns = λ a b c t q e h all long. long_has i u (turn q) a b c t e h long
        (λ es m j r f. turn_in_time g t es b q m j r all f);
    signals = λ a b c t e h all long. long_has i u signal a b c t e h long
        (λ es m j r f. signal_in_time g t es b m j r all f);
    times = λ a b c t e h all long. long_has i u tick a b c t e h long
        (λ es m j r f. tick_in_time g t es b m j r all f);
  }

-- steps that were made, with what is to come
step_then_runs : {g : Program} {s s' : System} {m m' : Mode} {es es' : List Entry} {x r : List Move} →
    Step g s m es x s' m' es' → Queues g s' m' es' → Runs g s' m' es' r → Runs g s m es (x ++ r)
step_then_runs (by_turn new e k a) i u = moving (by_turn new e k a) e i u
step_then_runs (by_signal new e k) i u = moving (by_signal new e k) e i u
step_then_runs (by_tick new d e) i u = moving (by_tick new d e) e i u
step_then_runs (by_round d f) i u = quietly (by_round d f) refl i u
step_then_runs (by_pop n d f) i u = quietly (by_pop n d f) refl i u

steps_then_runs : {g : Program} {s₀ : System} {m₀ : Mode} {es₀ : List Entry} {s : System} {m : Mode}
    {es : List Entry} {l r : List Move} → Steps g s₀ m₀ es₀ l s m es → Runs g s m es r → Runs g s₀ m₀ es₀ (l ++ r)
steps_then_runs start u = u
steps_then_runs {g} {s₀} {m₀} {es₀} {r = r} (and_step {l = l} {x = x} a st i) u =
    subst (Runs g s₀ m₀ es₀) (sym (append_assoc l x r)) (steps_then_runs a (step_then_runs st i u))

pub fair_always : FairAlways
fair_always g s₀ s m₀ m es₀ es l i a = (
  runs_fair g i (subst (Runs g s₀ m₀ es₀) (append-nil l) (steps_then_runs a stop)),
  λ x. runs_fair g i
      (steps_then_runs a any_move),
)
