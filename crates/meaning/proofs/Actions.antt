-- What the scheduler may do, one lemma for each action: a turn, a signal, the clock, the end of a round, the next
-- entry. Each is a step after which the queue is exact again, and whoever is due stands before the end of the round.
use mathlib.Core.Path.{◌≡◌, refl, sym, ap, subst, ◌∙◌}
use mathlib.Core.Logic.{◌⊎◌, inl, inr}
use mathlib.Core.List.{List, [], ◌∷◌, ◌++◌, append_assoc}
use mathlib.Core.Option.{Option, some, none}
use Prim.Native.Nat.{ℕ, zero, suc, ◌<◌, ◌≤◌}
use native.Mathlib.Omega.{arith}
use native.Mathlib.Decide.{dec_le}
use Rattle.meaning.specs.Syntax.{Program}
use Rattle.meaning.specs.System.{Worker, System, find, with_clock}
use Rattle.meaning.specs.Moves.{turn, signal, tick, is, move, time_of, first_time}
use Rattle.meaning.specs.Fair.{Could, WaitsLater}
use Rattle.meaning.specs.Scheduler.{alive, Woken, Numbered, Before, first, next, Due, Good, Entry, round, worker}
use Rattle.meaning.specs.Scheduler.{serve, flush, slice, batch, here, Mem, Distinct, Queues, by_turn, by_signal}
use Rattle.meaning.specs.Scheduler.{by_tick, by_round, by_pop, same_slice, slice_over, Idle}
use Rattle.meaning.specs.Rounds.{Leads, AtRound}
use Rattle.meaning.proofs.Queue.{Mem-worker, Mem-round, Mem-one, At-none, Mem-behind, could_not_gone, Mem-left}
use Rattle.meaning.proofs.Queue.{Mem-right, Mem-split, Distinct-append, Before_last, Before_kept, kept_whole}
use Rattle.meaning.proofs.Queue.{Before-cases, Before-append, Before-mem, kept_mem}
use Rattle.meaning.proofs.Ready.{due-could}
use Rattle.meaning.proofs.Past.{Undisturbed, undisturbed_same, UndisturbedOrGone, Past, after_turn, after_signal}
use Rattle.std.proofs.lemmas.Bool.{cases_eq}
use Rattle.meaning.proofs.Splits.{some_or_none, impossible}
use Rattle.meaning.proofs.Exact.{exact_served, exact_over, exact_back, exact_ticked, all_after}
use Rattle.meaning.proofs.Times.{no_first_time, first_time_waited, tick_is}
use Rattle.meaning.proofs.Alive.{alive_kept, alive_there}
use Rattle.meaning.proofs.Able.{still_could, could_stays}

-- whose time has come after a turn of n or a signal, its time had come before
due-before : (n : ℕ) (s t : System) → Past n s t → (q : ℕ) → (q ≡ n → ⊥) → Due t q → Due s q
due-before n s t p q d (x, u, f, e, l) = go (some_or_none (find s.workers q))
  where
    go : (find s.workers q ≡ none) ⊎ ((w : Worker) × (find s.workers q ≡ some w)) → Due s q
    go (inl h) = impossible (cc (p.fresh q x d h f))
    go (inr (w, h)) =
        let m : Undisturbed w x = subst (UndisturbedOrGone w) f (p.others q w d h) in
        let c = p.clock in
        (w, u, h, ap time_of (sym m.0) ∙ e, omega arith)

due_found : (s : System) (q : ℕ) → Due s q → find s.workers q ≡ none → ⊥
due_found s q (w, u, f, e, l) h = impossible (cc)

module _ (g : Program) (s t : System) (n k : ℕ) (es new : List Entry) (i : Good g s (serve n (suc k)) es)
    (mv : move g s (turn n) ≡ is t) (w : Woken g n s t new) where
  turn_past : Past n s t
  turn_past = after_turn g s t n i.numbered mv

  turn_timely : (q : ℕ) → (q ≡ n → ⊥) → Due t q → Before (worker q) round (alive t es)
  turn_timely q d y = go (Before-cases (i.timely q (due-before n s t turn_past q d y)))
    where
      go : ((worker q ≡ worker n) × Mem round es) ⊎ Before (worker q) round es → Before (worker q) round (alive t es)
      go (inl (e, m)) = let z : q ≡ n = cc in absurd (d z)
      go (inr b) = Before_kept q (alive_kept t es) (due_found t q y) b

  turn_rounds : Mem round (alive t es ++ new)
  turn_rounds = Mem-left new (kept_mem round tt (alive_kept t es) i.exact.rounds)

  turn_could_stays : (q : ℕ) → (q ≡ n → ⊥) → Could g s q → Could g t q ⊎ (find t.workers q ≡ none)
  turn_could_stays q d c = could_stays g s t n q turn_past d c

  turn_able : (q : ℕ) → Mem (worker q) es → Could g s q
  turn_able q m = i.exact.able q (Mem-behind (worker n) m)

  -- the worker goes on
  pub turn_on : Could g t n → Leads g s (serve n (suc k)) es (turn n ∷ []) t (serve n k) (alive t es ++ new)
  turn_on c = (
    by_turn new mv (alive_kept t es) same_slice,
    record {
      numbered = turn_past.numbered;
      exact = exact_served g s t n turn_could_stays es (alive t es) new (alive_kept t es) (alive_there t es) w
          i.exact.once turn_able i.exact.all k (let h = i.exact.small in omega arith) c turn_rounds;
      timely = λ q y. side q y (cases_eq q n);
    },
  )
    where
      side : (q : ℕ) → Due t q → (q ≡ n) ⊎ (q ≡ n → ⊥) → Before (worker q) round (worker n ∷ (alive t es ++ new))
      side q y (inl e) = subst (λ z. Before (worker z) round (worker n ∷ (alive t es ++ new))) (sym e)
          (first turn_rounds)
      side q y (inr d) = next (Before-append new (turn_timely q d y))

  -- its slice is over, but never where its time has come
  pub turn_back : Could g t n → (Due t n → ⊥) →
      Leads g s (serve n (suc k)) es (turn n ∷ []) t (flush batch) (alive t es ++ (new ++ (worker n ∷ [])))
  turn_back c h = (
    by_turn (new ++ (worker n ∷ [])) mv (alive_kept t es) slice_over,
    record {
      numbered = turn_past.numbered;
      exact = exact_back g s t n turn_could_stays es (alive t es) new (alive_kept t es) (alive_there t es) w
          i.exact.once turn_able i.exact.all batch (omega arith) c turn_rounds;
      timely = λ q y. Before-append (new ++ (worker n ∷ [])) (turn_timely q (λ e. h (subst (Due t) e y)) y);
    },
  )

  -- it can't go on, or is no more
  pub turn_over : (Could g t n → ⊥) → Leads g s (serve n (suc k)) es (turn n ∷ []) t (flush batch) (alive t es ++ new)
  turn_over h = (
    by_turn new mv (alive_kept t es) slice_over,
    record {
      numbered = turn_past.numbered;
      exact = exact_over g s t n turn_could_stays es (alive t es) new (alive_kept t es) (alive_there t es) w
          i.exact.once turn_able i.exact.all batch (omega arith) h turn_rounds;
      timely = λ q y. Before-append new (turn_timely q (λ e. h (due-could g t n (subst (Due t) e y))) y);
    },
  )

-- a number that nobody has
nobody_beyond : (g : Program) (s : System) → Numbered s → (n : ℕ) → s.next ≤ n → Could g s n → ⊥
nobody_beyond g s i n l c = could_not_gone g s n (i.1 n l) c

module _ (g : Program) (s t : System) (k : ℕ) (es new : List Entry) (i : Good g s (flush (suc k)) es)
    (mv : move g s signal ≡ is t) (w : Woken g t.next s t new) where
  signal_past : Past t.next s t
  signal_past = after_signal g s t t.next i.numbered mv

  could_not_next : (q : ℕ) → Could g s q → q ≡ t.next → ⊥
  could_not_next q c e = let h = signal_past.next in nobody_beyond g s i.numbered q (omega arith) c

  pub signalled : Leads g s (flush (suc k)) es (signal ∷ []) t (flush k) (alive t es ++ new)
  signalled = (
    by_signal new mv (alive_kept t es),
    record {
      numbered = signal_past.numbered;
      exact = exact_over g s t t.next
          (λ q d c. could_stays g s t t.next q signal_past d c) es (alive t es) new (alive_kept t es)
          (alive_there t es) w ((λ m. could_not_next t.next (i.exact.able t.next m) refl), i.exact.once)
          i.exact.able (λ q c. Mem-behind (worker t.next) (i.exact.all q c)) k (let h = i.exact.small in
          omega arith) (nobody_beyond g t signal_past.numbered t.next (omega arith))
          (Mem-left new (kept_mem round tt (alive_kept t es) i.exact.rounds));
      timely = λ q y. Before-append new
          (Before_kept q (alive_kept t es) (due_found t q y)
          (i.timely q (due-before t.next s t signal_past q
          (λ e. nobody_beyond g t signal_past.numbered q (omega arith) (due-could g t q y)) y)));
    },
  )

-- at the end of a round nobody's time has come
no_due : (g : Program) (s : System) (k : ℕ) (es : List Entry) → Good g s (flush k) (round ∷ es) → (q : ℕ) → Due s q →
    ⊥
no_due g s k es i q y = go (Before-cases (i.timely q y))
  where
    go : ((worker q ≡ round) × Mem round es) ⊎ Before (worker q) round es → ⊥
    go (inl (e, m)) = impossible (cc)
    go (inr b) = i.exact.once.0 (Before-mem b)

pub at_round : (g : Program) (s : System) (k : ℕ) (es : List Entry) → Good g s (flush k) (round ∷ es) → AtRound g s
at_round g s k es i = go (first_time s.workers) refl
  where
    late : (q : ℕ) (w : Worker) (u : ℕ) → find s.workers q ≡ some w → time_of w.control ≡ some u → s.clock < u
    late q w u f e = side (dec_le u s.clock)
      where
        side : Dec (u ≤ s.clock) → s.clock < u
        side (yes l) = absurd (no_due g s k es i q (w, u, f, e, l))
        side (no l) = omega arith

    first_late : (u : ℕ) → first_time s.workers ≡ some u → s.clock < u
    first_late u e = let r = first_time_waited s.workers u i.numbered.0 e in late r.0 r.1 u r.2 r.3

    go : (o : Option ℕ) → first_time s.workers ≡ o → AtRound g s
    go none e = inl (e, λ y. no_first_time s.workers y.0 y.1 y.2 e y.3 y.4)
    go (some u) e = let l = first_late u e in inr (u, l, e, tick_is g s u e l)

-- time goes on: all that can go on now stand before the end of the next round
module _ (g : Program) (s : System) (k u : ℕ) (es new : List Entry) (i : Good g s (flush k) (round ∷ es))
    (l : s.clock < u) (w : Woken g s.next s (with_clock s u) new) where
  tick_could_stays : (q : ℕ) → (q ≡ s.next → ⊥) → Could g s q →
      Could g (with_clock s u) q ⊎ (find s.workers q ≡ none)
  tick_could_stays q d (x, f, c) =
      still_could g s (with_clock s u) q x (find s.workers q) (omega arith) c
      (subst (UndisturbedOrGone x) (sym f) (undisturbed_same x)) refl

  tick_able : (q : ℕ) → Mem (worker q) es → Could g s q
  tick_able q m = i.exact.able q (Mem-behind round m)

  tick_there : (q : ℕ) → Mem (worker q) es → find s.workers q ≡ none → ⊥
  tick_there q m e = could_not_gone g s q e (tick_able q m)

  next_not_able : Could g s s.next → ⊥
  next_not_able = nobody_beyond g s i.numbered s.next (omega arith)

  next_not_able_later : Could g (with_clock s u) s.next → ⊥
  next_not_able_later = nobody_beyond g (with_clock s u) i.numbered s.next (omega arith)

  tick_once : Distinct (worker s.next ∷ es)
  tick_once = (λ m. next_not_able (tick_able s.next m), i.exact.once.1)

  tick_every : (q : ℕ) → Could g s q → Mem (worker q) (worker s.next ∷ es)
  tick_every q c = Mem-behind (worker s.next) (Mem-worker (i.exact.all q c))

  tick_no_round : Mem round (es ++ new) → ⊥
  tick_no_round m = go (Mem-split es m)
    where
      go : Mem round es ⊎ Mem round new → ⊥
      go (inl a) = i.exact.once.0 a
      go (inr b) = let y = w.each round b in let e = y.1 in impossible (cc)

  tick_exact : Queues g (with_clock s u) (flush batch) (es ++ (new ++ (round ∷ [])))
  tick_exact = exact_ticked g s (with_clock s u) s.next tick_could_stays es es new
      (kept_whole (with_clock s u) es) tick_there w tick_once tick_able tick_every batch (omega arith)
      next_not_able_later tick_no_round

  tick_timely : (q : ℕ) → Due (with_clock s u) q → Before (worker q) round (es ++ (new ++ (round ∷ [])))
  tick_timely q y =
      let c = due-could g (with_clock s u) q y in
      subst (Before (worker q) round) (append_assoc es new (round ∷ []))
      (Before_last (worker q) round (es ++ new)
      (all_after g s (with_clock s u) s.next tick_could_stays es es new (kept_whole (with_clock s u) es)
      tick_there w tick_once tick_able tick_every q
      (λ e. next_not_able_later (subst (Could g (with_clock s u)) e c)) c))

  pub time_goes : Idle s k → move g s tick ≡ is (with_clock s u) →
      Leads g s (flush k) (round ∷ es) (tick ∷ []) (with_clock s u) (flush batch) (es ++ (new ++ (round ∷ [])))
  time_goes idle mv = (
    by_tick (new ++ (round ∷ [])) idle mv,
    record {
      numbered = i.numbered;
      exact = tick_exact;
      timely = tick_timely;
    },
  )

-- nobody waits for a time: the next round
module _ (g : Program) (s : System) (k : ℕ) (es : List Entry) (i : Good g s (flush k) (round ∷ es)) where
  round_every : (q : ℕ) → Could g s q → Mem (worker q) es
  round_every q c = Mem-worker (i.exact.all q c)

  round_able : (q : ℕ) → Mem (worker q) (es ++ (round ∷ [])) → Could g s q
  round_able q m = elim (Mem-split es m) [
    | inl a ↦ i.exact.able q (Mem-behind round a)
    | inr b ↦ impossible (cc (Mem-one b))
  ]

  round_once : Distinct (es ++ (round ∷ []))
  round_once = Distinct-append es (round ∷ []) i.exact.once.1 ((λ m. At-none m.1), tt)
      (λ x a b. i.exact.once.0 (subst (λ z. Mem z es) (Mem-one b) a))

  pub next_round : Idle s k → (WaitsLater s → ⊥) →
      Leads g s (flush k) (round ∷ es) [] s (flush batch) (es ++ (round ∷ []))
  next_round idle f = (
    by_round idle f,
    record {
      numbered = i.numbered;
      exact = record {
        once = round_once;
        able = round_able;
        all = λ q c. Mem-left (round ∷ []) (round_every q c);
        rounds = Mem-right es (zero, here);
        small = omega arith;
      };
      timely = λ q y. Before_last (worker q) round es (round_every q (due-could g s q y));
    },
  )

pub popped : (g : Program) (s : System) (k p n : ℕ) (es : List Entry) → Good g s (flush k) (worker p ∷ es) →
    Idle s k → n ≤ slice → Leads g s (flush k) (worker p ∷ es) [] s (serve p n) es
popped g s k p n es i idle l = (
  by_pop n idle l,
  record {
    numbered = i.numbered;
    exact = record {
      once = i.exact.once;
      able = i.exact.able;
      all = i.exact.all;
      rounds = Mem-round i.exact.rounds;
      small = l;
    };
    timely = i.timely;
  },
)
