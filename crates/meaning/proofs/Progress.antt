-- After finitely many steps without a move there is a move, unless all is quiet or a turn has no meaning: whoever
-- stands first in the queue can go on, and at the end of a round the clock can, or the next round begins.
use mathlib.Core.Path.{◌≡◌, refl, sym, ap, subst, ◌∙◌}
use mathlib.Core.Logic.{◌⊎◌, inl, inr}
use mathlib.Core.Bool.{true, false, ◌&&◌, not}
use mathlib.Core.List.{List, [], ◌∷◌, ◌++◌}
use mathlib.Core.Option.{Option, some, none}
use Prim.Native.Nat.{ℕ, zero, suc, ◌<◌, ◌≤◌}
use native.Mathlib.Omega.{arith}
use native.Mathlib.Decide.{dec_le}
use lib.Dec.{leb}
use Rattle.meaning.specs.Basics.{opt}
use Rattle.meaning.specs.Syntax.{Program}
use Rattle.meaning.specs.System.{Worker, Signal, System, find, with_signals, with_clock}
use Rattle.meaning.specs.Turns.{Outcome, goes_on, leaves, stuck, turn_of}
use Rattle.meaning.specs.Moves.{settle, turn, signal, tick, Result, is, not_allowed, no_meaning, move, deliver}
use Rattle.meaning.specs.Moves.{take_signal, time_of, first_time, quiet, any_can, no_signals}
use Rattle.meaning.specs.Fair.{Could, WaitsLater}
use Rattle.meaning.specs.Scheduler.{Woken, Good, Due, Entry, round, worker, Mode, serve, flush, slice, batch, here}
use Rattle.meaning.specs.Scheduler.{Mem, Step, Idle}
use Rattle.meaning.specs.Rounds.{Budget, Soon, now, after}
use Rattle.meaning.proofs.Queue.{Mem-worker, At-none}
use Rattle.meaning.proofs.Past.{after_turn, after_signal}
use Rattle.meaning.proofs.Actions.{turn_on, turn_back, turn_over, signalled, at_round, time_goes, next_round, popped}
use Rattle.meaning.proofs.Scanning.{woken_time, those, newly_could, woken_all, could_or_not, newly_can}
use Rattle.meaning.proofs.Beginning.{due_once}
use Rattle.meaning.proofs.Splits.{impossible, is_false, is_true}
use Rattle.meaning.proofs.Quiet.{somebody_can}
use Rattle.meaning.proofs.Results.{turn_found}

due_or_not : (s : System) (q : ℕ) → Due s q ⊎ (Due s q → ⊥)
due_or_not s q = of_worker (find s.workers q) refl
  where
    of_clock : (w : Worker) → find s.workers q ≡ some w → (u : ℕ) → time_of w.control ≡ some u →
        Dec (u ≤ s.clock) → Due s q ⊎ (Due s q → ⊥)
    of_clock w f u e (yes l) = inl (w, u, f, e, l)
    of_clock w f u e (no h) = inr (λ d. other d)
      where
        other : Due s q → ⊥
        other (x, v, f', e', l) =
            let y : w ≡ x = cc in
            let z : u ≡ v = cc (ap (λ k. time_of k.control) y) in
            h (omega arith)

    of_time : (w : Worker) → find s.workers q ≡ some w → (o : Option ℕ) → time_of w.control ≡ o →
        Due s q ⊎ (Due s q → ⊥)
    of_time w f none e = inr (λ d. other d)
      where
        other : Due s q → ⊥
        other (x, v, f', e', l) = let y : w ≡ x = cc in impossible (cc (ap (λ k. time_of k.control) y))
    of_time w f (some u) e = of_clock w f u e (dec_le u s.clock)

    of_worker : (o : Option Worker) → find s.workers q ≡ o → Due s q ⊎ (Due s q → ⊥)
    of_worker none e = inr (λ d. let f = d.2 in impossible (cc))
    of_worker (some w) e = of_time w e (time_of w.control) refl

pub quiet_now : (g : Program) (s : System) (k : ℕ) → Good g s (flush k) (round ∷ []) → s.signals ≡ [] →
    first_time s.workers ≡ none → quiet g s ≡ true
quiet_now g s k i e f = ap (λ z. no_signals z &&
    (not (any_can g s s.workers) && opt (first_time s.workers) true (λ t. leb t s.clock))) e
    ∙ ap (λ z. not z && opt (first_time s.workers) true (λ t. leb t s.clock))
    (is_false (any_can g s s.workers)
    (λ h. let r = somebody_can g s s.workers i.numbered.0 (is_true (any_can g s s.workers) h) in
    nobody r.0 (i.exact.all r.0 (r.1, r.2, r.3)))) ∙ ap (λ z. opt z true (λ t. leb t s.clock)) f
  where
    nobody : (q : ℕ) → Mem (worker q) (round ∷ []) → ⊥
    nobody q m = At-none (Mem-worker m).1

-- whoever can go on has a turn
turn_allowed : (g : Program) (s : System) (n : ℕ) → Could g s n → move g s (turn n) ≡ not_allowed → ⊥
turn_allowed g s n (w, f, c) h = inner (turn_of g s w) c (sym (turn_found g s n w f) ∙ h)
  where
    denied : (o : Outcome) → settle n o ≡ not_allowed → ⊥
    denied (goes_on c k u) e = impossible (cc)
    denied (leaves u) e = impossible (cc)
    denied stuck e = impossible (cc)

    inner : (o : Option Outcome) → opt o false (λ x. true) ≡ true → opt o not_allowed (settle n) ≡ not_allowed → ⊥
    inner none a e = impossible (cc)
    inner (some o) a e = denied o e

abbrev NoMeaning : Program → System → Type 0
NoMeaning g s = (n : ℕ) × (move g s (turn n) ≡ no_meaning)

turn_soon : (g : Program) (s : System) (n k : ℕ) (es : List Entry) → Good g s (serve n (suc k)) es →
    Budget s (serve n (suc k)) → Soon g s (serve n (suc k)) es ⊎ NoMeaning g s
turn_soon g s n k es i b = go (move g s (turn n)) refl
  where
    go : (r : Result) → move g s (turn n) ≡ r → Soon g s (serve n (suc k)) es ⊎ NoMeaning g s
    go not_allowed e = absurd (turn_allowed g s n (i.exact.able n (zero, here)) e)
    go no_meaning e = inr (n, e)
    go (is t) e = inl (after_it (could_or_not g t n) (due_or_not t n))
      where
        w : Woken g n s t (those (newly_could g n s t) t.workers)
        w = woken_all g n s t (after_turn g s t n i.numbered e).numbered

        on : Could g t n → Due t n → (2 ≤ suc k) ⊎ ((suc k ≡ 1) × Due s n) → Soon g s (serve n (suc k)) es
        on c d (inr (h, d₀)) = absurd (due_once g s t n d₀ e d)
        on c d (inl h) =
            let y = turn_on g s t n k es (those (newly_could g n s t) t.workers) i e w c in
            now y.0 y.1 (left_of (dec_le 2 k))
          where
            left_of : Dec (2 ≤ k) → (2 ≤ k) ⊎ ((k ≡ 1) × Due t n)
            left_of (yes l) = inl l
            left_of (no f) = inr (omega arith, d)

        after_it : Could g t n ⊎ (Could g t n → ⊥) → Due t n ⊎ (Due t n → ⊥) → Soon g s (serve n (suc k)) es
        after_it (inr f) d =
            let y = turn_over g s t n k es (those (newly_could g n s t) t.workers) i e w f in
            now y.0 y.1 tt
        after_it (inl c) (inr f) =
            let y = turn_back g s t n k es (those (newly_could g n s t) t.workers) i e w c f in
            now y.0 y.1 tt
        after_it (inl c) (inl d) = on c d b

pop_soon : (g : Program) (s : System) (k p : ℕ) (es : List Entry) → Good g s (flush k) (worker p ∷ es) → Idle s k →
    Soon g s (flush k) (worker p ∷ es) ⊎ NoMeaning g s
pop_soon g s k p es i idle = go
    (turn_soon g s p 2047 es (popped g s k p slice es i idle (omega arith)).1 (inl (omega arith)))
  where
    go : Soon g s (serve p 2048) es ⊎ NoMeaning g s → Soon g s (flush k) (worker p ∷ es) ⊎ NoMeaning g s
    go (inl y) = let z = popped g s k p slice es i idle (omega arith) in inl (after z.0 z.1 y)
    go (inr y) = inr y

signal_soon : (g : Program) (s : System) (k : ℕ) (es : List Entry) (x : Signal) (gs : List Signal) →
    s.signals ≡ x ∷ gs → Good g s (flush (suc k)) es → Soon g s (flush (suc k)) es
signal_soon g s k es x gs h i = go (find s.workers x.to) refl
  where
    with_t : (t : System) → move g s signal ≡ is t → Soon g s (flush (suc k)) es
    with_t t e =
        let w = woken_all g t.next s t (after_signal g s t t.next i.numbered e).numbered in
        let y = signalled g s t k es (those (newly_could g t.next s t) t.workers) i e w in
        now y.0 y.1 tt

    go : (o : Option Worker) → find s.workers x.to ≡ o → Soon g s (flush (suc k)) es
    go none e = with_t (with_signals s gs)
        (ap (deliver s) h ∙ ap (λ o. opt o (is (with_signals s gs)) (λ w. is (take_signal (with_signals s gs) x w)))
        e)
    go (some w) e = with_t (take_signal (with_signals s gs) x w)
        (ap (deliver s) h ∙ ap (λ o. opt o (is (with_signals s gs)) (λ w. is (take_signal (with_signals s gs) x w)))
        e)

abbrev ComesOn : Program → System → Mode → List Entry → Type 0
ComesOn g s m es = Soon g s m es ⊎ (NoMeaning g s ⊎ (quiet g s ≡ true))

no_quiet : (g : Program) (s : System) (m : Mode) (es : List Entry) → Soon g s m es ⊎ NoMeaning g s →
    ComesOn g s m es
no_quiet g s m es (inl y) = inl y
no_quiet g s m es (inr y) = inr (inl y)

-- after the end of a round with no time to wait for
round_soon : (g : Program) (s : System) (k : ℕ) (es : List Entry) → Good g s (flush k) (round ∷ es) → Idle s k →
    ComesOn g s (flush k) (round ∷ es)
round_soon g s k es i idle = go (at_round g s k es i)
  where
    on : first_time s.workers ≡ none → (WaitsLater s → ⊥) → (gs : List Signal) → s.signals ≡ gs →
        (fs : List Entry) → es ≡ fs → ComesOn g s (flush k) (round ∷ es)
    on h f (x ∷ gs) e fs d =
        let y = next_round g s k es i idle f in
        inl (after y.0 y.1 (signal_soon g s 1023 (es ++ (round ∷ [])) x gs e y.1))
    on h f [] e [] d = inr (inr (quiet_now g s k (subst (λ z. Good g s (flush k) (round ∷ z)) d i) e h))
    on h f [] e (round ∷ fs) d = absurd (i.exact.once.0 (subst (Mem round) (sym d) (zero, here)))
    on h f [] e (worker p ∷ fs) d =
        let y = next_round g s k es i idle f in
        side y.0 y.1 (subst (λ z. Soon g s (flush batch) (z ++ (round ∷ [])) ⊎ NoMeaning g s) (sym d)
        (pop_soon g s batch p (fs ++ (round ∷ []))
        (subst (λ z. Good g s (flush batch) (z ++ (round ∷ []))) d y.1) (inr e)))
      where
        side : Step g s (flush k) (round ∷ es) [] s (flush batch) (es ++ (round ∷ [])) →
            Good g s (flush batch) (es ++ (round ∷ [])) → Soon g s (flush batch) (es ++ (round ∷ []))
            ⊎ NoMeaning g s → ComesOn g s (flush k) (round ∷ es)
        side a b (inl y) = inl (after a b y)
        side a b (inr y) = inr (inl y)

    go : ((first_time s.workers ≡ none) × (WaitsLater s → ⊥))
        ⊎ ((u : ℕ) × (s.clock < u) × (first_time s.workers ≡ some u) × (move g s tick ≡ is (with_clock s u))) →
        ComesOn g s (flush k) (round ∷ es)
    go (inl (h, f)) = on h f s.signals refl es refl
    go (inr (u, l, e, mv)) =
        let y = time_goes g s k u es (those (newly_can g s (with_clock s u)) s.workers) i l
        (woken_time g s u i.numbered) idle mv in
        inl (now y.0 y.1 tt)

pub flush_soon : (g : Program) (s : System) (k : ℕ) (es : List Entry) → Good g s (flush k) es →
    ComesOn g s (flush k) es
flush_soon g s k es i = go k i s.signals refl
  where
    idle : (k : ℕ) → Idle s k → (es : List Entry) → Good g s (flush k) es → ComesOn g s (flush k) es
    idle k d [] i = absurd (At-none i.exact.rounds.1)
    idle k d (round ∷ es) i = round_soon g s k es i d
    idle k d (worker p ∷ es) i = no_quiet g s (flush k) (worker p ∷ es) (pop_soon g s k p es i d)

    go : (k : ℕ) → Good g s (flush k) es → (gs : List Signal) → s.signals ≡ gs → ComesOn g s (flush k) es
    go zero i gs e = idle zero (inl refl) es i
    go (suc k) i [] e = idle (suc k) (inr e) es i
    go (suc k) i (x ∷ gs) e = inl (signal_soon g s k es x gs e i)

pub goes_on_always : (g : Program) (s : System) (m : Mode) (es : List Entry) → Good g s m es → Budget s m →
    Soon g s m es ⊎ (NoMeaning g s ⊎ (quiet g s ≡ true))
goes_on_always g s (flush k) es i b = flush_soon g s k es i
goes_on_always g s (serve n zero) es i b = absurd (go b)
  where
    go : (2 ≤ zero) ⊎ ((zero ≡ 1) × Due s n) → ⊥
    go (inl l) = omega arith
    go (inr (e, d)) = omega arith
goes_on_always g s (serve n (suc k)) es i b = no_quiet g s (serve n (suc k)) es (turn_soon g s n k es i b)
