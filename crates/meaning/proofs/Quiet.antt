-- Quiet is where no move can be made: no signal, nobody that can go on, and no time to wait for. Where nobody's time
-- has come and somebody waits for one, the clock can go on.
use mathlib.Core.Logic.{◌⊎◌, inl, inr}
use mathlib.Core.Path.{◌≡◌, refl, sym, ap, subst, ◌∙◌}
use mathlib.Core.Bool.{Bool, true, false, ◌&&◌, ◌||◌, not, cond}
use mathlib.Core.List.{List, [], ◌∷◌}
use mathlib.Core.Option.{Option, some, none}
use Prim.Native.Nat.{ℕ}
use native.Mathlib.Omega.{arith}
use lib.Dec.{eqb, ltb, leb, T, leb→le, ltb→lt, nleb→lt}
use Rattle.meaning.specs.Basics.{opt}
use Rattle.meaning.specs.Syntax.{Program}
use Rattle.meaning.specs.System.{Worker, Signal, System, with_signals, find, on_worker, set_control, with_clock}
use Rattle.meaning.specs.System.{Apart}
use Rattle.meaning.specs.Turns.{Outcome, goes_on, leaves, stuck, turn_of, can}
use Rattle.meaning.specs.Moves.{Move, turn, signal, tick, Result, is, not_allowed, settle, take_signal, deliver}
use Rattle.meaning.specs.Moves.{any_can, first_time, move, no_signals, quiet}
use Rattle.meaning.specs.Promise.{QuietMeans, ClockGoes}
use Rattle.std.proofs.lemmas.Bool.{and_cases, and_parts, cond_both, not-false, not-true, or_parts}
use Rattle.meaning.proofs.Splits.{some_or_none, is_true, bool_all, T_of, no_clash, opt_all, some_is, none_some}
use Rattle.meaning.proofs.Finding.{find-behind, find_here}
use Rattle.meaning.proofs.Links.{Sound, reached_sound}
use Rattle.meaning.proofs.NeverStuck.{GoodSystem, move_good, reached_good}
use Rattle.meaning.proofs.Results.{OnResult, turn_found}
use Rattle.meaning.proofs.Times.{first_time_waited, first_time-below, tick_is}
use Rattle.meaning.proofs.GoodPrograms.{GoodProgram, reads_good}

pub nobody_can : (g : Program) (s : System) (ws : List Worker) (n : ℕ) (w : Worker) → any_can g s ws ≡ false →
    find ws n ≡ some w → can g s w ≡ false
nobody_can g s [] n w h e = absurd (none_some e)
nobody_can g s (v ∷ ws) n w h e =
    let z = or_parts (can g s v) (any_can g s ws) h in
    cond_both (eqb v.pid n) (some v) (find ws n) (λ o. o ≡ some w → can g s w ≡ false)
    (λ i d. ap (can g s) (sym (some_is d)) ∙ z.0) (λ i d. nobody_can g s ws n w z.1 d) e

pub somebody_can : (g : Program) (s : System) (ws : List Worker) → Apart ws → any_can g s ws ≡ true →
    (n : ℕ) × (w : Worker) × (find ws n ≡ some w) × (can g s w ≡ true)
somebody_can g s [] u h = no_clash h refl
somebody_can g s (v ∷ ws) u h =
    bool_all (λ b. can g s v ≡ b → (b || any_can g s ws) ≡ true → (n : ℕ) × (w : Worker) × (find (v ∷ ws) n ≡ some w)
    × (can g s w ≡ true)) (can g s v)
    (λ e i d. (v.pid, v, find_here v ws v.pid refl, e))
    (λ e i d. let r = somebody_can g s ws u.1 d in (r.0, r.1, find-behind v ws r.0 r.1 u r.2, r.3))
    refl h

pub turn_settles : (g : Program) (s : System) (n : ℕ) (w : Worker) (o : Outcome) → find s.workers n ≡ some w →
    turn_of g s w ≡ some o → move g s (turn n) ≡ settle n o
turn_settles g s n w o e d = turn_found g s n w e ∙ ap (λ (y : Option Outcome). opt y not_allowed (settle n)) d

can_outcome : (o : Option Outcome) → opt o false (λ x. true) ≡ true → (x : Outcome) × (o ≡ some x)
can_outcome none h = no_clash h refl
can_outcome (some x) h = (x, refl)

not_allowed_is : {A : Type 0} {u : System} → not_allowed ≡ is u → A
not_allowed_is {A} {u} e = absurd (subst (λ (r : Result). OnResult (λ t. ⊥) (Unit {0}) r) e tt)

-- nobody waits for a later time
abbrev no_later_time : System → Bool
no_later_time s = opt (first_time s.workers) true (λ t. leb t s.clock)

quiet_no_move : (g : Program) (s : System) → quiet g s ≡ true → (m : Move) (u : System) → move g s m ≡ is u → ⊥
quiet_no_move g s h m u e = go m e
  where
    parts : (no_signals s.signals ≡ true) × ((not (any_can g s s.workers) && no_later_time s) ≡ true)
    parts = and_parts (no_signals s.signals) (not (any_can g s s.workers) && no_later_time s) h

    idle : (not (any_can g s s.workers) ≡ true) × (no_later_time s ≡ true)
    idle = and_parts (not (any_can g s s.workers)) (no_later_time s) parts.1

    no_delivery : (gs : List Signal) → no_signals gs ≡ true → deliver s gs ≡ is u → ⊥
    no_delivery [] i d = not_allowed_is d
    no_delivery (x ∷ gs) i d = no_clash i refl

    no_tick : (o : Option ℕ) → opt o true (λ t. leb t s.clock) ≡ true →
        opt o not_allowed (λ t. cond (ltb s.clock t) (is (with_clock s t)) not_allowed) ≡ is u → ⊥
    no_tick none i d = not_allowed_is d
    no_tick (some t) i d = cond_both (ltb s.clock t) (is (with_clock s t)) not_allowed (λ r. r ≡ is u → ⊥)
        (λ j c. let y = leb→le t s.clock (T_of i) in let z = ltb→lt s.clock t (T_of j) in omega arith)
        (λ j c. not_allowed_is c) d

    no_turn : (n : ℕ) (w : Worker) → find s.workers n ≡ some w → (o : Option Outcome) → turn_of g s w ≡ o →
        opt o not_allowed (settle n) ≡ is u → ⊥
    no_turn n w f none i d = not_allowed_is d
    no_turn n w f (some o) i d = no_clash (ap (λ (y : Option Outcome). opt y false (λ z. true)) i)
        (nobody_can g s s.workers n w (not-true (any_can g s s.workers) idle.0) f)

    go : (m : Move) → move g s m ≡ is u → ⊥
    go (turn n) d = opt_all (λ r. r ≡ is u → ⊥) (find s.workers n) not_allowed
        (λ w. opt (turn_of g s w) not_allowed (settle n)) (λ i c. not_allowed_is c)
        (λ w i c. no_turn n w i (turn_of g s w) refl c) d
    go signal d = no_delivery s.signals parts.0 d
    go tick d = no_tick (first_time s.workers) idle.1 d

-- what is not quiet has a move: a signal, somebody's turn, or the clock's
abbrev HasMove : Program → System → Type 0
HasMove g s = (m : Move) × (u : System) × (move g s m ≡ is u)

signal_moves : (g : Program) (s : System) → no_signals s.signals ≡ false → HasMove g s
signal_moves g s h = let y = go s.signals h in (signal, y.0, y.1)
  where
    go : (gs : List Signal) → no_signals gs ≡ false → (u : System) × (deliver s gs ≡ is u)
    go [] h = no_clash refl h
    go (x ∷ gs) h = opt_all (λ r. (u : System) × (r ≡ is u)) (find s.workers x.to) (is (with_signals s gs))
        (λ w. is (take_signal (with_signals s gs) x w)) (λ e. (with_signals s gs, refl))
        (λ w e. (take_signal (with_signals s gs) x w, refl))

good_settles : (n : ℕ) (o : Outcome) → OnResult GoodSystem ⊥ (settle n o) → (u : System) × (settle n o ≡ is u)
good_settles n (goes_on c k t) h = (on_worker t n (set_control c k), refl)
good_settles n (leaves t) h = (t, refl)
good_settles n stuck h = absurd h

turn_moves : (g : Program) → GoodProgram g → (s : System) → Sound s → GoodSystem s →
    any_can g s s.workers ≡ true → HasMove g s
turn_moves g gd s sd good h =
    let r = somebody_can g s s.workers sd.apart h in
    let o = can_outcome (turn_of g s r.1) r.3 in
    let e = turn_settles g s r.0 r.1 o.0 r.2 o.1 in
    let i = subst (OnResult GoodSystem ⊥) e (move_good g gd s (turn r.0) sd.apart good) in
    let y = good_settles r.0 o.0 i in
    (turn r.0, y.0, e ∙ y.1)

clock_moves : (g : Program) (s : System) → no_later_time s ≡ false → HasMove g s
clock_moves g s h = go (some_or_none (first_time s.workers))
  where
    go : (first_time s.workers ≡ none) ⊎ ((t : ℕ) × (first_time s.workers ≡ some t)) → HasMove g s
    go (inl e) = no_clash (ap (λ (o : Option ℕ). opt o true (λ t. leb t s.clock)) e) h
    go (inr (t, e)) =
        let later : leb t s.clock ≡ false =
        sym (ap (λ (o : Option ℕ). opt o true (λ t. leb t s.clock)) e) ∙ h in (
          tick,
          with_clock s t,
          tick_is g s t e
              (nleb→lt t s.clock (subst (λ (b : Bool). T (not b)) (sym later) tt)),
        )

pub some_move : (g : Program) → GoodProgram g → (s : System) → Sound s → GoodSystem s → quiet g s ≡ false →
    HasMove g s
some_move g gd s sd good h = go
    (and_cases (no_signals s.signals) (not (any_can g s s.workers) && no_later_time s) h)
  where
    idle : (not (any_can g s s.workers) ≡ false) ⊎ (no_later_time s ≡ false) → HasMove g s
    idle (inl a) = turn_moves g gd s sd good (not-false (any_can g s s.workers) a)
    idle (inr a) = clock_moves g s a

    go : (no_signals s.signals ≡ false) ⊎ ((not (any_can g s s.workers) && no_later_time s) ≡ false) →
        HasMove g s
    go (inl a) = signal_moves g s a
    go (inr a) = idle (and_cases (not (any_can g s s.workers)) (no_later_time s) a)

pub quiet_means : QuietMeans
quiet_means t g l s rd r = (quiet_no_move g s, λ no_move. is_true (quiet g s) (true_if no_move))
  where
    true_if : ((m : Move) (u : System) → move g s m ≡ is u → ⊥) → T (quiet g s)
    true_if no_move = bool_all (λ b. quiet g s ≡ b → T b) (quiet g s) (λ e i. tt)
        (λ e i. let good = reads_good t g rd in
        let y = some_move g good s (reached_sound g l s r) (reached_good g good l s r) e in
        absurd (no_move y.0 y.1 y.2)) refl

pub clock_goes : ClockGoes
clock_goes g l s q t w r e d later =
    let a = first_time-below s.workers q t w e d in
    let b = first_time_waited s.workers a.0 (reached_sound g l s r).apart a.1 in
    let c = later b.0 a.0 b.1 b.2 b.3 in
    (a.0, tick_is g s a.0 a.1 c, c, a.2)
