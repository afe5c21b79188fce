-- The scheduler from its beginning on: the first queue is exact, steps add up to moves, and whoever is due is past
-- its time with its next turn.
use mathlib.Core.Path.{◌≡◌, refl, sym, ap, subst, ◌∙◌}
use mathlib.Core.Logic.{◌⊎◌, inl, inr}
use mathlib.Core.Bool.{Bool, true, false, cond}
use mathlib.Core.List.{List, [], ◌∷◌, ◌++◌}
use mathlib.Core.Option.{Option, some, none}
use Prim.Native.Nat.{ℕ, zero, ◌≤◌}
use native.Mathlib.Omega.{arith}
use lib.Dec.{leb}
use Rattle.meaning.specs.Basics.{opt}
use Rattle.meaning.specs.Atoms.{a_main}
use Rattle.meaning.specs.Syntax.{Program}
use Rattle.meaning.specs.Values.{Value}
use Rattle.meaning.specs.System.{for_ever, until, Control, eval, give, enter, fail, wait, Worker, System, find}
use Rattle.meaning.specs.System.{on_worker, set_control, set_mail}
use Rattle.meaning.specs.Turns.{Outcome, goes_on, leaves, stuck, turn_of, turn_with, timed_out, rebind, take_first}
use Rattle.meaning.specs.Turns.{Taken, enter_function}
use Rattle.meaning.specs.Moves.{settle, Move, turn, is, not_allowed, move, on_is, moves, time_of, begin, first_name}
use Rattle.meaning.specs.Fair.{Could, Fair}
use Rattle.meaning.specs.Scheduler.{Good, Due, SoFar, Entry, round, worker, Mode, flush, here, Mem, Step}
use Rattle.meaning.specs.Scheduler.{by_turn, by_signal, by_tick, by_round, by_pop, Steps, start, and_step}
use Rattle.meaning.specs.Rounds.{Leads}
use Rattle.meaning.proofs.Queue.{Mem-worker, At-none, Mem-cases, Mem-behind}
use Rattle.meaning.proofs.Finding.{find_here, find_there, find_changed, find_pid, find_only}
use Rattle.meaning.proofs.Fairness.{fair_always}
use Rattle.meaning.proofs.Ready.{can_is, ready}
use Rattle.meaning.proofs.Results.{moves-append, begin_all, at_first, first_worker, turn_found}
use Rattle.meaning.proofs.Splits.{impossible}
use Rattle.meaning.proofs.Effects.{entered_is}

step-moves : {g : Program} {s s' : System} {m m' : Mode} {es es' : List Entry} {x : List Move} →
    Step g s m es x s' m' es' → moves g s x ≡ is s'
step-moves (by_turn new e k a) = ap (λ o. on_is o (λ t. is t)) e
step-moves (by_signal new e k) = ap (λ o. on_is o (λ t. is t)) e
step-moves (by_tick new i e) = ap (λ o. on_is o (λ t. is t)) e
step-moves (by_round i f) = refl
step-moves (by_pop n i f) = refl

pub steps_moves : {g : Program} {s₀ : System} {m₀ : Mode} {es₀ : List Entry} {s : System} {m : Mode}
    {es : List Entry} {l : List Move} → Steps g s₀ m₀ es₀ l s m es → moves g s₀ l ≡ is s
steps_moves start = refl
steps_moves {g} {s₀} (and_step {l = l} {x = x} a st i) =
    moves-append g s₀ l x ∙ ap (λ o. on_is o (λ t. moves g t x)) (steps_moves a) ∙ step-moves st

pub one_more : {g : Program} {b : System} {l x : List Move} {s s' : System} {m m' : Mode} {es es' : List Entry} →
    SoFar g b l s m es → Leads g s m es x s' m' es' → SoFar g b (l ++ x) s' m' es'
one_more a (st, i) = record { steps = and_step a.steps st i.exact; first = a.first; good = i }

pub so_far_fair : {g : Program} {b : System} {l : List Move} {s : System} {m : Mode} {es : List Entry} →
    SoFar g b l s m es → (moves g b l ≡ is s) × Fair g b l × ((x : Move) → Fair g b (l ++ (x ∷ [])))
so_far_fair {g} {b} {l} {s} {m} {es} a =
    let h = fair_always g b s (flush 0) m (worker 0 ∷ round ∷ []) es l a.first.exact a.steps in
    (steps_moves a.steps, h.0, h.1)

first_exact : (g : Program) (c : Control) → (time_of c ≡ none) × ((t : ℕ) (ms : List Value) → ready t c ms ≡ true) →
    Good g (at_first g c) (flush 0) (worker 0 ∷ round ∷ [])
first_exact g c (young, ready-c) = record {
  numbered = ((refl, tt), λ q l. find_there (first_worker c) [] q (λ e. low q l e));
  exact = record {
    once = ((λ m. At-none (Mem-worker m).1), ((λ m. At-none m.1), tt));
    able = λ p m. able p (Mem-cases m);
    all = λ p d. subst (λ z. Mem (worker z) (worker 0 ∷ round ∷ []))
        (find_only (first_worker c) d.0 p d.1).0 (zero, here);
    rounds = Mem-behind (worker 0) (zero, here);
    small = omega arith;
  };
  timely = λ q d. absurd (never q d);
}
  where
    low : (q : ℕ) → 1 ≤ q → 0 ≡ q → ⊥
    low q l e = omega arith

    able : (p : ℕ) → (worker p ≡ worker 0) ⊎ Mem (worker p) (round ∷ []) → Could g (at_first g c) p
    able p (inl e) =
        let y : 0 ≡ p = cc in
        (first_worker c, find_here (first_worker c) [] p y, can_is g (at_first g c) (first_worker c) ∙ ready-c 0 [])
    able p (inr m) = absurd (At-none (Mem-worker m).1)

    never : (q : ℕ) → Due (at_first g c) q → ⊥
    never q (x, u, f, e, l) = let y = (find_only (first_worker c) x q f).1 in impossible (cc)

pub so_far_begins : (g : Program) (b : System) → begin g ≡ some b → SoFar g b [] b (flush 0) (worker 0 ∷ round ∷ [])
so_far_begins g b h = begin_all g (λ z. SoFar g z [] z (flush 0) (worker 0 ∷ round ∷ []))
    (λ c e. let i = first_exact g c (begun c e) in record { steps = start; first = i; good = i }) b h
  where
    begun : (c : Control) → enter_function g (first_name g) 1 a_main [] ≡ some c →
        (time_of c ≡ none) × ((t : ℕ) (ms : List Value) → ready t c ms ≡ true)
    begun c e =
        let d = (entered_is g (first_name g) 1 a_main [] c e).4 in (
          subst (λ (z : Control). time_of z ≡ none) d refl,
          λ t ms. subst (λ (z : Control). ready t z ms ≡ true) d refl,
        )

-- whose time has come is past it with its next turn: so one turn more ends a slice
abbrev PastItsTime : ℕ → Option Outcome → Type 0
PastItsTime n none = Unit {0}
PastItsTime n (some (goes_on c k s)) = (time_of c ≡ none) × ((w : Worker) × (find s.workers n ≡ some w))
PastItsTime n (some (leaves s)) = ⊥
PastItsTime n (some stuck) = ⊥

turn_past_its_time : (g : Program) (s : System) (w : Worker) (c : Control) (u : ℕ) →
    find s.workers w.pid ≡ some w → time_of c ≡ some u → PastItsTime w.pid (turn_with g s w c)
turn_past_its_time g s w (eval e z) u f h = impossible (cc)
turn_past_its_time g s w (give v) u f h = impossible (cc)
turn_past_its_time g s w (enter b z) u f h = impossible (cc)
turn_past_its_time g s w (fail v) u f h = impossible (cc)
turn_past_its_time g s w (wait cs for_ever z) u f h = impossible (cc)
turn_past_its_time g s w (wait cs (until v b) z) u f h = go (take_first cs z.vars w.mail)
  where
    time : (x : Bool) → PastItsTime w.pid (cond x (some (goes_on (enter b z) w.frames s)) none)
    time true = (refl, (w, f))
    time false = tt

    go : (o : Option Taken) → PastItsTime w.pid
        (opt o (timed_out s w.frames (until v b) z)
        (λ t. some (goes_on (enter t.chosen.body (rebind z t.chosen.vars)) w.frames
        (on_worker s w.pid (set_mail t.rest)))))
    go none = time (leb v s.clock)
    go (some t) = (
      refl,
      (
        set_mail t.rest w,
        find_changed s.workers w.pid (set_mail t.rest) w
            (λ x. refl) f,
      ),
    )

pub due_once : (g : Program) (s t : System) (n : ℕ) → Due s n → move g s (turn n) ≡ is t → Due t n → ⊥
due_once g s t n (w, u, f, e, l) h (x, v, f', e', l') =
    inner (turn_of g s w) (subst (λ z. PastItsTime z (turn_of g s w)) pid
    (turn_past_its_time g s w w.control u (subst (λ z. find s.workers z ≡ some w) (sym pid) f) e))
    (sym (turn_found g s n w f) ∙ h)
  where
    pid : w.pid ≡ n
    pid = find_pid s.workers n w f

    inner : (o : Option Outcome) → PastItsTime n o → opt o not_allowed (settle n) ≡ is t → ⊥
    inner none y d = impossible (cc)
    inner (some (goes_on c k s₁)) (young, (w₁, f₁)) d =
        let a : on_worker s₁ n (set_control c k) ≡ t = cc in
        let b : find t.workers n ≡ some (set_control c k w₁) =
        sym (ap (λ z. find z.workers n) a) ∙ find_changed s₁.workers n (set_control c k) w₁ (λ y. refl) f₁ in
        let q : set_control c k w₁ ≡ x = cc in
        let r : time_of c ≡ some v = ap (λ z. time_of z.control) q ∙ e' in
        impossible (cc)
    inner (some (leaves s₁)) y d = y
    inner (some stuck) y d = y
