-- What holds of the results of moves: of a turn by its view, of a signal by how it is taken, of the clock; so of
-- every system that a program comes to, if it holds at first and every move keeps it.
use mathlib.Core.Path.{◌≡◌, subst, refl, sym, ap}
use mathlib.Core.List.{List, [], ◌∷◌, ◌++◌}
use mathlib.Core.Option.{some, Option, none}
use mathlib.Core.Bool.{cond, true, false, not}
use Prim.Native.Nat.{ℕ, ◌<◌}
use lib.Dec.{ltb, T, ltb→lt}
use Rattle.meaning.specs.Basics.{opt, on_some}
use Rattle.meaning.specs.Atoms.{a_main, a_normal}
use Rattle.meaning.specs.Syntax.{Program, Function, Module}
use Rattle.meaning.specs.Values.{same_v, v_atom}
use Rattle.meaning.specs.System.{System, Worker, find, with_clock, Control, function_of, Signal, with_signals}
use Rattle.meaning.specs.System.{on_worker, add_mail, cut_link, ended}
use Rattle.meaning.specs.Turns.{Outcome, turn_of, enter_function}
use Rattle.meaning.specs.Moves.{Move, Result, is, not_allowed, no_meaning, move, moves, on_is, turn, settle}
use Rattle.meaning.specs.Moves.{first_time, clock_on, begin, first_name, first_versions, deliver, take_signal}
use Rattle.meaning.specs.Moves.{exit_message}
use Rattle.meaning.specs.Bound.{has_main, sound_modules}
use Rattle.meaning.specs.Promise.{Begins, Reached}
use Rattle.meaning.specs.Effects.{Turned}
use Rattle.std.proofs.lemmas.Bool.{cond_both}
use Rattle.meaning.proofs.Splits.{opt_all, OnSome, and_T, same_refl, T_of}
use Rattle.meaning.proofs.Finding.{find_pid}
use Rattle.meaning.proofs.Effects.{turn_view}

-- what holds of every system that a result is; N stands for having no meaning
abbrev pub OnResult : (System → Type 0) → Type 0 → Result → Type 0
OnResult P N (is s) = P s
OnResult P N not_allowed = Unit {0}
OnResult P N no_meaning = N

abbrev pub OnIs : (System → Type 0) → Result → Type 0
OnIs P r = OnResult P (Unit {0}) r

pub on_is_of : (P : System → Type 0) (r : Result) (s : System) → OnIs P r → r ≡ is s → P s
on_is_of P r s h e = subst (OnIs P) e h

-- what every move keeps holds after all moves
pub moves_all : (g : Program) (P : System → Type 0) (N : Type 0) →
    ((s : System) (m : Move) → P s → OnResult P N (move g s m)) → (l : List Move) (s : System) → P s →
    OnResult P N (moves g s l)
moves_all g P N step [] s h = h
moves_all g P N step (m ∷ l) s h = go (move g s m) (step s m h) (λ t p. moves_all g P N step l t p)
  where
    go : (r : Result) → OnResult P N r → ((t : System) → P t → OnResult P N (moves g t l)) →
        OnResult P N (on_is r (λ t. moves g t l))
    go (is t) p f = f t p
    go not_allowed p f = tt
    go no_meaning p f = p

-- two properties together
pub on_both : (P Q : System → Type 0) (N : Type 0) (r : Result) → OnIs P r → OnResult Q N r →
    OnResult (λ t. P t × Q t) N r
on_both P Q N (is t) p q = (p, q)
on_both P Q N not_allowed p q = tt
on_both P Q N no_meaning p q = q

-- moves after moves
pub moves-append : (g : Program) (s : System) (l r : List Move) → moves g s (l ++ r) ≡ on_is (moves g s l)
    (λ t. moves g t r)
moves-append g s [] r = refl
moves-append g s (x ∷ l) r = go (move g s x) (λ t. moves-append g t l r)
  where
    go : (o : Result) → ((t : System) → moves g t (l ++ r) ≡ on_is (moves g t l) (λ u. moves g u r)) →
        on_is o (λ t. moves g t (l ++ r)) ≡ on_is (on_is o (λ t. moves g t l)) (λ t. moves g t r)
    go (is t) ih = ih t
    go not_allowed ih = refl
    go no_meaning ih = refl

-- a turn, by its view
pub turn_all : (g : Program) (s : System) (n : ℕ) (P : Result → Type 0) → P not_allowed →
    ((me : Worker) (o : Outcome) → me.pid ≡ n → find s.workers me.pid ≡ some me → turn_of g s me ≡ some o →
    Turned g s me o → P (settle n o)) → P (move g s (turn n))
turn_all g s n P no_turn f = opt_all P (find s.workers n) not_allowed
    (λ w. opt (turn_of g s w) not_allowed (settle n)) (λ e. no_turn)
    (λ w e. opt_all P (turn_of g s w) not_allowed (settle n) (λ d. no_turn)
    (λ o d. let p = find_pid s.workers n w e in
    f w o p (subst (λ (z : ℕ). find s.workers z ≡ some w) (sym p) e) d
    (subst (OnSome (Turned g s w)) d (turn_view g s w))))

-- the turn of a worker that is there
pub turn_found : (g : Program) (s : System) (n : ℕ) (w : Worker) → find s.workers n ≡ some w →
    move g s (turn n) ≡ opt (turn_of g s w) not_allowed (settle n)
turn_found g s n w e = ap (λ (o : Option Worker). opt o not_allowed
    (λ v. opt (turn_of g s v) not_allowed (settle n))) e

-- the clock goes on
pub tick_all : (P : System → Type 0) (N : Type 0) (s : System) → ((t : ℕ) → s.clock < t → P (with_clock s t)) →
    OnResult P N (clock_on s)
tick_all P N s h = opt_all (OnResult P N) (first_time s.workers) not_allowed
    (λ t. cond (ltb s.clock t) (is (with_clock s t)) not_allowed) (λ e. tt)
    (λ t e. cond_both (ltb s.clock t) (is (with_clock s t)) not_allowed (OnResult P N)
    (λ d. h t (ltb→lt s.clock t (T_of d))) (λ d. tt))

-- a signal is lost, or is taken in one of three ways: as a message, as the end of a link, or as the worker's end
pub deliver_all : (P : System → Type 0) (N : Type 0) (s : System) (gs : List Signal) →
    ((g : Signal) (hs : List Signal) → gs ≡ g ∷ hs → P (with_signals s hs)) →
    ((g : Signal) (hs : List Signal) (w : Worker) → gs ≡ g ∷ hs → find s.workers g.to ≡ some w →
    P (take_signal (with_signals s hs) g w)) → OnResult P N (deliver s gs)
deliver_all P N s [] lost taken = tt
deliver_all P N s (g ∷ hs) lost taken = opt_all (OnResult P N) (find s.workers g.to) (is (with_signals s hs))
    (λ w. is (take_signal (with_signals s hs) g w)) (λ e. lost g hs refl) (λ w e. taken g hs w refl e)

pub take_signal_all : (P : System → Type 0) (s : System) (g : Signal) (w : Worker) →
    P (on_worker s w.pid (add_mail (exit_message g))) →
    P (on_worker (on_worker s w.pid (cut_link g.from)) g.from (cut_link w.pid)) →
    P (ended s w g.reason) → P (take_signal s g w)
take_signal_all P s g w message link end =
    cond_both w.traps _ _ P (λ h. message)
    (λ h. cond_both (same_v g.reason (v_atom a_normal)) _ (ended s w g.reason) P (λ i. link) (λ i. end))

-- the first system
abbrev pub first_worker : Control → Worker
first_worker c = record { pid = 0; control = c; frames = []; mail = []; links = []; traps = false }

abbrev pub at_first : Program → Control → System
at_first g c = record {
  workers = first_worker c ∷ [];
  next = 1;
  clock = 0;
  loaded = first_versions g [];
  names = [];
  signals = [];
  shown = [];
}

pub begin_all : (g : Program) (P : System → Type 0) →
    ((c : Control) → enter_function g (first_name g) 1 a_main [] ≡ some c → P (at_first g c)) → (b : System) →
    begin g ≡ some b → P b
begin_all g P h b e = subst (OnSome P) e (go (enter_function g (first_name g) 1 a_main []) refl)
  where
    go : (o : Option Control) → enter_function g (first_name g) 1 a_main [] ≡ o →
        OnSome P (on_some o (λ c. some (at_first g c)))
    go none e = tt
    go (some c) e = h c e

-- whatever holds at first and is kept by every move holds wherever one comes
pub reached_all : (g : Program) (P : System → Type 0) →
    ((c : Control) → enter_function g (first_name g) 1 a_main [] ≡ some c → P (at_first g c)) →
    ((s : System) (m : Move) → P s → OnIs P (move g s m)) → (l : List Move) (s : System) → Reached g l s → P s
reached_all g P start step l s r =
    on_is_of P (moves g r.0 l) s (moves_all g P (Unit {0}) step l r.0 (begin_all g P start r.0 r.1))
    r.2

-- a program that is read begins
pub begins : Begins
begins t g r = go g (and_T (has_main g) (sound_modules g) r.sound).0
  where
    main_of : (m : Module) (ms : Program) (o : Option Function) → function_of m.functions a_main 0 ≡ o →
        T (not (opt o true (λ f. false))) → (s : System) × (begin (m ∷ ms) ≡ some s)
    main_of m ms none e h = absurd h
    main_of m ms (some f) e h = rw (same_refl m.name, e) (_, refl)

    go : (g : Program) → T (has_main g) → (s : System) × (begin g ≡ some s)
    go [] h = absurd h
    go (m ∷ ms) h = main_of m ms (function_of m.functions a_main 0) refl h
