-- A move gives out at most one number. Names mean workers that are there, since the names of one that ends are freed.
use mathlib.Core.Path.{◌≡◌, refl, subst, ◌∙◌}
use mathlib.Core.List.{List, [], ◌∷◌}
use mathlib.Core.Option.{some}
use Prim.Native.Nat.{ℕ, ◌+◌, ◌≤◌}
use native.Mathlib.Omega.{arith}
use lib.ListN.{length}
use lib.Dec.{eqb}
use Rattle.meaning.specs.Basics.{Name, same}
use Rattle.meaning.specs.Syntax.{Program}
use Rattle.meaning.specs.System.{cut_link, Scope, Worker, Signal, Registered, System, with_signals, find, change}
use Rattle.meaning.specs.System.{set_control, set_mail, add_mail, set_traps, add_link, gone, unnamed, pid_of}
use Rattle.meaning.specs.System.{with_new, swapped}
use Rattle.meaning.specs.Turns.{Outcome}
use Rattle.meaning.specs.Moves.{Move, turn, signal, tick, Result, is, not_allowed, no_meaning, settle, take_signal}
use Rattle.meaning.specs.Moves.{move, moves, on_is}
use Rattle.meaning.specs.Promise.{FewNumbers, NamesLive}
use Rattle.meaning.specs.Effects.{Effect, nothing, sent, spawned, linked_gone, exited, linked, trapped, showed, named}
use Rattle.meaning.specs.Effects.{took, Turned, turn_goes, turn_ends, turn_swaps, turn_swapped_out, turn_stuck}
use Rattle.std.proofs.lemmas.Bool.{cond_both, eqb-false}
use Rattle.meaning.proofs.Splits.{some_is, none_some}
use Rattle.meaning.proofs.Finding.{KeepsNumber, find-gone_other, find-append_some, stays_after-change}
use Rattle.meaning.proofs.Links.{add_link_keeps}
use Rattle.meaning.proofs.Results.{OnIs, on_is_of, turn_all, tick_all, begin_all, reached_all, deliver_all}
use Rattle.meaning.proofs.Results.{take_signal_all}
use Rattle.meaning.proofs.Effects.{effect_bounds}
use Rattle.meaning.proofs.Swapping.{swapped_next, swapped_all}

-- the next number grows by at most one
abbrev pub AtMostOneNew : System → System → Type 0
AtMostOneNew s t = t.next ≤ s.next + 1

turned-one_new : (g : Program) (s : System) (n : ℕ) (me : Worker) (o : Outcome) → Turned g s me o →
    OnIs (AtMostOneNew s) (settle n o)
turned-one_new g s n me o (turn_goes c k w {t} d) = (effect_bounds g s w me.pid t d).1
turned-one_new g s n me o (turn_ends r why) = omega arith
turned-one_new g s n me o (turn_swaps c k x m y d f wo) = let e = swapped_next s x m in omega arith
turned-one_new g s n me o (turn_swapped_out x m d f wo) = let e = swapped_next s x m in omega arith
turned-one_new g s n me o turn_stuck = tt

pub move-one_new : (g : Program) (s : System) (m : Move) → OnIs (AtMostOneNew s) (move g s m)
move-one_new g s (turn n) = turn_all g s n (OnIs (AtMostOneNew s)) tt (λ me o p e d v. turned-one_new g s n me o v)
move-one_new g s signal = deliver_all (AtMostOneNew s) (Unit {0}) s s.signals (λ x gs i. omega arith)
    (λ x gs w i e. take_signal_all (AtMostOneNew s) (with_signals s gs) x w (omega arith) (omega arith)
    (omega arith))
move-one_new g s tick = tick_all (AtMostOneNew s) (Unit {0}) s (λ t l. omega arith)

moves_few_new : (g : Program) (l : List Move) (s : System) → OnIs (λ t. t.next ≤ s.next + length l) (moves g s l)
moves_few_new g [] s = omega arith
moves_few_new g (m ∷ l) s = go (move g s m) (move-one_new g s m) (λ t. moves_few_new g l t)
  where
    weak : (t : System) → AtMostOneNew s t → (r : Result) → OnIs (λ u. u.next ≤ t.next + length l) r →
        OnIs (λ u. u.next ≤ s.next + length (m ∷ l)) r
    weak t h (is u) i = omega arith
    weak t h not_allowed i = tt
    weak t h no_meaning i = tt

    go : (r : Result) → OnIs (AtMostOneNew s) r →
        ((t : System) → OnIs (λ u. u.next ≤ t.next + length l) (moves g t l)) →
        OnIs (λ u. u.next ≤ s.next + length (m ∷ l)) (on_is r (λ t. moves g t l))
    go (is t) h f = weak t h (moves g t l) (f t)
    go not_allowed h f = tt
    go no_meaning h f = tt

pub few_numbers : FewNumbers
few_numbers g l s r =
    let a : r.0.next ≡ 1 = begin_all g (λ b. b.next ≡ 1) (λ c e. refl) r.0 r.1 in
    let b = on_is_of (λ t. t.next ≤ r.0.next + length l) (moves g r.0 l) s (moves_few_new g l r.0) r.2 in
    omega arith

-- names mean those who are there
abbrev Found : List Worker → ℕ → Type 0
Found ws n = (w : Worker) × (find ws n ≡ some w)

abbrev AllFound : List Worker → List Registered → Type 0
AllFound ws [] = Unit {0}
AllFound ws (k ∷ ks) = Found ws k.pid × AllFound ws ks

abbrev NamesFound : System → Type 0
NamesFound s = AllFound s.workers s.names

all_found_map : (ws vs : List Worker) (ks : List Registered) → ((n : ℕ) → Found ws n → Found vs n) →
    AllFound ws ks → AllFound vs ks
all_found_map ws vs [] f h = tt
all_found_map ws vs (k ∷ ks) f h = (f k.pid h.0, all_found_map ws vs ks f h.1)

all_found_gone : (ws : List Worker) (n : ℕ) (ks : List Registered) → AllFound ws ks →
    AllFound (gone ws n) (unnamed ks n)
all_found_gone ws n [] h = tt
all_found_gone ws n (k ∷ ks) h = cond_both (eqb k.pid n) (unnamed ks n) (k ∷ unnamed ks n) (AllFound (gone ws n))
    (λ e. all_found_gone ws n ks h.1)
    (λ e. ((h.0.0, find-gone_other ws n k.pid (eqb-false k.pid n e) ∙ h.0.1), all_found_gone ws n ks h.1))

all_found_change : (ws : List Worker) (n : ℕ) (f : Worker → Worker) (ks : List Registered) → KeepsNumber f →
    AllFound ws ks → AllFound (change ws n f) ks
all_found_change ws n f ks kp h =
    all_found_map ws (change ws n f) ks (λ q i. stays_after-change ws n f kp q i.0 i.1) h

effect_names : (g : Program) (s : System) (w : Scope) (me : ℕ) (u : Worker) (t : System) →
    find s.workers me ≡ some u → Effect g s w me t → NamesFound s → NamesFound t
effect_names g s w me u t e nothing h = h
effect_names g s w me u t e (sent q v) h = all_found_change s.workers q (add_mail v) s.names (λ x. refl) h
effect_names g s w me u t e (spawned c f) h = all_found_map s.workers (with_new s c).workers s.names
    (λ q i. (i.0, find-append_some s.workers _ q i.0 i.1)) h
effect_names g s w me u t e (linked_gone p d f) h = h
effect_names g s w me u t e (exited p r) h = h
effect_names g s w me u t e (linked q x d f) h =
    all_found_change (change s.workers me (add_link q)) q (add_link me) s.names (add_link_keeps me)
    (all_found_change s.workers me (add_link q) s.names (add_link_keeps q) h)
effect_names g s w me u t e (trapped b) h = all_found_change s.workers me (set_traps b) s.names (λ x. refl) h
effect_names g s w me u t e (showed l) h = h
effect_names g s w me u t e (named x) h = ((u, e), h)
effect_names g s w me u t e (took ms) h = all_found_change s.workers me (set_mail ms) s.names (λ x. refl) h

swapped-names : (s : System) (x : Name) (n : ℕ) → NamesFound s → NamesFound (swapped s x n)
swapped-names s x n h = swapped_all NamesFound (λ t w i. all_found_gone t.workers w.pid t.names i) s x n h

turned-names : (g : Program) (s : System) (n : ℕ) (me : Worker) (o : Outcome) →
    find s.workers me.pid ≡ some me → Turned g s me o → NamesFound s → OnIs NamesFound (settle n o)
turned-names g s n me o e (turn_goes c k w {t} d) h = all_found_change t.workers n (set_control c k) t.names
    (λ x. refl) (effect_names g s w me.pid me t e d h)
turned-names g s n me o e (turn_ends r why) h = all_found_gone s.workers me.pid s.names h
turned-names g s n me o e (turn_swaps c k x m y d f wo) h =
    all_found_change (swapped s x m).workers n (set_control c k) (swapped s x m).names
    (λ x. refl) (swapped-names s x m h)
turned-names g s n me o e (turn_swapped_out x m d f wo) h = swapped-names s x m h
turned-names g s n me o e turn_stuck h = tt

signal_names : (s : System) (g : Signal) (w : Worker) → NamesFound s → NamesFound (take_signal s g w)
signal_names s g w h = take_signal_all NamesFound s g w
    (all_found_change s.workers w.pid (add_mail _) s.names (λ x. refl) h)
    (all_found_change (change s.workers w.pid (cut_link g.from)) g.from (cut_link w.pid) s.names
    (λ x. refl) (all_found_change s.workers w.pid (cut_link g.from) s.names (λ x. refl) h))
    (all_found_gone s.workers w.pid s.names h)

move-names : (g : Program) (s : System) (m : Move) → NamesFound s → OnIs NamesFound (move g s m)
move-names g s (turn n) h = turn_all g s n (OnIs NamesFound) tt (λ me o p e d v. turned-names g s n me o e v h)
move-names g s signal h = deliver_all NamesFound (Unit {0}) s s.signals (λ x gs i. h)
    (λ x gs w i e. signal_names (with_signals s gs) x w h)
move-names g s tick h = tick_all NamesFound (Unit {0}) s (λ t l. h)

pid_of_found : (ws : List Worker) (ks : List Registered) (x : Name) (n : ℕ) → AllFound ws ks →
    pid_of ks x ≡ some n → Found ws n
pid_of_found ws [] x n h e = absurd (none_some e)
pid_of_found ws (k ∷ ks) x n h e =
    cond_both (same k.name x) (some k.pid) (pid_of ks x) (λ o. o ≡ some n → Found ws n)
    (λ i d. subst (Found ws) (some_is d) h.0) (λ i d. pid_of_found ws ks x n h.1 d) e

pub names_live : NamesLive
names_live g l s x n r e = pid_of_found s.workers s.names x n
    (reached_all g NamesFound (λ c e. tt) (move-names g) l s r) e
