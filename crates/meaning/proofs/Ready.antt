-- Whether a worker can go on depends on its control, its mail and the clock alone; more mail and a later clock take
-- it from nobody.
use mathlib.Core.Path.{◌≡◌, refl, sym, ◌∙◌, ap}
use mathlib.Core.Bool.{Bool, true, false, cond}
use mathlib.Core.List.{List, [], ◌∷◌, ◌++◌}
use mathlib.Core.Option.{Option, some, none}
use Prim.Native.Nat.{ℕ, ◌≤◌}
use native.Mathlib.Omega.{arith}
use lib.Dec.{leb}
use borrow.Author.Tests.{leb-true, le-leb}
use Rattle.meaning.specs.Basics.{opt}
use Rattle.meaning.specs.Syntax.{Program, Clauses}
use Rattle.meaning.specs.Values.{Value, Binding}
use Rattle.meaning.specs.System.{Scope, Until, for_ever, until, Control, eval, give, enter, fail, wait, Frame, Worker}
use Rattle.meaning.specs.System.{System, on_worker, set_mail}
use Rattle.meaning.specs.Turns.{Outcome, goes_on, Chosen, choose, Taken, keep_front, take_first, timed_out, turn_with}
use Rattle.meaning.specs.Turns.{can, rebind}
use Rattle.meaning.specs.Moves.{time_of}
use Rattle.meaning.specs.Fair.{Could}
use Rattle.meaning.specs.Scheduler.{Due}
use Rattle.meaning.proofs.Splits.{impossible, no_clash}

abbrev pub due : ℕ → Until → Bool
due t for_ever = false
due t (until u b) = leb u t

abbrev pub ready : ℕ → Control → List Value → Bool
ready t (eval e w) mail = true
ready t (give v) mail = true
ready t (enter b w) mail = true
ready t (fail v) mail = true
ready t (wait cs u w) mail = opt (take_first cs w.vars mail) (due t u) (λ x. true)

timed_out-due : (s : System) (k : List Frame) (u : Until) (w : Scope) → opt (timed_out s k u w) false
    (λ o. true) ≡ due s.clock u
timed_out-due s k for_ever w = refl
timed_out-due s k (until t b) w = go (leb t s.clock)
  where
    go : (x : Bool) → opt (cond x (some (goes_on (enter b w) k s)) none) false (λ o. true) ≡ x
    go true = refl
    go false = refl

turn_with-ready : (g : Program) (s : System) (me : Worker) (c : Control) → opt (turn_with g s me c) false
    (λ o. true) ≡ ready s.clock c me.mail
turn_with-ready g s me (eval e w) = refl
turn_with-ready g s me (give v) = refl
turn_with-ready g s me (enter b w) = refl
turn_with-ready g s me (fail v) = refl
turn_with-ready g s me (wait cs u w) =
    go (take_first cs w.vars me.mail)
    (λ t. goes_on (enter t.chosen.body (rebind w t.chosen.vars)) me.frames
    (on_worker s me.pid (set_mail t.rest)))
  where
    go : (o : Option Taken) (f : Taken → Outcome) →
        opt (opt o (timed_out s me.frames u w) (λ t. some (f t))) false (λ x. true) ≡ opt o (due s.clock u)
        (λ x. true)
    go none f = timed_out-due s me.frames u w
    go (some t) f = refl

pub can_is : (g : Program) (s : System) (me : Worker) → can g s me ≡ ready s.clock me.control me.mail
can_is g s me = turn_with-ready g s me me.control

pub can-same : (g : Program) (s t : System) (w x : Worker) → t.clock ≡ s.clock → x.control ≡ w.control →
    x.mail ≡ w.mail → can g t x ≡ can g s w
can-same g s t w x e c m = can_is g t x ∙ ap (λ z. ready z x.control x.mail) e
    ∙ ap (λ z. ready s.clock z x.mail) c ∙ ap (λ z. ready s.clock w.control z) m ∙ sym (can_is g s w)

abbrev pub has : {A : Type 0} → Option A → Bool
has o = opt o false (λ x. true)

pub keep_front-has : (m : Value) (o : Option Taken) → has (keep_front m o) ≡ has o
keep_front-has m none = refl
keep_front-has m (some t) = refl

take_first_more : (cs : Clauses) (bs : List Binding) (ms more : List Value) → has (take_first cs bs ms) ≡ true →
    has (take_first cs bs (ms ++ more)) ≡ true
take_first_more cs bs [] more h = no_clash h refl
take_first_more cs bs (m ∷ ms) more h = go (choose cs m bs) (take_first_more cs bs ms more) h
  where
    go : (o : Option Chosen) → (has (take_first cs bs ms) ≡ true → has (take_first cs bs (ms ++ more)) ≡ true) →
        has (opt o (keep_front m (take_first cs bs ms)) (λ c. some (record { chosen = c; rest = ms }))) ≡ true →
        has (opt o (keep_front m (take_first cs bs (ms ++ more)))
        (λ c. some (record { chosen = c; rest = ms ++ more }))) ≡ true
    go none ih h = keep_front-has m (take_first cs bs (ms ++ more))
        ∙ ih (sym (keep_front-has m (take_first cs bs ms)) ∙ h)
    go (some c) ih h = refl

due_more : (t t' : ℕ) (u : Until) → t ≤ t' → due t u ≡ true → due t' u ≡ true
due_more t t' for_ever le h = h
due_more t t' (until v b) le h = let y = leb-true v t h in le-leb v t' (omega arith)

has_or_more : {A B : Type 0} (o : Option A) (p : Option B) (x y : Bool) → (has o ≡ true → has p ≡ true) →
    (x ≡ true → y ≡ true) → opt o x (λ z. true) ≡ true → opt p y (λ z. true) ≡ true
has_or_more none none x y f h e = h e
has_or_more none (some b) x y f h e = refl
has_or_more (some a) none x y f h e = no_clash (f refl) refl
has_or_more (some a) (some b) x y f h e = refl

pub ready_more : (t t' : ℕ) (c : Control) (ms more : List Value) → t ≤ t' → ready t c ms ≡ true →
    ready t' c (ms ++ more) ≡ true
ready_more t t' (eval e w) ms more le h = refl
ready_more t t' (give v) ms more le h = refl
ready_more t t' (enter b w) ms more le h = refl
ready_more t t' (fail v) ms more le h = refl
ready_more t t' (wait cs u w) ms more le h =
    has_or_more (take_first cs w.vars ms) (take_first cs w.vars (ms ++ more)) (due t u) (due t' u)
    (take_first_more cs w.vars ms more) (due_more t t' u le) h

ready-due : (t u : ℕ) (c : Control) (ms : List Value) → time_of c ≡ some u → u ≤ t → ready t c ms ≡ true
ready-due t u (eval e w) ms h l = refl
ready-due t u (give v) ms h l = refl
ready-due t u (enter b w) ms h l = refl
ready-due t u (fail v) ms h l = refl
ready-due t u (wait cs for_ever w) ms h l = impossible (cc)
ready-due t u (wait cs (until v b) w) ms h l = go (take_first cs w.vars ms)
  where
    go : (o : Option Taken) → opt o (due t (until v b)) (λ x. true) ≡ true
    go none = let e : v ≡ u = cc in le-leb v t (omega arith)
    go (some x) = refl

pub due-could : (g : Program) (s : System) (q : ℕ) → Due s q → Could g s q
due-could g s q (w, u, f, e, l) = (w, f, can_is g s w ∙ ready-due s.clock u w.control w.mail e l)
