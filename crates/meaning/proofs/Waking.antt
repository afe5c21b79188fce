-- Who becomes able by what a turn does: whoever gets a message that it waits for, and whoever begins, nobody else;
-- and whom a turn ends. These laws are for those who implement the scheduler.
use mathlib.Core.Path.{◌≡◌, refl, sym, ap, subst, ◌∙◌}
use mathlib.Core.Logic.{◌⊎◌, inl, inr}
use mathlib.Core.Bool.{Bool, true, false}
use mathlib.Core.List.{List, [], ◌∷◌, ◌++◌}
use mathlib.Core.Option.{Option, some, none}
use Prim.Native.Nat.{ℕ, zero, ◌<◌}
use native.Mathlib.Omega.{arith}
use Rattle.meaning.specs.Basics.{opt}
use Rattle.meaning.specs.Syntax.{Program, Clauses}
use Rattle.meaning.specs.Values.{Value, Binding}
use Rattle.meaning.specs.System.{Until, Control, eval, give, enter, fail, wait, Scope, Worker, System, find, change}
use Rattle.meaning.specs.System.{on_worker, add_mail, ended, with_new}
use Rattle.meaning.specs.Turns.{can, take_first, Taken, Chosen, choose, keep_front}
use Rattle.meaning.specs.Fair.{Could}
use Rattle.meaning.specs.Scheduler.{Woken, alive, Numbered, Good, Entry, worker, serve, here, Mem}
use Rattle.meaning.proofs.Queue.{Mem-one, Mem-behind, could_not_gone, At-none}
use Rattle.meaning.proofs.Finding.{find_here, find_there, KeepsNumber, find-change_other, find_changed}
use Rattle.meaning.proofs.Finding.{find-append_some, find-append_none, find-gone_other, change_ends_nobody}
use Rattle.meaning.proofs.Ready.{can_is, ready, due, has, keep_front-has, can-same}
use Rattle.std.proofs.lemmas.Bool.{cases_eq}
use Rattle.meaning.proofs.Splits.{some_or_none, impossible, none_some, no_clash}
use Rattle.meaning.proofs.Alive.{alive-same}

-- who became able: nobody else, or one
pub woken_none : (g : Program) (n : ℕ) (s t : System) → ((q : ℕ) → (q ≡ n → ⊥) → Could g t q → Could g s q) →
    Woken g n s t []
woken_none g n s t h = record { once = tt; each = λ x m. absurd (At-none m.1); all = λ q d c. inl (h q d c) }

pub woken_one : (g : Program) (n : ℕ) (s t : System) (p : ℕ) → (p ≡ n → ⊥) → Could g t p → (Could g s p → ⊥) →
    ((q : ℕ) → (q ≡ n → ⊥) → (q ≡ p → ⊥) → Could g t q → Could g s q) → Woken g n s t (worker p ∷ [])
woken_one g n s t p d c f h = record {
  once = ((λ m. At-none m.1), tt);
  each = λ x m. (p, Mem-one m, d, c, f);
  all = λ q e b. all q e b (cases_eq q p);
}
  where
    all : (q : ℕ) → (q ≡ n → ⊥) → Could g t q → (q ≡ p) ⊎ (q ≡ p → ⊥) → Could g s q ⊎ Mem (worker q) (worker p ∷ [])
    all q e b (inl y) = inr (subst (λ z. Mem (worker z) (worker p ∷ [])) (sym y) (zero, here))
    all q e b (inr y) = inl (h q e y b)

-- whoever is found as before can as before
pub could_as_before : (g : Program) (s t : System) (q : ℕ) → t.clock ≡ s.clock →
    find t.workers q ≡ find s.workers q → Could g t q → Could g s q
could_as_before g s t q e h (w, f, c) = (w, sym h ∙ f, sym (can-same g s t w w e refl refl) ∙ c)

-- nobody but n is seen changed
pub woken_unchanged : (g : Program) (n : ℕ) (s t : System) → t.clock ≡ s.clock →
    ((q : ℕ) → (q ≡ n → ⊥) → find t.workers q ≡ find s.workers q) → Woken g n s t []
woken_unchanged g n s t c h = woken_none g n s t (λ q d. could_as_before g s t q c (h q d))

pub woken_own : (g : Program) (n : ℕ) (s : System) (f : Worker → Worker) → KeepsNumber f →
    Woken g n s (on_worker s n f) []
woken_own g n s f k = woken_unchanged g n s (on_worker s n f) refl (λ q d. find-change_other s.workers n q f k d)

pub woken_end : (g : Program) (s : System) (me : Worker) (r : Value) → Woken g me.pid s (ended s me r) []
woken_end g s me r = woken_unchanged g me.pid s (ended s me r) refl
    (λ q d. find-gone_other s.workers me.pid q d)

-- a message to p
abbrev pub sent_and_changed : System → ℕ → ℕ → Value → (Worker → Worker) → System
sent_and_changed s n p v f = on_worker (on_worker s p (add_mail v)) n f

module _ (g : Program) (n : ℕ) (s : System) (p : ℕ) (v : Value) (f : Worker → Worker) (k : KeepsNumber f) where
  sent_leaves_others : (q : ℕ) → (q ≡ n → ⊥) → (q ≡ p → ⊥) →
      find (sent_and_changed s n p v f).workers q ≡ find s.workers q
  sent_leaves_others q d e = find-change_other (change s.workers p (add_mail v)) n q f k d
      ∙ find-change_other s.workers p q (add_mail v) (λ x. refl) e

  pub sent_found : (w : Worker) → (p ≡ n → ⊥) → find s.workers p ≡ some w →
      find (sent_and_changed s n p v f).workers p ≡ some (add_mail v w)
  sent_found w d h = find-change_other (change s.workers p (add_mail v)) n p f k d
      ∙ find_changed s.workers p (add_mail v) w (λ x. refl) h

  pub woken_by_message : (p ≡ n → ⊥) → Could g (sent_and_changed s n p v f) p → (Could g s p → ⊥) →
      Woken g n s (sent_and_changed s n p v f) (worker p ∷ [])
  woken_by_message d c h = woken_one g n s (sent_and_changed s n p v f) p d c h
      (λ q a b. could_as_before g s (sent_and_changed s n p v f) q refl (sent_leaves_others q a b))

  pub woken_by_no_message : (p ≡ n) ⊎ (Could g (sent_and_changed s n p v f) p → Could g s p) →
      Woken g n s (sent_and_changed s n p v f) []
  woken_by_no_message o = woken_none g n s (sent_and_changed s n p v f) (λ q d c. go q d c o (cases_eq q p))
    where
      go : (q : ℕ) → (q ≡ n → ⊥) → Could g (sent_and_changed s n p v f) q →
          (p ≡ n) ⊎ (Could g (sent_and_changed s n p v f) p → Could g s p) → (q ≡ p) ⊎ (q ≡ p → ⊥) → Could g s q
      go q d c (inl e) (inl b) = absurd (d (b ∙ e))
      go q d c (inr h) (inl b) = subst (Could g s) (sym b) (h (subst (Could g (sent_and_changed s n p v f)) b c))
      go q d c o (inr b) = could_as_before g s (sent_and_changed s n p v f) q refl (sent_leaves_others q d b) c

-- one that begins
module _ (g : Program) (n : ℕ) (s : System) (i : Numbered s) (c : Control) (f : Worker → Worker) (k : KeepsNumber f)
    (low : n < s.next) (r : ready s.clock c [] ≡ true) where
  abbrev new_worker : Worker
  new_worker = record { pid = s.next; control = c; frames = []; mail = []; links = []; traps = false }

  new_found : find (on_worker (with_new s c) n f).workers s.next ≡ some new_worker
  new_found = find-change_other (s.workers ++ (new_worker ∷ [])) n s.next f k
      (λ e. apart e) ∙ find-append_none s.workers (new_worker ∷ []) s.next (i.1 s.next (omega arith))
      ∙ find_here new_worker [] s.next refl
    where
      apart : s.next ≡ n → ⊥
      apart e = omega arith

  pub woken_new : Woken g n s (on_worker (with_new s c) n f) (worker s.next ∷ [])
  woken_new = woken_one g n s (on_worker (with_new s c) n f) s.next
      (λ e. apart e) (new_worker, new_found, can_is g (on_worker (with_new s c) n f) new_worker ∙ r)
      (could_not_gone g s s.next (i.1 s.next (omega arith)))
      (λ q a b. could_as_before g s (on_worker (with_new s c) n f) q refl
      (find-change_other (s.workers ++ (new_worker ∷ [])) n q f k a
      ∙ others q b (some_or_none (find s.workers q))))
    where
      apart : s.next ≡ n → ⊥
      apart e = omega arith

      others : (q : ℕ) → (q ≡ s.next → ⊥) →
          (find s.workers q ≡ none) ⊎ ((w : Worker) × (find s.workers q ≡ some w)) →
          find (s.workers ++ (new_worker ∷ [])) q ≡ find s.workers q
      others q b (inl e) = find-append_none s.workers (new_worker ∷ []) q e ∙ find_there new_worker [] q
          (λ d. b (sym d)) ∙ sym e
      others q b (inr (w, e)) = find-append_some s.workers (new_worker ∷ []) q w e ∙ sym e

-- who waits in vain has no message to take, and its time has not come: then a new message is seen by itself, and so
-- is time
has_not : {A : Type 0} (o : Option A) → has o ≡ false → o ≡ none
has_not none h = refl
has_not (some x) h = no_clash refl h

take_first_last : (cs : Clauses) (bs : List Binding) (ms : List Value) (v : Value) →
    has (take_first cs bs ms) ≡ false → has (take_first cs bs (ms ++ (v ∷ []))) ≡ has (choose cs v bs)
take_first_last cs bs [] v h = go (choose cs v bs)
  where
    go : (o : Option Chosen) → has (opt o (keep_front v none) (λ c. some (record { chosen = c; rest = [] }))) ≡ has o
    go none = refl
    go (some c) = refl
take_first_last cs bs (m ∷ ms) v h = go (choose cs m bs) (take_first_last cs bs ms v) h
  where
    go : (o : Option Chosen) → (has (take_first cs bs ms) ≡ false →
        has (take_first cs bs (ms ++ (v ∷ []))) ≡ has (choose cs v bs)) →
        has (opt o (keep_front m (take_first cs bs ms)) (λ c. some (record { chosen = c; rest = ms }))) ≡ false →
        has (opt o (keep_front m (take_first cs bs (ms ++ (v ∷ []))))
        (λ c. some (record { chosen = c; rest = ms ++ (v ∷ []) }))) ≡ has (choose cs v bs)
    go none ih h = keep_front-has m (take_first cs bs (ms ++ (v ∷ [])))
        ∙ ih (sym (keep_front-has m (take_first cs bs ms)) ∙ h)
    go (some c) ih h = no_clash refl h

waits_in_vain : {A : Type 0} (o : Option A) (b : Bool) → opt o b (λ x. true) ≡ false → (has o ≡ false) × (b ≡ false)
waits_in_vain none b h = (refl, h)
waits_in_vain (some x) b h = no_clash refl h

pub mail_wakes : (t : ℕ) (cs : Clauses) (u : Until) (w : Scope) (ms : List Value) (v : Value) →
    ready t (wait cs u w) ms ≡ false → ready t (wait cs u w) (ms ++ (v ∷ [])) ≡ has (choose cs v w.vars)
mail_wakes t cs u w ms v h = go (take_first cs w.vars (ms ++ (v ∷ [])))
    (waits_in_vain (take_first cs w.vars ms) (due t u) h).1
    ∙ take_first_last cs w.vars ms v (waits_in_vain (take_first cs w.vars ms) (due t u) h).0
  where
    go : (o : Option Taken) → due t u ≡ false → opt o (due t u) (λ x. true) ≡ has o
    go none e = e
    go (some x) e = refl

pub time_wakes : (t t' : ℕ) (cs : Clauses) (u : Until) (w : Scope) (ms : List Value) →
    ready t (wait cs u w) ms ≡ false → ready t' (wait cs u w) ms ≡ due t' u
time_wakes t t' cs u w ms h = ap (λ o. opt o (due t' u) (λ x. true))
    (has_not (take_first cs w.vars ms) (waits_in_vain (take_first cs w.vars ms) (due t u) h).0)

abbrev pub Spares : ℕ → System → System → Type 0
Spares n s t = (q : ℕ) (w : Worker) → (q ≡ n → ⊥) → find s.workers q ≡ some w → find t.workers q ≡ none → ⊥

pub spares_own : (n : ℕ) (s : System) (f : Worker → Worker) → KeepsNumber f → Spares n s (on_worker s n f)
spares_own n s f k q w d h e = none_some (sym e ∙ find-change_other s.workers n q f k d ∙ h)

pub spares_end : (s : System) (me : Worker) (r : Value) → Spares me.pid s (ended s me r)
spares_end s me r q w d h e = none_some (sym e ∙ find-gone_other s.workers me.pid q d ∙ h)

pub spares_new : (n : ℕ) (s : System) (c : Control) (f : Worker → Worker) → KeepsNumber f →
    Spares n s (on_worker (with_new s c) n f)
spares_new n s c f k q w d h e =
    none_some (sym e ∙ find-change_other (with_new s c).workers n q f k d ∙ find-append_some s.workers _ q w h)

pub spares_sent : (n : ℕ) (s : System) (p : ℕ) (v : Value) (f : Worker → Worker) → KeepsNumber f →
    Spares n s (sent_and_changed s n p v f)
spares_sent n s p v f k q w d h e =
    change_ends_nobody s.workers p (add_mail v)
    (λ x. refl) q w h (sym (find-change_other (change s.workers p (add_mail v)) n q f k d) ∙ e)

pub queue_same : (g : Program) (s t : System) (n k : ℕ) (es : List Entry) → Good g s (serve n k) es → Spares n s t →
    alive t es ≡ es
queue_same g s t n k es i sp = alive-same t es
    (λ q m e. let c = i.exact.able q (Mem-behind (worker n) m) in
    sp q c.0 (λ d. i.exact.once.0 (subst (λ z. Mem (worker z) es) d m)) c.1 e)

-- who can't go on waits
pub idle_waits : (t : ℕ) (c : Control) (ms : List Value) → ready t c ms ≡ false →
    (cs : Clauses) × (u : Until) × (w : Scope) × (c ≡ wait cs u w)
idle_waits t (eval e w) ms h = impossible (cc)
idle_waits t (give v) ms h = impossible (cc)
idle_waits t (enter b w) ms h = impossible (cc)
idle_waits t (fail v) ms h = impossible (cc)
idle_waits t (wait cs u w) ms h = (cs, u, w, refl)

-- a message to one that can't go on: it can if a clause matches that message, and else it still can't
module _ (g : Program) (n : ℕ) (s : System) (p : ℕ) (v : Value) (f : Worker → Worker) (k : KeepsNumber f)
    (w : Worker) (d : p ≡ n → ⊥) (e : find s.workers p ≡ some w) (idle : Could g s p → ⊥) (cs : Clauses)
    (u : Until) (o : Scope) (h : w.control ≡ wait cs u o) where
  idle_not_ready : ready s.clock (wait cs u o) w.mail ≡ false
  idle_not_ready = go (ready s.clock (wait cs u o) w.mail) refl
    where
      go : (b : Bool) → ready s.clock (wait cs u o) w.mail ≡ b →
          ready s.clock (wait cs u o) w.mail ≡ false
      go true r = absurd (idle (w, e, can_is g s w ∙ ap (λ c. ready s.clock c w.mail) h ∙ r))
      go false r = r

  can-after_message : can g (sent_and_changed s n p v f) (add_mail v w) ≡ has (choose cs v o.vars)
  can-after_message = can_is g (sent_and_changed s n p v f) (add_mail v w)
      ∙ ap (λ c. ready s.clock c (w.mail ++ (v ∷ []))) h ∙ mail_wakes s.clock cs u o w.mail v idle_not_ready

  pub message_wakes : has (choose cs v o.vars) ≡ true → Woken g n s (sent_and_changed s n p v f) (worker p ∷ [])
  message_wakes y = woken_by_message g n s p v f k d
      (add_mail v w, sent_found g n s p v f k w d e, can-after_message ∙ y) idle

  pub message_wakes_not : has (choose cs v o.vars) ≡ false → Woken g n s (sent_and_changed s n p v f) []
  message_wakes_not y = woken_by_no_message g n s p v f k (inr (λ c. absurd (no_more c)))
    where
      no_more : Could g (sent_and_changed s n p v f) p → ⊥
      no_more (x, a, b) =
          let j : add_mail v w ≡ x = cc (sent_found g n s p v f k w d e) in
          let r : can g (sent_and_changed s n p v f) (add_mail v w) ≡ true =
          ap (can g (sent_and_changed s n p v f)) j ∙ b in
          impossible (cc can-after_message)
