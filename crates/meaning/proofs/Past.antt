-- What a move leaves of the other workers: each is gone, or is at work where it was, perhaps with more mail; numbers
-- stay apart, and a new worker waits for no time.
use mathlib.Core.Bool.{Bool, true, false, cond}
use mathlib.Core.List.{List, [], ◌∷◌, ◌++◌, append_assoc, append-nil}
use mathlib.Core.Logic.{◌⊎◌, inl, inr}
use mathlib.Core.Option.{Option, some, none}
use mathlib.Core.Path.{◌≡◌, refl, sym, ap, subst, ◌∙◌}
use Prim.Native.Nat.{ℕ, ◌+◌, ◌<◌, ◌≤◌}
use native.Mathlib.Decide.{dec_le}
use native.Mathlib.Omega.{arith}
use Rattle.meaning.specs.Basics.{Name}
use Rattle.meaning.specs.Atoms.{a_old}
use Rattle.meaning.specs.Syntax.{Program}
use Rattle.meaning.specs.Values.{Value, v_atom}
use Rattle.meaning.specs.System.{with_name, swapped, with_line, Apart, Control, Worker, System, find, change, gone}
use Rattle.meaning.specs.System.{set_control, set_mail, add_mail, set_links, set_traps, add_link, among, Scope}
use Rattle.meaning.specs.System.{Signal, with_signals, on_worker, ended, with_new, with_version, cut_link}
use Rattle.meaning.specs.Turns.{Outcome}
use Rattle.meaning.specs.Moves.{turn, signal, is, settle, time_of, move, take_signal, deliver, exit_message}
use Rattle.meaning.specs.Effects.{From, own, other, Effect, nothing, took, spawned, showed, sent, linked, linked_gone}
use Rattle.meaning.specs.Effects.{exited, trapped, named, Turned, turn_goes, turn_ends, turn_swaps, turn_swapped_out}
use Rattle.meaning.specs.Effects.{turn_stuck}
use Rattle.meaning.specs.Scheduler.{Numbered}
use Rattle.meaning.proofs.Finding.{KeepsNumber, find-change_none, find-gone_none, find-change_other, find-gone_other}
use Rattle.meaning.proofs.Finding.{find_changed, find-append_some, find-append_none, apart-change, apart-gone}
use Rattle.meaning.proofs.Finding.{find-gone-same, apart_new, find_here, find_there}
use Rattle.std.proofs.lemmas.Bool.{cases_eq}
use Rattle.meaning.proofs.Splits.{some_or_none, impossible}
use Rattle.meaning.proofs.Results.{OnIs, on_is_of, turn_all, deliver_all, take_signal_all}
use Rattle.meaning.proofs.Effects.{entered_is}
use Rattle.meaning.proofs.Swapping.{swapped_all}

-- what another may do to a worker: the same code at work, and perhaps more mail
abbrev pub Undisturbed : Worker → Worker → Type 0
Undisturbed w x = (x.control ≡ w.control) × ((ms : List Value) × (x.mail ≡ w.mail ++ ms))

abbrev pub UndisturbedOrGone : Worker → Option Worker → Type 0
UndisturbedOrGone w none = Unit {0}
UndisturbedOrGone w (some x) = Undisturbed w x

pub undisturbed_same : (w : Worker) → Undisturbed w w
undisturbed_same w = (refl, ([], sym (append-nil w.mail)))

pub undisturbed_twice : (u v w : Worker) → Undisturbed u v → Undisturbed v w → Undisturbed u w
undisturbed_twice u v w (a, (ms, b)) (c, (ns, d)) =
    (c ∙ a, (ms ++ ns, d ∙ ap (λ z. z ++ ns) b ∙ append_assoc u.mail ms ns))

-- changes of a worker that leave it at work where it was
abbrev pub Gentle : (Worker → Worker) → Type 0
Gentle f = (w : Worker) → ((f w).pid ≡ w.pid) × Undisturbed w (f w)

pub gentle_mail : (v : Value) → Gentle (add_mail v)
gentle_mail v w = (refl, (refl, (v ∷ [], refl)))

pub gentle_cut : (n : ℕ) → Gentle (cut_link n)
gentle_cut n w = (refl, undisturbed_same w)

pub gentle_traps : (b : Bool) → Gentle (set_traps b)
gentle_traps b w = (refl, undisturbed_same w)

pub gentle_link : (n : ℕ) → Gentle (add_link n)
gentle_link n w = go (among n w.links)
  where
    go : (b : Bool) → ((cond b w (set_links (w.links ++ (n ∷ [])) w)).pid ≡ w.pid)
        × Undisturbed w (cond b w (set_links (w.links ++ (n ∷ [])) w))
    go true = (refl, undisturbed_same w)
    go false = (refl, undisturbed_same w)

-- a move by the worker n, from s to t
pub record Past (n : ℕ) (s t : System) : Type 0 where
  pub numbered : Numbered t
  pub next : s.next ≤ t.next
  pub clock : t.clock ≡ s.clock
  pub others : (q : ℕ) (w : Worker) → (q ≡ n → ⊥) → find s.workers q ≡ some w →
      UndisturbedOrGone w (find t.workers q)
  pub ends : (q : ℕ) → q < s.next → find s.workers q ≡ none → find t.workers q ≡ none
  pub fresh : (q : ℕ) (x : Worker) → (q ≡ n → ⊥) → find s.workers q ≡ none → find t.workers q ≡ some x →
      time_of x.control ≡ none

fresh-after : (o p : Option Worker) (y : Worker) → (o ≡ none → p ≡ none) →
    ((x : Worker) → o ≡ some x → UndisturbedOrGone x p) → p ≡ some y →
    ((x : Worker) → o ≡ some x → time_of x.control ≡ none) → time_of y.control ≡ none
fresh-after none p y a b e h = impossible (cc (a refl))
fresh-after (some x) none y a b e h = impossible (cc)
fresh-after (some x) (some u) y a b e h =
    let d : u ≡ y = cc in
    let m = b x refl in
    ap (λ z. time_of z.control) (sym d) ∙ ap time_of m.0 ∙ h x refl

undisturbed_after : (w : Worker) (o p : Option Worker) → UndisturbedOrGone w o → (o ≡ none → p ≡ none) →
    ((x : Worker) → o ≡ some x → UndisturbedOrGone x p) → UndisturbedOrGone w p
undisturbed_after w none p a h f = subst (UndisturbedOrGone w) (sym (h refl)) tt
undisturbed_after w (some x) none a h f = tt
undisturbed_after w (some x) (some y) a h f = undisturbed_twice w x y a (f x refl)

pub below_next : (s : System) → Numbered s → (q : ℕ) (w : Worker) → find s.workers q ≡ some w → q < s.next
below_next s i q w h = go (dec_le s.next q)
  where
    go : Dec (s.next ≤ q) → q < s.next
    go (yes l) = impossible (cc (i.1 q l))
    go (no f) = omega arith

-- code that begins waits for no time
from_no_time : (g : Program) (s : System) (w : Scope) (c : Control) → From g s w c → time_of c ≡ none
from_no_time g s w c (own f vs e) =
    subst (λ (z : Control). time_of z ≡ none) (entered_is g w.home w.version f vs c e).4 refl
from_no_time g s w c (other m n f vs d e) =
    subst (λ (z : Control). time_of z ≡ none) (entered_is g m n f vs c e).4 refl

module _ (n : ℕ) (s : System) (i : Numbered s) where
  pub past_start : Past n s s
  past_start = record {
    numbered = i;
    next = omega arith;
    clock = refl;
    others = λ q w f h. subst (UndisturbedOrGone w) (sym h) (undisturbed_same w);
    ends = λ q l h. h;
    fresh = λ q x d h e. impossible (cc);
  }

  -- the same workers
  pub past_same : (t u : System) → u.workers ≡ t.workers → u.next ≡ t.next → u.clock ≡ t.clock → Past n s t →
      Past n s u
  past_same t u a b c p = record {
    numbered = (
      subst Apart (sym a) p.numbered.0,
      λ q l. ap (λ ws. find ws q) a ∙ p.numbered.1 q (omega arith),
    );
    next = let h = p.next in omega arith;
    clock = c ∙ p.clock;
    others = λ q w f h. subst (λ ws. UndisturbedOrGone w (find ws q)) (sym a) (p.others q w f h);
    ends = λ q l h. ap (λ ws. find ws q) a ∙ p.ends q l h;
    fresh = λ q x d h e. p.fresh q x d h (sym (ap (λ ws. find ws q) a) ∙ e);
  }

  pub past_own : (t : System) (f : Worker → Worker) → KeepsNumber f → Past n s t → Past n s (on_worker t n f)
  past_own t f k p = record {
    numbered = (
      apart-change t.workers n f k p.numbered.0,
      λ q l. find-change_none t.workers n q f k
          (p.numbered.1 q l),
    );
    next = p.next;
    clock = p.clock;
    others = λ q w d h. subst (UndisturbedOrGone w) (sym (find-change_other t.workers n q f k d))
        (p.others q w d h);
    ends = λ q l h. find-change_none t.workers n q f k (p.ends q l h);
    fresh = λ q x d h e. p.fresh q x d h (sym (find-change_other t.workers n q f k d) ∙ e);
  }

  gentle_undisturbed : (ws : List Worker) (m : ℕ) (f : Worker → Worker) → Gentle f → (q : ℕ) (w : Worker) →
      find ws q ≡ some w → UndisturbedOrGone w (find (change ws m f) q)
  gentle_undisturbed ws m f k q w h = go (cases_eq q m)
    where
      go : (q ≡ m) ⊎ (q ≡ m → ⊥) → UndisturbedOrGone w (find (change ws m f) q)
      go (inl e) = subst (λ z. UndisturbedOrGone w (find (change ws z f) q)) e
          (subst (UndisturbedOrGone w) (sym (find_changed ws q f w (λ x. (k x).0) h)) (k w).1)
      go (inr d) = subst (UndisturbedOrGone w) (sym (find-change_other ws m q f (λ x. (k x).0) d ∙ h))
          (undisturbed_same w)

  pub past_gentle : (t : System) (m : ℕ) (f : Worker → Worker) → Gentle f → Past n s t → Past n s (on_worker t m f)
  past_gentle t m f k p = record {
    numbered = (
      apart-change t.workers m f
          (λ x. (k x).0) p.numbered.0,
      λ q l. find-change_none t.workers m q f
          (λ x. (k x).0) (p.numbered.1 q l),
    );
    next = p.next;
    clock = p.clock;
    others = λ q w d h. undisturbed_after w (find t.workers q) (find (change t.workers m f) q)
        (p.others q w d h) (find-change_none t.workers m q f (λ x. (k x).0))
        (λ x e. gentle_undisturbed t.workers m f k q x e);
    ends = λ q l h. find-change_none t.workers m q f (λ x. (k x).0) (p.ends q l h);
    fresh = λ q x d h e. fresh-after (find t.workers q) (find (change t.workers m f) q) x
        (find-change_none t.workers m q f (λ y. (k y).0)) (λ y b. gentle_undisturbed t.workers m f k q y b) e
        (λ y b. p.fresh q y d h b);
  }

  gone_undisturbed : (ws : List Worker) (m : ℕ) → Apart ws → (q : ℕ) (w : Worker) → find ws q ≡ some w →
      UndisturbedOrGone w (find (gone ws m) q)
  gone_undisturbed ws m a q w h = go (cases_eq q m)
    where
      go : (q ≡ m) ⊎ (q ≡ m → ⊥) → UndisturbedOrGone w (find (gone ws m) q)
      go (inl e) = subst (λ z. UndisturbedOrGone w (find (gone ws z) q)) e
          (subst (UndisturbedOrGone w) (sym (find-gone-same ws q a)) tt)
      go (inr d) = subst (UndisturbedOrGone w) (sym (find-gone_other ws m q d ∙ h)) (undisturbed_same w)

  pub past_ended : (t : System) (x : Worker) (r : Value) → Past n s t → Past n s (ended t x r)
  past_ended t x r p = record {
    numbered = (
      apart-gone t.workers x.pid p.numbered.0,
      λ q l. find-gone_none t.workers x.pid q
          (p.numbered.1 q l),
    );
    next = p.next;
    clock = p.clock;
    others = λ q w d h. undisturbed_after w (find t.workers q) (find (gone t.workers x.pid) q)
        (p.others q w d h) (find-gone_none t.workers x.pid q)
        (λ y e. gone_undisturbed t.workers x.pid p.numbered.0 q y e);
    ends = λ q l h. find-gone_none t.workers x.pid q (p.ends q l h);
    fresh = λ q y d h e. fresh-after (find t.workers q) (find (gone t.workers x.pid) q) y
        (find-gone_none t.workers x.pid q)
        (λ z b. gone_undisturbed t.workers x.pid p.numbered.0 q z b) e (λ z b. p.fresh q z d h b);
  }

  pub past_new : (t : System) (c : Control) → time_of c ≡ none → Past n s t → Past n s (with_new t c)
  past_new t c young p = record {
    numbered = (
      apart_new t.workers new (p.numbered.1 t.next (omega arith)) p.numbered.0,
      λ q l.
          find-append_none t.workers (new ∷ []) q (p.numbered.1 q (omega arith)) ∙ find_there new [] q
          (λ e. apart q e l),
    );
    next = let h = p.next in omega arith;
    clock = p.clock;
    others = λ q w d h. undisturbed_after w (find t.workers q) (find (t.workers ++ (new ∷ [])) q)
        (p.others q w d h) (λ e. find-append_none t.workers (new ∷ []) q e
        ∙ find_there new [] q (low q (below_next s i q w h)))
        (λ y e. subst (UndisturbedOrGone y) (sym (find-append_some t.workers (new ∷ []) q y e))
        (undisturbed_same y));
    ends = λ q l h. find-append_none t.workers (new ∷ []) q (p.ends q l h) ∙ find_there new [] q
        (λ e. low q l e);
    fresh = λ q x d h e. newer q x d h e (some_or_none (find t.workers q));
  }
    where
      new : Worker
      new = record { pid = t.next; control = c; frames = []; mail = []; links = []; traps = false }

      newer : (q : ℕ) (x : Worker) → (q ≡ n → ⊥) → find s.workers q ≡ none →
          find (t.workers ++ (new ∷ [])) q ≡ some x →
          (find t.workers q ≡ none) ⊎ ((w : Worker) × (find t.workers q ≡ some w)) → time_of x.control ≡ none
      newer q x d h e (inl f) = side (cases_eq t.next q)
        where
          side : (t.next ≡ q) ⊎ (t.next ≡ q → ⊥) → time_of x.control ≡ none
          side (inl b) =
              let y : new ≡ x = cc (find-append_none t.workers (new ∷ []) q f, find_here new [] q b) in
              ap (λ z. time_of z.control) (sym y) ∙ young
          side (inr b) = impossible (cc (find-append_none t.workers (new ∷ []) q f, find_there new [] q b))
      newer q x d h e (inr (w, f)) =
          let y : w ≡ x = cc (find-append_some t.workers (new ∷ []) q w f) in
          p.fresh q x d h (subst (λ z. find t.workers q ≡ some z) y f)

      apart : (q : ℕ) → t.next ≡ q → t.next + 1 ≤ q → ⊥
      apart q e l = omega arith

      low : (q : ℕ) → q < s.next → t.next ≡ q → ⊥
      low q l e = let h = p.next in omega arith

-- one clause for each effect
effect_past : (g : Program) (s : System) (w : Scope) (n : ℕ) (i : Numbered s) {t : System} → Effect g s w n t →
    Past n s t
effect_past g s w n i nothing = past_start n s i
effect_past g s w n i (took ms) = past_own n s i s (set_mail ms) (λ x. refl) (past_start n s i)
effect_past g s w n i (spawned c f) = past_new n s i s c (from_no_time g s w c f) (past_start n s i)
effect_past g s w n i (showed l) = past_same n s i s (with_line s l) refl refl refl (past_start n s i)
effect_past g s w n i (sent q v) = past_gentle n s i s q (add_mail v) (gentle_mail v) (past_start n s i)
effect_past g s w n i (linked q x d e) =
    past_gentle n s i (on_worker s n (add_link q)) q (add_link n) (gentle_link n)
    (past_gentle n s i s n (add_link q) (gentle_link q) (past_start n s i))
effect_past g s w n i (linked_gone q d e) = past_same n s i s _ refl refl refl (past_start n s i)
effect_past g s w n i (exited q r) = past_same n s i s _ refl refl refl (past_start n s i)
effect_past g s w n i (trapped b) = past_gentle n s i s n (set_traps b) (gentle_traps b) (past_start n s i)
effect_past g s w n i (named x) = past_same n s i s (with_name s x n) refl refl refl (past_start n s i)

swapped_past : (s : System) (n : ℕ) (i : Numbered s) (x : Name) (m : ℕ) → Past n s (swapped s x m)
swapped_past s n i x m = swapped_all (Past n s)
    (λ t w p. past_ended n s i t w (v_atom a_old) p) s x m
    (past_same n s i s (with_version s x (m + 1)) refl refl refl (past_start n s i))

turned_past : (g : Program) (s : System) (me : Worker) (o : Outcome) → Numbered s → Turned g s me o →
    OnIs (Past me.pid s) (settle me.pid o)
turned_past g s me o i (turn_goes c k w {t} d) =
    past_own me.pid s i t (set_control c k) (λ x. refl) (effect_past g s w me.pid i d)
turned_past g s me o i (turn_ends r e) = past_ended me.pid s i s me r (past_start me.pid s i)
turned_past g s me o i (turn_swaps c k x m y d f e) = past_own me.pid s i (swapped s x m) (set_control c k)
    (λ z. refl) (swapped_past s me.pid i x m)
turned_past g s me o i (turn_swapped_out x m d f e) = swapped_past s me.pid i x m
turned_past g s me o i turn_stuck = tt

-- a turn, whatever the worker does in it
pub after_turn : (g : Program) (s t : System) (n : ℕ) → Numbered s → move g s (turn n) ≡ is t → Past n s t
after_turn g s t n i h = on_is_of (Past n s) (move g s (turn n)) t
    (turn_all g s n (OnIs (Past n s)) tt
    (λ me o p e d v. subst (λ (q : ℕ). OnIs (Past q s) (settle q o)) p (turned_past g s me o i v))) h

-- a signal, for whatever n
pub after_signal : (g : Program) (s t : System) (n : ℕ) → Numbered s → move g s signal ≡ is t → Past n s t
after_signal g s t n i h = on_is_of (Past n s) (deliver s s.signals) t
    (deliver_all (Past n s) (Unit {0}) s s.signals (λ x gs e. plain gs)
    (λ x gs w e f. taken (with_signals s gs) x w (plain gs))) h
  where
    plain : (gs : List Signal) → Past n s (with_signals s gs)
    plain gs = past_same n s i s (with_signals s gs) refl refl refl (past_start n s i)

    taken : (u : System) (x : Signal) (w : Worker) → Past n s u → Past n s (take_signal u x w)
    taken u x w p = take_signal_all (Past n s) u x w
        (past_gentle n s i u w.pid (add_mail (exit_message x)) (gentle_mail (exit_message x)) p)
        (past_gentle n s i (on_worker u w.pid (cut_link x.from)) x.from (cut_link w.pid)
        (gentle_cut w.pid) (past_gentle n s i u w.pid (cut_link x.from) (gentle_cut x.from) p))
        (past_ended n s i u w x.reason p)
