-- The queue: places and members, what is kept of it, and what stands before what. It is no longer than there are
-- workers that can go on, and the end of the round.
use mathlib.Core.Path.{◌≡◌, refl, sym, ap, subst, ◌∙◌}
use mathlib.Core.Logic.{◌⊎◌, inl, inr}
use mathlib.Core.Bool.{true, cond}
use mathlib.Core.List.{List, [], ◌∷◌, ◌++◌}
use mathlib.Core.Option.{some, none}
use Prim.Native.Nat.{ℕ, zero, suc, ◌+◌, ◌<◌, ◌≤◌}
use native.Mathlib.Omega.{arith}
use native.Mathlib.Decide.{ℕ_discrete}
use lib.ListN.{length}
use Rattle.meaning.specs.Syntax.{Program}
use Rattle.meaning.specs.System.{Worker, System, find}
use Rattle.meaning.specs.Turns.{can}
use Rattle.meaning.specs.Fair.{Could, able}
use Rattle.meaning.specs.Scheduler.{Entry, round, worker, At, here, there, Mem, Distinct, Kept, end, keep, leave}
use Rattle.meaning.specs.Scheduler.{Before, first, next}
use Rattle.meaning.proofs.Finding.{find_here, find_there}
use Rattle.meaning.proofs.Splits.{impossible, none_some}

pub At-cases : {x y : Entry} {n : ℕ} {es : List Entry} → At x n (y ∷ es) →
    (x ≡ y) ⊎ ((k : ℕ) × (n ≡ suc k) × At x k es)
At-cases here = inl refl
At-cases (there {n = k} a) = inr (k, refl, a)

pub At-none : {x : Entry} {n : ℕ} → At x n [] → ⊥
At-none a = elim a as (λ n es b. is_none es → ⊥) [ here ↦ λ e. e | there b ↦ λ e. e ] tt
  where
    is_none : List Entry → Type 0
    is_none [] = Unit {0}
    is_none (x ∷ es) = ⊥

pub At-append : {x : Entry} {n : ℕ} {es : List Entry} (fs : List Entry) → At x n es → At x n (es ++ fs)
At-append fs here = here
At-append fs (there a) = there (At-append fs a)

pub At-length : {x : Entry} {n : ℕ} {es : List Entry} → At x n es → n < length es
At-length {es = es} here = omega arith
At-length (there a) = let h = At-length a in omega arith

-- members
pub Mem-cases : {x y : Entry} {es : List Entry} → Mem x (y ∷ es) → (x ≡ y) ⊎ Mem x es
Mem-cases {x} {y} {es} (n, a) = go (At-cases a)
  where
    go : (x ≡ y) ⊎ ((k : ℕ) × (n ≡ suc k) × At x k es) → (x ≡ y) ⊎ Mem x es
    go (inl e) = inl e
    go (inr b) = inr (b.0, b.2)

pub Mem-behind : {x : Entry} (y : Entry) {es : List Entry} → Mem x es → Mem x (y ∷ es)
Mem-behind y m = (suc m.0, there m.1)

pub Mem-worker : {q : ℕ} {es : List Entry} → Mem (worker q) (round ∷ es) → Mem (worker q) es
Mem-worker {q} {es} m = elim (Mem-cases m) [ inl e ↦ impossible (cc) | inr a ↦ a ]

pub Mem-round : {p : ℕ} {es : List Entry} → Mem round (worker p ∷ es) → Mem round es
Mem-round {p} {es} m = elim (Mem-cases m) [ inl e ↦ impossible (cc) | inr a ↦ a ]

pub Mem-one : {x y : Entry} → Mem x (y ∷ []) → x ≡ y
Mem-one {x} {y} m = elim (Mem-cases m) [ inl e ↦ e | inr a ↦ absurd (At-none a.1) ]

pub Mem-left : {x : Entry} {es : List Entry} (fs : List Entry) → Mem x es → Mem x (es ++ fs)
Mem-left fs (n, a) = (n, At-append fs a)

pub Mem-right : {x : Entry} (es : List Entry) {fs : List Entry} → Mem x fs → Mem x (es ++ fs)
Mem-right [] m = m
Mem-right (y ∷ es) m = Mem-behind y (Mem-right es m)

pub Mem-split : {x : Entry} (es : List Entry) {fs : List Entry} → Mem x (es ++ fs) → Mem x es ⊎ Mem x fs
Mem-split [] m = inr m
Mem-split {x} (y ∷ es) {fs} m = go (Mem-cases m) (Mem-split es)
  where
    go : (x ≡ y) ⊎ Mem x (es ++ fs) → (Mem x (es ++ fs) → Mem x es ⊎ Mem x fs) → Mem x (y ∷ es) ⊎ Mem x fs
    go (inl e) ih = inl (zero, subst (λ z. At x zero (z ∷ es)) e here)
    go (inr m) ih = other (ih m)
      where
        other : Mem x es ⊎ Mem x fs → Mem x (y ∷ es) ⊎ Mem x fs
        other (inl a) = inl (Mem-behind y a)
        other (inr b) = inr b

pub Distinct-append : (es fs : List Entry) → Distinct es → Distinct fs → ((x : Entry) → Mem x es → Mem x fs → ⊥) →
    Distinct (es ++ fs)
Distinct-append [] fs d e h = e
Distinct-append (x ∷ es) fs d e h =
    (λ m. go (Mem-split es m), Distinct-append es fs d.1 e (λ y a b. h y (Mem-behind x a) b))
  where
    go : Mem x es ⊎ Mem x fs → ⊥
    go (inl a) = d.0 a
    go (inr b) = h x (zero, here) b

-- an entry that stays in the queue: the end of a round, or a worker that is there
abbrev pub Stays : System → Entry → Type 0
Stays s round = Unit {0}
Stays s (worker p) = find s.workers p ≡ none → ⊥

pub could_not_gone : (g : Program) (s : System) (p : ℕ) → find s.workers p ≡ none → Could g s p → ⊥
could_not_gone g s p e c = none_some (sym e ∙ c.1)

-- what is kept stands no further back
abbrev pub Nearer : Entry → ℕ → List Entry → Type 0
Nearer x n fs = (k : ℕ) × (k ≤ n) × At x k fs

pub kept : {s : System} {es fs : List Entry} (x : Entry) (n : ℕ) → Stays s x → Kept s es fs → At x n es →
    Nearer x n fs
kept x n c end a = absurd (At-none a)
kept x n c (keep {x = y} {es = es} {fs = fs} r) a = go (At-cases a) (λ k b. kept x k c r b)
  where
    go : (x ≡ y) ⊎ ((k : ℕ) × (n ≡ suc k) × At x k es) → ((k : ℕ) → At x k es → Nearer x k fs) → Nearer x n (y ∷ fs)
    go (inl e) ih = (zero, omega arith, subst (λ z. At x zero (z ∷ fs)) e here)
    go (inr b) ih =
        let h = ih b.0 b.2 in
        let e = b.1 in
        let le = h.1 in
        (suc h.0, omega arith, there h.2)
kept {s} x n c (leave {p = p} {es = es} {fs = fs} e r) a = go (At-cases a) (λ k b. kept x k c r b)
  where
    go : (x ≡ worker p) ⊎ ((k : ℕ) × (n ≡ suc k) × At x k es) → ((k : ℕ) → At x k es → Nearer x k fs) → Nearer x n fs
    go (inl d) ih = absurd (subst (Stays s) d c e)
    go (inr b) ih = let h = ih b.0 b.2 in let d = b.1 in let le = h.1 in (h.0, omega arith, h.2)

pub kept_mem : {s : System} {es fs : List Entry} (x : Entry) → Stays s x → Kept s es fs → Mem x es → Mem x fs
kept_mem x c k m = let r = kept x m.0 c k m.1 in (r.0, r.2)

-- what is kept was there, and stands once if it did
pub kept_from : {s : System} {es fs : List Entry} → Kept s es fs → (x : Entry) → Mem x fs → Mem x es
kept_from end x m = m
kept_from {s} (keep {x = y} {es = es} {fs = fs} k) x m = go (Mem-cases m) (kept_from k x)
  where
    go : (x ≡ y) ⊎ Mem x fs → (Mem x fs → Mem x es) → Mem x (y ∷ es)
    go (inl e) ih = (zero, subst (λ z. At x zero (z ∷ es)) e here)
    go (inr a) ih = Mem-behind y (ih a)
kept_from (leave {p = p} e k) x m = Mem-behind (worker p) (kept_from k x m)

pub kept_distinct : {s : System} {es fs : List Entry} → Kept s es fs → Distinct es → Distinct fs
kept_distinct end d = d
kept_distinct (keep {x = x} k) d = (λ m. d.0 (kept_from k x m), kept_distinct k d.1)
kept_distinct (leave e k) d = kept_distinct k d.1

pub kept_whole : (s : System) (es : List Entry) → Kept s es es
kept_whole s [] = end
kept_whole s (x ∷ es) = keep (kept_whole s es)

-- what stands before what
pub Before-cases : {x y z : Entry} {es : List Entry} → Before x y (z ∷ es) → ((x ≡ z) × Mem y es) ⊎ Before x y es
Before-cases (first m) = inl (refl, m)
Before-cases (next b) = inr b

Before-none : {x y : Entry} → Before x y [] → ⊥
Before-none a = elim a as (λ es b. is_none es → ⊥) [ first m ↦ λ e. e | next b ↦ λ e. e ] tt
  where
    is_none : List Entry → Type 0
    is_none [] = Unit {0}
    is_none (x ∷ es) = ⊥

pub Before-mem : {x y : Entry} {es : List Entry} → Before x y es → Mem y es
Before-mem {x} (first m) = Mem-behind x m
Before-mem (next {z = z} b) = Mem-behind z (Before-mem b)

pub Before-append : {x y : Entry} {es : List Entry} (fs : List Entry) → Before x y es → Before x y (es ++ fs)
Before-append fs (first m) = first (Mem-left fs m)
Before-append fs (next b) = next (Before-append fs b)

pub Before_last : (x y : Entry) (es : List Entry) → Mem x es → Before x y (es ++ (y ∷ []))
Before_last x y [] m = absurd (At-none m.1)
Before_last x y (z ∷ es) m = go (Mem-cases m) (Before_last x y es)
  where
    go : (x ≡ z) ⊎ Mem x es → (Mem x es → Before x y (es ++ (y ∷ []))) → Before x y (z ∷ (es ++ (y ∷ [])))
    go (inl e) ih = subst (λ w. Before x y (w ∷ (es ++ (y ∷ [])))) e (first (Mem-right es (zero, here)))
    go (inr a) ih = next (ih a)

pub Before_kept : {s : System} {es fs : List Entry} (q : ℕ) → Kept s es fs → (find s.workers q ≡ none → ⊥) →
    Before (worker q) round es → Before (worker q) round fs
Before_kept q end h b = absurd (Before-none b)
Before_kept q (keep {x = x} {es = es} {fs = fs} k) h b = go (Before-cases b) (Before_kept q k h)
  where
    go : ((worker q ≡ x) × Mem round es) ⊎ Before (worker q) round es →
        (Before (worker q) round es → Before (worker q) round fs) → Before (worker q) round (x ∷ fs)
    go (inl (e, m)) ih = subst (λ w. Before (worker q) round (w ∷ fs)) e (first (kept_mem round tt k m))
    go (inr a) ih = next (ih a)
Before_kept {s} q (leave {p = p} {es = es} {fs = fs} d k) h b = go (Before-cases b) (Before_kept q k h)
  where
    go : ((worker q ≡ worker p) × Mem round es) ⊎ Before (worker q) round es →
        (Before (worker q) round es → Before (worker q) round fs) → Before (worker q) round fs
    go (inl (e, m)) ih = let y : q ≡ p = cc in absurd (h (ap (find s.workers) y ∙ d))
    go (inr a) ih = ih a

-- how many stand in a queue: no more than those that can go on, and the end of the round
worker_same : {p q : ℕ} → worker p ≡ worker q → p ≡ q
worker_same e = cc

worker_or_not : (n : ℕ) (y : Entry) → (y ≡ worker n) ⊎ (y ≡ worker n → ⊥)
worker_or_not n round = inr (λ e. impossible (cc))
worker_or_not n (worker p) = go (ℕ_discrete p n)
  where
    go : Dec (p ≡ n) → (worker p ≡ worker n) ⊎ (worker p ≡ worker n → ⊥)
    go (yes e) = inl (ap worker e)
    go (no f) = inr (λ e. f (worker_same e))

record Pulled (n : ℕ) (es : List Entry) : Type 0 where
  rest : List Entry
  was : Mem (worker n) es
  len : length es ≡ suc (length rest)
  once : Distinct rest
  from : (y : Entry) → Mem y rest → Mem y es × (y ≡ worker n → ⊥)

pull : (n : ℕ) (es : List Entry) → Distinct es → (Mem (worker n) es → ⊥) ⊎ Pulled n es
pull n [] d = inl (λ m. At-none m.1)
pull n (y ∷ es) d = go (worker_or_not n y) (pull n es d.1)
  where
    go : (y ≡ worker n) ⊎ (y ≡ worker n → ⊥) → (Mem (worker n) es → ⊥) ⊎ Pulled n es →
        (Mem (worker n) (y ∷ es) → ⊥) ⊎ Pulled n (y ∷ es)
    go (inl e) ih = inr (record {
      rest = es;
      was = (zero, subst (λ z. At z zero (y ∷ es)) e here);
      len = refl;
      once = d.1;
      from = λ z m. (Mem-behind y m, λ f. d.0 (subst (λ u. Mem u es) (f ∙ sym e) m));
    })
    go (inr f) (inl h) = inl (λ m. other (Mem-cases m))
      where
        other : (worker n ≡ y) ⊎ Mem (worker n) es → ⊥
        other (inl e) = f (sym e)
        other (inr m) = h m
    go (inr f) (inr r) = inr (record {
      rest = y ∷ r.rest;
      was = Mem-behind y r.was;
      len = ap suc r.len;
      once = (λ m. d.0 (r.from y m).0, r.once);
      from = λ z m. other z (Mem-cases m);
    })
      where
        other : (z : Entry) → (z ≡ y) ⊎ Mem z r.rest → Mem z (y ∷ es) × (z ≡ worker n → ⊥)
        other z (inl e) = ((zero, subst (λ u. At u zero (y ∷ es)) (sym e) here), λ k. f (sym e ∙ k))
        other z (inr m) = (Mem-behind y (r.from z m).0, (r.from z m).1)

module _ (g : Program) (s : System) where
  abbrev CanAmong : List Worker → ℕ → Type 0
  CanAmong ws p = (w : Worker) × (find ws p ≡ some w) × (can g s w ≡ true)

  no_workers_bounded : (es : List Entry) → Distinct es → ((p : ℕ) → Mem (worker p) es → ⊥) → length es ≤ 1
  no_workers_bounded [] d f = omega arith
  no_workers_bounded (worker p ∷ es) d f = absurd (f p (zero, here))
  no_workers_bounded (round ∷ []) d f = omega arith
  no_workers_bounded (round ∷ worker p ∷ es) d f = absurd (f p (Mem-behind round (zero, here)))
  no_workers_bounded (round ∷ round ∷ es) d f = absurd (d.0 (zero, here))

  pub queue_bounded : (ws : List Worker) (es : List Entry) → Distinct es →
      ((p : ℕ) → Mem (worker p) es → CanAmong ws p) → length es ≤ 1 + able g s ws
  queue_bounded [] es d c = let h = no_workers_bounded es d (λ p m. impossible (cc (c p m).1)) in omega arith
  queue_bounded (w ∷ ws) es d c = go (pull w.pid es d) (λ fs. queue_bounded ws fs)
    where
      past : (p : ℕ) → (p ≡ w.pid → ⊥) → CanAmong (w ∷ ws) p → CanAmong ws p
      past p f h = (h.0, sym (find_there w ws p (λ e. f (sym e))) ∙ h.1, h.2)

      go : (Mem (worker w.pid) es → ⊥) ⊎ Pulled w.pid es →
          ((fs : List Entry) → Distinct fs → ((p : ℕ) → Mem (worker p) fs → CanAmong ws p) →
          length fs ≤ 1 + able g s ws) → length es ≤ 1 + able g s (w ∷ ws)
      go (inl h) ih =
          let k : length es ≤ 1 + able g s ws =
          ih es d (λ p m. past p (λ e. h (subst (λ q. Mem (worker q) es) e m)) (c p m)) in
          omega arith
      go (inr r) ih =
          let k : length r.rest ≤ 1 + able g s ws =
          ih r.rest r.once (λ p m. past p
          (λ e. (r.from (worker p) m).1 (ap worker e)) (c p (r.from (worker p) m).0)) in
          let h = c w.pid r.was in
          let e : h.0 ≡ w = cc (h.1, find_here w ws w.pid refl) in
          let y : ◌≡◌ {A = ℕ} (cond {A = ℕ} (can g s w) 1 0) 1 =
          ap (λ b. cond {A = ℕ} b 1 0) (subst (λ z. can g s z ≡ true) e h.2) in
          let n = r.len in
          omega arith
