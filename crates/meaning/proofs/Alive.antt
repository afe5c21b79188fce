-- A queue without the workers that are no more: what is left keeps its order, and whoever is passed over now is
-- passed over later too.
use mathlib.Core.Path.{◌≡◌, refl, ap, sym, ◌∙◌}
use mathlib.Core.Logic.{◌⊎◌, inl, inr}
use mathlib.Core.List.{List, [], ◌∷◌, ◌++◌}
use mathlib.Core.Option.{some, none, Option}
use Prim.Native.Nat.{ℕ, zero, ◌<◌}
use Rattle.meaning.specs.Basics.{opt}
use Rattle.meaning.specs.Syntax.{Program}
use Rattle.meaning.specs.System.{Worker, System, find}
use Rattle.meaning.specs.Fair.{Could}
use Rattle.meaning.specs.Scheduler.{Entry, round, worker, Mem, Kept, end, keep, leave, alive, here}
use Rattle.meaning.proofs.Queue.{At-none, Mem-cases, Mem-behind, could_not_gone}
use Rattle.meaning.proofs.Past.{Past}
use Rattle.meaning.proofs.Splits.{impossible}

-- those that are no more are left out
pub alive_kept : (s : System) (es : List Entry) → Kept s es (alive s es)
alive_kept s [] = end
alive_kept s (round ∷ es) = keep (alive_kept s es)
alive_kept s (worker p ∷ es) = go (find s.workers p) refl (alive_kept s es)
  where
    go : (o : Option Worker) → find s.workers p ≡ o → Kept s es (alive s es) →
        Kept s (worker p ∷ es) (opt o (alive s es) (λ w. worker p ∷ alive s es))
    go none e ih = leave e ih
    go (some w) e ih = keep ih

-- whoever is left is there
pub alive_there : (t : System) (es : List Entry) (q : ℕ) → Mem (worker q) (alive t es) → find t.workers q ≡ none →
    ⊥
alive_there t [] q m e = At-none m.1
alive_there t (round ∷ es) q m e = go (Mem-cases m) (λ a. alive_there t es q a e)
  where
    go : (worker q ≡ round) ⊎ Mem (worker q) (alive t es) → (Mem (worker q) (alive t es) → ⊥) → ⊥
    go (inl d) ih = impossible (cc)
    go (inr a) ih = ih a
alive_there t (worker p ∷ es) q m e = go (find t.workers p) refl m (λ a. alive_there t es q a e)
  where
    go : (o : Option Worker) → find t.workers p ≡ o →
        Mem (worker q) (opt o (alive t es) (λ w. worker p ∷ alive t es)) → (Mem (worker q) (alive t es) → ⊥) → ⊥
    go none d a ih = ih a
    go (some w) d a ih = side (Mem-cases a)
      where
        side : (worker q ≡ worker p) ⊎ Mem (worker q) (alive t es) → ⊥
        side (inl f) = let y : q ≡ p = cc in impossible (cc)
        side (inr b) = ih b

-- nobody in the queue ends: the queue stays as it is
pub alive-same : (t : System) (es : List Entry) → ((q : ℕ) → Mem (worker q) es → find t.workers q ≡ none → ⊥) →
    alive t es ≡ es
alive-same t [] h = refl
alive-same t (round ∷ es) h = ap (λ z. round ∷ z) (alive-same t es (λ q m. h q (Mem-behind round m)))
alive-same t (worker p ∷ es) h =
    go (find t.workers p) refl (alive-same t es (λ q m. h q (Mem-behind (worker p) m)))
  where
    go : (o : Option Worker) → find t.workers p ≡ o → alive t es ≡ es → opt o (alive t es)
        (λ w. worker p ∷ alive t es) ≡ worker p ∷ es
    go none e ih = absurd (h p (zero, here) e)
    go (some w) e ih = ap (λ z. worker p ∷ z) ih

pub alive-able : (g : Program) (t : System) (es : List Entry) → ((q : ℕ) → Mem (worker q) es → Could g t q) →
    alive t es ≡ es
alive-able g t es h = alive-same t es (λ q m e. could_not_gone g t q e (h q m))

pub alive-append : (t : System) (r new : List Entry) → alive t (r ++ new) ≡ alive t r ++ alive t new
alive-append t [] new = refl
alive-append t (round ∷ r) new = ap (λ z. round ∷ z) (alive-append t r new)
alive-append t (worker q ∷ r) new = go (find t.workers q) (alive-append t r new)
  where
    go : (o : Option Worker) → alive t (r ++ new) ≡ alive t r ++ alive t new → opt o (alive t (r ++ new))
        (λ w. worker q ∷ alive t (r ++ new)) ≡ opt o (alive t r) (λ w. worker q ∷ alive t r) ++ alive t new
    go none ih = ih
    go (some w) ih = ap (λ z. worker q ∷ z) ih

-- a queue may hold numbers of those that are no more: they are passed over, then and later
abbrev pub NumbersBelow : ℕ → List Entry → Type 0
NumbersBelow n [] = Unit {0}
NumbersBelow n (round ∷ es) = NumbersBelow n es
NumbersBelow n (worker p ∷ es) = (p < n) × NumbersBelow n es

pub alive_later : (n : ℕ) (s t : System) → Past n s t → (r : List Entry) → NumbersBelow s.next r →
    alive t (alive s r) ≡ alive t r
alive_later n s t p [] l = refl
alive_later n s t p (round ∷ r) l = ap (λ z. round ∷ z) (alive_later n s t p r l)
alive_later n s t p (worker q ∷ r) l = go (find s.workers q) refl (alive_later n s t p r l.1)
  where
    go : (o : Option Worker) → find s.workers q ≡ o → alive t (alive s r) ≡ alive t r →
        alive t (opt o (alive s r) (λ w. worker q ∷ alive s r)) ≡ opt (find t.workers q) (alive t r)
        (λ w. worker q ∷ alive t r)
    go none e ih = ih ∙ sym (ap (λ o. opt o (alive t r) (λ w. worker q ∷ alive t r)) (p.ends q l.0 e))
    go (some x) e ih = ap (λ z. opt (find t.workers q) z (λ w. worker q ∷ z)) ih
