-- All the workers, one after the other: those that pass a test, once each. So those that became able by a move, or by
-- time, are found.
use mathlib.Core.Path.{◌≡◌, refl, sym, ap, subst, ◌∙◌}
use mathlib.Core.Logic.{◌⊎◌, inl, inr}
use mathlib.Core.Bool.{Bool, true, false, ◌&&◌, not, cond}
use mathlib.Core.List.{List, [], ◌∷◌}
use mathlib.Core.Option.{Option, some, none}
use Prim.Native.Nat.{ℕ, zero}
use native.Mathlib.Omega.{arith}
use lib.Dec.{eqb}
use Rattle.meaning.specs.Basics.{opt}
use Rattle.meaning.specs.Syntax.{Program}
use Rattle.meaning.specs.System.{Worker, System, find, Apart, with_clock}
use Rattle.meaning.specs.Turns.{can}
use Rattle.meaning.specs.Fair.{Could}
use Rattle.meaning.specs.Scheduler.{Woken, Numbered, Entry, worker, At, here, Mem, Distinct}
use Rattle.meaning.proofs.Queue.{At-none, Mem-cases, Mem-behind}
use Rattle.meaning.proofs.Finding.{find_here, find_there, find_pid, find-behind}
use Rattle.std.proofs.lemmas.Bool.{and_parts, cases_eq, eqb-false, ne_eqb, not-true}
use Rattle.meaning.proofs.Splits.{impossible, none_some, no_clash, some_is, bool_all}

-- those of a list that pass a test
pub those : (Worker → Bool) → List Worker → List Entry
those b [] = []
those b (w ∷ ws) = cond (b w) (worker w.pid ∷ those b ws) (those b ws)

module _ (b : Worker → Bool) where
  abbrev Has : List Worker → Entry → Type 0
  Has ws x = (q : ℕ) × (w : Worker) × (x ≡ worker q) × (find ws q ≡ some w) × (b w ≡ true)

  wider : (w : Worker) (ws : List Worker) → Apart (w ∷ ws) → (x : Entry) → Has ws x → Has (w ∷ ws) x
  wider w ws a x (q, y, e, f, c) = (q, y, e, find-behind w ws q y a f, c)

  those_in : (ws : List Worker) → Apart ws → (x : Entry) → Mem x (those b ws) → Has ws x
  unfolding those
  those_in [] a x m = absurd (At-none m.1)
  those_in (w ∷ ws) a x m = go (b w) refl m (those_in ws a.1 x)
    where
      go : (c : Bool) → b w ≡ c → Mem x (cond c (worker w.pid ∷ those b ws) (those b ws)) →
          (Mem x (those b ws) → Has ws x) → Has (w ∷ ws) x
      go false e m ih = wider w ws a x (ih m)
      go true e m ih = side (Mem-cases m)
        where
          side : (x ≡ worker w.pid) ⊎ Mem x (those b ws) → Has (w ∷ ws) x
          side (inl d) = (w.pid, w, d, find_here w ws w.pid refl, e)
          side (inr d) = wider w ws a x (ih d)

  those_once : (ws : List Worker) → Apart ws → Distinct (those b ws)
  unfolding those
  those_once [] a = tt
  those_once (w ∷ ws) a = go (b w) (those_once ws a.1)
    where
      none_of : Mem (worker w.pid) (those b ws) → ⊥
      none_of m =
          let y = those_in ws a.1 (worker w.pid) m in
          let e : y.0 ≡ w.pid = cc y.2 in
          impossible (cc (ap (find ws) e, y.3, a.0))

      go : (c : Bool) → Distinct (those b ws) → Distinct (cond c (worker w.pid ∷ those b ws) (those b ws))
      go true ih = (none_of, ih)
      go false ih = ih

  those-has : (ws : List Worker) (q : ℕ) (w : Worker) → find ws q ≡ some w → b w ≡ true → Mem (worker q) (those b ws)
  unfolding those
  those-has [] q w f c = impossible (cc)
  those-has (x ∷ ws) q w f c = side (cases_eq x.pid q) (those-has ws q w)
    where
      skip : (d : Bool) → Mem (worker q) (those b ws) →
          Mem (worker q) (cond d (worker x.pid ∷ those b ws) (those b ws))
      skip true m = Mem-behind (worker x.pid) m
      skip false m = m

      side : (x.pid ≡ q) ⊎ (x.pid ≡ q → ⊥) → (find ws q ≡ some w → b w ≡ true → Mem (worker q) (those b ws)) →
          Mem (worker q) (cond (b x) (worker x.pid ∷ those b ws) (those b ws))
      side (inl e) ih =
          let y : x ≡ w = cc (find_here x ws q e) in
          let d : b x ≡ true = ap b y ∙ c in
          subst (λ z. Mem (worker q) (cond z (worker x.pid ∷ those b ws) (those b ws))) (sym d)
          (zero, subst (λ z. At (worker q) zero (worker z ∷ those b ws)) (sym e) here)
      side (inr e) ih = skip (b x) (ih (sym (find_there x ws q e) ∙ f) c)

-- a test that tells who became able finds all of them
pub woken_those : (g : Program) (n : ℕ) (s t : System) (b : Worker → Bool) → Apart t.workers →
    ((q : ℕ) (w : Worker) → find t.workers q ≡ some w → b w ≡ true →
    (q ≡ n → ⊥) × (can g t w ≡ true) × (Could g s q → ⊥)) →
    ((q : ℕ) (w : Worker) → find t.workers q ≡ some w → (q ≡ n → ⊥) → can g t w ≡ true →
    Could g s q ⊎ (b w ≡ true)) → Woken g n s t (those b t.workers)
woken_those g n s t b a each all = record {
  once = those_once b t.workers a;
  each = λ x m. let y = those_in b t.workers a x m in
      let z = each y.0 y.1 y.3 y.4 in (y.0, y.2, z.0, (y.1, y.3, z.1), z.2);
  all = λ q d c. elim (all q c.0 c.1 d c.2)
      [ inl h ↦ inl h | inr h ↦ inr (those-has b t.workers q c.0 c.1 h) ];
}

-- by time: whoever could not go on and can now
abbrev pub newly_can : Program → System → System → Worker → Bool
newly_can g s t w = not (can g s w) && can g t w

pub woken_time : (g : Program) (s : System) (u : ℕ) → Numbered s →
    Woken g s.next s (with_clock s u) (those (newly_can g s (with_clock s u)) s.workers)
woken_time g s u i = woken_those g s.next s t (newly_can g s t) i.0 each all
  where
    t : System
    t = with_clock s u

    each : (q : ℕ) (w : Worker) → find s.workers q ≡ some w → newly_can g s (with_clock s u) w ≡ true →
        (q ≡ s.next → ⊥) × (can g (with_clock s u) w ≡ true) × (Could g s q → ⊥)
    each q w f h =
        let y = and_parts (not (can g s w)) (can g (with_clock s u) w) h in (
          λ e. none_some (sym (i.1 q (omega arith)) ∙ f),
          y.1,
          λ c. no_clash
              (ap (can g s) (some_is (sym f ∙ c.1)) ∙ c.2) (not-true (can g s w) y.0),
        )

    all : (q : ℕ) (w : Worker) → find s.workers q ≡ some w → (q ≡ s.next → ⊥) → can g (with_clock s u) w ≡ true →
        Could g s q ⊎ (newly_can g s (with_clock s u) w ≡ true)
    all q w f d c = bool_all (λ b. can g s w ≡ b → Could g s q ⊎ (newly_can g s (with_clock s u) w ≡ true))
        (can g s w) (λ e h. inl (w, f, e)) (λ e h. inr (ap (λ b. not b && can g (with_clock s u) w) e ∙ c)) refl

-- somebody can, or can't
could : Program → System → ℕ → Bool
could g s q = opt (find s.workers q) false (can g s)

could_true : (g : Program) (s : System) (q : ℕ) → could g s q ≡ true → Could g s q
unfolding could
could_true g s q h = go (find s.workers q) refl h
  where
    go : (o : Option Worker) → find s.workers q ≡ o → opt o false (can g s) ≡ true → Could g s q
    go none e h = impossible (cc)
    go (some w) e h = (w, e, h)

true_could : (g : Program) (s : System) (q : ℕ) → Could g s q → could g s q ≡ true
unfolding could
true_could g s q (w, f, c) = ap (λ o. opt o false (can g s)) f ∙ c

pub could_or_not : (g : Program) (s : System) (q : ℕ) → Could g s q ⊎ (Could g s q → ⊥)
could_or_not g s q = bool_all (λ b. could g s q ≡ b → Could g s q ⊎ (Could g s q → ⊥)) (could g s q)
    (λ e h. inl (could_true g s q e)) (λ e h. inr (λ c. no_clash (true_could g s q c) e)) refl

-- by a move of n: whoever else could not go on, or was not there, and can now
pub newly_could : Program → ℕ → System → System → Worker → Bool
newly_could g n s t w = not (could g s w.pid) && (can g t w && not (eqb w.pid n))

gains_parts : (a b c : Bool) → (not a && (b && not c)) ≡ true → (a ≡ false) × (b ≡ true) × (c ≡ false)
gains_parts false true false h = (refl, refl, refl)
gains_parts true b c h = (cc, cc, cc)
gains_parts false false c h = (cc, cc, cc)
gains_parts false true true h = (cc, cc, cc)

gains_whole : (a b c : Bool) → a ≡ false → b ≡ true → c ≡ false → (not a && (b && not c)) ≡ true
gains_whole a b c x y z = ap (λ u. not u && (b && not c)) x ∙ ap (λ u. u && not c) y ∙ ap not z

pub woken_all : (g : Program) (n : ℕ) (s t : System) → Numbered t →
    Woken g n s t (those (newly_could g n s t) t.workers)
unfolding newly_could
woken_all g n s t i = woken_those g n s t (newly_could g n s t) i.0 each all
  where
    each : (q : ℕ) (w : Worker) → find t.workers q ≡ some w → newly_could g n s t w ≡ true →
        (q ≡ n → ⊥) × (can g t w ≡ true) × (Could g s q → ⊥)
    each q w f h =
        let p = find_pid t.workers q w f in
        let y = gains_parts (could g s w.pid) (can g t w) (eqb w.pid n) h in (
          λ d. eqb-false w.pid n y.2 (p ∙ d),
          y.1,
          λ c. no_clash (true_could g s q c)
              (ap (could g s) (sym p) ∙ y.0),
        )

    all : (q : ℕ) (w : Worker) → find t.workers q ≡ some w → (q ≡ n → ⊥) → can g t w ≡ true →
        Could g s q ⊎ (newly_could g n s t w ≡ true)
    all q w f d c =
        let p = find_pid t.workers q w f in
        bool_all (λ b. could g s q ≡ b → Could g s q ⊎ (newly_could g n s t w ≡ true)) (could g s q)
        (λ e h. inl (could_true g s q e))
        (λ e h. inr (gains_whole (could g s w.pid) (can g t w) (eqb w.pid n) (ap (could g s) p ∙ e) c
        (ne_eqb w.pid n (λ z. d (sym p ∙ z))))) refl
