-- The first time for which somebody waits: somebody waits for it, and nobody for an earlier one. To it the clock
-- goes.
use mathlib.Core.Path.{◌≡◌, refl, sym, ap, subst, ◌∙◌}
use mathlib.Core.Bool.{Bool, not, cond}
use mathlib.Core.List.{List, [], ◌∷◌}
use mathlib.Core.Option.{Option, some, none}
use Prim.Native.Nat.{ℕ, ◌≤◌, min, ◌<◌}
use native.Mathlib.Omega.{arith}
use lib.Dec.{eqb, leb, T, leb→le, nleb→lt, ltb, lt→ltb}
use Rattle.meaning.specs.Basics.{opt}
use Rattle.meaning.specs.Syntax.{Program}
use Rattle.meaning.specs.System.{Worker, find, Apart, System, with_clock}
use Rattle.meaning.specs.Moves.{time_of, sooner, first_time, move, tick, is, not_allowed}
use Rattle.meaning.proofs.Finding.{find-behind, find_here}
use Rattle.std.proofs.lemmas.Bool.{cond-true, cond_both}
use Rattle.meaning.proofs.Splits.{T_of, bool_all, some_is, none_some, is_true}

-- the first time for which somebody waits
pub first_time-below : (ws : List Worker) (q t : ℕ) (w : Worker) → find ws q ≡ some w →
    time_of w.control ≡ some t → (i : ℕ) × (first_time ws ≡ some i) × (i ≤ t)
first_time-below [] q t w e d = absurd (none_some e)
first_time-below (v ∷ ws) q t w e d =
    cond_both (eqb v.pid q) (some v) (find ws q) (λ o. o ≡ some w → (i : ℕ) × (first_time (v ∷ ws) ≡ some i) × (i ≤ t))
    (λ h f. mine (first_time ws) (ap (λ (z : Worker). time_of z.control) (some_is f) ∙ d))
    (λ h f. let r = first_time-below ws q t w f d in theirs (time_of v.control) r.0 r.1 r.2) e
  where
    mine : (o : Option ℕ) → time_of v.control ≡ some t → (i : ℕ) × (sooner (time_of v.control) o ≡ some i)
        × (i ≤ t)
    mine none f = (t, ap (λ (z : Option ℕ). sooner z none) f, omega arith)
    mine (some j) f = (min t j, ap (λ (z : Option ℕ). sooner z (some j)) f, omega arith)

    theirs : (o : Option ℕ) (i : ℕ) → first_time ws ≡ some i → i ≤ t → (i : ℕ) × (sooner o (first_time ws) ≡ some i)
        × (i ≤ t)
    theirs none i f h = (i, f, h)
    theirs (some j) i f h = (min j i, ap (sooner (some j)) f, omega arith)

pub first_time_waited : (ws : List Worker) (i : ℕ) → Apart ws → first_time ws ≡ some i →
    (q : ℕ) × (w : Worker) × (find ws q ≡ some w) × (time_of w.control ≡ some i)
first_time_waited [] i u e = absurd (none_some e)
first_time_waited (v ∷ ws) i u e =
    go (λ j d. first_time_waited ws j u.1 d) (time_of v.control) (first_time ws) refl refl e
  where
    lift : (j : ℕ) → ((q : ℕ) × (w : Worker) × (find ws q ≡ some w) × (time_of w.control ≡ some j)) →
        (q : ℕ) × (w : Worker) × (find (v ∷ ws) q ≡ some w) × (time_of w.control ≡ some j)
    lift j r = (r.0, r.1, find-behind v ws r.0 r.1 u r.2, r.3)

    go : ((j : ℕ) → first_time ws ≡ some j → (q : ℕ) × (w : Worker) × (find ws q ≡ some w)
        × (time_of w.control ≡ some j)) → (a b : Option ℕ) → time_of v.control ≡ a → first_time ws ≡ b →
        sooner a b ≡ some i → (q : ℕ) × (w : Worker) × (find (v ∷ ws) q ≡ some w) × (time_of w.control ≡ some i)
    go ih none b p q e = lift i (ih i (q ∙ e))
    go ih (some x) none p q e = (v.pid, v, find_here v ws v.pid refl, p ∙ e)
    go ih (some x) (some y) p q e =
        let m : min x y ≡ i = some_is e in
        bool_all (λ b. leb x y ≡ b → (q : ℕ) × (w : Worker) × (find (v ∷ ws) q ≡ some w)
        × (time_of w.control ≡ some i)) (leb x y)
        (λ h j. let z = leb→le x y (T_of h) in
        let xi : x ≡ i = omega arith in (v.pid, v, find_here v ws v.pid refl, p ∙ ap some xi))
        (λ h j. let z = nleb→lt x y (subst (λ (b : Bool). T (not b)) (sym h) tt) in
        let yi : y ≡ i = omega arith in lift i (ih i (q ∙ ap some yi))) refl

pub no_first_time : (ws : List Worker) (q : ℕ) (w : Worker) (u : ℕ) → first_time ws ≡ none → find ws q ≡ some w →
    time_of w.control ≡ some u → ⊥
no_first_time ws q w u e f h = none_some (sym e ∙ (first_time-below ws q u w f h).1)

-- to where the clock goes
pub tick_is : (g : Program) (s : System) (t : ℕ) → first_time s.workers ≡ some t → s.clock < t →
    move g s tick ≡ is (with_clock s t)
tick_is g s t e l = ap (λ (o : Option ℕ). opt o not_allowed
    (λ t. cond (ltb s.clock t) (is (with_clock s t)) not_allowed)) e
    ∙ cond-true (ltb s.clock t) (is (with_clock s t)) not_allowed
    (is_true (ltb s.clock t) (lt→ltb s.clock t l))
