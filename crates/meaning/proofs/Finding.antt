-- Workers by their numbers: who is found after one is changed, is gone or is new, and where whoever is found then
-- comes from. Numbers stay apart.
use mathlib.Core.Path.{◌≡◌, refl, sym, ap, subst, ◌∙◌}
use mathlib.Core.Bool.{true, false, cond}
use mathlib.Core.List.{List, [], ◌∷◌, ◌++◌}
use mathlib.Core.Option.{Option, some, none, map}
use mathlib.Core.Logic.{◌⊎◌, inl, inr}
use Prim.Native.Nat.{ℕ}
use lib.Dec.{eqb, T}
use Rattle.meaning.specs.Basics.{opt}
use Rattle.meaning.specs.System.{Worker, find, change, gone, Apart}
use Rattle.std.proofs.lemmas.Bool.{cases_eq, cond-false, cond-true, cond_both, eq-eqb, eqb-false, eqb-true, ne_eqb}
use Rattle.meaning.proofs.Splits.{bool_all, some_is, none_some, impossible}

-- a change of a worker that leaves its number
abbrev pub KeepsNumber : (Worker → Worker) → Type 0
KeepsNumber f = (w : Worker) → (f w).pid ≡ w.pid

pub find_pid : (ws : List Worker) (n : ℕ) (w : Worker) → find ws n ≡ some w → w.pid ≡ n
find_pid [] n w e = absurd (subst (λ (o : Option Worker). T (opt o true (λ x. false))) e tt)
find_pid (v ∷ ws) n w e = cond_both (eqb v.pid n) (some v) (find ws n) (λ o. o ≡ some w → w.pid ≡ n)
    (λ h e. subst (λ (x : Worker). x.pid ≡ n) (some_is e) (eqb-true v.pid n h)) (λ h e. find_pid ws n w e) e

-- the first of a list, and the others
pub find_here : (w : Worker) (ws : List Worker) (q : ℕ) → w.pid ≡ q → find (w ∷ ws) q ≡ some w
find_here w ws q e = cond-true (eqb w.pid q) (some w) (find ws q) (eq-eqb w.pid q e)

pub find_there : (w : Worker) (ws : List Worker) (q : ℕ) → (w.pid ≡ q → ⊥) → find (w ∷ ws) q ≡ find ws q
find_there w ws q d = cond-false (eqb w.pid q) (some w) (find ws q) (ne_eqb w.pid q d)

pub find_none_there : (w : Worker) (ws : List Worker) (q : ℕ) → find (w ∷ ws) q ≡ none →
    (w.pid ≡ q → ⊥) × (find ws q ≡ none)
find_none_there w ws q e =
    cond_both (eqb w.pid q) (some w) (find ws q) (λ o. o ≡ none → (w.pid ≡ q → ⊥) × (find ws q ≡ none))
    (λ h d. absurd (none_some (sym d))) (λ h d. (eqb-false w.pid q h, d)) e

pub find_only : (w x : Worker) (q : ℕ) → find (w ∷ []) q ≡ some x → (w.pid ≡ q) × (w ≡ x)
find_only w x q h = go (cases_eq w.pid q)
  where
    go : (w.pid ≡ q) ⊎ (w.pid ≡ q → ⊥) → (w.pid ≡ q) × (w ≡ x)
    go (inl e) = (e, cc (find_here w [] q e))
    go (inr d) = impossible (cc (find_there w [] q d))

-- numbers apart: nobody behind the first has its number, and whoever stands behind it is found
pub find-apart : (w : Worker) (ws : List Worker) (q : ℕ) → Apart (w ∷ ws) → w.pid ≡ q → find ws q ≡ none
find-apart w ws q a e = subst (λ (z : ℕ). find ws z ≡ none) e a.0

pub find-behind : (v : Worker) (ws : List Worker) (q : ℕ) (w : Worker) → Apart (v ∷ ws) → find ws q ≡ some w →
    find (v ∷ ws) q ≡ some w
find-behind v ws q w a e = find_there v ws q (λ d. none_some (sym (find-apart v ws q a d) ∙ e)) ∙ e

-- one is changed
pub find-change_other : (ws : List Worker) (n q : ℕ) (f : Worker → Worker) → KeepsNumber f → (q ≡ n → ⊥) →
    find (change ws n f) q ≡ find ws q
find-change_other [] n q f kp h = refl
find-change_other (w ∷ ws) n q f kp h =
    bool_all (λ b. find (cond b (f w ∷ ws) (w ∷ change ws n f)) q ≡ cond (eqb w.pid q) (some w) (find ws q))
    (eqb w.pid n)
    (λ e. let p = eqb-true w.pid n e in let a = ne_eqb (f w).pid q (λ r. h (sym r ∙ kp w ∙ p)) in
    let b = ne_eqb w.pid q (λ r. h (sym r ∙ p)) in
    cond-false (eqb (f w).pid q) (some (f w)) (find ws q) a
    ∙ sym (cond-false (eqb w.pid q) (some w) (find ws q) b))
    (λ e. ap (λ o. cond (eqb w.pid q) (some w) o) (find-change_other ws n q f kp h))

pub find-change-same : (ws : List Worker) (n : ℕ) (f : Worker → Worker) → KeepsNumber f →
    find (change ws n f) n ≡ map f (find ws n)
find-change-same [] n f kp = refl
find-change-same (w ∷ ws) n f kp =
    bool_all (λ b. eqb w.pid n ≡ b →
    find (cond b (f w ∷ ws) (w ∷ change ws n f)) n ≡ map f (cond b (some w) (find ws n))) (eqb w.pid n)
    (λ e h. cond-true (eqb (f w).pid n) (some (f w)) (find ws n) (eq-eqb (f w).pid n (kp w ∙ eqb-true w.pid n e)))
    (λ e h. cond-false (eqb w.pid n) (some w) (find (change ws n f) n) e ∙ find-change-same ws n f kp) refl

pub find_changed : (ws : List Worker) (n : ℕ) (f : Worker → Worker) (w : Worker) → KeepsNumber f →
    find ws n ≡ some w → find (change ws n f) n ≡ some (f w)
find_changed ws n f w kp e = find-change-same ws n f kp ∙ ap (map f) e

pub find-change_none : (ws : List Worker) (n q : ℕ) (f : Worker → Worker) → KeepsNumber f → find ws q ≡ none →
    find (change ws n f) q ≡ none
find-change_none ws n q f kp e = bool_all (λ b. find (change ws n f) q ≡ none) (eqb q n)
    (λ h. let r = eqb-true q n h in ap (find (change ws n f)) r ∙ find-change-same ws n f kp
    ∙ ap (map f) (ap (find ws) (sym r) ∙ e))
    (λ h. find-change_other ws n q f kp (eqb-false q n h) ∙ e)

-- where a worker comes from after a change: the same one, or the one changed
pub found_before-change : (ws : List Worker) (n : ℕ) (f : Worker → Worker) → KeepsNumber f → (q : ℕ) (y : Worker) →
    find (change ws n f) q ≡ some y →
    (x : Worker) × (find ws q ≡ some x) × (((q ≡ n → ⊥) × (y ≡ x)) ⊎ ((q ≡ n) × (y ≡ f x)))
found_before-change ws n f kp q y e =
    bool_all (λ b. (x : Worker) × (find ws q ≡ some x) × (((q ≡ n → ⊥) × (y ≡ x)) ⊎ ((q ≡ n) × (y ≡ f x)))) (eqb q n)
    (λ h. let p = eqb-true q n h in of_map (find ws q) refl
    (sym (subst (λ (z : ℕ). find (change ws n f) z ≡ map f (find ws z)) (sym p)
    (find-change-same ws n f kp)) ∙ e) p)
    (λ h. (y, sym (find-change_other ws n q f kp (eqb-false q n h)) ∙ e, inl (eqb-false q n h, refl)))
  where
    of_map : (o : Option Worker) → find ws q ≡ o → map f o ≡ some y → q ≡ n →
        (x : Worker) × (find ws q ≡ some x) × (((q ≡ n → ⊥) × (y ≡ x)) ⊎ ((q ≡ n) × (y ≡ f x)))
    of_map none r e p = absurd (none_some e)
    of_map (some x) r e p = (x, r, inr (p, sym (some_is e)))

-- where a worker is after a change: it is the same one, or the one changed
pub found_after-change : (ws : List Worker) (n : ℕ) (f : Worker → Worker) → KeepsNumber f → (q : ℕ) (w : Worker) →
    find ws q ≡ some w → (x : Worker) × (find (change ws n f) q ≡ some x)
    × (((q ≡ n → ⊥) × (x ≡ w)) ⊎ ((q ≡ n) × (x ≡ f w)))
found_after-change ws n f kp q w e = go (cases_eq q n)
  where
    go : (q ≡ n) ⊎ (q ≡ n → ⊥) → (x : Worker) × (find (change ws n f) q ≡ some x)
        × (((q ≡ n → ⊥) × (x ≡ w)) ⊎ ((q ≡ n) × (x ≡ f w)))
    go (inl h) = (f w, ap (λ (z : ℕ). find (change ws z f) q) (sym h) ∙ find_changed ws q f w kp e, inr (h, refl))
    go (inr d) = (w, find-change_other ws n q f kp d ∙ e, inl (d, refl))

-- nobody is gone by a change
pub stays_after-change : (ws : List Worker) (n : ℕ) (f : Worker → Worker) → KeepsNumber f → (q : ℕ) (w : Worker) →
    find ws q ≡ some w → (x : Worker) × (find (change ws n f) q ≡ some x)
stays_after-change ws n f kp q w e = let r = found_after-change ws n f kp q w e in (r.0, r.1)

pub change_ends_nobody : (ws : List Worker) (n : ℕ) (f : Worker → Worker) → KeepsNumber f → (q : ℕ) (w : Worker) →
    find ws q ≡ some w → find (change ws n f) q ≡ none → ⊥
change_ends_nobody ws n f kp q w e d = let r = found_after-change ws n f kp q w e in none_some (sym d ∙ r.1)

-- one is gone
pub find-gone_other : (ws : List Worker) (n q : ℕ) → (q ≡ n → ⊥) → find (gone ws n) q ≡ find ws q
find-gone_other [] n q h = refl
find-gone_other (w ∷ ws) n q h =
    bool_all (λ b. find (cond b ws (w ∷ gone ws n)) q ≡ cond (eqb w.pid q) (some w) (find ws q)) (eqb w.pid n)
    (λ e. sym (cond-false (eqb w.pid q) (some w) (find ws q)
    (ne_eqb w.pid q (λ r. h (sym r ∙ eqb-true w.pid n e)))))
    (λ e. ap (λ o. cond (eqb w.pid q) (some w) o) (find-gone_other ws n q h))

pub find-gone-same : (ws : List Worker) (n : ℕ) → Apart ws → find (gone ws n) n ≡ none
find-gone-same [] n u = refl
find-gone-same (w ∷ ws) n u = bool_all (λ b. find (cond b ws (w ∷ gone ws n)) n ≡ none) (eqb w.pid n)
    (λ e. subst (λ (x : ℕ). find ws x ≡ none) (eqb-true w.pid n e) u.0)
    (λ e. cond-false (eqb w.pid n) (some w) (find (gone ws n) n) e ∙ find-gone-same ws n u.1)

pub find-gone_none : (ws : List Worker) (n q : ℕ) → find ws q ≡ none → find (gone ws n) q ≡ none
find-gone_none [] n q e = refl
find-gone_none (w ∷ ws) n q e =
    let t = find_none_there w ws q e in
    bool_all (λ b. find (cond b ws (w ∷ gone ws n)) q ≡ none) (eqb w.pid n)
    (λ h. t.1)
    (λ h. find_there w (gone ws n) q t.0 ∙ find-gone_none ws n q t.1)

-- fewer workers
abbrev pub Within : List Worker → List Worker → Type 0
Within vs ws = (q : ℕ) (y : Worker) → find vs q ≡ some y → find ws q ≡ some y

pub gone-within : (ws : List Worker) (n : ℕ) → Apart ws → Within (gone ws n) ws
gone-within ws n u q y e = bool_all (λ b. find ws q ≡ some y) (eqb q n)
    (λ h. absurd (none_some (sym (
    subst (λ (z : ℕ). find (gone ws n) z ≡ none) (sym (eqb-true q n h)) (find-gone-same ws n u)) ∙ e)))
    (λ h. sym (find-gone_other ws n q (eqb-false q n h)) ∙ e)

-- others behind them, or a new one
pub find-append_some : (ws vs : List Worker) (q : ℕ) (w : Worker) → find ws q ≡ some w → find (ws ++ vs) q ≡ some w
find-append_some [] vs q w e = absurd (none_some e)
find-append_some (x ∷ ws) vs q w e =
    bool_all (λ b. cond b (some x) (find ws q) ≡ some w → cond b (some x) (find (ws ++ vs) q) ≡ some w)
    (eqb x.pid q) (λ h e. e) (λ h e. find-append_some ws vs q w e) e

pub find-append_none : (ws vs : List Worker) (q : ℕ) → find ws q ≡ none → find (ws ++ vs) q ≡ find vs q
find-append_none [] vs q e = refl
find-append_none (x ∷ ws) vs q e =
    let t = find_none_there x ws q e in
    find_there x (ws ++ vs) q t.0 ∙ find-append_none ws vs q t.1

pub found_before_new : (ws : List Worker) (v : Worker) (q : ℕ) (x : Worker) → find (ws ++ (v ∷ [])) q ≡ some x →
    (find ws q ≡ some x) ⊎ ((q ≡ v.pid) × (x ≡ v))
found_before_new ws v q x e = go (find ws q) refl
  where
    go : (o : Option Worker) → find ws q ≡ o → (find ws q ≡ some x) ⊎ ((q ≡ v.pid) × (x ≡ v))
    go (some y) r = inl (r ∙ sym (find-append_some ws (v ∷ []) q y r) ∙ e)
    go none r = bool_all (λ b. eqb v.pid q ≡ b → cond b (some v) none ≡ some x →
        (find ws q ≡ some x) ⊎ ((q ≡ v.pid) × (x ≡ v))) (eqb v.pid q)
        (λ t d c. inr (sym (eqb-true v.pid q d), sym (some_is c)))
        (λ t d c. absurd (none_some c)) refl (sym (find-append_none ws (v ∷ []) q r) ∙ e)

-- numbers stay apart
pub apart-change : (ws : List Worker) (n : ℕ) (f : Worker → Worker) → KeepsNumber f → Apart ws →
    Apart (change ws n f)
apart-change [] n f kp u = tt
apart-change (w ∷ ws) n f kp u =
    bool_all (λ b. eqb w.pid n ≡ b → Apart (cond b (f w ∷ ws) (w ∷ change ws n f))) (eqb w.pid n)
    (λ e h. (subst (λ (x : ℕ). find ws x ≡ none) (sym (kp w)) u.0, u.1))
    (λ e h. (find-change_other ws n w.pid f kp (eqb-false w.pid n e) ∙ u.0, apart-change ws n f kp u.1)) refl

pub apart-gone : (ws : List Worker) (n : ℕ) → Apart ws → Apart (gone ws n)
apart-gone [] n u = tt
apart-gone (w ∷ ws) n u = bool_all (λ b. eqb w.pid n ≡ b → Apart (cond b ws (w ∷ gone ws n))) (eqb w.pid n)
    (λ e h. u.1)
    (λ e h. (find-gone_other ws n w.pid (eqb-false w.pid n e) ∙ u.0, apart-gone ws n u.1)) refl

pub apart_new : (ws : List Worker) (v : Worker) → find ws v.pid ≡ none → Apart ws → Apart (ws ++ (v ∷ []))
apart_new [] v e u = (refl, tt)
apart_new (w ∷ ws) v e u =
    cond_both (eqb w.pid v.pid) (some w) (find ws v.pid) (λ o. o ≡ none → Apart (w ∷ (ws ++ (v ∷ []))))
    (λ h e. absurd (none_some (sym e)))
    (λ h e. (
      find-append_none ws (v ∷ []) w.pid u.0
          ∙ cond-false (eqb v.pid w.pid) (some v) none
          (ne_eqb v.pid w.pid (λ r. eqb-false w.pid v.pid h (sym r))),
      apart_new ws v e u.1,
    )) e
