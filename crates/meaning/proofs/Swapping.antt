-- A swap ends the workers with old code, one after the other: what each end keeps, the swap keeps (`end_old_all`).
-- Whoever has no old code is spared, whoever has some is gone, and those linked to one that ends are told.
use mathlib.Core.Path.{◌≡◌, refl, sym, ap, subst, ◌∙◌}
use mathlib.Core.Bool.{true, false, cond, ◌||◌}
use mathlib.Core.List.{List, [], ◌∷◌, ◌++◌, append-nil, append_assoc}
use mathlib.Core.Option.{some, none}
use mathlib.Core.Logic.{inl, inr}
use Prim.Native.Nat.{ℕ, ◌+◌}
use native.Mathlib.Omega.{arith}
use lib.Dec.{eqb}
use Rattle.meaning.specs.Basics.{Name, same}
use Rattle.meaning.specs.Atoms.{a_old}
use Rattle.meaning.specs.Values.{v_atom, Value}
use Rattle.meaning.specs.System.{Worker, Loaded, System, find, gone, ended, current, now_loaded, old, end_old}
use Rattle.meaning.specs.System.{with_version, Apart, swapped, Signal, among, told}
use Rattle.meaning.specs.Promise.{ToldOf, this_one, a_later}
use Rattle.std.proofs.lemmas.Bool.{cases_eq, cond-false, cond-true, cond_both, eqb-true}
use Rattle.meaning.proofs.Splits.{bool_all, some_is, none_some, same_refl, no_clash, is_true, is_false}
use Rattle.meaning.proofs.Finding.{find-gone_other, find-gone-same, apart-gone, Within, gone-within, find-apart}
use Rattle.meaning.proofs.Finding.{find_here, find_there}

pub end_old_all : (P : System → Type 0) → ((t : System) (w : Worker) → P t → P (ended t w (v_atom a_old))) →
    (us : List Worker) (x : Name) (n : ℕ) (s : System) → P s → P (end_old us x n s)
end_old_all P step [] x n s h = h
end_old_all P step (u ∷ us) x n s h =
    end_old_all P step us x n (cond (old x n u) (ended s u (v_atom a_old)) s)
    (cond_both (old x n u) (ended s u (v_atom a_old)) s P (λ e. step s u h) (λ e. h))

pub swapped_all : (P : System → Type 0) → ((t : System) (w : Worker) → P t → P (ended t w (v_atom a_old))) →
    (s : System) (x : Name) (n : ℕ) → P (with_version s x (n + 1)) → P (swapped s x n)
swapped_all P step s x n h = end_old_all P step s.workers x n (with_version s x (n + 1)) h

pub swapped_loaded : (s : System) (x : Name) (n : ℕ) → (swapped s x n).loaded ≡ now_loaded s.loaded x (n + 1)
swapped_loaded s x n = swapped_all (λ t. t.loaded ≡ now_loaded s.loaded x (n + 1)) (λ t w h. h) s x n refl

pub swapped_next : (s : System) (x : Name) (n : ℕ) → (swapped s x n).next ≡ s.next
swapped_next s x n = swapped_all (λ t. t.next ≡ s.next) (λ t w h. h) s x n refl

-- whoever is there after a swap was there before
pub swapped-within : (s : System) (x : Name) (n : ℕ) → Apart s.workers →
    Within (swapped s x n).workers s.workers
swapped-within s x n a = (swapped_all (λ t. Apart t.workers × Within t.workers s.workers)
    (λ t w h. (
      apart-gone t.workers w.pid h.0,
      λ q y e. h.1 q y
          (gone-within t.workers w.pid h.0 q y e),
    )) s x n (a, λ q y e. e)).1

-- who is spared, and who ends
end_old_spares : (us : List Worker) (x : Name) (n : ℕ) (s : System) (q : ℕ) → Apart us →
    ((w : Worker) → find us q ≡ some w → old x n w ≡ false) → find (end_old us x n s).workers q ≡ find s.workers q
end_old_spares [] x n s q a h = refl
end_old_spares (u ∷ us) x n s q a h = elim (cases_eq u.pid q) [
  | inl e ↦ end_old_spares us x n (cond (old x n u) (ended s u (v_atom a_old)) s) q a.1
      (λ w f. absurd (none_some (sym (find-apart u us q a e) ∙ f))) ∙ ap (λ (t : System). find t.workers q)
      (cond-false (old x n u) (ended s u (v_atom a_old)) s (h u (find_here u us q e)))
  | inr d ↦ end_old_spares us x n (cond (old x n u) (ended s u (v_atom a_old)) s) q a.1
      (λ w f. h w (find_there u us q d ∙ f))
      ∙ cond_both (old x n u) (ended s u (v_atom a_old)) s (λ (t : System). find t.workers q ≡ find s.workers q)
      (λ i. find-gone_other s.workers u.pid q (λ r. d (sym r))) (λ i. refl)
]

end_old_ends : (us : List Worker) (x : Name) (n : ℕ) (s : System) (q : ℕ) (w : Worker) → Apart us →
    Apart s.workers → find us q ≡ some w → old x n w ≡ true → find (end_old us x n s).workers q ≡ none
end_old_ends [] x n s q w a b e o = absurd (none_some e)
end_old_ends (u ∷ us) x n s q w a b e o = elim (cases_eq u.pid q) [
  | inl i ↦ let z : u ≡ w = some_is (sym (find_here u us q i) ∙ e) in
      end_old_spares us x n (cond (old x n u) (ended s u (v_atom a_old)) s) q a.1
      (λ v f. absurd (none_some (sym (find-apart u us q a i) ∙ f))) ∙ ap (λ (t : System). find t.workers q)
      (cond-true (old x n u) (ended s u (v_atom a_old)) s (ap (old x n) z ∙ o))
      ∙ subst (λ (j : ℕ). find (gone s.workers u.pid) j ≡ none) i (find-gone-same s.workers u.pid b)
  | inr d ↦ end_old_ends us x n (cond (old x n u) (ended s u (v_atom a_old)) s) q w a.1
      (cond_both (old x n u) (ended s u (v_atom a_old)) s (λ (t : System). Apart t.workers)
      (λ i. apart-gone s.workers u.pid b) (λ i. b)) (sym (find_there u us q d) ∙ e) o
]

pub swapped_spares : (s : System) (x : Name) (n q : ℕ) (w : Worker) → Apart s.workers →
    find s.workers q ≡ some w → old x n w ≡ false → find (swapped s x n).workers q ≡ some w
swapped_spares s x n q w a e o = end_old_spares s.workers x n (with_version s x (n + 1)) q a
    (λ v f. ap (old x n) (some_is (sym f ∙ e)) ∙ o) ∙ e

pub swapped_ends : (s : System) (x : Name) (n q : ℕ) (w : Worker) → Apart s.workers →
    find s.workers q ≡ some w → old x n w ≡ true → find (swapped s x n).workers q ≡ none
swapped_ends s x n q w a e o = end_old_ends s.workers x n (with_version s x (n + 1)) q w a a e o

pub swapped_not_old : (s : System) (x : Name) (n q : ℕ) (w : Worker) → Apart s.workers →
    find (swapped s x n).workers q ≡ some w → (find s.workers q ≡ some w) × (old x n w ≡ false)
swapped_not_old s x n q w a e =
    let f = swapped-within s x n a q w e in
    (f, is_false (old x n w) (λ t. none_some (sym (swapped_ends s x n q w a f (is_true (old x n w) t)) ∙ e)))

pub current-now_loaded : (ls : List Loaded) (x : Name) (m n : ℕ) → current ls x ≡ some n →
    current (now_loaded ls x m) x ≡ some m
current-now_loaded [] x m n e = absurd (none_some e)
current-now_loaded (l ∷ ls) x m n e =
    bool_all (λ b. same l.name x ≡ b → cond b (some l.version) (current ls x) ≡ some n →
    current (cond b (record { name = x; version = m } ∷ ls) (l ∷ now_loaded ls x m)) x ≡ some m) (same l.name x)
    (λ h i d. cond-true (same x x) (some m) (current ls x) (same_refl x))
    (λ h i d. cond-false (same l.name x) (some l.version) (current (now_loaded ls x m) x) h
    ∙ current-now_loaded ls x m n d) refl e

pub swapped_loads_another : (s : System) (x : Name) (n : ℕ) → current s.loaded x ≡ some n →
    s.loaded ≡ (swapped s x n).loaded → ⊥
swapped_loads_another s x n e d =
    let b : n ≡ n + 1 = some_is (sym e ∙ ap (λ (l : List Loaded). current l x) (d ∙ swapped_loaded s x n)
    ∙ current-now_loaded s.loaded x (n + 1) n e) in
    omega arith

-- who is told

pub told_each : (p q : ℕ) (r : Value) (ls : List ℕ) → among q ls ≡ true → ToldOf q p r (told p r ls)
told_each p q r [] a = no_clash a refl
told_each p q r (l ∷ ls) a =
    bool_all (λ b. eqb q l ≡ b → (b || among q ls) ≡ true → ToldOf q p r (told p r (l ∷ ls))) (eqb q l)
    (λ h i d. subst (λ (z : ℕ). ToldOf q p r (record { to = z; from = p; reason = r } ∷ told p r ls)) (eqb-true q l h)
    this_one)
    (λ h i d. a_later (told_each p q r ls d)) refl a

told_left : (p q : ℕ) (r : Value) (gs hs : List Signal) → ToldOf q p r gs → ToldOf q p r (gs ++ hs)
told_left p q r gs hs this_one = this_one
told_left p q r gs hs (a_later {gs = ks} h) = a_later (told_left p q r ks hs h)

told_right : (p q : ℕ) (r : Value) (gs hs : List Signal) → ToldOf q p r hs → ToldOf q p r (gs ++ hs)
told_right p q r [] hs h = h
told_right p q r (g ∷ gs) hs h = a_later (told_right p q r gs hs h)

pub end_old_tells : (us : List Worker) (x : Name) (n : ℕ) (s : System) →
    (gs : List Signal) × ((end_old us x n s).signals ≡ s.signals ++ gs)
    × ((p q : ℕ) (w : Worker) → find us p ≡ some w → old x n w ≡ true → among q w.links ≡ true →
    ToldOf q p (v_atom a_old) gs)
end_old_tells [] x n s = ([], sym (append-nil s.signals), λ p q w e h a. absurd (none_some e))
end_old_tells (u ∷ us) x n s = bool_all (λ b. old x n u ≡ b → (gs : List Signal)
    × ((end_old us x n (cond b (ended s u (v_atom a_old)) s)).signals ≡ s.signals ++ gs)
    × ((p q : ℕ) (w : Worker) → find (u ∷ us) p ≡ some w → old x n w ≡ true → among q w.links ≡ true →
    ToldOf q p (v_atom a_old) gs)) (old x n u)
    (λ h i. let r = end_old_tells us x n (ended s u (v_atom a_old)) in
    let mine = told u.pid (v_atom a_old) u.links in (
      mine ++ r.0,
      r.1 ∙ append_assoc s.signals mine r.0,
      λ p q w e o a.
          cond_both (eqb u.pid p) (some u) (find us p) (λ y. y ≡ some w → ToldOf q p (v_atom a_old) (mine ++ r.0))
          (λ c d. told_left p q (v_atom a_old) mine r.0
          (subst (λ (z : ℕ). ToldOf q p (v_atom a_old) (told z (v_atom a_old) u.links))
          (sym (eqb-true u.pid p c)) (told_each p q (v_atom a_old) u.links
          (ap (λ (z : Worker). among q z.links) (some_is d) ∙ a))))
          (λ c d. told_right p q (v_atom a_old) mine r.0 (r.2 p q w d o a)) e,
    ))
    (λ h i. let r = end_old_tells us x n s in (
      r.0,
      r.1,
      λ p q w e o a.
          cond_both (eqb u.pid p) (some u) (find us p) (λ y. y ≡ some w → ToldOf q p (v_atom a_old) r.0)
          (λ c d. no_clash o (sym (ap (old x n) (some_is d)) ∙ h)) (λ c d. r.2 p q w d o a) e,
    )) refl

pub swapped_tells : (s : System) (x : Name) (n : ℕ) →
    (gs : List Signal) × ((swapped s x n).signals ≡ s.signals ++ gs)
    × ((p q : ℕ) (w : Worker) → find s.workers p ≡ some w → old x n w ≡ true → among q w.links ≡ true →
    ToldOf q p (v_atom a_old) gs)
swapped_tells s x n = end_old_tells s.workers x n (with_version s x (n + 1))
