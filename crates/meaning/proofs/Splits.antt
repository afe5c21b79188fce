-- Case splits with a motive: to show P of a test or an option, show it of each way, knowing which way it is.
-- All case analysis of computed tests in this crate goes through these.
use mathlib.Core.Path.{ap, ◌∙◌, ◌≡◌, refl, sym, subst}
use mathlib.Core.Logic.{◌⊎◌, inl, inr}
use mathlib.Core.Bool.{Bool, true, false, ◌&&◌, cond, ◌||◌, not}
use mathlib.Core.List.{[], ◌∷◌}
use mathlib.Core.Option.{Option, some, none, none-ne-some}
use Prim.Native.Nat.{ℕ}
use native.Mathlib.Omega.{arith}
use lib.Dec.{eqb, T, eqb→eq, eqb_refl}
use Rattle.meaning.specs.Basics.{opt, on_some, Name, same}

pub T_of : {b : Bool} → b ≡ true → T b
T_of e = subst T (sym e) tt

pub is_true : (b : Bool) → T b → b ≡ true
is_true true t = refl
is_true false t = absurd t

pub is_false : (b : Bool) → (T b → ⊥) → b ≡ false
is_false true t = absurd (t tt)
is_false false t = refl

pub and_T : (a b : Bool) → T (a && b) → T a × T b
and_T true b t = (tt, t)
and_T false b t = absurd t

pub no_clash : {A : Type 0} {b : Bool} → b ≡ true → b ≡ false → A
no_clash {A} p q = absurd (subst (λ (x : Bool). T x) q (T_of p))

-- tests
pub bool_all : (P : Bool → Type 0) (b : Bool) → (b ≡ true → P true) → (b ≡ false → P false) → P b
bool_all P true p q = p refl
bool_all P false p q = q refl

pub or_both : {a b c d : Bool} → a ≡ c → b ≡ d → (a || b) ≡ (c || d)
or_both {a} {b} {c} {d} p q = ap (λ (x : Bool). x || b) p ∙ ap (λ (x : Bool). c || x) q

-- what holds of both ways of a test holds of the test; so of an option
pub opt_all : {A C : Type 0} (P : C → Type 0) (o : Option A) (c : C) (f : A → C) → (o ≡ none → P c) →
    ((x : A) → o ≡ some x → P (f x)) → P (opt o c f)
opt_all P none c f p q = p refl
opt_all P (some x) c f p q = q x refl

pub some_is : {A : Type 0} {x y : A} → some x ≡ some y → x ≡ y
some_is {A} {x} {y} e = cc

pub none_some : {A : Type 0} {x : A} → none ≡ some x → ⊥
none_some {A} {x} e = none-ne-some x e

-- 0 is not 1: how `cc` says that equations contradict each other
pub impossible : {A : Type 0} → ◌≡◌ {A = ℕ} 0 1 → A
impossible {A} e = absurd (omega arith)

pub some_or_none : {A : Type 0} (o : Option A) → (o ≡ none) ⊎ ((x : A) × (o ≡ some x))
some_or_none none = inl refl
some_or_none (some x) = inr (x, refl)

-- P of what an option holds, if it holds something
abbrev pub OnSome : {A : Type 0} → (A → Type 0) → Option A → Type 0
OnSome P none = Unit {0}
OnSome P (some x) = P x

pub on_some_is : {A D : Type 0} (o : Option A) (f : A → Option D) (y : D) → on_some o f ≡ some y →
    (x : A) × (o ≡ some x) × (f x ≡ some y)
on_some_is none f y e = absurd (none_some e)
on_some_is (some x) f y e = (x, refl, e)

pub on_some_all : {A D : Type 0} (P : A → Type 0) (R : D → Type 0) (o : Option A) (f : A → Option D) → OnSome P o →
    ((x : A) → P x → OnSome R (f x)) → OnSome R (on_some o f)
on_some_all P R none f h i = tt
on_some_all P R (some x) f h i = i x h

pub on_some_any : {A : Type 0} (o : Option A) → OnSome (λ x. Unit {0}) o
on_some_any none = tt
on_some_any (some x) = tt

-- numbers and names compared
pub same_is : (x y : Name) → T (same x y) → x ≡ y
same_is [] [] t = refl
same_is [] (c ∷ y) t = absurd t
same_is (c ∷ x) [] t = absurd t
same_is (c ∷ x) (d ∷ y) t =
    let h = and_T (eqb c d) (same x y) t in
    let e = eqb→eq c d h.0 in
    let f = same_is x y h.1 in
    cc

pub same_refl : (x : Name) → same x x ≡ true
same_refl [] = refl
same_refl (c ∷ x) = rw (is_true (eqb c c) (eqb_refl c)) (same_refl x)

pub same_and_false : (x y : Name) (b : Bool) → (x ≡ y → b ≡ false) → (same x y && b) ≡ false
same_and_false x y b h = bool_all (λ a. same x y ≡ a → (a && b) ≡ false) (same x y) (λ e i. h (same_is x y (T_of e)))
    (λ e i. refl) refl
