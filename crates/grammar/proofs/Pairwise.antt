-- Whether elements of a list differ pair by pair does not depend on their order: an element may be moved to the
-- front, since the relation is symmetric. So for the names of parameters, and for the functions of a module.
use mathlib.Core.Path.{◌≡◌, refl, sym, ap, ◌∙◌}
use mathlib.Core.Bool.{Bool, true, false, ◌&&◌, ◌||◌, not, cond, and_assoc}
use mathlib.Core.List.{List, [], ◌∷◌, ◌++◌, append-nil}
use mathlib.Core.Option.{Option, some}
use Prim.Native.Nat.{ℕ}
use native.Mathlib.Omega.{arith}
use lib.ListN.{length}
use lib.Dec.{eqb}
use Rattle.meaning.specs.Basics.{opt, Name, same, listed}
use Rattle.meaning.specs.Syntax.{Function}
use Rattle.meaning.specs.System.{function_of}
use Rattle.meaning.specs.Bound.{bound_body, all_different, no_function, sound_functions}
use Rattle.grammar.specs.Stack.{Snoc, none_yet, snoc, list_of}
use Rattle.grammar.specs.Scopes.{newest}
use Rattle.std.proofs.lemmas.Bool.{eq-eqb, eqb-false, eqb-true, ne_eqb}
use Rattle.meaning.proofs.Splits.{bool_all}

abbrev pub apart : {A : Type 0} → (A → A → Bool) → A → List A → Bool
apart r x [] = true
apart r x (y ∷ ys) = r x y && apart r x ys

-- every element meets `own`, and r holds of every two
abbrev pub pairwise : {A : Type 0} → (A → A → Bool) → (A → Bool) → List A → Bool
pairwise r own [] = true
pairwise r own (x ∷ xs) = apart r x xs && (own x && pairwise r own xs)

pub and_left_comm : (a b c : Bool) → (a && (b && c)) ≡ (b && (a && c))
and_left_comm true b c = refl
and_left_comm false true c = refl
and_left_comm false false c = refl

pub apart_middle :
    {A : Type 0} (r : A → A → Bool) (x : A) (xs : List A) (y : A) (ys : List A) →
    apart r x (xs ++ (y ∷ ys)) ≡ (r x y && apart r x (xs ++ ys))
apart_middle r x [] y ys = refl
apart_middle r x (z ∷ xs) y ys =
    ap (λ b. r x z && b) (apart_middle r x xs y ys) ∙ and_left_comm (r x z) (r x y) (apart r x (xs ++ ys))

-- x and y, each apart from the others and itself in order: which of the two comes first does not count
pub exchanged :
    (s a b o q p : Bool) → ((s && a) && (o && (b && (q && p)))) ≡ ((s && b) && (q && (a && (o && p))))
exchanged false a b o q p = refl
exchanged true a b o q p = grind arith

pub pairwise_middle :
    {A : Type 0} (r : A → A → Bool) (own : A → Bool) → ((x y : A) → r x y ≡ r y x) →
    (xs : List A) (y : A) (ys : List A) → pairwise r own (xs ++ (y ∷ ys)) ≡ pairwise r own (y ∷ (xs ++ ys))
pairwise_middle r own symmetric [] y ys = refl
pairwise_middle {A} r own symmetric (x ∷ xs) y ys =
    let rest : List A = xs ++ ys in
    ap (λ b. b && (own x && pairwise r own (xs ++ (y ∷ ys)))) (apart_middle r x xs y ys)
    ∙ ap (λ b. (r x y && apart r x rest) && (own x && b)) (pairwise_middle r own symmetric xs y ys)
    ∙ exchanged (r x y) (apart r x rest) (apart r y rest) (own x) (own y) (pairwise r own rest)
    ∙ ap (λ b. (b && apart r y rest) && (own y && (apart r x rest && (own x && pairwise r own rest)))) (symmetric x y)

pub pairwise-newest :
    {A : Type 0} (r : A → A → Bool) (own : A → Bool) → ((x y : A) → r x y ≡ r y x) →
    (xs : Snoc A) (ys : List A) → pairwise r own (list_of xs ys) ≡ pairwise r own (newest xs ++ ys)
pairwise-newest r own symmetric none_yet ys = refl
pairwise-newest r own symmetric (snoc xs x) ys =
    pairwise-newest r own symmetric xs (x ∷ ys) ∙ pairwise_middle r own symmetric (newest xs) x ys

pub eqb_comm : (m n : ℕ) → eqb m n ≡ eqb n m
eqb_comm m n =
    bool_all (λ b. b ≡ eqb n m) (eqb m n) (λ h. sym (eq-eqb n m (sym (eqb-true m n h))))
    (λ h. sym (ne_eqb n m (λ e. eqb-false m n h (sym e))))

pub same_comm : (x y : Name) → same x y ≡ same y x
same_comm [] [] = refl
same_comm [] (c ∷ y) = refl
same_comm (c ∷ x) [] = refl
same_comm (c ∷ x) (d ∷ y) = ap (λ b. b && same x y) (eqb_comm c d) ∙ ap (λ b. eqb d c && b) (same_comm x y)

-- names that differ
abbrev pub differ : Name → Name → Bool
differ x y = not (same x y)

pub differ_comm : (x y : Name) → differ x y ≡ differ y x
differ_comm x y = ap not (same_comm x y)

pub not_or : (a b : Bool) → not (a || b) ≡ (not a && not b)
not_or true b = refl
not_or false b = refl

pub unlisted_apart : (x : Name) (ys : List Name) → not (listed x ys) ≡ apart differ x ys
unlisted_apart x [] = refl
unlisted_apart x (y ∷ ys) =
    not_or (same x y) (listed x ys) ∙ ap (λ b. differ x y && b) (unlisted_apart x ys)

pub different_pairwise : (xs : List Name) → all_different xs ≡ pairwise differ (λ x. true) xs
different_pairwise [] = refl
different_pairwise (x ∷ xs) =
    ap (λ b. b && all_different xs) (unlisted_apart x xs) ∙ ap (λ b. apart differ x xs && b) (different_pairwise xs)

-- parameters differ in either order
pub different_newest : (ps : Snoc Name) → all_different (list_of ps []) ≡ all_different (newest ps)
different_newest ps =
    different_pairwise (list_of ps []) ∙ pairwise-newest differ (λ x. true) differ_comm ps []
    ∙ ap (λ xs. pairwise differ (λ x. true) xs) (append-nil (newest ps)) ∙ sym (different_pairwise (newest ps))

-- functions that differ in their names or in their numbers of parameters
abbrev pub unlike : Function → Function → Bool
unlike f g = not (same g.name f.name && eqb (length g.params) (length f.params))

pub unlike_comm : (f g : Function) → unlike f g ≡ unlike g f
unlike_comm f g =
    ap (λ b. not (b && eqb (length g.params) (length f.params))) (same_comm g.name f.name)
    ∙ ap (λ b. not (same f.name g.name && b)) (eqb_comm (length g.params) (length f.params))

-- what a function meets by itself
abbrev pub sound_function : Function → Bool
sound_function f = all_different f.params && bound_body f.params f.body

pub none_found :
    (b : Bool) (g : Function) (o : Option Function) →
    opt (cond b (some g) o) true (λ f. false) ≡ (not b && opt o true (λ f. false))
none_found true g o = refl
none_found false g o = refl

pub no_function_apart :
    (f : Function) (gs : List Function) → no_function gs f.name (length f.params) ≡ apart unlike f gs
no_function_apart f [] = refl
no_function_apart f (g ∷ gs) =
    none_found (same g.name f.name && eqb (length g.params) (length f.params)) g
    (function_of gs f.name (length f.params))
    ∙ ap (λ b. unlike f g && b) (no_function_apart f gs)

pub sound-pairwise : (fs : List Function) → sound_functions fs ≡ pairwise unlike sound_function fs
sound-pairwise [] = refl
sound-pairwise (f ∷ fs) =
    let distinct = all_different f.params in
    let bound = bound_body f.params f.body in
    ap (λ b. b && (distinct && (bound && sound_functions fs))) (no_function_apart f fs)
    ∙ ap (λ b. apart unlike f fs && b) (sym (and_assoc distinct bound (sound_functions fs)))
    ∙ ap (λ b. apart unlike f fs && (sound_function f && b)) (sound-pairwise fs)

-- functions are sound in either order
pub sound-newest : (fs : Snoc Function) → sound_functions (list_of fs []) ≡ sound_functions (newest fs)
sound-newest fs =
    sound-pairwise (list_of fs []) ∙ pairwise-newest unlike sound_function unlike_comm fs []
    ∙ ap (λ gs. pairwise unlike sound_function gs) (append-nil (newest fs)) ∙ sym (sound-pairwise (newest fs))
