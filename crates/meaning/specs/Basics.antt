-- Options and names, as all other definitions use them.
use Rattle.std.specs.Prelude.{Bool, true, false, ◌&&◌, ◌||◌, List, [], ◌∷◌, ℕ, eqb}
use Rattle.std.proofs.Math.Option.{Option, some, none}

-- by cases: c where there is nothing, else f of what there is
abbrev pub opt : {A C : Type 0} → Option A → C → (A → C) → C
opt none c f = c
opt (some x) c f = f x

-- nothing stays nothing
abbrev pub on_some : {A C : Type 0} → Option A → (A → Option C) → Option C
on_some none f = none
on_some (some x) f = f x

-- the bytes of a name
abbrev pub Name : Type 0
Name = List ℕ

abbrev pub same : Name → Name → Bool
same [] [] = true
same [] (y ∷ ys) = false
same (x ∷ xs) [] = false
same (x ∷ xs) (y ∷ ys) = eqb x y && same xs ys

-- is a name among names
abbrev pub listed : Name → List Name → Bool
listed x [] = false
listed x (y ∷ ys) = same x y || listed x ys
