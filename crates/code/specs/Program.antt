-- A program in cells: a table of names by number, and for each name the functions that have it, in all sections.
use Rattle.std.specs.Prelude.{◌≡◌, ℕ, zero, suc, ◌+◌, ◌≤◌, true, cond, List, [], ◌∷◌, reverse, length}
use Rattle.std.proofs.Math.Option.{Option, some, none}
use Rattle.meaning.specs.Basics.{Name, same}
use Rattle.meaning.specs.Bound.{sound_modules}
use Rattle.meaning.specs.Syntax.{Function, Module, Program}
use Rattle.store.specs.Tree.{Tree, leaf, node}
use Rattle.store.specs.Heap.{Store, Den}
use Rattle.store.specs.Slots.{slot_at}
use Rattle.code.specs.Kinds.{signature_kind, functions_kind, function_kind}
use Rattle.code.specs.Trees.{nothing, tree_b}
use Rattle.code.specs.Fine.{FineB}

-- the sections of a program are numbered from 0, in the order of the text
abbrev pub section : Program → ℕ → Option Module
section [] n = none
section (m ∷ ms) zero = some m
section (m ∷ ms) (suc n) = section ms n

-- the version that a section is: how many sections of its name there are up to it
abbrev pub version_at : Program → Name → ℕ → ℕ
version_at [] x n = 0
version_at (m ∷ ms) x zero = 1
version_at (m ∷ ms) x (suc n) = cond (same m.name x) 1 0 + version_at ms x n

-- a function in its section
pub record Definition : Type 0 where
  pub place : ℕ
  pub function : Function

abbrev pub define : ℕ → List Function → List Definition → List Definition
define n [] ds = ds
define n (f ∷ fs) ds = record { place = n; function = f } ∷ define n fs ds

abbrev pub definitions : ℕ → Program → List Definition
definitions n [] = []
definitions n (m ∷ ms) = define n m.functions (definitions (suc n) ms)

-- the scope of a function's body: the last parameter first, as the last operand of a call comes first
abbrev pub scope_of : Function → List Name
scope_of f = reverse f.params

-- the functions of one name, in a chain
abbrev pub tree_d : List Name → Name → List Definition → Tree
tree_d ns x [] = nothing
tree_d ns x (d ∷ ds) = cond (same d.function.name x)
    (node functions_kind (node function_kind (leaf signature_kind d.place (length d.function.params))
    (tree_b ns (scope_of d.function) d.function.body)) (tree_d ns x ds)) (tree_d ns x ds)

abbrev pub nth : {A : Type 0} → List A → ℕ → Option A
nth [] n = none
nth (x ∷ xs) zero = some x
nth (x ∷ xs) (suc n) = nth xs n

-- all functions have trees of their own
abbrev pub FineDefinitions : List Name → List Definition → Type 0
FineDefinitions ns [] = Unit {0}
FineDefinitions ns (d ∷ ds) = FineB ns (scope_of d.function) d.function.body × FineDefinitions ns ds

-- all functions of a program, the newest first
abbrev pub newest_first : Program → List Definition
newest_first g = reverse (definitions 0 g)

-- the program g stands in the code's cells: slot i of the table `functions` denotes the chain of the functions whose name
-- has the number i, the newest first; names differ where the language wants it, and the cells in use are there
pub record Stands (ns : List Name) (code : Store) (functions : List ℕ) (g : Program) : Type 0 where
  pub chains : (i : ℕ) (x : Name) → nth ns i ≡ some x → Den code (slot_at functions i) (tree_d ns x (newest_first g))
  pub fine : FineDefinitions ns (newest_first g)
  pub sound : sound_modules g ≡ true
  pub within : code.used ≤ length code.words
