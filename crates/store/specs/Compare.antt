-- Whether two slots denote the same tree, and how a comparison stands: a pair at hand, and a stack of pairs that wait.
use Rattle.std.specs.Prelude.{◌≡◌, ℕ, ◌+◌, ◌*◌, ◌<◌, ◌≤◌, Bool, true, ◌&&◌, ◌⊎◌, List, [], ◌∷◌, length, ◌≢◌}
use Rattle.store.specs.Heap.{Store, store_of, Den}
use Rattle.store.specs.Tree.{Tree, cells, same_tree}
use Rattle.store.specs.declared.comparer.Compared.{Compared}
use Rattle.store.specs.declared.comparer.Compared.TheVariants.{Same, Differ, Parts}
use Rattle.store.specs.declared.slot.Cell.{Cell}
use Rattle.store.specs.declared.slot.Slot.{Slot}

-- the answer is whether the trees are the same
pub record Answers (words : List ℕ) (a b : Slot) (answer : Bool) : Type 0 where
  pub is : {used : ℕ} {s t : Tree} → Den (store_of words used) a s → Den (store_of words used) b t → answer ≡ same_tree s t

-- the first tree has more cells than the scratch has, or than may be looked at
pub record TooLarge (words : List ℕ) (a b : Slot) (scratch : List ℕ) (budget : ℕ) : Type 0 where
  pub short : {used : ℕ} {s t : Tree} → Den (store_of words used) a s → Den (store_of words used) b t
      → (length scratch < 6 * cells s) ⊎ (budget < cells s)

-- what two slots tell by themselves: slots that are alike denote one tree, whatever stands in their cell
abbrev pub Told : Slot → Slot → Compared → Type 0
Told x y Same = x ≡ y
Told x y Differ = (x.kind ≢ y.kind) ⊎ ((x.kind < 16) × (x ≢ y))
Told x y Parts = (16 ≤ x.kind) × (x.kind ≡ y.kind) × (x ≢ y)

pub record Pair : Type 0 where
  pub one : Tree
  pub two : Tree

abbrev pub all_pairs_same : List Pair → Bool
all_pairs_same [] = true
all_pairs_same (p ∷ ps) = same_tree p.one p.two && all_pairs_same ps

abbrev pub weight : List Pair → ℕ
weight [] = 0
weight (p ∷ ps) = cells p.one + weight ps

-- each cell that waits is a pair of slots, which denote the trees of a pair
abbrev pub Pairs : Store → List Cell → List Pair → Type 0
Pairs m [] [] = Unit {0}
Pairs m [] (p ∷ ps) = ⊥
Pairs m (x ∷ xs) [] = ⊥
Pairs m (x ∷ xs) (p ∷ ps) = Den m x.left p.one × Den m x.right p.two × Pairs m xs ps

-- s and t are the same if the pair x, y at hand and those that wait are; no cell of s is looked at twice
pub record Comparing (m : Store) (waiting : List Cell) (x y : Slot) (budget left : ℕ) (s t : Tree) : Type 0 where
  pub one : Tree
  pub two : Tree
  pub rest : List Pair
  pub here : Den m x one
  pub there : Den m y two
  pub stand : Pairs m waiting rest
  pub same : same_tree s t ≡ (same_tree one two && all_pairs_same rest)
  pub steps : budget + (cells one + weight rest) ≤ left + cells s
  pub room : length waiting + (cells one + weight rest) ≤ cells s
