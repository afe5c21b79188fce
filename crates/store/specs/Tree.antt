-- Binary trees: what the cells of a store stand for, whatever their places.
use Rattle.std.specs.Prelude.{ℕ, ◌+◌, Bool, false, ◌&&◌, List, [], ◌∷◌, ◌==◌}

-- a leaf has a kind and two words of its own; a node has a kind and two trees
pub data Tree : Type 0 where
  leaf : ℕ → ℕ → ℕ → Tree
  node : ℕ → Tree → Tree → Tree

-- the cells that a tree takes where nothing is shared: one for each node
abbrev pub cells : Tree → ℕ
cells (leaf k l h) = 0
cells (node k a b) = 1 + cells a + cells b

abbrev pub total : List Tree → ℕ
total [] = 0
total (t ∷ ts) = cells t + total ts

-- the nodes on the right edge: the length of a list
abbrev pub spine : Tree → ℕ
spine (leaf k l h) = 0
spine (node k a b) = 1 + spine b

abbrev pub same_tree : Tree → Tree → Bool
same_tree (leaf k l h) (leaf k' l' h') = k == k' && (l == l' && h == h')
same_tree (leaf k l h) (node k' c d) = false
same_tree (node k a b) (leaf k' l' h') = false
same_tree (node k a b) (node k' c d) = k == k' && (same_tree a c && same_tree b d)
