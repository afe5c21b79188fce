-- How a word is looked up: the names of one hash value are in one bucket, the newest first, by their numbers.
use Rattle.std.specs.Prelude.{ℕ, suc, ◌+◌, ◌*◌, ◌%◌, cond, List, [], ◌∷◌, Some, None, Option, ◌==◌, slice_index_or}
use Rattle.meaning.specs.Basics.{Name, same}
use Rattle.store.specs.Tree.{Tree, leaf, node}
use Rattle.values.specs.declared.value.Atom.{Atom}

-- the hash of a word, below 1,024: each byte is added to 31 times what came before
abbrev pub hash_from : ℕ → Name → ℕ
hash_from h [] = h
hash_from h (c ∷ cs) = hash_from ((31 * h + c) % 1024) cs

unfoldable pub hash_of : Name → ℕ
hash_of w = hash_from 0 w

-- the numbers of those names whose hash is b, put before what is there; the first name has the number i
abbrev pub bucket_from : ℕ → ℕ → List Name → List ℕ → List ℕ
bucket_from b i [] there = there
bucket_from b i (x ∷ xs) there = bucket_from b (suc i) xs (cond (hash_of x == b) (i ∷ there) there)

-- bucket b of a table of names
abbrev pub bucket : ℕ → List Name → List ℕ
bucket b ns = bucket_from b 0 ns []

-- a bucket as a tree: a list of atoms
abbrev pub atoms : List ℕ → Tree
atoms [] = leaf 2 0 0
atoms (i ∷ is) = node 16 (leaf 1 i 0) (atoms is)

-- the first of the numbers that is the word's
abbrev pub first_of : List Name → Name → List ℕ → Option Atom
first_of ns w [] = None
first_of ns w (i ∷ is) = cond (same (slice_index_or ns i []) w) (Some (record { 0 = i })) (first_of ns w is)
