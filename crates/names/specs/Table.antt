-- How a table of names stands in words: where each name is in the text, and a chain of cells for each bucket.
use Rattle.std.specs.Prelude.{◌≡◌, ℕ, zero, suc, ◌<◌, cond, List, [], ◌∷◌, ◌++◌, take, drop, Option, MatchOption, nat_lt, slice_index_or}
use Rattle.meaning.specs.Basics.{Name}
use Rattle.store.specs.Heap.{Store, Den}
use Rattle.store.specs.Slots.{slot_at, place_of}
use Rattle.store.specs.declared.slot.Slot.{Slot}
use Rattle.values.specs.Encoding.{index_of, Known}
use Rattle.values.specs.declared.value.Atom.{Atom}
use Rattle.names.specs.Names.{own_atoms, Distinct}
use Rattle.names.specs.Buckets.{bucket, atoms, first_of}

-- the name of number i, whose span is the slot s: as many bytes as its kind says, from its place in the text on;
-- the atoms of the language stand in no text
abbrev pub spelled : List ℕ → ℕ → Slot → Name
spelled text i s = cond (nat_lt i 16) (slice_index_or own_atoms i []) (take s.kind (drop (place_of s) text))

-- the names that the first slots of the spans stand for
abbrev pub table : List ℕ → List ℕ → ℕ → List Name
table text spans zero = []
table text spans (suc i) = table text spans i ++ (spelled text i (slot_at spans i) ∷ [])

-- each bucket is a chain of cells
pub record Chained (buckets : List ℕ) (m : Store) (ns : List Name) : Type 0 where
  pub chain : (b : ℕ) → b < 1024 → Den m (slot_at buckets b) (atoms (bucket b ns))

-- the words hold the table of the names ns
pub record Table (text spans : List ℕ) (count : ℕ) (buckets : List ℕ) (m : Store) (ns : List Name) : Type 0 where
  pub names : table text spans count ≡ ns
  pub distinct : Distinct ns
  pub chained : Chained buckets m ns

-- the number of the word in the table, or nothing where the table lacks it
abbrev pub Numbered : List Name → Name → Option Atom → Type 0
Numbered ns w r = MatchOption r (Known ns w → ⊥) (λ a. Known ns w × (a.0 ≡ index_of ns w))

-- r is the number of the word, whatever names the words hold
pub record Finds (text spans : List ℕ) (count : ℕ) (buckets : List ℕ) (m : Store) (w : Name)
    (r : Option Atom) : Type 0 where
  pub number : {ns : List Name} → Table text spans count buckets m ns → Numbered ns w r

-- r is the first number of the chain from s on that is the word's
pub record Walked (ns : List Name) (m : Store) (s : Slot) (w : Name) (r : Option Atom) : Type 0 where
  pub first : (numbers : List ℕ) → Den m s (atoms numbers) → r ≡ first_of ns w numbers
