-- What a collection ends with, and how a store stands that is half copied.
use Rattle.std.specs.Prelude.{◌≡◌, ℕ, zero, suc, ◌+◌, ◌*◌, ◌/◌, ◌<◌, ◌≤◌, cond, List, length, nat_lt}
use Rattle.store.specs.Heap.{Store, store_of, Den, Kept, Slots}
use Rattle.store.specs.Slots.{slot_at, place_of}
use Rattle.store.specs.Tree.{Tree, leaf, node, total}
use Rattle.store.specs.declared.slot.Slot.{Slot}

-- the trees that all root slots denote
pub record Roots (m : Store) (roots : List ℕ) (ts : List Tree) : Type 0 where
  pub long : length ts ≡ length roots / 3
  pub stand : Slots m roots 0 ts

-- each root denotes what it did, in a store of exactly the cells that the roots' trees take unshared
pub record Collected (from to' roots roots' : List ℕ) (used : ℕ) : Type 0 where
  pub stands : {top : ℕ} {t : Tree} (i : ℕ) → i < length roots / 3 → Den (store_of from top) (slot_at roots i) t
      → Den (store_of to' used) (slot_at roots' i) t
  pub count : {top : ℕ} (ts : List Tree) → Roots (store_of from top) roots ts → used ≡ total ts
  pub fits : 6 * used ≤ length to'
  pub rest : (i : ℕ) → length roots / 3 ≤ i → slot_at roots' i ≡ slot_at roots i

-- the roots are as they were, and the cells that their trees take unshared do not fit
pub record Overfull (from to roots roots' : List ℕ) : Type 0 where
  pub short : {top : ℕ} (ts : List Tree) → Roots (store_of from top) roots ts → length to < 6 * total ts
  pub same : roots' ≡ roots

-- how many cells a slot refers to itself: none or one
abbrev pub own : Slot → ℕ
own s = cond (nat_lt s.kind 16) 0 1

-- the cells that the slots below i refer to themselves; the cell of slot i is copied to this place
abbrev pub own_below : List ℕ → ℕ → ℕ
own_below words zero = 0
own_below words (suc i) = own_below words i + own (slot_at words i)

-- s, but for its place, which is c now; a leaf has none
pub record Redirected (c : ℕ) (s s' : Slot) : Type 0 where
  pub as_leaf : s.kind < 16 → s' ≡ s
  pub as_node : 16 ≤ s.kind → (s'.kind ≡ s.kind) × (place_of s' ≡ c)

-- the cell that s refers to in `from`, if any, stands at the end of `to'`
pub record Copied (from to' : List ℕ) (used used' : ℕ) (s : Slot) : Type 0 where
  pub count : used' ≡ used + own s
  pub cell : 16 ≤ s.kind
      → (slot_at to' (2 * used) ≡ slot_at from (2 * place_of s))
      × (slot_at to' (2 * used + 1) ≡ slot_at from (2 * place_of s + 1))

-- .. and all else is as it was, and r refers to the copy
pub record Appended (from : List ℕ) (m m' : Store) (s r : Slot) : Type 0 where
  pub copied : Copied from m'.words m.used m'.used s
  pub kept : Kept m m'
  pub refers : Redirected m.used s r
  pub fits : 6 * m'.used ≤ length m'.words

-- what a slot denotes in a half copied store: the slots of `to` below `scan` refer to `to`, the others still to `from`
abbrev pub Mixed : Store → List ℕ → ℕ → ℕ → Slot → Tree → Type 0
Mixed from to scan used s (leaf k l h) = (s.kind < 16) × (s.kind ≡ k) × (s.low ≡ l) × (s.high ≡ h)
Mixed from to scan used s (node k a b) =
    (16 ≤ s.kind) × (s.kind ≡ k) × (place_of s < used)
    × ((2 * place_of s < scan → Mixed from to scan used (slot_at to (2 * place_of s)) a)
    × (scan ≤ 2 * place_of s → Den from (slot_at to (2 * place_of s)) a))
    × ((2 * place_of s + 1 < scan → Mixed from to scan used (slot_at to (2 * place_of s + 1)) b)
    × (scan ≤ 2 * place_of s + 1 → Den from (slot_at to (2 * place_of s + 1)) b))

-- the slots that wait to be scanned: what they denote, and how many cells there will be in the end
pub record Waiting (from : Store) (to : List ℕ) (scan used sum : ℕ) : Type 0 where
  pub trees : List Tree
  pub long : scan + length trees ≡ 2 * used
  pub stand : Slots from to scan trees
  pub adds : used + total trees ≡ sum

-- the roots have been copied, but not what their cells refer to
pub record RootsCopied (from : List ℕ) (m : Store) (roots : List ℕ) : Type 0 where
  pub fits : 6 * m.used ≤ length m.words
  pub stands : (top i : ℕ) (t : Tree) (s' : Slot) → i < length roots / 3 → Den (store_of from top) (slot_at roots i) t
      → Redirected (own_below roots i) (slot_at roots i) s' → Mixed (store_of from top) m.words 0 m.used s' t
  pub waiting : (top : ℕ) (ts : List Tree) → Roots (store_of from top) roots ts
      → Waiting (store_of from top) m.words 0 m.used (total ts)

-- nothing refers to `from` any more
pub record Scanned (from : List ℕ) (m m' : Store) : Type 0 where
  pub fits : 6 * m'.used ≤ length m'.words
  pub stands : (top : ℕ) (s : Slot) (t : Tree) → Mixed (store_of from top) m.words 0 m.used s t → Den m' s t
  pub count : (top sum : ℕ) → Waiting (store_of from top) m.words 0 m.used sum → m'.used ≡ sum

-- the cells of all that waits do not fit
pub record ScanOverfull (from : List ℕ) (m : Store) : Type 0 where
  pub short : {top sum : ℕ} → Waiting (store_of from top) m.words 0 m.used sum → length m.words < 6 * sum

-- each root refers to where its cell was copied
pub record RootsRedirected (roots roots' : List ℕ) : Type 0 where
  pub moved : (i : ℕ) → i < length roots / 3 → Redirected (own_below roots i) (slot_at roots i) (slot_at roots' i)
  pub rest : (i : ℕ) → length roots / 3 ≤ i → slot_at roots' i ≡ slot_at roots i
