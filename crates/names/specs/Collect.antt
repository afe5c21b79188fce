-- What it is to collect the names of a text, step by step: one name, one word, one token, all of them.
use Rattle.std.specs.Prelude.{◌≡◌, ℕ, ◌+◌, ◌*◌, ◌^◌, ◌<◌, ◌≤◌, ◌⊎◌, List, [], ◌∷◌, ◌++◌, length, take, drop}
use Rattle.std.specs.Borrow.{MutBor}
use Rattle.meaning.specs.Basics.{Name}
use Rattle.store.specs.Heap.{Store, stored, Grows}
use Rattle.store.specs.declared.slot.Slot.{Slot}
use Rattle.values.specs.Encoding.{Known}
use Rattle.names.specs.Names.{own_atoms, with_word, names_of}
use Rattle.names.specs.Table.{spelled, Chained, Table}
use Rattle.names.specs.declared.collect.Collector.{Collector}

-- There is no room for so many names, with so many cells in use then: three words of spans for each name, the buckets,
-- six words for each cell; and the number of a name has 32 bits.
abbrev pub Lacking : List ℕ → List ℕ → List ℕ → ℕ → ℕ → Type 0
Lacking spans buckets words names cells =
    (length spans < 3 * names) ⊎ ((length buckets < 3072) ⊎ ((length words < 6 * cells) ⊎ (2 ^ 32 < names)))

-- all buckets are empty
pub record Cleared (buckets : List ℕ) : Type 0 where
  pub empty : {m : Store} → Chained buckets m []

-- the table of all names of the text
pub record Collected (text spans' : List ℕ) (count : ℕ) (buckets' : List ℕ) (m m' : Store) : Type 0 where
  pub count_is : count ≡ length (names_of text)
  pub stands : Table text spans' count buckets' m' (names_of text)
  pub used : m'.used ≡ m.used + count

-- there is no room for the names of the text
pub record Uncollected (text spans buckets : List ℕ) (m : Store) : Type 0 where
  pub short : Lacking spans buckets m.words (length (names_of text)) (m.used + length (names_of text))

-- the collector's words hold the table of the names ns
abbrev pub Holds : Collector → List Name → Type 0
Holds c ns = Table c.text.now c.spans.now c.count c.buckets.now (stored c.heap.now) ns

-- there is no room for so many names more
abbrev pub NoRoom : Collector → ℕ → Type 0
NoRoom c more = Lacking c.spans.now c.buckets.now c.heap.now.words.now (c.count + more) (c.heap.now.used + more)

-- the same words are lent, which are as long as they were
pub record SameWords (b b' : MutBor (List ℕ)) : Type 0 where
  pub lent : b'.ghost_name ≡ b.ghost_name
  pub long : length b'.now ≡ length b.now

-- the text and what is lent stay the same, and the cells in use stay as they are
pub record Stays (c c' : Collector) : Type 0 where
  pub text : c'.text.now ≡ c.text.now
  pub spans : SameWords c.spans c'.spans
  pub buckets : SameWords c.buckets c'.buckets
  pub heap : c'.heap.ghost_name ≡ c.heap.ghost_name
  pub grows : Grows (stored c.heap.now) (stored c'.heap.now)

-- the word is the next name, if the span spells it and it was not known
pub record Entered (c c' : Collector) (span : Slot) (w : Name) : Type 0 where
  pub stands : {ns : List Name} → Holds c ns → spelled c.text.now c.count span ≡ w → (Known ns w → ⊥)
      → Holds c' (ns ++ (w ∷ []))
  pub count : c'.count ≡ c.count + 1
  pub used : c'.heap.now.used ≡ c.heap.now.used + 1
  pub small : c.count < 2 ^ 32

-- the atoms of the language are the first names
pub record OwnEntered (c c' : Collector) : Type 0 where
  pub stands : c.count ≡ 0 → Chained c.buckets.now (stored c.heap.now) [] → Holds c' own_atoms
  pub used : c'.heap.now.used ≡ c.heap.now.used + 16

-- a word of the text, from that place on, is among the names if it can be
pub record WordEntered (c c' : Collector) (from : ℕ) (w : Name) : Type 0 where
  pub stands : {ns : List Name} → 16 ≤ c.count → take (length w) (drop from c.text.now) ≡ w → Holds c ns
      → Holds c' (with_word ns w)
  pub used : c'.heap.now.used + c.count ≡ c.heap.now.used + c'.count
  pub more : c.count ≤ c'.count

-- the word is new, and there is no room for it
pub record WordLacks (c : Collector) (w : Name) : Type 0 where
  pub new : {ns : List Name} → Holds c ns → with_word ns w ≡ ns ++ (w ∷ [])
  pub short : NoRoom c 1

-- all words of the text are among the names, if the atoms of the language were
pub record WordsEntered (c c' : Collector) : Type 0 where
  pub stands : Holds c own_atoms → Holds c' (names_of c.text.now)
  pub used : c'.heap.now.used + c.count ≡ c.heap.now.used + c'.count

-- there is no room for them all, where the cells but those of the atoms of the language were there at the start
pub record WordsLack (c : Collector) : Type 0 where
  pub short : (start : ℕ) → Holds c own_atoms → c.heap.now.used ≡ start + 16
      → Lacking c.spans.now c.buckets.now c.heap.now.words.now (length (names_of c.text.now))
      (start + length (names_of c.text.now))
