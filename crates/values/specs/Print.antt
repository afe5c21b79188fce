-- What printing a value leaves in the output, and why it refuses.
use Rattle.std.specs.Prelude.{◌≡◌, ℕ, ◌+◌, ◌*◌, ◌/◌, ◌<◌, ◌≤◌, max, Bool, true, false, List, ◌++◌, length}
use Rattle.meaning.specs.Basics.{Name}
use Rattle.meaning.specs.Values.{Value, text_v}
use Rattle.store.specs.Heap.{Store, store_of}
use Rattle.store.specs.declared.slot.Cell.{Cell}
use Rattle.store.specs.declared.slot.Slot.{Slot}
use Rattle.values.specs.Encoding.{Holds, tree_v}
use Rattle.values.specs.Output.{written}
use Rattle.values.specs.Walk.{Remains, nesting}
use Rattle.values.specs.declared.walk.Cursor.{Cursor}
use Rattle.values.specs.declared.walk.Unprinted.{Unprinted}
use Rattle.values.specs.declared.walk.Unprinted.TheVariants.{TooLong, TooDeep}

-- the text stands in the output from `at` to `end`, and nothing else has changed
pub record StandsInText (out out' : List ℕ) (at end : ℕ) (text : List ℕ) : Type 0 where
  pub end_is : end ≡ at + length text
  pub fits : end ≤ length out
  pub bytes : out' ≡ written out at text

pub record Printed (ns : List Name) (words : List ℕ) (slot : Slot) (out out' : List ℕ) (at end : ℕ) : Type 0 where
  pub is : {used : ℕ} {v : Value} → Holds ns (store_of words used) slot v → StandsInText out out' at end (text_v v)

-- a text from `at` on does not end by `limit`, or a tree is nested deeper than the scratch has cells
abbrev pub Unfit : ℕ → ℕ → List ℕ → List ℕ → ℕ → Unprinted → Type 0
Unfit at limit scratch text need TooLong = limit < at + length text
Unfit at limit scratch text need TooDeep = length scratch < 6 * need

pub record UnprintedValue (ns : List Name) (words : List ℕ) (slot : Slot) (at limit : ℕ) (scratch : List ℕ)
    (why : Unprinted) : Type 0 where
  pub unfit : {used : ℕ} {v : Value} → Holds ns (store_of words used) slot v →
      Unfit at limit scratch (text_v v) (nesting (tree_v ns v)) why

-- and the output is as it was
pub record LeftAlone (ns : List Name) (words : List ℕ) (slot : Slot) (out out' : List ℕ) : Type 0 where
  pub same : {used : ℕ} {v : Value} → Holds ns (store_of words used) slot v → out' ≡ out

-- the text would stand from `at` to `end`, and the scratch has the cells that the walk takes
pub record Measured (ns : List Name) (words : List ℕ) (slot : Slot) (at limit : ℕ) (scratch : List ℕ) (end : ℕ) :
    Type 0 where
  pub fits : end ≤ limit
  pub end_is : {used : ℕ} {v : Value} → Holds ns (store_of words used) slot v → end ≡ at + length (text_v v)
  pub deep : {used : ℕ} {v : Value} → Holds ns (store_of words used) slot v → 6 * nesting (tree_v ns v) ≤ length scratch

-- what the output holds after a text that is written, or only measured
abbrev pub laid : Bool → List ℕ → ℕ → List ℕ → List ℕ
laid true out at text = written out at text
laid false out at text = out

pub record Laid (writes : Bool) (ns : List Name) (words : List ℕ) (slot : Slot) (out out' : List ℕ) (at : ℕ) :
    Type 0 where
  pub bytes : {used : ℕ} {v : Value} → Holds ns (store_of words used) slot v → out' ≡ laid writes out at (text_v v)

-- A walk through a text that takes `need` cells has come from `at` to `end`, and the output has what lies behind it.
pub record Laying (writes : Bool) (ns : List Name) (m : Store) (room : ℕ) (xs : List Cell) (c : Cursor)
    (out out' : List ℕ) (at end : ℕ) (text : List ℕ) (need : ℕ) : Type 0 where
  pub front : List ℕ
  pub text' : List ℕ
  pub need' : ℕ
  pub stands : Remains ns m room xs c text' need'
  pub text_is : text ≡ front ++ text'
  pub end_is : end ≡ at + length front
  pub bytes : out' ≡ laid writes out at front
  pub deep : max (room / 6) need ≡ max (room / 6) need'
