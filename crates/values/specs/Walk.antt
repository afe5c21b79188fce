-- The text of a value, piece by piece: how a walk through its tree stands, and what each step of the walk says.
use Rattle.std.specs.Prelude.{◌≡◌, ℕ, ◌+◌, ◌*◌, ◌/◌, ◌^◌, ◌<◌, ◌≤◌, max, ◌⊎◌, List, [], ◌∷◌, ◌++◌, length, Some, None, Ok, Err, Option, Result}
use Rattle.meaning.specs.Basics.{Name}
use Rattle.meaning.specs.Values.{Value, v_tuple, Values, text_v, text_vs}
use Rattle.store.specs.Heap.{Store, store_of, left_of, right_of}
use Rattle.store.specs.Slots.{place_of}
use Rattle.store.specs.Stack.{waiting}
use Rattle.store.specs.Tree.{Tree, leaf, node}
use Rattle.store.specs.declared.slot.Cell.{Cell}
use Rattle.store.specs.declared.slot.Slot.{Slot}
use Rattle.values.specs.Encoding.{Holds, tree_v, tree_vs}
use Rattle.values.specs.Pieces.{closed, piece_text}
use Rattle.values.specs.declared.piece.Piece.{Piece}
use Rattle.values.specs.declared.piece.Piece.TheVariants.{Sign}
use Rattle.values.specs.declared.walk.Cursor.{Cursor}
use Rattle.values.specs.declared.walk.Unprinted.{Unprinted}
use Rattle.values.specs.declared.walk.Unprinted.TheVariants.{TooLong, TooDeep}
use Rattle.values.specs.declared.walk.Walk.{Walk}

-- how deep a tree is nested: steps to the left, since the way to the right is a loop
abbrev pub nesting : Tree → ℕ
nesting (leaf k l h) = 0
nesting (node k a b) = max (1 + nesting a) (nesting b)

-- What waits while the left part of a node is written: the tail of a pair or the rest of a tuple, and how many
-- brackets close after it. A pair at the end of a pair waits for no bracket of its own: they are counted.
pub data Waiting : Type 0 where
  tail : Value → ℕ → Waiting
  rest : Values → ℕ → Waiting

abbrev pub waiting_text : Waiting → List ℕ
waiting_text (tail v n) = 124 ∷ (text_v v ++ closed n)
waiting_text (rest vs n) = 44 ∷ (text_vs vs ++ (125 ∷ closed n))

abbrev pub waiting_tree : List Name → Waiting → Tree
waiting_tree ns (tail v n) = tree_v ns v
waiting_tree ns (rest vs n) = tree_vs ns vs

abbrev pub stack_text : List Waiting → List ℕ
stack_text [] = []
stack_text (w ∷ ws) = waiting_text w ++ stack_text ws

-- the cells that a stack, and what is pushed on it later, take
abbrev pub stack_need : List Name → List Waiting → ℕ
stack_need ns [] = 0
stack_need ns (w ∷ ws) = max (length ws + nesting (waiting_tree ns w)) (stack_need ns ws)

-- the two slots of a cell of the stack
abbrev pub Waits : List Name → Store → Slot → Slot → Waiting → Type 0
Waits ns m left right (tail v n) = Holds ns m left v × (right.kind ≡ 16) × (place_of right ≡ n)
Waits ns m left right (rest vs n) = Holds ns m left (v_tuple vs) × (right.kind ≡ 17) × (place_of right ≡ n)

-- the cells of a stack, and what waits in them, one for one
abbrev pub Stack : List Name → Store → List Cell → List Waiting → Type 0
Stack ns m [] [] = Unit {0}
Stack ns m [] (w ∷ ws) = ⊥
Stack ns m (x ∷ xs) [] = ⊥
Stack ns m (x ∷ xs) (w ∷ ws) = Waits ns m x.left x.right w × Stack ns m xs ws

-- the value that is written next, if any
abbrev pub HoldsNext : List Name → Store → Option Slot → Option Value → Type 0
HoldsNext ns m None None = Unit {0}
HoldsNext ns m None (Some v) = ⊥
HoldsNext ns m (Some s) None = ⊥
HoldsNext ns m (Some s) (Some v) = Holds ns m s v

abbrev pub next_text : Option Value → List ℕ
next_text None = []
next_text (Some v) = text_v v

abbrev pub next_nesting : List Name → Option Value → ℕ
next_nesting ns None = 0
next_nesting ns (Some v) = nesting (tree_v ns v)

-- the walk has the cells xs on its stack, of `room` words, and this text before it, and takes `need` cells in all
pub record Remains (ns : List Name) (m : Store) (room : ℕ) (xs : List Cell) (c : Cursor) (text : List ℕ) (need : ℕ) :
    Type 0 where
  pub next : Option Value
  pub stack : List Waiting
  pub here : HoldsNext ns m c.next next
  pub fits : 6 * length xs ≤ room
  pub waits : Stack ns m xs stack
  pub text_is : text ≡ next_text next ++ (closed c.closing ++ stack_text stack)
  pub need_is : need ≡ max (length stack + next_nesting ns next) (stack_need ns stack)

-- the walk goes on behind the piece p
pub record Goes (ns : List Name) (m : Store) (room : ℕ) (xs : List Cell) (text : List ℕ) (need : ℕ) (p : Piece)
    (c : Cursor) : Type 0 where
  pub text' : List ℕ
  pub need' : ℕ
  pub stands : Remains ns m room xs c text' need'
  pub text_is : text ≡ piece_text ns p ++ text'
  pub need_is : max (room / 6) need ≡ max (room / 6) need'

-- what a step of the walk to the cursor c, with the cells xs on the stack, says
abbrev pub After : List Name → Store → ℕ → List Cell → Cursor → List ℕ → ℕ → Result (Option Piece) Unprinted → Type 0
After ns m room xs c text need (Ok (Some p)) = Goes ns m room xs text need p c
After ns m room xs c text need (Ok None) = (text ≡ []) × (need ≡ 0)
After ns m room xs c text need (Err TooLong) = 2 ^ 64 ≤ length text
After ns m room xs c text need (Err TooDeep) = room < 6 * need

-- a step writes a byte, or ends a value: so a walk ends
abbrev pub rank : Option Slot → ℕ
rank None = 0
rank (Some s) = 1

abbrev pub Moves : Cursor → Cursor → Result (Option Piece) Unprinted → Type 0
Moves c c' (Ok (Some p)) = (ns : List Name) → rank c'.next < rank c.next + 2 * length (piece_text ns p)
Moves c c' (Ok None) = Unit {0}
Moves c c' (Err e) = Unit {0}

-- the walk reads the same words, and its stack has as many as before
pub record Keeps (w w' : Walk) : Type 0 where
  pub same : w'.words.now ≡ w.words.now
  pub long : length w'.stack.words.now ≡ length w.stack.words.now

pub record Steps (w w' : Walk) (r : Result (Option Piece) Unprinted) : Type 0 where
  pub keeps : Keeps w w'
  pub so : {ns : List Name} {used : ℕ} {text : List ℕ} {need : ℕ} →
      Remains ns (store_of w.words.now used) (length w.stack.words.now) (waiting w.stack) w.cursor text need
      → After ns (store_of w.words.now used) (length w.stack.words.now) (waiting w'.stack) w'.cursor text need r
  pub moves : Moves w.cursor w'.cursor r

-- where the walk stands in a node that was opened
abbrev pub inside : List ℕ → Slot → Cursor
inside words s = record { next = Some (left_of words s); closing = 0 }

-- the node was opened: its right slot is on top of the stack, with a mark
pub record Pushed (words : List ℕ) (room : ℕ) (xs xs' : List Cell) (s mark : Slot) : Type 0 where
  pub fits : 6 * (length xs + 1) ≤ room
  pub on_top : xs' ≡ record { left = right_of words s; right = mark } ∷ xs

-- .. or the stack has no room for it
abbrev pub Opens : List ℕ → ℕ → List Cell → List Cell → Slot → Slot → ℕ → Cursor → Result (Option Piece) Unprinted → Type 0
Opens words room xs xs' s mark sign c' r =
    ((r ≡ Ok (Some (Sign sign))) × (c' ≡ inside words s) × Pushed words room xs xs' s mark)
    ⊎ ((r ≡ Err TooDeep) × (room < 6 * (length xs + 1)))

abbrev pub Opened : Walk → Walk → Slot → Slot → ℕ → Result (Option Piece) Unprinted → Type 0
Opened w w' s mark sign r =
    Opens w.words.now (length w.stack.words.now) (waiting w.stack) (waiting w'.stack) s mark sign w'.cursor r
