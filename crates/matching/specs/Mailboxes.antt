-- A mailbox in cells: three chains of messages, and what is done to them.
use Rattle.std.specs.Prelude.{◌≡◌, ◌+◌, List, [], ◌∷◌, ◌++◌, reverse, length}
use Rattle.meaning.specs.Basics.{Name}
use Rattle.meaning.specs.Values.{Value}
use Rattle.store.specs.Heap.{Store}
use Rattle.store.specs.declared.slot.Slot.{Slot}
use Rattle.values.specs.Encoding.{Holds}
use Rattle.code.specs.Environment.{Chain}
use Rattle.matching.specs.declared.mailbox.Mailbox.{Mailbox}

-- the slot of a chain without messages
abbrev pub no_messages : Slot
no_messages = record { kind = 2; low = 0; high = 0 }

-- the mailbox holds these messages, in the order in which they came; of those in `seen` it is known that the clauses at
-- hand match none
pub record Mail (ns : List Name) (m : Store) (b : Mailbox) (mail : List Value) : Type 0 where
  pub seen : List Value
  pub front : List Value
  pub back : List Value
  pub seen_at : Chain ns m b.seen seen
  pub front_at : Chain ns m b.front front
  pub back_at : Chain ns m b.back back
  pub order : mail ≡ reverse seen ++ (front ++ reverse back)

-- it holds no message
pub record Empty (b : Mailbox) : Type 0 where
  pub mail : {ns : List Name} {m : Store} → Mail ns m b []

-- it holds one more, and what was seen is as it was
pub record More (ns : List Name) (m' : Store) (b : Mailbox) (seen mail : List Value) : Type 0 where
  pub after : Mail ns m' b mail
  pub seen_is : after.seen ≡ seen

pub record Pushed (m m' : Store) (b : Mailbox) (message : Slot) (b' : Mailbox) : Type 0 where
  pub mail : {ns : List Name} {mail : List Value} {v : Value} → (h : Mail ns m b mail) → Holds ns m message v
      → More ns m' b' h.seen (mail ++ (v ∷ []))
  pub count : m'.used ≡ m.used + 1

-- it holds the same, and nothing counts as seen; that took a cell for each that did
pub record Rewound (m m' : Store) (b b' : Mailbox) : Type 0 where
  pub mail : {ns : List Name} {mail : List Value} → (h : Mail ns m b mail) → More ns m' b' [] mail
  pub count : {ns : List Name} {mail : List Value} → (h : Mail ns m b mail) → m'.used ≡ m.used + length h.seen
