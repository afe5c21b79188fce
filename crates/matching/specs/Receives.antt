-- Taking the first message that some clause matches: what it ends with, in cells and in the meaning.
use Rattle.std.specs.Prelude.{◌≡◌, ℕ, ◌+◌, ◌*◌, ◌<◌, ◌≤◌, List, [], ◌∷◌, ◌++◌, reverse, length, Some, None, Option as Maybe}
use Rattle.std.proofs.Math.Option.{some, none}
use Rattle.meaning.specs.Basics.{Name}
use Rattle.meaning.specs.Syntax.{Clauses}
use Rattle.meaning.specs.Turns.{Chosen as Choice, choose, Taken as Took, take_first}
use Rattle.meaning.specs.Values.{Value, Binding}
use Rattle.store.specs.Heap.{Store, store_of}
use Rattle.store.specs.declared.slot.Slot.{Slot}
use Rattle.code.specs.Code.{CodeCs}
use Rattle.code.specs.Environment.{Chain, Environment}
use Rattle.matching.specs.Choices.{most_names, ChosenAt}
use Rattle.matching.specs.Mailboxes.{Mail}
use Rattle.matching.specs.declared.clause.Chosen.{Chosen}
use Rattle.matching.specs.declared.mailbox.Mailbox.{Mailbox}
use Rattle.matching.specs.declared.receive.Looked.{Looked}
use Rattle.matching.specs.declared.receive.Taken.{Taken}

-- the clauses match none of these messages
abbrev pub Passed : Clauses → List Binding → List Value → Type 0
Passed cs bs [] = Unit {0}
Passed cs bs (v ∷ vs) = (choose cs v bs ≡ none) × Passed cs bs vs

-- the cells that looking at all messages that were not seen takes: one for each in front, two for each in the back
abbrev pub new_cells : {ns : List Name} {m : Store} {b : Mailbox} {mail : List Value} → Mail ns m b mail → ℕ
new_cells h = length h.front + 2 * length h.back

-- a message was taken: the first that some clause matches, and the others are left in order
pub record TookFirst (ns : List Name) (code m m' : Store) (cs : Clauses) (bs : List Binding) (mail : List Value)
    (cells : ℕ) (c : Chosen) (b : Mailbox) : Type 0 where
  pub taken : Took
  pub is : take_first cs bs mail ≡ some taken
  pub chosen_at : ChosenAt ns code m' c taken.chosen
  pub mail_at : Mail ns m' b taken.rest
  pub count : m'.used ≤ m.used + (cells + most_names cs)

-- there is none, and all messages are seen
pub record TookNone (ns : List Name) (m m' : Store) (cs : Clauses) (bs : List Binding) (mail : List Value) (cells : ℕ)
    (b : Mailbox) : Type 0 where
  pub is : take_first cs bs mail ≡ none
  pub mail_at : Mail ns m' b mail
  pub all_seen : mail_at.seen ≡ reverse mail
  pub passed : Passed cs bs mail_at.seen
  pub count : m'.used ≡ m.used + cells

abbrev pub TakeEnds : List Name → Store → Store → Store → Clauses → List Binding → List Value → ℕ → Maybe Chosen → Mailbox
    → Type 0
TakeEnds ns code m m' cs bs mail cells (Some c) b = TookFirst ns code m m' cs bs mail cells c b
TakeEnds ns code m m' cs bs mail cells None b = TookNone ns m m' cs bs mail cells b

-- whatever the mailbox holds, if the clauses match none of the messages seen
pub record Takes (code : List ℕ) (m m' : Store) (clauses : Slot) (b : Mailbox) (env : Slot) (r : Taken) : Type 0 where
  pub to : {ns sc : List Name} {used : ℕ} {cs : Clauses} {bs : List Binding} {mail : List Value}
      → CodeCs ns sc (store_of code used) clauses cs
      → Environment ns m env sc bs → (h : Mail ns m b mail) → Passed cs bs h.seen
      → TakeEnds ns (store_of code used) m m' cs bs mail (new_cells h) r.chosen r.mailbox

pub record TakeLacks (code : List ℕ) (m : Store) (clauses : Slot) (b : Mailbox) (env : Slot) : Type 0 where
  pub short : {ns sc : List Name} {used : ℕ} {cs : Clauses} {bs : List Binding} {mail : List Value}
      → CodeCs ns sc (store_of code used) clauses cs
      → Environment ns m env sc bs → (h : Mail ns m b mail) → Passed cs bs h.seen
      → length m.words < 6 * (m.used + (new_cells h + most_names cs))

-- looking through a chain: ss was seen before, fs is to be looked at; what was seen then stands at s, the rest at t
pub record SeesFirst (ns : List Name) (code m m' : Store) (cs : Clauses) (bs : List Binding) (ss fs : List Value)
    (c : Chosen) (s t : Slot) : Type 0 where
  pub seen : List Value
  pub message : Value
  pub rest : List Value
  pub choice : Choice
  pub order : reverse ss ++ fs ≡ reverse seen ++ (message ∷ rest)
  pub passed : Passed cs bs seen
  pub is : choose cs message bs ≡ some choice
  pub chosen_at : ChosenAt ns code m' c choice
  pub seen_at : Chain ns m' s seen
  pub rest_at : Chain ns m' t rest
  pub count : m'.used ≤ m.used + (length fs + most_names cs)

pub record SeesNone (ns : List Name) (m m' : Store) (cs : Clauses) (bs : List Binding) (ss fs : List Value)
    (s t : Slot) : Type 0 where
  pub seen : List Value
  pub order : reverse ss ++ fs ≡ reverse seen
  pub passed : Passed cs bs seen
  pub seen_at : Chain ns m' s seen
  pub rest_at : Chain ns m' t []
  pub count : m'.used ≡ m.used + length fs

abbrev pub LookEnds : List Name → Store → Store → Store → Clauses → List Binding → List Value → List Value → Maybe Chosen
    → Slot → Slot → Type 0
LookEnds ns code m m' cs bs ss fs (Some c) s t = SeesFirst ns code m m' cs bs ss fs c s t
LookEnds ns code m m' cs bs ss fs None s t = SeesNone ns m m' cs bs ss fs s t

pub record Looks (code : List ℕ) (m m' : Store) (clauses env seen messages : Slot) (r : Looked) : Type 0 where
  pub to : {ns sc : List Name} {used : ℕ} {cs : Clauses} {bs : List Binding} {ss fs : List Value}
      → CodeCs ns sc (store_of code used) clauses cs
      → Environment ns m env sc bs → Chain ns m seen ss → Chain ns m messages fs → Passed cs bs ss
      → LookEnds ns (store_of code used) m m' cs bs ss fs r.chosen r.seen r.rest

pub record LookLacks (code : List ℕ) (m : Store) (clauses env seen messages : Slot) : Type 0 where
  pub short : {ns sc : List Name} {used : ℕ} {cs : Clauses} {bs : List Binding} {ss fs : List Value}
      → CodeCs ns sc (store_of code used) clauses cs
      → Environment ns m env sc bs → Chain ns m seen ss → Chain ns m messages fs → Passed cs bs ss
      → length m.words < 6 * (m.used + (length fs + most_names cs))

-- how looking stands: what was seen, and what is left
pub record MessagesLeft (ns : List Name) (m₀ m : Store) (cs : Clauses) (bs : List Binding) (ss fs : List Value)
    (seen rest : Slot) : Type 0 where
  pub now_seen : List Value
  pub left : List Value
  pub order : reverse ss ++ fs ≡ reverse now_seen ++ left
  pub passed : Passed cs bs now_seen
  pub seen_at : Chain ns m seen now_seen
  pub left_at : Chain ns m rest left
  pub count : m.used + length left ≡ m₀.used + length fs

pub record Looking (code : List ℕ) (m₀ m : Store) (clauses env seen₀ messages seen rest : Slot) : Type 0 where
  pub hand : {ns sc : List Name} {used : ℕ} {cs : Clauses} {bs : List Binding} {ss fs : List Value}
      → CodeCs ns sc (store_of code used) clauses cs
      → Environment ns m₀ env sc bs → Chain ns m₀ seen₀ ss → Chain ns m₀ messages fs → Passed cs bs ss
      → MessagesLeft ns m₀ m cs bs ss fs seen rest
