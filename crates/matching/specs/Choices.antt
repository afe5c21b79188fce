-- The first clause that matches a value: what choosing ends with, in cells and in the meaning.
use Rattle.std.specs.Prelude.{◌≡◌, ℕ, ◌+◌, ◌*◌, ◌<◌, ◌≤◌, max, Bool, true, false, List, length, Some, None, Option as Maybe}
use Rattle.std.proofs.Math.Option.{some, none}
use Rattle.meaning.specs.Basics.{opt, Name}
use Rattle.meaning.specs.Syntax.{Clauses, no_c, clause}
use Rattle.meaning.specs.Turns.{Chosen as Choice, choose}
use Rattle.meaning.specs.Values.{Value, Binding}
use Rattle.store.specs.Heap.{Store, store_of}
use Rattle.store.specs.Tree.{spine}
use Rattle.store.specs.declared.slot.Slot.{Slot}
use Rattle.values.specs.Encoding.{Holds}
use Rattle.code.specs.Code.{CodeB, CodeCs}
use Rattle.code.specs.Environment.{Environment}
use Rattle.code.specs.Trees.{tree_cs}
use Rattle.matching.specs.Matches.{names}
use Rattle.matching.specs.declared.clause.Chosen.{Chosen}

-- the most names that the pattern of a clause binds
abbrev pub most_names : Clauses → ℕ
most_names no_c = 0
most_names (clause p b cs) = max (names p) (most_names cs)

-- r holds the body and the bindings of a choice, in the scope of the clause that was chosen
pub record ChosenAt (ns : List Name) (code m : Store) (r : Chosen) (c : Choice) : Type 0 where
  pub scope : List Name
  pub body_at : CodeB ns scope code r.body c.body
  pub env_at : Environment ns m r.env scope c.vars

pub record Chose (ns : List Name) (code m m' : Store) (cs : Clauses) (v : Value) (bs : List Binding)
    (r : Chosen) : Type 0 where
  pub choice : Choice
  pub is : choose cs v bs ≡ some choice
  pub chosen_at : ChosenAt ns code m' r choice
  pub count : m'.used ≤ m.used + most_names cs

abbrev pub ChoiceEnds : List Name → Store → Store → Store → Clauses → Value → List Binding → Maybe Chosen → Type 0
ChoiceEnds ns code m m' cs v bs None = choose cs v bs ≡ none
ChoiceEnds ns code m m' cs v bs (Some r) = Chose ns code m m' cs v bs r

-- some clause is chosen, or none matches, and then no cell is taken
pub record Chooses (code : List ℕ) (m m' : Store) (clauses value env : Slot) (found : Maybe Chosen) : Type 0 where
  pub to : {ns sc : List Name} {used : ℕ} {cs : Clauses} {v : Value} {bs : List Binding}
      → CodeCs ns sc (store_of code used) clauses cs
      → Holds ns m value v → Environment ns m env sc bs → ChoiceEnds ns (store_of code used) m m' cs v bs found
  pub spared : found ≡ None → m'.used ≡ m.used

-- there are fewer cells left than names that the pattern of some clause binds, and none is taken
pub record ChoiceLacks (code : List ℕ) (m m' : Store) (clauses value env : Slot) : Type 0 where
  pub short : {ns sc : List Name} {used : ℕ} {cs : Clauses} {v : Value} {bs : List Binding}
      → CodeCs ns sc (store_of code used) clauses cs
      → Holds ns m value v → Environment ns m env sc bs → length m.words < 6 * (m.used + most_names cs)
  pub spared : m'.used ≡ m.used

-- the answer is whether some clause matches
pub record Wakes (code : List ℕ) (m : Store) (clauses value env : Slot) (answer : Bool) : Type 0 where
  pub is : {ns sc : List Name} {used : ℕ} {cs : Clauses} {v : Value} {bs : List Binding}
      → CodeCs ns sc (store_of code used) clauses cs
      → Holds ns m value v → Environment ns m env sc bs → answer ≡ opt (choose cs v bs) false (λ c. true)

-- how choosing stands after so many clauses: those left, of which the first that matches is the first of all
pub record ClausesLeft (ns sc : List Name) (code : Store) (rest : Slot) (done : ℕ) (cs : Clauses) (v : Value)
    (bs : List Binding) : Type 0 where
  pub clauses : Clauses
  pub clauses_at : CodeCs ns sc code rest clauses
  pub short : spine (tree_cs ns sc clauses) + done ≤ length code.words + 1
  pub same : choose cs v bs ≡ choose clauses v bs
  pub fewer : most_names clauses ≤ most_names cs

pub record Choosing (code : List ℕ) (m₀ m : Store) (clauses value env rest : Slot) (done : ℕ) : Type 0 where
  pub hand : {ns sc : List Name} {used : ℕ} {cs : Clauses} {v : Value} {bs : List Binding}
      → CodeCs ns sc (store_of code used) clauses cs
      → Holds ns m₀ value v → Environment ns m₀ env sc bs → ClausesLeft ns sc (store_of code used) rest done cs v bs
  pub spared : m.used ≡ m₀.used
