-- A pattern against a value: what it ends with, in cells and in the meaning.
use Rattle.std.specs.Prelude.{◌≡◌, ℕ, ◌+◌, ◌*◌, ◌<◌, List, length, Some, None, Option as Maybe}
use Rattle.std.proofs.Math.Option.{some, none}
use Rattle.meaning.specs.Basics.{Name}
use Rattle.meaning.specs.Bound.{bound_by}
use Rattle.meaning.specs.Syntax.{Pattern, p_any, p_var, p_int, p_atom, p_tuple, p_nil, p_cons, Patterns, no_p, and_p}
use Rattle.meaning.specs.Values.{Value, Binding, match}
use Rattle.store.specs.Heap.{Store, store_of}
use Rattle.store.specs.declared.slot.Slot.{Slot}
use Rattle.values.specs.Encoding.{Holds}
use Rattle.code.specs.Code.{CodeP}
use Rattle.code.specs.Environment.{Environment}

-- how many names a pattern binds
abbrev mutual
  pub names : Pattern → ℕ
  names p_any = 0
  names (p_var x) = 1
  names (p_int n) = 0
  names (p_atom x) = 0
  names (p_tuple ps) = names_all ps
  names p_nil = 0
  names (p_cons a b) = names a + names b

  pub names_all : Patterns → ℕ
  names_all no_p = 0
  names_all (and_p p ps) = names p + names_all ps

-- r holds the environment with what p binds in v, for a cell a name
pub record Bound (ns sc : List Name) (m m' : Store) (p : Pattern) (v : Value) (bs : List Binding)
    (r : Slot) : Type 0 where
  pub bindings : List Binding
  pub is : match p v bs ≡ some bindings
  pub env : Environment ns m' r (bound_by p sc) bindings
  pub count : m'.used ≡ m.used + names p

abbrev pub MatchEnds : List Name → List Name → Store → Store → Pattern → Value → List Binding → Maybe Slot → Type 0
MatchEnds ns sc m m' p v bs None = match p v bs ≡ none
MatchEnds ns sc m m' p v bs (Some r) = Bound ns sc m m' p v bs r

-- the pattern matches the value, or it does not, and then no cell is taken
pub record Matches (code : List ℕ) (m m' : Store) (pattern value env : Slot) (found : Maybe Slot) : Type 0 where
  pub to : {ns sc : List Name} {used : ℕ} {bs : List Binding} {p : Pattern} {v : Value}
      → CodeP ns (store_of code used) pattern p
      → Holds ns m value v → Environment ns m env sc bs → MatchEnds ns sc m m' p v bs found
  pub spared : found ≡ None → m'.used ≡ m.used

-- there are fewer cells left than names that the pattern binds, and none is taken
pub record MatchLacks (code : List ℕ) (m m' : Store) (pattern value env : Slot) : Type 0 where
  pub short : {ns sc : List Name} {used : ℕ} {bs : List Binding} {p : Pattern} {v : Value}
      → CodeP ns (store_of code used) pattern p
      → Holds ns m value v → Environment ns m env sc bs → length m.words < 6 * (m.used + names p)
  pub spared : m'.used ≡ m.used
