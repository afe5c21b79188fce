-- The function of a name with so many parameters, as it is found in the code's cells.
use Rattle.std.specs.Prelude.{◌≡◌, ℕ, true, List, length, Some, None, Option}
use Rattle.std.proofs.Math.Option.{Option as Maybe, some, none}
use Rattle.meaning.specs.Basics.{Name}
use Rattle.meaning.specs.Syntax.{Function, Module, Program}
use Rattle.meaning.specs.System.{function_of}
use Rattle.meaning.specs.Bound.{all_different}
use Rattle.code.specs.Code.{CodeB}
use Rattle.code.specs.Program.{section, scope_of, Stands}
use Rattle.store.specs.Heap.{Store, store_of}
use Rattle.store.specs.declared.slot.Slot.{Slot}
use Rattle.values.specs.Encoding.{index_of, Known}

-- the slot of the body of a function with c parameters, all different
pub data FunctionIs (ns : List Name) (code : Store) (c : ℕ) : Option Slot → Maybe Function → Type 0 where
  no_function_is : FunctionIs ns code c None none
  function_is : {s : Slot} {f : Function} → length f.params ≡ c → all_different f.params ≡ true → CodeB ns (scope_of f) code s f.body → FunctionIs ns code c (Some s) (some f)

-- in every program that stands there, r is the function with c parameters whose name has the number i, in the section n
pub record Finds (code functions : List ℕ) (n i c : ℕ) (r : Option Slot) : Type 0 where
  pub is : {ns : List Name} {used : ℕ} {g : Program} {m : Module} (y : Name) → Stands ns (store_of code used) functions g → section g n ≡ some m → Known ns y → i ≡ index_of ns y → FunctionIs ns (store_of code used) c r (function_of m.functions y c)
