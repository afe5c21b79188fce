-- What an operator leads to: the worker goes on with a value or with an error, and nothing else changes.
use Rattle.std.specs.Prelude.{◌≡◌, ℕ, ◌+◌, ◌*◌, ◌<◌, Bool, ◌⊎◌, List, [], ◌∷◌, length, ℤ, Some, None, Ok, Err, Option, Result}
use Rattle.std.proofs.Math.Option.{none}
use Rattle.meaning.specs.Basics.{Name}
use Rattle.meaning.specs.Values.{Value, v_int, v_cons, as_int, same_v}
use Rattle.meaning.specs.System.{Control as Meant, Frame, System}
use Rattle.meaning.specs.Turns.{Outcome as Means, goes_on, gives, truth, number, divided, operate_on}
use Rattle.code.specs.Environment.{Chain}
use Rattle.code.specs.Operation.{operator_of}
use Rattle.code.specs.declared.operation.Operator.{Operator}
use Rattle.machine.specs.State.{World, ControlIs}
use Rattle.machine.specs.declared.state.Control.{Control}
use Rattle.machine.specs.declared.state.Refusal.{Refusal}
use Rattle.machine.specs.declared.state.Refusal.TheVariants.{Full, TooLarge}
use Rattle.numbers.specs.Divided.{Divided}
use Rattle.numbers.specs.Exact.{Exact}
use Rattle.numbers.specs.declared.division.DivisionError.{DivisionError}
use Rattle.store.specs.Heap.{Store}
use Rattle.store.specs.Tree.{cells}
use Rattle.store.specs.declared.slot.Slot.{Slot}
use Rattle.values.specs.Encoding.{tree_v, Holds}

-- the worker goes on with r, whatever its frames and the system are
pub record Leads (x : World) (m : Store) (r : Control) (f : List Frame → System → Means) : Type 0 where
  pub control : Meant
  pub is : (k : List Frame) (s : System) → f k s ≡ goes_on control k s
  pub stands : ControlIs x m r control

-- an exact result, if it fits; a quotient or a remainder z by b; and an answer
pub record Numbers (o : Option ℤ) (r : Control) : Type 0 where
  pub to : (x : World) (m : Store) (z : ℤ) → Exact o z → Leads x m r (λ k s. number k s z)

pub record Divides (d : Result ℤ DivisionError) (r : Control) : Type 0 where
  pub to : (x : World) (m : Store) (b z : ℤ) → Divided d b z → Leads x m r (λ k s. divided k s b z)

pub record Truly (b : Bool) (r : Control) : Type 0 where
  pub to : (x : World) (m : Store) → Leads x m r (λ k s. gives k s (truth b))

pub record Calculates (o : Operator) (a b : ℤ) (r : Control) : Type 0 where
  pub to : (x : World) (m : Store) → Leads x m r (λ k s. operate_on k s (operator_of o) (v_int a) (v_int b))

-- v is the number, or none
abbrev pub IsNumber : Option ℤ → Value → Type 0
IsNumber None v = as_int v ≡ none
IsNumber (Some n) v = v ≡ v_int n

pub record AsNumber (s : Slot) (r : Option ℤ) : Type 0 where
  pub is : {ns : List Name} {m : Store} {v : Value} → Holds ns m s v → IsNumber r v

-- the answer to whether two values are the same, unless the first is too large
abbrev pub Same : World → List ℕ → Value → Value → Result Bool Refusal → Type 0
Same x scratch u v (Ok b) = b ≡ same_v u v
Same x scratch u v (Err Full) = ⊥
Same x scratch u v (Err TooLarge) = length scratch < 6 * cells (tree_v x.names u)

pub record SameSim (m : Store) (scratch : List ℕ) (a b : Slot) (r : Result Bool Refusal) : Type 0 where
  pub to : (x : World) (u v : Value) → Holds x.names m a u → Holds x.names m b v → Same x scratch u v r

abbrev pub Operated : World → Store → List ℕ → Value → Result Control Refusal → (List Frame → System → Means) → Type 0
Operated x m scratch u (Ok c) f = Leads x m c f
Operated x m scratch u (Err Full) f = ⊥
Operated x m scratch u (Err TooLarge) f = length scratch < 6 * cells (tree_v x.names u)

-- not both are numbers
abbrev pub Apart : Value → Value → Type 0
Apart u v = (as_int u ≡ none) ⊎ (as_int v ≡ none)

-- two values of which one is no number
pub record Compared (m : Store) (scratch : List ℕ) (o : Operator) (a b : Slot) (r : Result Control Refusal) :
    Type 0 where
  pub to : (x : World) (u v : Value) → Holds x.names m a u → Holds x.names m b v → Apart u v →
      Operated x m scratch u r (λ k s. operate_on k s (operator_of o) u v)

pub record OperateSim (m : Store) (scratch : List ℕ) (o : Operator) (st : Slot) (r : Result Control Refusal) :
    Type 0 where
  pub to : (x : World) (u v : Value) → Chain x.names m st (v ∷ u ∷ []) → Operated x m scratch u r
      (λ k s. operate_on k s (operator_of o) u v)

-- r is the pair of the two operands, of one cell
pub record Paired (m m' : Store) (st r : Slot) : Type 0 where
  pub holds : {ns : List Name} {u v : Value} → Chain ns m st (v ∷ u ∷ []) → Holds ns m' r (v_cons u v)
  pub count : m'.used ≡ m.used + 1
