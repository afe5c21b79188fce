-- What the end of a chain of operands is read as.
use Rattle.std.specs.Prelude.{◌≡◌, ℕ, cond, List, Result, Ok, Err, ◌==◌}
use Rattle.meaning.specs.Basics.{Name}
use Rattle.meaning.specs.Syntax.{Operator as Sign, plus, minus, times, divide, modulo, equal, unequal, less, at_most, Builtin as Named, send, self, link, exit, trap, show, register, whereis, swap, Operation as Done, make_tuple, make_pair, call, far_call, spawn, far_spawn, operate, built_in}
use Rattle.code.specs.Fine.{Takes}
use Rattle.code.specs.Kinds.{make_tuple_kind, make_pair_kind, call_kind, spawn_kind, operator_kind, builtin_kind, far_kind}
use Rattle.code.specs.declared.operation.Builtin.{Builtin}
use Rattle.code.specs.declared.operation.Builtin.TheVariants.{Send, Itself, Link, Exit, Trap, Show, Register, Whereis, Swap}
use Rattle.code.specs.declared.operation.Far.{Far}
use Rattle.code.specs.declared.operation.Operation.{Operation}
use Rattle.code.specs.declared.operation.Operation.TheVariants.{MakeTuple, MakePair, Call, Spawn, FarCall, FarSpawn, Operate, BuiltIn, Unknown}
use Rattle.code.specs.declared.operation.Operator.{Operator}
use Rattle.code.specs.declared.operation.Operator.TheVariants.{Plus, Minus, Times, Divide, Modulo, Equal, Unequal, Less, AtMost}
use Rattle.code.specs.declared.operation.UnknownNumber.{UnknownNumber}
use Rattle.store.specs.Heap.{left_of, right_of}
use Rattle.store.specs.declared.slot.Slot.{Slot}
use Rattle.values.specs.Encoding.{index_of, Known}

abbrev pub operator_of : Operator → Sign
operator_of Plus = plus
operator_of Minus = minus
operator_of Times = times
operator_of Divide = divide
operator_of Modulo = modulo
operator_of Equal = equal
operator_of Unequal = unequal
operator_of Less = less
operator_of AtMost = at_most

abbrev pub builtin_of : Builtin → Named
builtin_of Send = send
builtin_of Itself = self
builtin_of Link = link
builtin_of Exit = exit
builtin_of Trap = trap
builtin_of Show = show
builtin_of Register = register
builtin_of Whereis = whereis
builtin_of Swap = swap

-- the operator of a number
abbrev pub operator_numbered : ℕ → Result Operator UnknownNumber
operator_numbered n =
    cond (n == 0) (Ok Plus)
    (cond (n == 1) (Ok Minus)
    (cond (n == 2) (Ok Times)
    (cond (n == 3) (Ok Divide)
    (cond (n == 4) (Ok Modulo)
    (cond (n == 5) (Ok Equal)
    (cond (n == 6) (Ok Unequal)
    (cond (n == 7) (Ok Less)
    (cond (n == 8) (Ok AtMost) (Err (record {}))))))))))

-- the built-in function of a number
abbrev pub builtin_numbered : ℕ → Result Builtin UnknownNumber
builtin_numbered n =
    cond (n == 0) (Ok Send)
    (cond (n == 1) (Ok Itself)
    (cond (n == 2) (Ok Link)
    (cond (n == 3) (Ok Exit)
    (cond (n == 4) (Ok Trap)
    (cond (n == 5) (Ok Show)
    (cond (n == 6) (Ok Register)
    (cond (n == 7) (Ok Whereis)
    (cond (n == 8) (Ok Swap) (Err (record {}))))))))))

-- what is done by the operator or the built-in function of a number, if there is one
abbrev pub done_by : {A : Type 0} → (A → Operation) → Result A UnknownNumber → Operation
done_by f (Ok x) = f x
done_by f (Err e) = Unknown

-- the function that a call or a spawn and a module's name say
abbrev pub far_at : Slot → Slot → Far
far_at s t = record { owner = record { 0 = t.low }; function = record { 0 = s.low }; count = s.high }

abbrev pub far_of : Slot → Slot → ℕ → Operation
far_of s t k = cond (k == call_kind) (FarCall (far_at s t)) (cond (k == spawn_kind) (FarSpawn (far_at s t)) Unknown)

abbrev pub operation_of : List ℕ → Slot → ℕ → Operation
operation_of code s k =
    cond (k == make_tuple_kind) MakeTuple
    (cond (k == make_pair_kind) MakePair
    (cond (k == call_kind) (Call (record { 0 = s.low }) s.high)
    (cond (k == spawn_kind) (Spawn (record { 0 = s.low }) s.high)
    (cond (k == operator_kind) (done_by Operate (operator_numbered s.low))
    (cond (k == builtin_kind) (done_by BuiltIn (builtin_numbered s.low))
    (cond (k == far_kind) (far_of (left_of code s) (right_of code s) (left_of code s).kind) Unknown))))))

abbrev pub operation_at : List ℕ → Slot → Operation
operation_at code s = operation_of code s s.kind

-- the function f of another module on n arguments is y of the module h
pub record FarIs (ns : List Name) (f : Far) (h y : Name) (n : ℕ) : Type 0 where
  pub owner_at : f.owner.0 ≡ index_of ns h
  pub owner_known : Known ns h
  pub function_at : f.function.0 ≡ index_of ns y
  pub function_known : Known ns y
  pub count_is : f.count ≡ n

-- an operation as it is read is that operation, on n operands
pub data OperationIs (ns : List Name) : Operation → Done → ℕ → Type 0 where
  make_tuple_is : {n : ℕ} → OperationIs ns MakeTuple make_tuple n
  make_pair_is : {n : ℕ} → n ≡ 2 → OperationIs ns MakePair make_pair n
  call_is : {f c n : ℕ} {y : Name} → f ≡ index_of ns y → Known ns y → c ≡ n → OperationIs ns (Call (record { 0 = f }) c) (call y) n
  spawn_is : {f c n : ℕ} {y : Name} → f ≡ index_of ns y → Known ns y → c ≡ n → OperationIs ns (Spawn (record { 0 = f }) c) (spawn y) n
  far_call_is : {f : Far} {n : ℕ} {h y : Name} → FarIs ns f h y n → OperationIs ns (FarCall f) (far_call h y) n
  far_spawn_is : {f : Far} {n : ℕ} {h y : Name} → FarIs ns f h y n → OperationIs ns (FarSpawn f) (far_spawn h y) n
  operate_is : {n : ℕ} (o : Operator) → n ≡ 2 → OperationIs ns (Operate o) (operate (operator_of o)) n
  built_in_is : {n : ℕ} (b : Builtin) → Takes (builtin_of b) n → OperationIs ns (BuiltIn b) (built_in (builtin_of b)) n
