-- What a slot of the code is read as: an expression's outermost part, and what a body begins with.
use Rattle.std.specs.Prelude.{◌≡◌, ℕ, Bool, cond, ◌&&◌, ◌||◌, List, Option, Some, None, pos, ◌==◌, nat_le}
use Rattle.meaning.specs.Basics.{Name}
use Rattle.meaning.specs.Syntax.{Pattern, Operation, Expr, int, atom, var, nil, apply, case, receive, receive_until, catch, Exprs, Body, last, bind, Clauses}
use Rattle.meaning.specs.Values.{Value, v_int, v_atom, v_nil}
use Rattle.meaning.specs.Grammar.{count}
use Rattle.code.specs.Code.{CodeE, CodeEs, CodeB}
use Rattle.code.specs.Kinds.{variable_kind, case_kind, receive_kind, until_kind, catch_kind, statement_kind}
use Rattle.code.specs.declared.instruction.Instruction.{Instruction}
use Rattle.code.specs.declared.instruction.Instruction.TheVariants.{Constant, Variable, Apply, Case, Receive, ReceiveUntil, Catch, Unknown}
use Rattle.store.specs.Heap.{Store, left_of, right_of}
use Rattle.store.specs.declared.slot.Slot.{Slot}
use Rattle.values.specs.Encoding.{index_of, Known, Holds}

-- the kinds from a to b
abbrev pub within : ℕ → ℕ → ℕ → Bool
within a b k = nat_le a k && nat_le k b

-- a slot of kind k, with the slots of its cell
abbrev pub instruction_of : List ℕ → Slot → ℕ → Instruction
instruction_of code s k =
    cond (within 0 2 k) Constant
    (cond (k == variable_kind) (Variable s.low)
    (cond (within 8 13 k || within 18 19 k) Apply
    (cond (k == case_kind) (Case (left_of code s))
    (cond (k == receive_kind) Receive
    (cond (k == until_kind) (ReceiveUntil (left_of code (right_of code s)))
    (cond (k == catch_kind) (Catch (left_of code s)) Unknown))))))

abbrev pub instruction_at : List ℕ → Slot → Instruction
instruction_at code s = instruction_of code s s.kind

-- the expression of the statement that a body begins with, if it begins with one
abbrev pub start_of : List ℕ → Slot → ℕ → Option Slot
start_of code s k = cond (k == statement_kind) (Some (left_of code (right_of code s))) None

abbrev pub start_at : List ℕ → Slot → Option Slot
start_at code s = start_of code s s.kind

-- expressions that are values, whose slot holds that value in every store
pub data IsConstant : Expr → Value → Type 0 where
  number_is : {n : ℕ} → IsConstant (int n) (v_int (pos n))
  atom_is : {y : Name} → IsConstant (atom y) (v_atom y)
  nil_is : IsConstant nil v_nil

pub record Constantly (ns : List Name) (s : Slot) (v : Value) : Type 0 where
  pub holds : {m : Store} → Holds ns m s v

-- the slot s, read as an instruction, is the expression
pub data InstructionIs (ns sc : List Name) (code : Store) (s : Slot) : Instruction → Expr → Type 0 where
  constant_is : {e : Expr} (v : Value) → IsConstant e v → Constantly ns s v → InstructionIs ns sc code s Constant e
  variable_is : {i : ℕ} {y : Name} → i ≡ index_of sc y → Known sc y → InstructionIs ns sc code s (Variable i) (var y)
  apply_is : {o : Operation} {es : Exprs} → CodeEs ns sc code s o (count es) es → InstructionIs ns sc code s Apply (apply o es)
  case_is : {p : Slot} {e : Expr} {cs : Clauses} → CodeE ns sc code p e → CodeE ns sc code s (case e cs) → InstructionIs ns sc code s (Case p) (case e cs)
  receive_is : {cs : Clauses} → CodeE ns sc code s (receive cs) → InstructionIs ns sc code s Receive (receive cs)
  until_is : {p : Slot} {cs : Clauses} {e : Expr} {b : Body} → CodeE ns sc code p e → CodeE ns sc code s (receive_until cs e b) → InstructionIs ns sc code s (ReceiveUntil p) (receive_until cs e b)
  catch_is : {p : Slot} {b : Body} → CodeB ns sc code p b → InstructionIs ns sc code s (Catch p) (catch b)

-- the slot s, read as what a body starts with, is the body
pub data StartIs (ns sc : List Name) (code : Store) (s : Slot) : Option Slot → Body → Type 0 where
  statement_is : {q : Slot} {p : Pattern} {e : Expr} {b : Body} → CodeE ns sc code q e → CodeB ns sc code s (bind p e b) → StartIs ns sc code s (Some q) (bind p e b)
  last_is : {e : Expr} → CodeE ns sc code s e → StartIs ns sc code s None (last e)
