-- Each operation has a kind or a number of its own.
use Rattle.std.proofs.Common.{◌≡◌, ℕ, List, sym, subst}
use Rattle.meaning.specs.Basics.{Name}
use Rattle.meaning.specs.Syntax.{Operator as Sign, plus, minus, times, divide, modulo, equal, unequal, less, at_most, Builtin as Named, send, self, link, exit, trap, show, register, whereis, swap, Operation as Done, make_tuple, make_pair, call, far_call, spawn, far_spawn, operate, built_in}
use Rattle.code.specs.Fine.{FineO, Takes}
use Rattle.code.specs.Operation.{operator_numbered, builtin_numbered, done_by, far_of, far_at, operation_of, operation_at, FarIs, OperationIs, make_tuple_is, make_pair_is, call_is, spawn_is, far_call_is, far_spawn_is, operate_is, built_in_is}
use Rattle.code.specs.Trees.{tree_o, operator_number, builtin_number}
use Rattle.code.specs.declared.operation.Builtin.TheVariants.{Send, Itself, Link, Exit, Trap, Show, Register, Whereis, Swap}
use Rattle.code.specs.declared.operation.Operation.{Operation}
use Rattle.code.specs.declared.operation.Operation.TheVariants.{Operate, BuiltIn}
use Rattle.code.specs.declared.operation.Operator.TheVariants.{Plus, Minus, Times, Divide, Modulo, Equal, Unequal, Less, AtMost}
use Rattle.store.specs.Heap.{Store, Den, left_of, right_of}
use Rattle.store.specs.declared.slot.Slot.{Slot}
use Rattle.store.proofs.Laws.{node_is, node_left, node_right}
use Rattle.code.proofs.Instructions.{leaf_has_kind, leaf_has_low, leaf_has_high}

operator_is : {ns : List Name} {n : ℕ} (o : Sign) → n ≡ 2 → OperationIs ns (done_by Operate (operator_numbered (operator_number o))) (operate o) n
operator_is plus q = operate_is Plus q
operator_is minus q = operate_is Minus q
operator_is times q = operate_is Times q
operator_is divide q = operate_is Divide q
operator_is modulo q = operate_is Modulo q
operator_is equal q = operate_is Equal q
operator_is unequal q = operate_is Unequal q
operator_is less q = operate_is Less q
operator_is at_most q = operate_is AtMost q

builtin_is : {ns : List Name} {n : ℕ} (b : Named) → Takes b n → OperationIs ns (done_by BuiltIn (builtin_numbered (builtin_number b))) (built_in b) n
builtin_is send q = built_in_is Send q
builtin_is self q = built_in_is Itself q
builtin_is link q = built_in_is Link q
builtin_is exit q = built_in_is Exit q
builtin_is trap q = built_in_is Trap q
builtin_is show q = built_in_is Show q
builtin_is register q = built_in_is Register q
builtin_is whereis q = built_in_is Whereis q
builtin_is swap q = built_in_is Swap q

pub operation_is : {ns : List Name} {code : Store} {s : Slot} {n : ℕ} (o : Done) → FineO ns o n → Den code s (tree_o ns o n) → OperationIs ns (operation_at code.words s) o n
operation_is {ns} {code} {s} {n} o f d = go o f d
  where
    tells : {o : Done} {k : ℕ} → s.kind ≡ k → OperationIs ns (operation_of code.words s k) o n → OperationIs ns (operation_at code.words s) o n
    tells {o} q h = subst (λ k. OperationIs ns (operation_of code.words s k) o n) (sym q) h

    one : Slot
    one = left_of code.words s

    two : Slot
    two = right_of code.words s

    go : (o : Done) → FineO ns o n → Den code s (tree_o ns o n) → OperationIs ns (operation_at code.words s) o n
    go make_tuple f d = tells (leaf_has_kind d) make_tuple_is
    go make_pair f d = tells (leaf_has_kind d) (make_pair_is f)
    go (call y) f d = tells (leaf_has_kind d) (call_is (leaf_has_low d) f (leaf_has_high d))
    go (spawn y) f d = tells (leaf_has_kind d) (spawn_is (leaf_has_low d) f (leaf_has_high d))
    go (far_call h y) f d =
        let far : FarIs ns (far_at one two) h y n = record { owner_at = leaf_has_low (node_right d); owner_known = f.0; function_at = leaf_has_low (node_left d); function_known = f.1; count_is = leaf_has_high (node_left d) } in
        tells (node_is d) (subst (λ k. OperationIs ns (far_of one two k) (far_call h y) n) (sym (leaf_has_kind (node_left d))) (far_call_is far))
    go (far_spawn h y) f d =
        let far : FarIs ns (far_at one two) h y n = record { owner_at = leaf_has_low (node_right d); owner_known = f.0; function_at = leaf_has_low (node_left d); function_known = f.1; count_is = leaf_has_high (node_left d) } in
        tells (node_is d) (subst (λ k. OperationIs ns (far_of one two k) (far_spawn h y) n) (sym (leaf_has_kind (node_left d))) (far_spawn_is far))
    go (operate o) f d = tells (leaf_has_kind d) (subst (λ l. OperationIs ns (done_by Operate (operator_numbered l)) (operate o) n) (sym (leaf_has_low d)) (operator_is o f))
    go (built_in b) f d = tells (leaf_has_kind d) (subst (λ l. OperationIs ns (done_by BuiltIn (builtin_numbered l)) (built_in b) n) (sym (leaf_has_low d)) (builtin_is b f))

-- what the decoder gives
pub operation_as : {ns : List Name} {code : Store} {s : Slot} {n : ℕ} {o : Done} {r : Operation} → r ≡ operation_at code.words s → FineO ns o n → Den code s (tree_o ns o n) → OperationIs ns r o n
operation_as {ns} {code} {s} {n} {o} q f d = subst (λ i. OperationIs ns i o n) (sym q) (operation_is o f d)
