-- Each form of an expression has kinds of its own, so the kind of a slot tells the form; a statement's is none of them.
use Rattle.std.proofs.Common.{◌≡◌, ℕ, ◌^◌, cond, List, Option, Some, None, pos, sym, ap, subst, lt-ltb, ne_eqb}
use Rattle.meaning.specs.Basics.{Name}
use Rattle.meaning.specs.Syntax.{Operation, make_tuple, make_pair, call, far_call, spawn, far_spawn, operate, built_in, Expr, int, atom, var, nil, apply, case, receive, receive_until, catch, no_e, and_e, Body, last, bind}
use Rattle.meaning.specs.Values.{v_int, v_atom, v_nil}
use Rattle.code.specs.Code.{CodeE, CodeB}
use Rattle.code.specs.Instruction.{instruction_of, instruction_at, start_of, start_at, number_is, atom_is, nil_is, InstructionIs, constant_is, variable_is, apply_is, case_is, receive_is, until_is, catch_is, StartIs, statement_is, last_is}
use Rattle.code.specs.Trees.{tree_o}
use Rattle.code.specs.declared.instruction.Instruction.{Instruction}
use Rattle.code.specs.declared.instruction.Instruction.TheVariants.{Unknown, Apply}
use Rattle.store.specs.Heap.{Store, Den, left_of, right_of}
use Rattle.store.specs.Tree.{leaf}
use Rattle.store.specs.declared.slot.Slot.{Slot}
use Rattle.store.proofs.Laws.{leaf_is, node_is, node_left, node_right}

-- a leaf has its kind, and is a leaf of every store
pub leaf_has_kind : {m : Store} {s : Slot} {k l h : ℕ} → Den m s (leaf k l h) → s.kind ≡ k
leaf_has_kind d = ap (λ (q : Slot). q.kind) (leaf_is d)

pub leaf_has_low : {m : Store} {s : Slot} {k l h : ℕ} → Den m s (leaf k l h) → s.low ≡ l
leaf_has_low d = ap (λ (q : Slot). q.low) (leaf_is d)

pub leaf_has_high : {m : Store} {s : Slot} {k l h : ℕ} → Den m s (leaf k l h) → s.high ≡ h
leaf_has_high d = ap (λ (q : Slot). q.high) (leaf_is d)

leaf_anywhere : {m m' : Store} {s : Slot} {k l h : ℕ} → Den m s (leaf k l h) → Den m' s (leaf k l h)
leaf_anywhere d = record { is = d.is }

pub instruction_is : {ns sc : List Name} {code : Store} {s : Slot} (e : Expr) → CodeE ns sc code s e → InstructionIs ns sc code s (instruction_at code.words s) e
instruction_is {ns} {sc} {code} {s} e c = go e c
  where
    tells : {e : Expr} {k : ℕ} → s.kind ≡ k → InstructionIs ns sc code s (instruction_of code.words s k) e → InstructionIs ns sc code s (instruction_at code.words s) e
    tells {e} q h = subst (λ k. InstructionIs ns sc code s (instruction_of code.words s k) e) (sym q) h

    ended : {e : Expr} (o : Operation) (n : ℕ) → Den code s (tree_o ns o n) → InstructionIs ns sc code s Apply e → InstructionIs ns sc code s (instruction_at code.words s) e
    ended make_tuple n d i = tells (leaf_has_kind d) i
    ended make_pair n d i = tells (leaf_has_kind d) i
    ended (call f) n d i = tells (leaf_has_kind d) i
    ended (far_call m f) n d i = tells (node_is d) i
    ended (spawn f) n d i = tells (leaf_has_kind d) i
    ended (far_spawn m f) n d i = tells (node_is d) i
    ended (operate o) n d i = tells (leaf_has_kind d) i
    ended (built_in b) n d i = tells (leaf_has_kind d) i

    go : (e : Expr) → CodeE ns sc code s e → InstructionIs ns sc code s (instruction_at code.words s) e
    go (int n) c = tells (leaf_has_kind c.stands) (constant_is (v_int (pos n)) number_is (record { holds = record { fine = lt-ltb n (2 ^ 63) c.fine; stands = leaf_anywhere c.stands } }))
    go (atom y) c = tells (leaf_has_kind c.stands) (constant_is (v_atom y) atom_is (record { holds = record { fine = c.fine; stands = leaf_anywhere c.stands } }))
    go (var y) c = tells (leaf_has_kind c.stands) (variable_is (leaf_has_low c.stands) c.fine)
    go nil c = tells (leaf_has_kind c.stands) (constant_is v_nil nil_is (record { holds = record { fine = tt; stands = leaf_anywhere c.stands } }))
    go (apply o no_e) c = ended o 0 c.stands (apply_is (record { stands = c.stands; operation = c.fine.0; fine = c.fine.1 }))
    go (apply o (and_e e es)) c = tells (node_is c.stands) (apply_is (record { stands = c.stands; operation = c.fine.0; fine = c.fine.1 }))
    go (case e cs) c = tells (node_is c.stands) (case_is (record { stands = node_left c.stands; fine = c.fine.0 }) c)
    go (receive cs) c = tells (node_is c.stands) (receive_is c)
    go (receive_until cs e b) c = tells (node_is c.stands) (until_is (record { stands = node_left (node_right c.stands); fine = c.fine.1 }) c)
    go (catch b) c = tells (node_is c.stands) (catch_is (record { stands = node_left c.stands; fine = c.fine }))

-- what the decoder gives
pub instruction_as : {ns sc : List Name} {code : Store} {s : Slot} {e : Expr} {r : Instruction} → r ≡ instruction_at code.words s → CodeE ns sc code s e → InstructionIs ns sc code s r e
instruction_as {ns} {sc} {code} {s} {e} q c = subst (λ i. InstructionIs ns sc code s i e) (sym q) (instruction_is e c)

not_unknown : {ns sc : List Name} {code : Store} {s : Slot} {e : Expr} → InstructionIs ns sc code s Unknown e → ⊥
not_unknown i = elim i [ ]

-- an expression is no statement
not_statement : {ns sc : List Name} {code : Store} {s : Slot} (e : Expr) → CodeE ns sc code s e → s.kind ≡ 25 → ⊥
not_statement {ns} {sc} {code} {s} e c q = not_unknown (subst (λ k. InstructionIs ns sc code s (instruction_of code.words s k) e) q (instruction_is e c))

start_is : {ns sc : List Name} {code : Store} {s : Slot} (b : Body) → CodeB ns sc code s b → StartIs ns sc code s (start_at code.words s) b
start_is {ns} {sc} {code} {s} (last e) c =
    let alone : CodeE ns sc code s e = record { stands = c.stands; fine = c.fine } in
    subst (λ t. StartIs ns sc code s (cond t (Some (left_of code.words (right_of code.words s))) None) (last e)) (sym (ne_eqb s.kind 25 (not_statement e alone))) (last_is alone)
start_is {ns} {sc} {code} {s} (bind p e b) c =
    subst (λ k. StartIs ns sc code s (start_of code.words s k) (bind p e b)) (sym (node_is c.stands))
    (statement_is (record { stands = node_left (node_right c.stands); fine = c.fine.1 }) c)

-- what the decoder gives
pub start_as : {ns sc : List Name} {code : Store} {s : Slot} {b : Body} {r : Option Slot} → r ≡ start_at code.words s → CodeB ns sc code s b → StartIs ns sc code s r b
start_as {ns} {sc} {code} {s} {b} q c = subst (λ i. StartIs ns sc code s i b) (sym q) (start_is b c)
