-- The kinds of slots in which a program stands, beside those of values: numbers 0, atoms 1, nil 2, the empty tuple 4,
-- pairs 16 and tuples 17. Kinds below 16 are leaves.
use Rattle.std.specs.Prelude.{ℕ}

-- a variable, by its index in the environment; the patterns that match anything, without and with a name
abbrev pub variable_kind : ℕ
variable_kind = 5

abbrev pub any_kind : ℕ
any_kind = 6

abbrev pub bind_kind : ℕ
bind_kind = 7

-- operations, where a chain of operands ends
abbrev pub make_tuple_kind : ℕ
make_tuple_kind = 8

abbrev pub make_pair_kind : ℕ
make_pair_kind = 9

abbrev pub call_kind : ℕ
call_kind = 10

abbrev pub spawn_kind : ℕ
spawn_kind = 11

abbrev pub operator_kind : ℕ
operator_kind = 12

abbrev pub builtin_kind : ℕ
builtin_kind = 13

-- calls and spawns of another module's function: the leaf of a call or a spawn, and the module's name
abbrev pub far_kind : ℕ
far_kind = 19

-- the section and the number of parameters of a function
abbrev pub signature_kind : ℕ
signature_kind = 14

-- an operand, and the rest of the chain
abbrev pub operand_kind : ℕ
operand_kind = 18

abbrev pub case_kind : ℕ
case_kind = 20

abbrev pub receive_kind : ℕ
receive_kind = 21

abbrev pub until_kind : ℕ
until_kind = 22

abbrev pub timeout_kind : ℕ
timeout_kind = 23

abbrev pub catch_kind : ℕ
catch_kind = 24

-- p = e; and the rest: the pattern, and a node with the expression and the rest of the body
abbrev pub statement_kind : ℕ
statement_kind = 25

abbrev pub then_kind : ℕ
then_kind = 26

-- a clause before the others: a node with its pattern and its body, and the others
abbrev pub clauses_kind : ℕ
clauses_kind = 27

abbrev pub clause_kind : ℕ
clause_kind = 28

-- a function before others of its name: a node with its signature and its body, and the others
abbrev pub functions_kind : ℕ
functions_kind = 29

abbrev pub function_kind : ℕ
function_kind = 30
