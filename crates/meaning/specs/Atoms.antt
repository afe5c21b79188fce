-- The atoms that the language itself uses: errors, ends, and what built-in functions give.
use Rattle.std.specs.Prelude.{codes}
use Rattle.meaning.specs.Basics.{Name}

-- a wrong kind of value; a pattern of p = e, or all clauses, that match nothing; a divisor 0;
-- a number that does not fit; no such function or module
abbrev pub a_type : Name
a_type = codes "type"

abbrev pub a_match : Name
a_match = codes "match"

abbrev pub a_clause : Name
a_clause = codes "clause"

abbrev pub a_zero : Name
a_zero = codes "zero"

abbrev pub a_big : Name
a_big = codes "big"

abbrev pub a_undef : Name
a_undef = codes "undef"

-- the end of a worker whose body is done; of one whose code was replaced; and what a link to nobody tells
abbrev pub a_normal : Name
a_normal = codes "normal"

abbrev pub a_old : Name
a_old = codes "old"

abbrev pub a_gone : Name
a_gone = codes "gone"

-- first element of what catch gives, and of a trapped signal
abbrev pub a_ok : Name
a_ok = codes "ok"

abbrev pub a_error : Name
a_error = codes "error"

abbrev pub a_exit : Name
a_exit = codes "exit"

abbrev pub a_none : Name
a_none = codes "none"

abbrev pub a_true : Name
a_true = codes "true"

abbrev pub a_false : Name
a_false = codes "false"

-- the function that the first worker runs
abbrev pub a_main : Name
a_main = codes "main"
