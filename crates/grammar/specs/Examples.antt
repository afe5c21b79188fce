-- Texts and the programs that they are.
use Rattle.std.specs.Prelude.{List, [], ◌∷◌, ◌++◌, ℕ, codes}
use Rattle.meaning.specs.Syntax.{Pattern, p_any, p_var, p_tuple, no_p, and_p, plus, minus, times, less, send, self}
use Rattle.meaning.specs.Syntax.{show, make_tuple, make_pair, call, spawn, operate, built_in, Expr, int, atom, var}
use Rattle.meaning.specs.Syntax.{nil, apply, receive, receive_until, Exprs, no_e, and_e, Body, last, bind, no_c}
use Rattle.meaning.specs.Syntax.{clause, Function, Program}

abbrev pub one : Expr → Exprs
one a = and_e a no_e

abbrev pub two : Expr → Expr → Exprs
two a b = and_e a (and_e b no_e)

-- a worker that sends back what it is sent, asked once
abbrev pub echo_text : List ℕ
echo_text =
    codes "module m; "
    ++ codes "fn echo() { receive { {from, x} -> { send(from, x); echo() } } } "
    ++ codes "fn main() { e = spawn echo(); send(e, {self(), 'hello}); "
    ++ codes "receive { x -> { show(x) } } until 100 { 'late } }"

-- {from, x}
abbrev pub request : Pattern
request = p_tuple (and_p (p_var (codes "from")) (and_p (p_var (codes "x")) no_p))

-- send(from, x); echo()
abbrev pub send_back : Body
send_back =
    bind p_any (apply (built_in send) (two (var (codes "from")) (var (codes "x"))))
    (last (apply (call (codes "echo")) no_e))

abbrev pub echo : Function
echo = record {
  name = codes "echo";
  params = [];
  body = last (receive (clause request send_back no_c));
}

-- send(e, {self(), 'hello})
abbrev pub say_hello : Expr
say_hello =
    apply (built_in send)
    (two (var (codes "e")) (apply make_tuple (two (apply (built_in self) no_e) (atom (codes "hello")))))

-- receive { x -> { show(x) } } until 100 { 'late }
abbrev pub await : Expr
await =
    receive_until (clause (p_var (codes "x")) (last (apply (built_in show) (one (var (codes "x"))))) no_c) (int 100)
    (last (atom (codes "late")))

abbrev pub ask : Function
ask = record {
  name = codes "main";
  params = [];
  body = bind (p_var (codes "e")) (apply (spawn (codes "echo")) no_e) (bind p_any say_hello (last await));
}

abbrev pub echo_program : Program
echo_program = record { name = codes "m"; functions = echo ∷ ask ∷ [] } ∷ []

-- how operators group: - to the left, :: to the right, * before -, and < last
abbrev pub sums_text : List ℕ
sums_text = codes "module m; fn main() { x = 1 - 2 - 3 * 4; y = (1 + x) :: 2 :: []; x < 5 }"

-- (1 - 2) - (3 * 4)
abbrev pub difference : Expr
difference =
    apply (operate minus)
    (two (apply (operate minus) (two (int 1) (int 2))) (apply (operate times) (two (int 3) (int 4))))

-- (1 + x) :: (2 :: [])
abbrev pub pairs : Expr
pairs =
    apply make_pair
    (two (apply (operate plus) (two (int 1) (var (codes "x")))) (apply make_pair (two (int 2) nil)))

abbrev pub sums : Function
sums = record {
  name = codes "main";
  params = [];
  body =
      bind (p_var (codes "x")) difference
      (bind (p_var (codes "y")) pairs (last (apply (operate less) (two (var (codes "x")) (int 5)))));
}

abbrev pub sums_program : Program
sums_program = record { name = codes "m"; functions = sums ∷ [] } ∷ []

-- two comparisons do not group
abbrev pub compared_text : List ℕ
compared_text = codes "module m; fn main() { 1 < 2 < 3 }"
