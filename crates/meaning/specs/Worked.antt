-- Five small programs, and what each shows in some order of moves before it has ended.
use Rattle.std.specs.Prelude.{◌≡◌, List, [], ◌∷◌, ℕ, codes}
use Rattle.std.proofs.Math.Option.{some}
use Rattle.meaning.specs.Basics.{Name}
use Rattle.meaning.specs.Syntax.{Pattern, p_any, p_var, p_int, p_atom, p_tuple, no_p, and_p, plus, divide}
use Rattle.meaning.specs.Syntax.{send, self, link, trap, show, swap, Operation, make_tuple, call, far_call}
use Rattle.meaning.specs.Syntax.{spawn, operate, built_in, Expr, int, atom, var, apply, receive, receive_until, catch}
use Rattle.meaning.specs.Syntax.{no_e, and_e, Body, last, bind, Clauses, no_c, clause, Function, Module}
use Rattle.meaning.specs.Syntax.{Program}
use Rattle.meaning.specs.System.{System}
use Rattle.meaning.specs.Moves.{Move, is, moves, begin}

-- by some order of moves the program shows these lines, and no worker is left
pub record Shows (g : Program) (lines : List Name) : Type 0 where
  pub first : System
  pub order : List Move
  pub end : System
  pub begins : begin g ≡ some first
  pub comes : moves g first order ≡ is end
  pub ended : end.workers ≡ []
  pub shown : end.shown ≡ lines

-- notation for the trees below
abbrev pub on_none : Operation → Expr
on_none o = apply o no_e

abbrev pub on_one : Operation → Expr → Expr
on_one o a = apply o (and_e a no_e)

abbrev pub on_both : Operation → Expr → Expr → Expr
on_both o a b = apply o (and_e a (and_e b no_e))

abbrev pub do_show : Expr → Body
do_show e = last (on_one (built_in show) e)

abbrev pub then : Expr → Body → Body
then e b = bind p_any e b

abbrev pub x_pattern : Pattern
x_pattern = p_var (codes "x")

abbrev pub x_expr : Expr
x_expr = var (codes "x")

abbrev pub a_function : Name → Body → Function
a_function f b = record { name = f; params = []; body = b }

abbrev pub a_module : Name → List Function → Module
a_module m fs = record { name = m; functions = fs }

-- module m;
-- fn main() { p = spawn echo(); send(p, {self(), 5}); receive { x -> { show(x) } } }
-- fn echo() { receive { {q, n} -> { send(q, n + 1) } } }
abbrev pub echo : Program
echo = a_module (codes "m") (a_function (codes "main") main ∷ a_function (codes "echo") answers ∷ []) ∷ []
  where
    p : Name
    p = codes "p"

    q : Name
    q = codes "q"

    n : Name
    n = codes "n"

    main : Body
    main =
        bind (p_var p) (on_none (spawn (codes "echo")))
        (then (on_both (built_in send) (var p) (on_both make_tuple (on_none (built_in self)) (int 5)))
        (last (receive (clause x_pattern (do_show x_expr) no_c))))

    answers : Body
    answers =
        last (receive (clause (p_tuple (and_p (p_var q) (and_p (p_var n) no_p)))
        (last (on_both (built_in send) (var q) (on_both (operate plus) (var n) (int 1)))) no_c))

-- module m;
-- fn main() { trap('true); p = spawn bad(); link(p); send(p, 'go); receive { {'exit, a, r} -> { show(r) } } }
-- fn bad() { receive { 'go -> { 1 / 0 } } }
abbrev pub failing : Program
failing = a_module (codes "m") (a_function (codes "main") main ∷ a_function (codes "bad") bad ∷ []) ∷ []
  where
    p : Name
    p = codes "p"

    a : Name
    a = codes "a"

    r : Name
    r = codes "r"

    main : Body
    main =
        then (on_one (built_in trap) (atom (codes "true")))
        (bind (p_var p) (on_none (spawn (codes "bad")))
        (then (on_one (built_in link) (var p))
        (then (on_both (built_in send) (var p) (atom (codes "go")))
        (last (receive (clause (p_tuple (and_p (p_atom (codes "exit")) (and_p (p_var a) (and_p (p_var r) no_p))))
        (do_show (var r)) no_c))))))

    bad : Body
    bad = last (receive (clause (p_atom (codes "go")) (last (on_both (operate divide) (int 1) (int 0))) no_c))

-- module m;
-- fn main() {
--   send(self(), 1); send(self(), 2);
--   receive { 2 -> { show('two) } }; receive { x -> { show(x) } };
--   receive { x -> { show(x) } } until 10 { show('late) } }
abbrev pub out_of_order : Program
out_of_order = a_module (codes "m") (a_function (codes "main") main ∷ []) ∷ []
  where
    to_self : ℕ → Expr
    to_self n = on_both (built_in send) (on_none (built_in self)) (int n)

    any : Clauses
    any = clause x_pattern (do_show x_expr) no_c

    main : Body
    main =
        then (to_self 1)
        (then (to_self 2)
        (then (receive (clause (p_int 2) (do_show (atom (codes "two"))) no_c))
        (then (receive any)
        (last (receive_until any (int 10) (do_show (atom (codes "late"))))))))

-- module m; fn main() { k:say(); swap('k); k:say() }
-- module k; fn say() { show(1) }
-- module k; fn say() { show(2) }
abbrev pub swapping : Program
swapping =
    a_module (codes "m") (a_function (codes "main") main ∷ [])
    ∷ a_module (codes "k") (a_function (codes "say") (do_show (int 1)) ∷ [])
    ∷ a_module (codes "k") (a_function (codes "say") (do_show (int 2)) ∷ []) ∷ []
  where
    say : Expr
    say = on_none (far_call (codes "k") (codes "say"))

    main : Body
    main = then say (then (on_one (built_in swap) (atom (codes "k"))) (last say))

-- module m; fn main() { show(catch { f(1) }); show(catch { 1 / 0 }) }
abbrev pub catching : Program
catching = a_module (codes "m") (a_function (codes "main") main ∷ []) ∷ []
  where
    caught : Expr → Expr
    caught e = on_one (built_in show) (catch (last e))

    main : Body
    main = then (caught (on_one (call (codes "f")) (int 1)))
        (last (caught (on_both (operate divide) (int 1) (int 0))))

pub record Worked : Type 0 where
  pub echo_shows : Shows echo (codes "6" ∷ [])
  pub failing_shows : Shows failing (codes "zero" ∷ [])
  pub out_of_order_shows : Shows out_of_order (codes "two" ∷ codes "1" ∷ codes "late" ∷ [])
  pub swapping_shows : Shows swapping (codes "1" ∷ codes "2" ∷ [])
  pub catching_shows : Shows catching (codes "{error,undef,}" ∷ codes "{error,zero,}" ∷ [])
