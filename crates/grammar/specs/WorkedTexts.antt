-- The texts of the worked programs of crate `meaning`: each text is that program, and what it shows is said there.
use Rattle.std.specs.Prelude.{List, [], ◌∷◌, ◌++◌, ℕ, codes}
use Rattle.meaning.specs.Basics.{Name}
use Rattle.meaning.specs.Syntax.{Program}
use Rattle.meaning.specs.Grammar.{Reads}
use Rattle.meaning.specs.Worked.{Shows, echo, failing, out_of_order, swapping, catching}

-- the text is the program, which shows these lines and ends, in some order of moves
pub record TextShows (t : List ℕ) (g : Program) (lines : List Name) : Type 0 where
  pub reads : Reads t g
  pub shows : Shows g lines

abbrev pub echo_worked : List ℕ
echo_worked =
    codes "module m;"
    ++ codes "fn main() { p = spawn echo(); send(p, {self(), 5}); receive { x -> { show(x) } } }"
    ++ codes "fn echo() { receive { {q, n} -> { send(q, n + 1) } } }"

abbrev pub failing_worked : List ℕ
failing_worked =
    codes "module m;"
    ++ codes "fn main() { trap('true); p = spawn bad(); link(p); send(p, 'go);"
    ++ codes "receive { {'exit, a, r} -> { show(r) } } }"
    ++ codes "fn bad() { receive { 'go -> { 1 / 0 } } }"

abbrev pub out_of_order_worked : List ℕ
out_of_order_worked =
    codes "module m;"
    ++ codes "fn main() { send(self(), 1); send(self(), 2);"
    ++ codes "receive { 2 -> { show('two) } }; receive { x -> { show(x) } };"
    ++ codes "receive { x -> { show(x) } } until 10 { show('late) } }"

abbrev pub swapping_worked : List ℕ
swapping_worked =
    codes "module m; fn main() { k:say(); swap('k); k:say() }"
    ++ codes "module k; fn say() { show(1) } module k; fn say() { show(2) }"

abbrev pub catching_worked : List ℕ
catching_worked = codes "module m; fn main() { show(catch { f(1) }); show(catch { 1 / 0 }) }"

pub record WorkedTexts : Type 0 where
  pub echo_text : TextShows echo_worked echo (codes "6" ∷ [])
  pub failing_text : TextShows failing_worked failing (codes "zero" ∷ [])
  pub out_of_order_text : TextShows out_of_order_worked out_of_order (codes "two" ∷ codes "1" ∷ codes "late" ∷ [])
  pub swapping_text : TextShows swapping_worked swapping (codes "1" ∷ codes "2" ∷ [])
  pub catching_text : TextShows catching_worked catching (codes "{error,undef,}" ∷ codes "{error,zero,}" ∷ [])
