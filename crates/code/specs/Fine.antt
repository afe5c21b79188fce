-- The programs that have a tree of their own: names are in the table, numbers fit, names are bound, operations have as many
-- operands as they take, and no pattern nests deep to the left.
use Rattle.std.specs.Prelude.{◌≡◌, ℕ, suc, ◌^◌, ◌<◌, ◌≤◌, max, ◌⊎◌, List}
use Rattle.meaning.specs.Basics.{Name}
use Rattle.meaning.specs.Syntax.{
  Pattern,
  p_any,
  p_var,
  p_int,
  p_atom,
  p_tuple,
  p_nil,
  p_cons,
  Patterns,
  no_p,
  and_p,
  Builtin,
  send,
  self,
  link,
  exit,
  trap,
  show,
  register,
  whereis,
  swap,
  Operation,
  make_tuple,
  make_pair,
  call,
  far_call,
  spawn,
  far_spawn,
  operate,
  built_in,
  Expr,
  int,
  atom,
  var,
  nil,
  apply,
  case,
  receive,
  receive_until,
  catch,
  Exprs,
  no_e,
  and_e,
  Body,
  last,
  bind,
  Clauses,
  no_c,
  clause,
}
use Rattle.meaning.specs.Bound.{bound_by}
use Rattle.meaning.specs.Grammar.{count}
use Rattle.values.specs.Encoding.{Known}

-- how deep a pattern nests to the left: an element of a tuple and the head of a pair are one deeper
abbrev mutual
  pub deep_p : Pattern → ℕ
  deep_p p_any = 0
  deep_p (p_var x) = 0
  deep_p (p_int n) = 0
  deep_p (p_atom x) = 0
  deep_p (p_tuple ps) = deep_ps ps
  deep_p p_nil = 0
  deep_p (p_cons a b) = max (suc (deep_p a)) (deep_p b)

  pub deep_ps : Patterns → ℕ
  deep_ps no_p = 0
  deep_ps (and_p p ps) = max (suc (deep_p p)) (deep_ps ps)

abbrev mutual
  pub FineP : List Name → Pattern → Type 0
  FineP ns p_any = Unit {0}
  FineP ns (p_var x) = Unit {0}
  FineP ns (p_int n) = n < 2 ^ 63
  FineP ns (p_atom x) = Known ns x
  FineP ns (p_tuple ps) = FinePs ns ps
  FineP ns p_nil = Unit {0}
  FineP ns (p_cons a b) = FineP ns a × FineP ns b

  pub FinePs : List Name → Patterns → Type 0
  FinePs ns no_p = Unit {0}
  FinePs ns (and_p p ps) = FineP ns p × FinePs ns ps

-- with the bound on its depth
pub record Matchable (ns : List Name) (p : Pattern) : Type 0 where
  pub fine : FineP ns p
  pub shallow : deep_p p ≤ 100

-- how many arguments a built-in function takes
abbrev pub Takes : Builtin → ℕ → Type 0
Takes send n = n ≡ 2
Takes self n = n ≡ 0
Takes link n = n ≡ 1
Takes exit n = (n ≡ 1) ⊎ (n ≡ 2)
Takes trap n = n ≡ 1
Takes show n = n ≡ 1
Takes register n = n ≡ 1
Takes whereis n = n ≡ 1
Takes swap n = n ≡ 1

abbrev pub FineO : List Name → Operation → ℕ → Type 0
FineO ns make_tuple n = Unit {0}
FineO ns make_pair n = n ≡ 2
FineO ns (call f) n = Known ns f
FineO ns (far_call m f) n = Known ns m × Known ns f
FineO ns (spawn f) n = Known ns f
FineO ns (far_spawn m f) n = Known ns m × Known ns f
FineO ns (operate o) n = n ≡ 2
FineO ns (built_in b) n = Takes b n

abbrev mutual
  pub FineE : List Name → List Name → Expr → Type 0
  FineE ns sc (int n) = n < 2 ^ 63
  FineE ns sc (atom x) = Known ns x
  FineE ns sc (var x) = Known sc x
  FineE ns sc nil = Unit {0}
  FineE ns sc (apply o es) = FineO ns o (count es) × FineEs ns sc es
  FineE ns sc (case e cs) = FineE ns sc e × FineCs ns sc cs
  FineE ns sc (receive cs) = FineCs ns sc cs
  FineE ns sc (receive_until cs e b) = FineCs ns sc cs × FineE ns sc e × FineB ns sc b
  FineE ns sc (catch b) = FineB ns sc b

  pub FineEs : List Name → List Name → Exprs → Type 0
  FineEs ns sc no_e = Unit {0}
  FineEs ns sc (and_e e es) = FineE ns sc e × FineEs ns sc es

  pub FineB : List Name → List Name → Body → Type 0
  FineB ns sc (last e) = FineE ns sc e
  FineB ns sc (bind p e b) = Matchable ns p × FineE ns sc e × FineB ns (bound_by p sc) b

  pub FineCs : List Name → List Name → Clauses → Type 0
  FineCs ns sc no_c = Unit {0}
  FineCs ns sc (clause p b cs) = Matchable ns p × FineB ns (bound_by p sc) b × FineCs ns sc cs
