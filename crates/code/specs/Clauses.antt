-- What code sees of a pattern and of clauses, and what that says of the syntax.
use Rattle.std.specs.Prelude.{◌≡◌, ℕ, ◌<◌, ◌≤◌, List, Option, Some, None, ◌≢◌}
use Rattle.meaning.specs.Basics.{Name}
use Rattle.meaning.specs.Bound.{bound_by}
use Rattle.meaning.specs.Syntax.{Pattern as Pat, Body, Clauses as Cls, no_c, clause}
use Rattle.store.specs.Heap.{Store, store_of}
use Rattle.store.specs.declared.slot.Slot.{Slot}
use Rattle.code.specs.Code.{CodeP, CodeB, CodeCs}
use Rattle.code.specs.Kinds.{any_kind, bind_kind}
use Rattle.code.specs.declared.clauses.Clause.{Clause}
use Rattle.code.specs.declared.clauses.Pattern.{Pattern}
use Rattle.code.specs.declared.clauses.Pattern.TheVariants.{Any, Bind, Leaf, Node}

-- the kind of a pattern's slot tells its form
abbrev pub PatternIs : Slot → Pattern → Type 0
PatternIs s Any = s.kind ≡ any_kind
PatternIs s Bind = s.kind ≡ bind_kind
PatternIs s (Leaf q) = (q ≡ s) × (s.kind < 16) × (s.kind ≢ any_kind) × (s.kind ≢ bind_kind)
PatternIs s (Node q) = (q ≡ s) × (16 ≤ s.kind)

-- cs begins with a clause, whose parts stand in these slots; its body has the names that its pattern binds
pub record IsClause (ns sc : List Name) (code : Store) (r : Clause) (cs : Cls) : Type 0 where
  pub pattern : Pat
  pub body : Body
  pub rest : Cls
  pub is : cs ≡ clause pattern body rest
  pub pattern_at : CodeP ns code r.pattern pattern
  pub body_at : CodeB ns (bound_by pattern sc) code r.body body
  pub rest_at : CodeCs ns sc code r.rest rest

abbrev pub ClausesAre : List Name → List Name → Store → Option Clause → Cls → Type 0
ClausesAre ns sc code None cs = cs ≡ no_c
ClausesAre ns sc code (Some r) cs = IsClause ns sc code r cs

-- r is what is to be seen of the slot s of the code, whatever clauses it holds
pub record Views (words : List ℕ) (s : Slot) (r : Option Clause) : Type 0 where
  pub clauses : {ns sc : List Name} {used : ℕ} {cs : Cls} → CodeCs ns sc (store_of words used) s cs
      → ClausesAre ns sc (store_of words used) r cs
