-- A pattern's tree against a value's tree: leaves match leaves that are the same, nodes match nodes of the same kind, the
-- left part first; what is bound is put before the environment, a chain of values.
use Rattle.std.specs.Prelude.{◌≡◌, ℕ, suc, ◌+◌, ◌*◌, ◌<◌, ◌≤◌, max, cond, List, length, Some, None, Option as Maybe, ◌==◌}
use Rattle.std.proofs.Math.Option.{Option, some, none}
use Rattle.meaning.specs.Basics.{on_some}
use Rattle.store.specs.Heap.{Store, store_of, Den}
use Rattle.store.specs.Tree.{Tree, leaf, node, spine, same_tree}
use Rattle.store.specs.declared.slot.Slot.{Slot}
use Rattle.code.specs.Environment.{values_kind}
use Rattle.code.specs.Kinds.{any_kind, bind_kind}

abbrev pub fit : Tree → Tree → Tree → Option Tree
fit (leaf k l h) v env =
    cond (k == any_kind) (some env)
    (cond (k == bind_kind) (some (node values_kind v env)) (cond (same_tree (leaf k l h) v) (some env) none))
fit (node k a b) (leaf k' l h) env = none
fit (node k a b) (node k' c d) env = cond (k == k') (on_some (fit a c env) (fit b d)) none

-- how many values a pattern binds
abbrev pub binders : Tree → ℕ
binders (leaf k l h) = cond (k == bind_kind) 1 0
binders (node k a b) = binders a + binders b

-- how deep a tree nests to the left
abbrev pub deep : Tree → ℕ
deep (leaf k l h) = 0
deep (node k a b) = max (suc (deep a)) (deep b)

-- r denotes the environment with what p binds in v
pub record Fitted (m m' : Store) (p v e : Tree) (r : Slot) : Type 0 where
  pub tree : Tree
  pub is : fit p v e ≡ some tree
  pub stands : Den m' r tree
  pub count : m'.used ≡ m.used + binders p

abbrev pub FitEnds : Store → Store → Tree → Tree → Tree → Maybe Slot → Type 0
FitEnds m m' p v e None = fit p v e ≡ none
FitEnds m m' p v e (Some r) = Fitted m m' p v e r

-- a walk ends with an environment or with nothing, or there are fewer cells left than values to bind
pub record FitTo (code : List ℕ) (m m' : Store) (depth : ℕ) (pattern value env : Slot)
    (found : Maybe Slot) : Type 0 where
  pub to : {used : ℕ} {p v e : Tree} → Den (store_of code used) pattern p → Den m value v → Den m env e
      → deep p ≤ depth
      → FitEnds m m' p v e found

pub record FitLacks (code : List ℕ) (m : Store) (depth : ℕ) (pattern value env : Slot) : Type 0 where
  pub short : {used : ℕ} {p v e : Tree} → Den (store_of code used) pattern p → Den m value v → Den m env e
      → deep p ≤ depth
      → length m.words < 6 * (m.used + binders p)

-- how a walk stands after so many steps along the right edge: the trees at hand fit as those at the start do
pub record AtHand (code m₀ m : Store) (depth : ℕ) (pattern value env : Slot) (done : ℕ)
    (p₀ v₀ e₀ : Tree) : Type 0 where
  pub p : Tree
  pub v : Tree
  pub e : Tree
  pub pattern_at : Den code pattern p
  pub value_at : Den m value v
  pub env_at : Den m env e
  pub shallow : deep p ≤ depth
  pub short : spine v + done ≤ m₀.used
  pub same : fit p₀ v₀ e₀ ≡ fit p v e
  pub count : m.used + binders p ≡ m₀.used + binders p₀

pub record Fitting (code : List ℕ) (m₀ m : Store) (depth : ℕ) (pattern₀ value₀ env₀ pattern value env : Slot)
    (done : ℕ) : Type 0 where
  pub hand : {used : ℕ} {p v e : Tree} → Den (store_of code used) pattern₀ p → Den m₀ value₀ v → Den m₀ env₀ e
      → deep p ≤ depth
      → AtHand (store_of code used) m₀ m depth pattern value env done p v e
