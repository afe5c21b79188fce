-- A walk along a right edge: after n steps it stands at a slot, below which the rest of the edge hangs.
-- The whole edge is at most as long as the cells in use, so the walk may count its steps up to that number.
use Rattle.std.proofs.Common.{◌≡◌, ℕ, ◌+◌, ◌<◌, ◌≤◌, ap, arith}
use Rattle.store.specs.Heap.{Store, right_of, Den}
use Rattle.store.specs.Tree.{Tree, spine}
use Rattle.store.specs.declared.slot.Slot.{Slot}
use Rattle.store.proofs.Laws.{den_at, is_leaf, is_node, spine-fits}

abbrev pub StandsAt : Store → Slot → ℕ → Tree → Type 0
StandsAt m s n t = (u : Tree) × Den m s u × (spine t ≡ n + spine u)

pub walk_on : {m : Store} {s s' : Slot} (n : ℕ) (t : Tree) → 16 ≤ s.kind → s' ≡ right_of m.words s
    → StandsAt m s n t → StandsAt m s' (n + 1) t
walk_on n t b e w =
    let k = is_node w.0 b w.1 in
    (k.two, den_at e k.right, omega (arith, w.2, ap spine k.is))

pub walk_ends : {m : Store} {s : Slot} (n : ℕ) (t : Tree) → s.kind < 16 → StandsAt m s n t → n ≡ spine t
walk_ends n t b w = omega (arith, w.2, ap spine (is_leaf w.0 b w.1))

pub walk_fits : {m : Store} {s s₀ : Slot} (n : ℕ) (t : Tree) → m.used ≤ n → Den m s₀ t → StandsAt m s n t → n ≡ spine t
walk_fits n t b d w = omega (arith, w.2, spine-fits d)
