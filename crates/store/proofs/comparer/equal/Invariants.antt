use Rattle.std.proofs.Common.{◌≡◌, ℕ, ◌+◌, ◌*◌, [], length}
use Rattle.store.specs.Compare.{Comparing}
use Rattle.store.specs.Heap.{store_of, Den}
use Rattle.store.specs.Stack.{waiting}
use Rattle.store.specs.Tree.{Tree}
use Rattle.store.proofs.comparer.equal.Given as goal

abbrev pub invariant-pairs : goal.invariant-pairs
invariant-pairs l = record {
  long : length l.waiting.words.now ≡ length l.initial.waiting.words.now;
  comparing : (used : ℕ) (s t : Tree) → Den (store_of l.words used) l.initial.pair.left s
      → Den (store_of l.words used) l.initial.pair.right t
      → Comparing (store_of l.words used) (waiting l.waiting) l.pair.left l.pair.right l.budget l.left s t;
  alike : l.initial.pair.left ≡ l.initial.pair.right
      → (l.pair.left ≡ l.pair.right) × (waiting l.waiting ≡ []);
}

abbrev pub decreases-pairs : goal.decreases-pairs
decreases-pairs l = 2 * l.left + length (waiting l.waiting)
