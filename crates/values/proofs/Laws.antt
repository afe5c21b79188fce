-- The laws of values: what other crates use of this one besides its functions, in the order in which a reader needs them.
-- A slot of a store holds a value (`Holds`), and at most one. It goes on to hold it while cells are made, a new cell of two
-- values holds the pair or the tuple of them, and the cells and the nesting of a value are within its size.
use Rattle.std.proofs.Common.{◌≡◌, ℕ, ◌*◌, ◌<◌, ◌≤◌, List, sym, ap, ◌∙◌, subst, arith}
use Rattle.meaning.specs.Basics.{Name}
use Rattle.meaning.specs.Values.{Value as Val, v_tuple, v_cons, Values, v_int, v_atom, v_nil, v_pid, no_v, and_v}
use Rattle.meaning.specs.Space.{size_v}
use Rattle.store.specs.Heap.{Store, Kept, Put}
use Rattle.store.specs.Tree.{Tree, leaf, node, cells}
use Rattle.store.specs.declared.slot.Slot.{Slot}
use Rattle.values.specs.Encoding.{Fine, tree_v, Holds}
use Rattle.values.specs.Walk.{nesting}
use Rattle.store.proofs.Laws.{keeps, node_left, node_right}
use Rattle.values.proofs.Comparing.{index_one}
use Rattle.values.proofs.Shapes.{kind_is, part_seen, seen_by}
use Rattle.values.proofs.Counting.{value_cells}

-- What was held is held.
pub holds_kept : {ns : List Name} {m m' : Store} {s : Slot} {v : Val} → Kept m m' → Holds ns m s v → Holds ns m' s v
holds_kept g h = record { fine = h.fine; stands = keeps g h.stands }

-- A slot holds at most one value.
mutual
  pub one_value : {ns : List Name} {m : Store} {s : Slot} (u v : Val) → Holds ns m s u → Holds ns m s v → u ≡ v
  one_value (v_int z) v h k = part_seen (v_int z) h ∙ sym (seen_by 0 (kind_is (v_int z) h) k)
  one_value {ns} {m} {s} (v_atom x) v h k =
      let i = part_seen (v_atom x) h in
      let j = seen_by 1 (kind_is (v_atom x) h) k in
      let p : i.name ≡ j.name = index_one ns i.name j.name (subst (λ w. Fine ns w) i.is h.fine)
      (subst (λ w. Fine ns w) j.is k.fine)
      (i.numbered ∙ sym j.numbered) in
      i.is ∙ (ap v_atom p ∙ sym j.is)
  one_value (v_tuple vs) v h k = one-tuple vs v h k
  one_value v_nil v h k = sym (seen_by 2 (kind_is v_nil h) k)
  one_value (v_cons a b) v h k =
      let i = seen_by 16 (kind_is (v_cons a b) h) k in
      let p : a ≡ i.head = one_value a i.head (record { fine = h.fine.0; stands = node_left h.stands })
      i.left in
      let q : b ≡ i.tail = one_value b i.tail (record { fine = h.fine.1; stands = node_right h.stands })
      i.right in
      let r : v ≡ v_cons i.head i.tail = i.is in
      cc
  one_value (v_pid n) v h k = part_seen (v_pid n) h ∙ sym (seen_by 3 (kind_is (v_pid n) h) k)

  one-tuple : {ns : List Name} {m : Store} {s : Slot} (us : Values) (v : Val) → Holds ns m s (v_tuple us) →
      Holds ns m s v → v_tuple us ≡ v
  one-tuple no_v v h k = sym (seen_by 4 (kind_is (v_tuple no_v) h) k)
  one-tuple (and_v a us) v h k =
      let i = seen_by 17 (kind_is (v_tuple (and_v a us)) h) k in
      let p : a ≡ i.first = one_value a i.first (record { fine = h.fine.0; stands = node_left h.stands })
      i.left in
      let q : v_tuple us ≡ v_tuple i.rest =
      one-tuple us (v_tuple i.rest) (record { fine = h.fine.1; stands = node_right h.stands }) i.right
      in
      let r : v ≡ v_tuple (and_v i.first i.rest) = i.is in
      cc

-- A new cell of kind 16 holds a pair, ..
pub pair_holds : {ns : List Name} {m m' : Store} {a b r : Slot} {u v : Val} → Put m m' 16 a b r → Holds ns m a u →
    Holds ns m b v
    → Holds ns m' r (v_cons u v)
pair_holds p h k = record { fine = (h.fine, k.fine); stands = p.stands (omega arith) h.stands k.stands }

-- .. and one of kind 17 a tuple with one more element in front.
pub tuple_holds : {ns : List Name} {m m' : Store} {a b r : Slot} {u : Val} {vs : Values} → Put m m' 17 a b r →
    Holds ns m a u
    → Holds ns m b (v_tuple vs) → Holds ns m' r (v_tuple (and_v u vs))
tuple_holds p h k = record { fine = (h.fine, k.fine); stands = p.stands (omega arith) h.stands k.stands }

-- A tree is nested no deeper than it has cells, ..
pub nesting-cells : (t : Tree) → nesting t ≤ cells t
nesting-cells (leaf k l h) = omega arith
nesting-cells (node k a b) = omega (arith, nesting-cells a, nesting-cells b)

-- .. so a value that is too deep for the scratch, or that has more cells, is larger than the scratch.
pub large_value : (ns : List Name) (v : Val) (words : ℕ) → words < 6 * cells (tree_v ns v) → 2 * words < 3 * size_v v
large_value ns v words h = omega (arith, value_cells ns v)

pub deep_value : (ns : List Name) (v : Val) (words : ℕ) → words < 6 * nesting (tree_v ns v) → 2 * words < 3 * size_v v
deep_value ns v words h = large_value ns v words (omega (arith, nesting-cells (tree_v ns v)))
