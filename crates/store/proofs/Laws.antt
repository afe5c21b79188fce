-- The laws of the store: all that other crates use of it, in the order in which a reader needs them.
-- A slot of a store denotes a tree (`Den`). To read goes down the tree, to make a cell puts two trees together (`Put`),
-- and nothing that was denoted is lost (`Kept`); places and words never show.
use Rattle.std.proofs.Common.{◌≡◌, ℕ, ◌+◌, ◌*◌, ◌<◌, ◌≤◌, true, ◌&&◌, eqb, List, [], ◌∷◌, ◌++◌, length, take, sym, refl, ap, ◌∙◌, subst, arith}
use Rattle.std.proofs.lemmas.List.{get_or_append_left, get_or-take}
use Rattle.std.proofs.lemmas.Bool.{and_parts, eq-eqb, eqb-true, false≢true}
use Rattle.store.specs.Heap.{Store, store_of, left_of, right_of, Den, Kept, Slots}
use Rattle.store.specs.Slots.{slot_at}
use Rattle.store.specs.Tree.{Tree, leaf, node, spine, same_tree}
use Rattle.store.specs.declared.slot.Slot.{Slot}
use Rattle.store.proofs.Denoting.{denotes_kept, denotes_one}
use Rattle.store.proofs.Spines.{denotes_spine, denotes_within}
use Rattle.store.proofs.Words.{slot_parts, slot_same}

-- A slot of a kind below 16 denotes the leaf of its own words, in every store.
pub leaf_stands : {m : Store} (k l h : ℕ) → k < 16 → Den m (record { kind = k; low = l; high = h }) (leaf k l h)
leaf_stands k l h b = record { is = (b, refl, refl, refl) }

-- What denotes a leaf is that leaf's words.
pub leaf_is : {m : Store} {s : Slot} {k l h : ℕ} → Den m s (leaf k l h) → s ≡ record { kind = k; low = l; high = h }
leaf_is d = slot_parts d.is.1 d.is.2 d.is.3

-- A leaf's kind is below 16.
pub leaf_kind : {m : Store} {s : Slot} {k l h : ℕ} → Den m s (leaf k l h) → k < 16
leaf_kind d = omega (arith, d.is.0, d.is.1)

-- A node's slot has the node's kind.
pub node_is : {m : Store} {s : Slot} {k : ℕ} {a b : Tree} → Den m s (node k a b) → s.kind ≡ k
node_is d = d.is.1

-- A node's kind is 16 or more.
pub node_kind : {m : Store} {s : Slot} {k : ℕ} {a b : Tree} → Den m s (node k a b) → 16 ≤ k
node_kind d = omega (arith, d.is.0, d.is.1)

-- The left slot of a node denotes its left tree.
pub node_left : {m : Store} {s : Slot} {k : ℕ} {a b : Tree} → Den m s (node k a b) → Den m (left_of m.words s) a
unfolding left_of
node_left d = record { is = d.is.3 }

-- The right slot of a node denotes its right tree.
pub node_right : {m : Store} {s : Slot} {k : ℕ} {a b : Tree} → Den m s (node k a b) → Den m (right_of m.words s) b
unfolding right_of
node_right d = record { is = d.is.4 }

-- What was read to the left or to the right of a node denotes that tree.
pub left_at : {m : Store} {s x : Slot} {k : ℕ} {a b : Tree} → x ≡ left_of m.words s → Den m s (node k a b) → Den m x a
left_at {m} {a} e d = subst (λ (q : Slot). Den m q a) (sym e) (node_left d)

pub right_at : {m : Store} {s x : Slot} {k : ℕ} {a b : Tree} → x ≡ right_of m.words s → Den m s (node k a b) → Den m x b
right_at {m} {b} e d = subst (λ (q : Slot). Den m q b) (sym e) (node_right d)

-- What a slot of a kind below 16 denotes is the leaf of its words.
pub is_leaf : {m : Store} {s : Slot} (t : Tree) → s.kind < 16 → Den m s t → t ≡ leaf s.kind s.low s.high
is_leaf {m} {s} (leaf k l h) b d =
    let p : s.kind ≡ k = d.is.1 in
    let q : s.low ≡ l = d.is.2 in
    let r : s.high ≡ h = d.is.3 in
    cc
is_leaf (node k a b') b d = absurd (omega (arith, d.is.0))

-- What a slot of another kind denotes is a node of that kind, whose trees its cell's slots denote.
pub record IsNode (m : Store) (s : Slot) (t : Tree) : Type 0 where
  pub one : Tree
  pub two : Tree
  pub is : t ≡ node s.kind one two
  pub left : Den m (left_of m.words s) one
  pub right : Den m (right_of m.words s) two

pub is_node : {m : Store} {s : Slot} (t : Tree) → 16 ≤ s.kind → Den m s t → IsNode m s t
is_node (leaf k l h) b d = absurd (omega (arith, d.is.0))
is_node {m} {s} (node k x y) b d =
    record { one = x; two = y; is = ap (λ i. node i x y) (sym d.is.1); left = node_left d; right = node_right d }

-- What is read is denoted: a slot that equals one that denotes a tree denotes it.
pub den_at : {m : Store} {s q : Slot} {t : Tree} → s ≡ q → Den m q t → Den m s t
den_at {m} {s} {q} {t} e d = subst (λ x. Den m x t) (sym e) d

-- A slot denotes at most one tree.
pub one_tree : {m : Store} {s : Slot} {t u : Tree} → Den m s t → Den m s u → t ≡ u
one_tree {m} {s} {t} {u} d e = denotes_one m.words m.used s t u d.is e.is

-- Kept is a preorder, ..
pub kept_refl : {m : Store} → Kept m m
kept_refl = record { more = omega arith; same = λ j h. refl }

pub kept_trans : {m₀ m₁ m₂ : Store} → Kept m₀ m₁ → Kept m₁ m₂ → Kept m₀ m₂
kept_trans g h =
    record {
      more = omega (arith, g.more, h.more);
      same = λ j b. h.same j (omega (arith, g.more)) ∙ g.same j b;
    }

pub kept_same : {m₀ m₁ m₂ : Store} → m₂ ≡ m₁ → Kept m₀ m₁ → Kept m₀ m₂
kept_same {m₀} e g = subst (λ (q : Store). Kept m₀ q) (sym e) g

-- .. and what was denoted is denoted.
pub keeps : {m m' : Store} {s : Slot} {t : Tree} → Kept m m' → Den m s t → Den m' s t
keeps {m} {m'} {s} {t} g d = record { is = denotes_kept g s t d.is }

-- New cells can be forgotten: with the old number of cells in use, the old store stands in the new words.
pub kept_back : {m m' : Store} → Kept m m' → Kept m (store_of m'.words m.used)
kept_back g = record { more = omega arith; same = g.same }

-- A right edge is at most as long as the cells in use, so a walk along it ends with no fuel.
pub spine-fits : {m : Store} {s : Slot} {t : Tree} → Den m s t → spine t ≤ m.used
spine-fits {m} {s} {t} d = denotes_spine m.words m.used s t d.is

-- Words past the end read as leaves, so a right edge is at most one longer than the words, whatever is in use.
pub spine-within : {m : Store} {s : Slot} {t : Tree} → Den m s t → spine t ≤ length m.words + 1
spine-within {m} {s} {t} d = denotes_within m.words m.used s t d.is

-- A tree is the same as itself.
pub same_tree_refl : (t : Tree) → same_tree t t ≡ true
same_tree_refl (leaf k l h) = rw (eq-eqb k k refl, eq-eqb l l refl, eq-eqb h h refl) refl
same_tree_refl (node k a b) = rw (eq-eqb k k refl, same_tree_refl a, same_tree_refl b) refl

-- Trees that are the same are equal, so that `same_tree` decides it.
pub same_tree-same : (t u : Tree) → same_tree t u ≡ true → t ≡ u
same_tree-same (leaf k l h) (leaf k' l' h') e =
    let p = and_parts (eqb k k') (eqb l l' && eqb h h') e in
    let q = and_parts (eqb l l') (eqb h h') p.1 in
    let r : k ≡ k' = eqb-true k k' p.0 in
    let r' : l ≡ l' = eqb-true l l' q.0 in
    let r'' : h ≡ h' = eqb-true h h' q.1 in
    cc
same_tree-same (leaf k l h) (node k' c d) e = absurd (false≢true e)
same_tree-same (node k a b) (leaf k' l' h') e = absurd (false≢true e)
same_tree-same (node k a b) (node k' c d) e =
    let p = and_parts (eqb k k') (same_tree a c && same_tree b d) e in
    let q = and_parts (same_tree a c) (same_tree b d) p.1 in
    let r : k ≡ k' = eqb-true k k' p.0 in
    let r' : a ≡ c = same_tree-same a c q.0 in
    let r'' : b ≡ d = same_tree-same b d q.1 in
    cc

-- A slot of a part of some words that begins where they do is theirs, ..
pub slot_take : (n : ℕ) (words : List ℕ) (j : ℕ) → 3 * j + 3 ≤ n → slot_at (take n words) j ≡ slot_at words j
slot_take n words j h =
    slot_same words (take n words) j
    (get_or-take n words (3 * j) 0 (omega arith)) (get_or-take n words (3 * j + 1) 0 (omega arith))
    (get_or-take n words (3 * j + 2) 0 (omega arith))

-- .. and so is one of words that others follow.
pub slot_append : (words more : List ℕ) (j : ℕ) → 3 * j + 3 ≤ length words → slot_at (words ++ more) j ≡ slot_at words j
slot_append words more j h =
    slot_same words (words ++ more) j
    (get_or_append_left words more 0 (3 * j) (omega arith)) (get_or_append_left words more 0 (3 * j + 1) (omega arith))
    (get_or_append_left words more 0 (3 * j + 2) (omega arith))

-- Slots that did not change denote what they did, ..
pub slots_same : (m : Store) (words words' : List ℕ) (j : ℕ) (ts : List Tree)
    → ((i : ℕ) → j ≤ i → i < j + length ts → slot_at words' i ≡ slot_at words i)
    → Slots m words j ts → Slots m words' j ts
slots_same m words words' j [] e d = tt
slots_same m words words' j (t ∷ ts) e d = (
  subst (λ q. Den m q t) (sym (e j (omega arith) (omega arith))) d.0,
  slots_same m words words' (j + 1) ts (λ i p q. e i (omega arith) (omega arith)) d.1,
)

-- .. and slots in a row denote the trees of the first ones and of those after them.
pub slots_append : (m : Store) (words : List ℕ) (j : ℕ) (ts us : List Tree) → Slots m words j ts
    → Slots m words (j + length ts) us → Slots m words j (ts ++ us)
slots_append m words j [] us d e = let q : j + 0 ≡ j = omega arith in subst (λ k. Slots m words k us) q e
slots_append m words j (t ∷ ts) us d e =
    let q : j + length (t ∷ ts) ≡ j + 1 + length ts = omega arith in
    (d.0, slots_append m words (j + 1) ts us d.1 (subst (λ k. Slots m words k us) q e))
