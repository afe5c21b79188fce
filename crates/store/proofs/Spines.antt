-- A right edge is at most as long as the cells in use.
-- The cells on it are all different, since a cell denotes one tree and the trees on the edge differ in length; so there
-- are no more of them than numbers below `used`.
use Rattle.std.proofs.Common.{◌≡◌, ℕ, zero, suc, ◌+◌, ◌*◌, ◌<◌, ◌≤◌, cond, eqb, ◌⊎◌, List, length, sym, refl, ap, ◌∙◌, subst, inl, inr, arith}
use Rattle.std.proofs.lemmas.Bool.Decides.{eqb_tells, leb_tells}
use Rattle.store.specs.Heap.{Denotes}
use Rattle.store.specs.Slots.{slot_at, place_of}
use Rattle.store.specs.Tree.{Tree, leaf, node, spine}
use Rattle.store.specs.declared.slot.Slot.{Slot}
use Rattle.store.proofs.Denoting.{denotes_one}
use Rattle.store.proofs.Words.{slot_past}

-- x, but v in place of m
swapped : ℕ → ℕ → ℕ → ℕ
swapped m v x = cond (eqb x m) v x

swapped_is : (m v x : ℕ) → ((x ≡ m) × (swapped m v x ≡ v)) ⊎ ((x ≡ m → ⊥) × (swapped m v x ≡ x))
unfolding swapped
swapped_is m v x =
    elim (eqb_tells x m) [
      | inl p ↦ inl (p.1, ap (λ b. cond b v x) p.0)
      | inr p ↦ inr (p.1, ap (λ b. cond b v x) p.0)
    ]

-- the pigeonhole principle: n different numbers below m are at most m
pigeonhole : (m n : ℕ) (f : ℕ → ℕ) → ((i : ℕ) → i < n → f i < m) → ((i j : ℕ) → i < n → j < n → f i ≡ f j → i ≡ j)
    → n ≤ m
pigeonhole m zero f b e = omega arith
pigeonhole zero (suc n) f b e = absurd (omega (arith, b 0 (omega arith)))
pigeonhole (suc m) (suc n) f b e =
    let le : n ≤ m = pigeonhole m n (λ i. swapped m (f n) (f i))
    (λ i h. elim (swapped_is m (f n) (f i)) [
      | inl p ↦ let ne : f n ≡ m → ⊥ = λ q.
          (let w : i ≡ n = e i n (omega arith) (omega arith) (p.0 ∙ sym q) in omega arith) in
          let lt : f n < suc m = b n (omega arith) in omega (arith, p.1)
      | inr p ↦ let lt : f i < suc m = b i (omega arith) in omega (arith, p.1, p.0)
    ])
    (λ i j h k q. elim (swapped_is m (f n) (f i)) [
      | inl p ↦ elim (swapped_is m (f n) (f j)) [
        | inl r ↦ e i j (omega arith) (omega arith) (p.0 ∙ sym r.0)
        | inr r ↦ let w : n ≡ j = e n j (omega arith) (omega arith) (sym p.1 ∙ (q ∙ r.1)) in absurd (omega arith)
      ]
      | inr p ↦ elim (swapped_is m (f n) (f j)) [
        | inl r ↦ let w : i ≡ n = e i n (omega arith) (omega arith) (sym p.1 ∙ (q ∙ r.1)) in absurd (omega arith)
        | inr r ↦ e i j (omega arith) (omega arith) (sym p.1 ∙ (q ∙ r.1))
      ]
    ]) in
    omega arith

-- the cell on the edge that has i nodes below it
edge_cell : List ℕ → Slot → Tree → ℕ → ℕ
edge_cell words s (leaf k l h) i = 0
edge_cell words s (node k a b) i =
    cond (eqb i (spine b)) (place_of s) (edge_cell words (slot_at words (2 * place_of s + 1)) b i)

record OnEdge (words : List ℕ) (used c i : ℕ) : Type 0 where
  within : c < used
  tree : Tree
  right : Denotes words used (slot_at words (2 * c + 1)) tree
  below : spine tree ≡ i

on_edge : (words : List ℕ) (used : ℕ) (s : Slot) (t : Tree) (i : ℕ) → Denotes words used s t → i < spine t
    → OnEdge words used (edge_cell words s t i) i
unfolding edge_cell
on_edge words used s (leaf k l h) i d lt = absurd (omega arith)
on_edge words used s (node k a b) i d lt =
    elim (eqb_tells i (spine b)) [
      | inl p ↦ subst (λ z. OnEdge words used
          (cond z (place_of s) (edge_cell words (slot_at words (2 * place_of s + 1)) b i)) i) (sym p.0)
          (record { within = d.2; tree = b; right = d.4; below = sym p.1 })
      | inr p ↦ subst (λ z. OnEdge words used
          (cond z (place_of s) (edge_cell words (slot_at words (2 * place_of s + 1)) b i)) i) (sym p.0)
          (on_edge words used (slot_at words (2 * place_of s + 1)) b i d.4 (omega (arith, p.1)))
    ]

-- cells on the edge that have the same nodes below them are one
edge_one : (words : List ℕ) (used : ℕ) (s : Slot) (t : Tree) → Denotes words used s t → (i j : ℕ) → i < spine t → j < spine t
    → edge_cell words s t i ≡ edge_cell words s t j → i ≡ j
edge_one words used s t d i j h k q =
    let x = on_edge words used s t i d h in
    let y = on_edge words used s t j d k in
    let trees : x.tree ≡ y.tree =
    denotes_one words used (slot_at words (2 * edge_cell words s t i + 1)) x.tree y.tree x.right
    (subst (λ c. Denotes words used (slot_at words (2 * c + 1)) y.tree) (sym q) y.right) in
    sym x.below ∙ (ap spine trees ∙ y.below)

pub denotes_spine : (words : List ℕ) (used : ℕ) (s : Slot) (t : Tree) → Denotes words used s t → spine t ≤ used
denotes_spine words used s t d =
    pigeonhole used (spine t) (edge_cell words s t) (λ i h. (on_edge words used s t i d h).within) (edge_one words used s t d)

-- a slot past the end of the words is a leaf
past_leaf : (words : List ℕ) (used j : ℕ) (t : Tree) → length words ≤ 3 * j → Denotes words used (slot_at words j) t → spine t ≡ 0
past_leaf words used j (leaf k l h) p d = refl
past_leaf words used j (node k a b) p d =
    absurd (omega (arith, d.0, ap (λ (q : Slot). q.kind) (slot_past words j p)))

-- so all cells on an edge but the last lie among the words
pub denotes_within : (words : List ℕ) (used : ℕ) (s : Slot) (t : Tree) → Denotes words used s t → spine t ≤ length words + 1
denotes_within words used s (leaf k l h) d = omega arith
denotes_within words used s (node k a b) d =
    let le : spine b ≤ length words = pigeonhole (length words) (spine b) (λ i. edge_cell words s (node k a b) (suc i))
    (λ i h.
    let x = on_edge words used s (node k a b) (suc i) d (omega arith) in
    elim (leb_tells (length words) (edge_cell words s (node k a b) (suc i))) [
      | inl p ↦ absurd (omega (arith, x.below, past_leaf words used (2 * edge_cell words s (node k a b) (suc i) + 1) x.tree (omega (arith, p.1)) x.right))
      | inr p ↦ p.1
    ])
    (λ i j h l q. let w : suc i ≡ suc j = edge_one words used s (node k a b) d (suc i) (suc j) (omega arith) (omega arith) q in omega arith) in
    omega arith
