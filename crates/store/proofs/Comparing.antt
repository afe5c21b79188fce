-- The stack holds what is left to compare, so the answer is known when a pair differs or the stack is empty.
-- A step that opens a pair looks at a cell of the first tree that no other step looks at, so neither the steps nor the
-- pairs that wait are more than its cells.
use Rattle.std.proofs.Common.{◌≡◌, ℕ, ◌+◌, ◌-◌, ◌<◌, ◌≤◌, true, false, ◌&&◌, eqb, List, [], ◌∷◌, length, sym, refl, ap, ◌∙◌, subst, inl, inr, arith}
use mathlib.Core.Bool.{and_assoc, and-true}
use Rattle.std.proofs.lemmas.Bool.{and_left, cases_Bool, eq-eqb}
use Rattle.store.specs.Compare.{Told, Pair, all_pairs_same, weight, Pairs, Comparing}
use Rattle.store.specs.Heap.{Store, left_of, right_of, BothOf, Den}
use Rattle.store.specs.Tree.{Tree, leaf, node, cells, same_tree}
use Rattle.store.specs.declared.comparer.Compared.TheVariants.{Differ, Parts}
use Rattle.store.specs.declared.slot.Cell.{Cell}
use Rattle.store.specs.declared.slot.Slot.{Slot}
use Rattle.store.proofs.Laws.{leaf_is, leaf_kind, node_is, node_kind, node_left, node_right, one_tree}
use Rattle.store.proofs.Laws.{same_tree_refl, same_tree-same}

-- slots that are alike denote the same tree
alike_same : {m : Store} {x y : Slot} (s t : Tree) → x ≡ y → Den m x s → Den m y t → same_tree s t ≡ true
alike_same {m} s t e d d' =
    subst (λ u. same_tree s u ≡ true) (one_tree d (subst (λ q. Den m q t) (sym e) d')) (same_tree_refl s)

-- slots that are alike don't differ
pub alike_told : {x y : Slot} → Told x y Differ → x ≡ y → ⊥
alike_told w e = elim w [ inl n ↦ n (ap (λ (q : Slot). q.kind) e) | inr p ↦ p.1 e ]

-- no tree is denoted by two slots that tell that they differ
never_both : {m : Store} {x y : Slot} (t : Tree) → Told x y Differ → Den m x t → Den m y t → ⊥
never_both (leaf k l h) w d d' = alike_told w (leaf_is d ∙ sym (leaf_is d'))
never_both (node k a b) w d d' =
    elim w [ inl n ↦ n (node_is d ∙ sym (node_is d')) | inr p ↦ omega (arith, p.0, node_is d, node_kind d) ]

told-differ : {m : Store} {x y : Slot} (s t : Tree) → Told x y Differ → Den m x s → Den m y t → same_tree s t ≡ false
told-differ {m} {x} {y} s t w d d' =
    elim (cases_Bool (same_tree s t)) [
      | inl e ↦ absurd (never_both s w d (subst (Den m y) (sym (same_tree-same s t e)) d'))
      | inr e ↦ e
    ]

pub comparing_differs : {m : Store} {w : List Cell} {x y : Slot} {budget left : ℕ} {s t : Tree} → Told x y Differ
    → Comparing m w x y budget left s t → false ≡ same_tree s t
comparing_differs e k =
    sym (k.same ∙ and_left (same_tree k.one k.two) (all_pairs_same k.rest)
    (told-differ k.one k.two e k.here k.there))

-- the pair at hand is the same: what waits decides
rest_decides : {m : Store} {w : List Cell} {x y : Slot} {budget left : ℕ} {s t : Tree} → x ≡ y
    → (k : Comparing m w x y budget left s t) → same_tree s t ≡ all_pairs_same k.rest
rest_decides e k = k.same ∙ ap (λ z. z && all_pairs_same k.rest) (alike_same k.one k.two e k.here k.there)

pub comparing_done : {m : Store} {w : List Cell} {x y : Slot} {budget left : ℕ} {s t : Tree} → x ≡ y → w ≡ []
    → Comparing m w x y budget left s t → true ≡ same_tree s t
comparing_done {m} {w} {x} {y} {budget} {left} {s} {t} e z k =
    go k.rest (subst (λ v. Pairs m v k.rest) z k.stand) (rest_decides e k)
  where
    go : (ps : List Pair) → Pairs m [] ps → same_tree s t ≡ all_pairs_same ps → true ≡ same_tree s t
    go [] h q = sym q
    go (p ∷ ps) h q = absurd h

-- .. and is compared next, from the top of the stack
pub comparing_next : {m : Store} {w w' : List Cell} {x y : Slot} {budget left : ℕ} {s t : Tree} {p : Cell} → x ≡ y
    → w ≡ p ∷ w' → Comparing m w x y budget left s t → Comparing m w' p.left p.right budget left s t
comparing_next {m} {w} {w'} {x} {y} {budget} {left} {s} {t} {p} e z k =
    go k.rest (subst (λ v. Pairs m v k.rest) z k.stand) (rest_decides e k) k.steps
    (subst (λ v. length v + (cells k.one + weight k.rest) ≤ cells s) z k.room)
  where
    go : (ps : List Pair) → Pairs m (p ∷ w') ps → same_tree s t ≡ all_pairs_same ps
        → budget + (cells k.one + weight ps) ≤ left + cells s
        → length (p ∷ w') + (cells k.one + weight ps) ≤ cells s → Comparing m w' p.left p.right budget left s t
    go [] h q u v = absurd h
    go (r ∷ ps) h q u v = record {
      one = r.one;
      two = r.two;
      rest = ps;
      here = h.0;
      there = h.1;
      stand = h.2;
      same = q;
      steps = omega arith;
      room = omega arith;
    }

-- the pair at hand are nodes of one kind, with the cells p and q: the left slots are to be compared, and the right ones
record Opened (m : Store) (p q : Cell) (high budget left : ℕ) (rest : List Pair) (s t : Tree) : Type 0 where
  lefts : Pair
  rights : Pair
  left_one : Den m p.left lefts.one
  left_two : Den m q.left lefts.two
  right_one : Den m p.right rights.one
  right_two : Den m q.right rights.two
  same : same_tree s t ≡ (same_tree lefts.one lefts.two && (same_tree rights.one rights.two && all_pairs_same rest))
  steps : budget + (1 + cells lefts.one + cells rights.one + weight rest) ≤ left + cells s
  room : high + (1 + cells lefts.one + cells rights.one + weight rest) ≤ cells s

opened : {m : Store} {w : List Cell} {x y : Slot} {budget left : ℕ} {s t : Tree} {p q : Cell} → Told x y Parts
    → BothOf m.words x p → BothOf m.words y q
    → (k : Comparing m w x y budget left s t) → Opened m p q (length w) budget left k.rest s t
opened {m} {w} {x} {y} {budget} {left} {s} {t} {p} {q} e bp bq k =
    go k.one k.two k.here k.there k.same k.steps k.room
  where
    go : (one two : Tree) → Den m x one → Den m y two → same_tree s t ≡ (same_tree one two && all_pairs_same k.rest)
        → budget + (cells one + weight k.rest) ≤ left + cells s
        → length w + (cells one + weight k.rest) ≤ cells s → Opened m p q (length w) budget left k.rest s t
    go (leaf i l h) two d d' z u v = absurd (omega (arith, leaf_kind d, ap (λ (g : Slot). g.kind) (leaf_is d), e.0))
    go (node i a₁ a₂) (leaf i' l' h') d d' z u v = absurd
        (omega (arith, leaf_kind d', ap (λ (g : Slot). g.kind) (leaf_is d'), e.0, e.1))
    go (node i a₁ a₂) (node i' b₁ b₂) d d' z u v =
        let kinds : eqb i i' ≡ true = eq-eqb i i' (sym (node_is d) ∙ (e.1 ∙ node_is d')) in
        record {
          lefts = record { one = a₁; two = b₁ };
          rights = record { one = a₂; two = b₂ };
          left_one = subst (λ (g : Slot). Den m g a₁) (sym bp.left) (node_left d);
          left_two = subst (λ (g : Slot). Den m g b₁) (sym bq.left) (node_left d');
          right_one = subst (λ (g : Slot). Den m g a₂) (sym bp.right) (node_right d);
          right_two = subst (λ (g : Slot). Den m g b₂) (sym bq.right) (node_right d');
          same = z ∙ (ap (λ g. (g && (same_tree a₁ b₁ && same_tree a₂ b₂)) && all_pairs_same k.rest) kinds ∙ and_assoc
              (same_tree a₁ b₁) (same_tree a₂ b₂) (all_pairs_same k.rest));
          steps = omega arith;
          room = omega arith;
        }

-- the left slots are compared next, and the right ones wait
pub comparing_lefts : {m : Store} {w w' : List Cell} {x y : Slot} {budget left : ℕ} {s t : Tree} {p q : Cell}
    → Told x y Parts → 0 < left → BothOf m.words x p → BothOf m.words y q
    → w' ≡ record { left = p.right; right = q.right } ∷ w → Comparing m w x y budget left s t
    → Comparing m w' p.left q.left budget (left - 1) s t
comparing_lefts {m} {w} {w'} {s} e b bp bq z k =
    let o = opened e bp bq k in
    record {
      one = o.lefts.one;
      two = o.lefts.two;
      rest = o.rights ∷ k.rest;
      here = o.left_one;
      there = o.left_two;
      stand = subst (λ v. Pairs m v (o.rights ∷ k.rest)) (sym z) (o.right_one, o.right_two, k.stand);
      same = o.same;
      steps = omega (arith, b, o.steps);
      room = omega (arith, o.room, ap length z);
    }

-- the left slots are alike: the right ones are compared next
pub comparing_rights : {m : Store} {w : List Cell} {x y : Slot} {budget left : ℕ} {s t : Tree} {p q : Cell}
    → Told x y Parts → 0 < left → BothOf m.words x p → BothOf m.words y q → p.left ≡ q.left
    → Comparing m w x y budget left s t → Comparing m w p.right q.right budget (left - 1) s t
comparing_rights e b bp bq alike k =
    let o = opened e bp bq k in
    record {
      one = o.rights.one;
      two = o.rights.two;
      rest = k.rest;
      here = o.right_one;
      there = o.right_two;
      stand = k.stand;
      same = o.same
          ∙ ap (λ g. g && (same_tree o.rights.one o.rights.two && all_pairs_same k.rest))
          (alike_same o.lefts.one o.lefts.two alike o.left_one o.left_two);
      steps = omega (arith, b, o.steps);
      room = omega (arith, o.room);
    }

-- a pair that is opened is a cell more of the first tree
pub comparing_short : {m : Store} {w : List Cell} {x y : Slot} {budget left : ℕ} {s t : Tree} → Told x y Parts
    → Comparing m w x y budget left s t → (length w < cells s) × (budget < left + cells s)
comparing_short {m} {w} {x} {y} e k =
    let p : Cell = record { left = left_of m.words x; right = right_of m.words x } in
    let q : Cell = record { left = left_of m.words y; right = right_of m.words y } in
    let o = opened {p = p} {q = q} e (record { left = refl; right = refl }) (record { left = refl; right = refl }) k in
    (omega (arith, o.room), omega (arith, o.steps))
