-- What a slot denotes stays denoted while the cells in use stay, a new cell is denoted, and no slot denotes two trees.
-- Each is an induction on the tree: a node's slots lie among the cells in use.
use Rattle.std.proofs.Common.{◌≡◌, ℕ, ◌+◌, ◌*◌, ◌≤◌, List, length, sym, refl, ap, ◌∙◌, subst, arith}
use Rattle.store.specs.Heap.{Store, store_of, left_of, right_of, Denotes, Kept, Put}
use Rattle.store.specs.Slots.{slot_at, place_of, WroteCell}
use Rattle.store.specs.Tree.{Tree, leaf, node}
use Rattle.store.specs.declared.slot.Cell.{Cell}
use Rattle.store.specs.declared.slot.Slot.{Slot}

pub denotes_kept : {m m' : Store} → Kept m m' → (s : Slot) (t : Tree) → Denotes m.words m.used s t
    → Denotes m'.words m'.used s t
denotes_kept g s (leaf k l h) d = d
denotes_kept {m} {m'} g s (node k a b) d = (
  d.0,
  d.1,
  omega (arith, g.more),
  subst (λ q. Denotes m'.words m'.used q a) (sym (g.same (2 * place_of s) (omega arith)))
      (denotes_kept g (slot_at m.words (2 * place_of s)) a d.3),
  subst (λ q. Denotes m'.words m'.used q b) (sym (g.same (2 * place_of s + 1) (omega arith)))
      (denotes_kept g (slot_at m.words (2 * place_of s + 1)) b d.4),
)

pub denotes_one : (words : List ℕ) (used : ℕ) (s : Slot) (t u : Tree) → Denotes words used s t
    → Denotes words used s u → t ≡ u
denotes_one words used s (leaf k l h) (leaf k' l' h') d e =
    let p : k ≡ k' = sym d.1 ∙ e.1 in let q : l ≡ l' = sym d.2 ∙ e.2 in let r : h ≡ h' = sym d.3 ∙ e.3 in cc
denotes_one words used s (leaf k l h) (node k' c g) d e = absurd (omega (arith, d.0, e.0))
denotes_one words used s (node k a b) (leaf k' l' h') d e = absurd (omega (arith, d.0, e.0))
denotes_one words used s (node k a b) (node k' c g) d e =
    let p : k ≡ k' = sym d.1 ∙ e.1 in
    let q : a ≡ c = denotes_one words used (slot_at words (2 * place_of s)) a c d.3 e.3 in
    let r : b ≡ g = denotes_one words used (slot_at words (2 * place_of s + 1)) b g d.4 e.4 in
    cc

-- the cell after those in use was written
pub kept_cell : (words words' : List ℕ) (used : ℕ) {x : Cell} → WroteCell words words' used x
    → Kept (store_of words used) (store_of words' (used + 1))
kept_cell words words' used w =
    record { more = omega arith; same = λ j h. w.other j (λ e. omega arith) (λ e. omega arith) }

pub put_cell : (words words' : List ℕ) (used kind : ℕ) (x : Cell) (r : Slot) → 6 * (used + 1) ≤ length words'
    → r.kind ≡ kind → place_of r ≡ used → WroteCell words words' used x
    → Put (store_of words used) (store_of words' (used + 1)) kind x.left x.right r
unfolding left_of right_of
put_cell words words' used kind x r n k p w =
    let g = kept_cell words words' used w in
    let l : slot_at words' (2 * place_of r) ≡ x.left = ap (λ q. slot_at words' (2 * q)) p ∙ w.left in
    let h : slot_at words' (2 * place_of r + 1) ≡ x.right = ap (λ q. slot_at words' (2 * q + 1)) p ∙ w.right in
    record {
      kept = g;
      stands = λ {s} {t} b d e.
          record {
            is = (
              omega arith,
              k,
              omega arith,
              subst (λ q. Denotes words' (used + 1) q s) (sym l) (denotes_kept g x.left s d.is),
              subst (λ q. Denotes words' (used + 1) q t) (sym h) (denotes_kept g x.right t e.is),
            );
          };
      count = refl;
      fits = n;
      place = p;
      kind_is = k;
      left = l;
      right = h;
    }
