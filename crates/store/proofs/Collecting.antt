-- Copying loses nothing and is exact.
-- While the scan stands at slot `scan`, each slot below it refers to the copies, and each later one to `from`. To scan a
-- slot moves it over that line and puts at most one cell at the end (`mixed_step`). The cells in use and those of the
-- trees that wait at the later slots have one sum all the time (`waiting_step`), so that is the number in the end.
use Rattle.std.proofs.Common.{◌≡◌, ℕ, ◌+◌, ◌*◌, ◌/◌, ◌<◌, ◌≤◌, ◌⊎◌, List, [], ◌∷◌, ◌++◌, length, sym, refl, ap, ◌∙◌, subst, inl, inr, add-one, arith}
use Rattle.std.proofs.lemmas.List.{length-append}
use Rattle.std.proofs.lemmas.Bool.{cases_lt, cond-true, cond-false, lt-ltb, le-ltb}
use Rattle.store.specs.Collect.{own, own_below, Redirected, Copied, Appended, Mixed, Waiting, Roots}
use Rattle.store.specs.Heap.{Store, store_of, stored, left_of, right_of, BothOf, Denotes, Den, Kept, Put, SameWords, Slots}
use Rattle.store.specs.Slots.{slot_at, place_of, Wrote}
use Rattle.store.specs.Tree.{Tree, leaf, node, cells, total}
use Rattle.store.specs.declared.slot.Cell.{Cell}
use Rattle.store.specs.declared.heap.Heap.{Heap}
use Rattle.store.specs.declared.slot.Slot.{Slot}
use Rattle.store.proofs.Laws.{kept_refl, slots_append, slots_same}

-- one slot and its cell

pub own_leaf : (s : Slot) → s.kind < 16 → own s ≡ 0
own_leaf s h = cond-true _ 0 1 (lt-ltb s.kind 16 h)

pub own_node : (s : Slot) → 16 ≤ s.kind → own s ≡ 1
own_node s h = cond-false _ 0 1 (le-ltb s.kind 16 h)

pub own-one : (s : Slot) → own s ≤ 1
own-one s = elim (cases_lt s.kind 16) [ inl l ↦ omega (arith, own_leaf s l) | inr l ↦ omega (arith, own_node s l) ]

pub own_more : (words : List ℕ) (i : ℕ) → own_below words (i + 1) ≡ own_below words i + own (slot_at words i)
own_more words i = ap (own_below words) (add-one i)

-- a cell that was put with what stands in `from` is a copy
pub appended_node : {from : List ℕ} {m m' : Store} {s r : Slot} {x : Cell} → 16 ≤ s.kind → BothOf from s x
    → Put m m' s.kind x.left x.right r → Appended from m m' s r
unfolding left_of right_of
appended_node {from} {m} {m'} {s} h b p =
    record {
      copied = record {
        count = omega (arith, own_node s h, p.count);
        cell = λ n. (
          ap (λ i. slot_at m'.words (2 * i)) (sym p.place) ∙ (p.left ∙ b.left),
          ap (λ i. slot_at m'.words (2 * i + 1)) (sym p.place) ∙ (p.right ∙ b.right),
        );
      };
      kept = p.kept;
      refers = record { as_leaf = λ l. absurd (omega arith); as_node = λ n. (p.kind_is, p.place) };
      fits = p.fits;
    }

-- a leaf has no cell to copy
pub appended_leaf : (from : List ℕ) (m : Store) {s q : Slot} → s ≡ q → 6 * m.used ≤ length m.words → s.kind < 16
    → Appended from m m q q
appended_leaf from m {s} e f h =
    subst (λ x. Appended from m m x x) e
    (record {
      copied = record { count = omega (arith, own_leaf s h); cell = λ n. absurd (omega arith) };
      kept = kept_refl;
      refers = record { as_leaf = λ l. refl; as_node = λ n. absurd (omega arith) };
      fits = f;
    })

-- what is said of a slot is said of an equal one
pub appended_at : {from : List ℕ} {m m' : Store} {s q r : Slot} → s ≡ q → Appended from m m' s r
    → Appended from m m' q r
appended_at {from} {m} {m'} {s} {q} {r} e a = subst (λ x. Appended from m m' x r) e a

-- a slot whose cell was copied denotes what it did: its cell waits
pub landed : (from : Store) (to : List ℕ) (used used' scan : ℕ) (s s' : Slot) (t : Tree)
    → Copied from.words to used used' s → Redirected used s s'
    → scan ≤ 2 * used → Den from s t → Mixed from to scan used' s' t
landed from to used used' scan s s' (leaf k l h) c r le d =
    subst (λ q. Mixed from to scan used' q (leaf k l h)) (sym (r.as_leaf d.is.0)) d.is
landed from to used used' scan s s' (node k a b) c r le d =
    let one = own_node s d.is.0 in
    let n = r.as_node d.is.0 in
    let x = c.cell d.is.0 in
    let e : slot_at to (2 * place_of s') ≡ slot_at from.words (2 * place_of s) =
    ap (λ i. slot_at to (2 * i)) n.1 ∙ x.0 in
    let e' : slot_at to (2 * place_of s' + 1) ≡ slot_at from.words (2 * place_of s + 1) =
    ap (λ i. slot_at to (2 * i + 1)) n.1 ∙ x.1 in (
      omega (arith, n.0, d.is.0),
      n.0 ∙ d.is.1,
      omega (arith, n.1, c.count, one),
      ((λ b'. absurd (omega (arith, n.1))), (λ b'. subst (λ q. Den from q a) (sym e) (record { is = d.is.3 }))),
      ((λ b'. absurd (omega (arith, n.1))), (λ b'. subst (λ q. Den from q b) (sym e') (record { is = d.is.4 }))),
    )

-- the half copied store

pub mixed_kept : (from : Store) {to to' : List ℕ} {used used' : ℕ} (scan : ℕ) (s : Slot) (t : Tree)
    → Kept (store_of to used) (store_of to' used')
    → Mixed from to scan used s t → Mixed from to' scan used' s t
mixed_kept from scan s (leaf k l h) g d = d
mixed_kept from {to} {to'} {used} {used'} scan s (node k a b) g d =
    let e : slot_at to (2 * place_of s) ≡ slot_at to' (2 * place_of s) = sym (g.same (2 * place_of s) (omega arith)) in
    let e' : slot_at to (2 * place_of s + 1) ≡ slot_at to' (2 * place_of s + 1) =
    sym (g.same (2 * place_of s + 1) (omega arith)) in (
      d.0,
      d.1,
      omega (arith, g.more),
      (
        (λ h. subst (λ q. Mixed from to' scan used' q a) e
            (mixed_kept from scan (slot_at to (2 * place_of s)) a g (d.3.0 h))),
        (λ h. subst (λ q. Den from q a) e (d.3.1 h)),
      ),
      (
        (λ h. subst (λ q. Mixed from to' scan used' q b) e'
            (mixed_kept from scan (slot_at to (2 * place_of s + 1)) b g (d.4.0 h))),
        (λ h. subst (λ q. Den from q b) e' (d.4.1 h)),
      ),
    )

-- nothing waits: what is mixed is copied
pub mixed_done : (from : Store) (to : List ℕ) (scan used : ℕ) (s : Slot) (t : Tree) → 2 * used ≤ scan
    → Mixed from to scan used s t → Denotes to used s t
mixed_done from to scan used s (leaf k l h) e d = d
mixed_done from to scan used s (node k a b) e d = (
  d.0,
  d.1,
  d.2,
  mixed_done from to scan used (slot_at to (2 * place_of s)) a e (d.3.0 (omega arith)),
  mixed_done from to scan used (slot_at to (2 * place_of s + 1)) b e (d.4.0 (omega arith)),
)

below_or_at : (i n : ℕ) → i < n + 1 → (i < n) ⊎ (i ≡ n)
below_or_at i n h = grind arith

-- slot `scan` was scanned: its cell was put at the end, and then it was redirected
module _ (from : Store) {to to₁ to' : List ℕ} {used used' scan : ℕ} {s' : Slot} (lt : scan < 2 * used)
    (c : Appended from.words (store_of to used) (store_of to₁ used') (slot_at to scan) s')
    (w : Wrote to₁ to' scan s') where
  same-below : (i : ℕ) → i < 2 * used → (i ≡ scan → ⊥) → slot_at to' i ≡ slot_at to i
  same-below i h n = w.other i n ∙ c.kept.same i h

  copied_still : Copied from.words to' used used' (slot_at to scan)
  copied_still =
      record {
        count = c.copied.count;
        cell = λ b. let x = c.copied.cell b in
            (w.other (2 * used) (λ e. omega arith) ∙ x.0, w.other (2 * used + 1) (λ e. omega arith) ∙ x.1);
      }

  slot_step : (i : ℕ) (t : Tree) → i < 2 * used
      → ((q : Slot) → Mixed from to scan used q t → Mixed from to' (scan + 1) used' q t)
      → (i < scan → Mixed from to scan used (slot_at to i) t) × (scan ≤ i → Den from (slot_at to i) t)
      → (i < scan + 1 → Mixed from to' (scan + 1) used' (slot_at to' i) t) × (scan + 1 ≤ i → Den from (slot_at to' i) t)
  unfolding same-below copied_still
  slot_step i t h rec d = (
    (λ b. elim (below_or_at i scan b) [
      | inl l ↦ subst (λ q. Mixed from to' (scan + 1) used' q t) (sym (same-below i h (λ e. omega arith)))
          (rec (slot_at to i) (d.0 l))
      | inr e ↦ subst (λ q. Mixed from to' (scan + 1) used' q t) (sym (ap (slot_at to') e ∙ w.here))
          (landed from to' used used' (scan + 1) (slot_at to scan) s' t copied_still c.refers (omega arith)
          (subst (λ x. Den from (slot_at to x) t) e (d.1 (omega arith))))
    ]),
    (λ b. subst (λ q. Den from q t) (sym (same-below i h (λ e. omega arith))) (d.1 (omega arith))),
  )

  pub mixed_step : (s : Slot) (t : Tree) → Mixed from to scan used s t → Mixed from to' (scan + 1) used' s t
  mixed_step s (leaf k l h) d = d
  mixed_step s (node k a b) d = (
    d.0,
    d.1,
    omega (arith, c.kept.more),
    slot_step (2 * place_of s) a (omega arith) (λ q m. mixed_step q a m) d.3,
    slot_step (2 * place_of s + 1) b (omega arith) (λ q m. mixed_step q b m) d.4,
  )

total-append : (ts us : List Tree) → total (ts ++ us) ≡ total ts + total us
total-append [] us = omega arith
total-append (t ∷ ts) us = omega (arith, total-append ts us)

-- what waits

-- the trees of the cell that was put at the end
record NewTrees (from : Store) (to : List ℕ) (used used' : ℕ) (t : Tree) : Type 0 where
  trees : List Tree
  long : 2 * used + length trees ≡ 2 * used'
  stand : Slots from to (2 * used) trees
  adds : used' + total trees ≡ used + cells t

new_trees : {from : Store} {to : List ℕ} {used used' : ℕ} {s : Slot} (t : Tree) → Copied from.words to used used' s
    → Den from s t → NewTrees from to used used' t
new_trees {from} {to} {used} {used'} {s} (leaf k l h) c d =
    let none = own_leaf s d.is.0 in
    record { trees = []; long = omega (arith, c.count); stand = tt; adds = omega (arith, c.count) }
new_trees {from} {to} {used} {used'} {s} (node k a b) c d =
    let one = own_node s d.is.0 in
    let x = c.cell d.is.0 in
    record {
      trees = a ∷ b ∷ [];
      long = omega (arith, c.count);
      stand = (
        subst (λ q. Den from q a) (sym x.0) (record { is = d.is.3 }),
        (subst (λ q. Den from q b) (sym x.1) (record { is = d.is.4 }), tt),
      );
      adds = omega (arith, c.count);
    }

-- a slot that refers to a cell waits for one at least
pub takes_cell : {m : Store} {s : Slot} (t : Tree) → 16 ≤ s.kind → Den m s t → 1 ≤ cells t
takes_cell (leaf k l h) b d = absurd (omega (arith, d.is.0))
takes_cell (node k x y) b d = omega arith

-- the slot that is scanned next
pub record Next (from : Store) (to : List ℕ) (scan used sum : ℕ) : Type 0 where
  pub tree : Tree
  pub rest : List Tree
  pub long : scan + 1 + length rest ≡ 2 * used
  pub here : Den from (slot_at to scan) tree
  pub stand : Slots from to (scan + 1) rest
  pub adds : used + cells tree + total rest ≡ sum

pub next : {from : Store} {to : List ℕ} {scan used sum : ℕ} → scan < 2 * used → Waiting from to scan used sum
    → Next from to scan used sum
next {from} {to} {scan} {used} {sum} lt q = go q.trees q.long q.stand q.adds
  where
    go : (ts : List Tree) → scan + length ts ≡ 2 * used → Slots from to scan ts → used + total ts ≡ sum
        → Next from to scan used sum
    go [] l d a = absurd (omega arith)
    go (t ∷ ts) l d a = record {
      tree = t;
      rest = ts;
      long = omega arith;
      here = d.0;
      stand = d.1;
      adds = omega
          arith;
    }

pub waiting_step : {from : Store} {to to₁ to' : List ℕ} {used used' scan sum : ℕ} {s' : Slot} → scan < 2 * used
    → Appended from.words (store_of to used) (store_of to₁ used') (slot_at to scan) s' → Wrote to₁ to' scan s'
    → Waiting from to scan used sum → Waiting from to' (scan + 1) used' sum
waiting_step {from} {to} {to₁} {to'} {used} {used'} {scan} lt c w q =
    let n = next lt q in
    let a = new_trees n.tree c.copied n.here in
    let end : 2 * used ≡ scan + 1 + length n.rest = omega (arith, n.long) in
    record {
      trees = n.rest ++ a.trees;
      long = omega (arith, length-append n.rest a.trees, a.long, n.long);
      stand = slots_append from to' (scan + 1) n.rest a.trees
          (slots_same from to to' (scan + 1) n.rest
          (λ i p b. w.other i (λ e. omega arith) ∙ c.kept.same i (omega (arith, n.long))) n.stand)
          (subst (λ k. Slots from to' k a.trees) end
          (slots_same from to₁ to' (2 * used) a.trees (λ i p b. w.other i (λ e. omega arith)) a.stand));
      adds = omega (arith, total-append n.rest a.trees, a.adds, n.adds);
    }

-- nothing waits: the cells in use are all
pub waiting_done : {from : Store} {to : List ℕ} {scan used sum : ℕ} → 2 * used ≤ scan → Waiting from to scan used sum
    → used ≡ sum
waiting_done {from} {to} {scan} {used} {sum} le q = go q.trees q.long q.adds
  where
    go : (ts : List Tree) → scan + length ts ≡ 2 * used → used + total ts ≡ sum → used ≡ sum
    go [] l a = omega arith
    go (t ∷ ts) l a = absurd (omega arith)

-- slot j of the copies is scanned next
pub record Scanning (from : List ℕ) (h₀ h : Heap) (j : ℕ) : Type 0 where
  pub same : SameWords h₀ h
  pub fits : 6 * h.used ≤ length h.words.now
  pub below : j ≤ 2 * h.used
  pub waiting : (top sum : ℕ) → Waiting (store_of from top) h₀.words.now 0 h₀.used sum
      → Waiting (store_of from top) h.words.now j h.used sum
  pub stands : (top : ℕ) (s : Slot) (t : Tree) → Mixed (store_of from top) h₀.words.now 0 h₀.used s t
      → Mixed (store_of from top) h.words.now j h.used s t

pub scanning_step : {from : List ℕ} {h₀ h h' : Heap} {words : List ℕ} {j : ℕ} {s' : Slot} → j < 2 * h.used
    → Appended from (stored h) (store_of words h'.used) (slot_at h.words.now j) s' → Wrote words h'.words.now j s'
    → length h'.words.now ≡ length words → SameWords h h' → Scanning from h₀ h j → Scanning from h₀ h' (j + 1)
scanning_step {from} lt a w n e k =
    record {
      same = record { long = e.long ∙ k.same.long; lent = e.lent ∙ k.same.lent };
      fits = omega (arith, a.fits, n);
      below = omega (arith, a.kept.more, lt);
      waiting = λ top sum q. waiting_step lt a w (k.waiting top sum q);
      stands = λ top s t d. mixed_step (store_of from top) lt a w s t (k.stands top s t d);
    }

pub scanning_leaf : {from : List ℕ} {h₀ h : Heap} {j : ℕ} {s : Slot} → j < 2 * h.used → s ≡ slot_at h.words.now j
    → s.kind < 16 → Scanning from h₀ h j → Scanning from h₀ h (j + 1)
scanning_leaf {from} {h₀} {h} {j} lt e b k =
    scanning_step {h' = h} {words = h.words.now} lt (appended_leaf from (stored h) e k.fits b)
    (record { here = refl; other = λ i n. refl }) refl (record { long = refl; lent = refl }) k

-- the roots

-- while the roots are copied those from i on wait too
pub record Ahead (from : Store) (to roots : List ℕ) (i n used whole : ℕ) : Type 0 where
  pub rest : List Tree
  pub long : i + length rest ≡ n
  pub stand : Slots from roots i rest
  pub sum : ℕ
  pub waiting : Waiting from to 0 used sum
  pub adds : sum + total rest ≡ whole

-- the root that is copied next
pub record NextRoot (from : Store) (to roots : List ℕ) (i n used whole : ℕ) : Type 0 where
  pub tree : Tree
  pub rest : List Tree
  pub long : i + 1 + length rest ≡ n
  pub here : Den from (slot_at roots i) tree
  pub stand : Slots from roots (i + 1) rest
  pub sum : ℕ
  pub waiting : Waiting from to 0 used sum
  pub adds : sum + cells tree + total rest ≡ whole

pub next_root : {from : Store} {to roots : List ℕ} {i n used whole : ℕ} → i < n → Ahead from to roots i n used whole
    → NextRoot from to roots i n used whole
next_root {from} {to} {roots} {i} {n} {used} {whole} lt a = go a.rest a.long a.stand a.adds
  where
    go : (ts : List Tree) → i + length ts ≡ n → Slots from roots i ts → a.sum + total ts ≡ whole
        → NextRoot from to roots i n used whole
    go [] l d e = absurd (omega arith)
    go (t ∷ ts) l d e = record {
      tree = t;
      rest = ts;
      long = omega arith;
      here = d.0;
      stand = d.1;
      sum = a.sum;
      waiting = a.waiting;
      adds = omega arith;
    }

waiting_more : {from : Store} {to to' : List ℕ} {used used' sum : ℕ} {t : Tree}
    → Kept (store_of to used) (store_of to' used') → NewTrees from to' used used' t
    → Waiting from to 0 used sum → Waiting from to' 0 used' (sum + cells t)
waiting_more {from} {to} {to'} {used} g a q =
    let end : 2 * used ≡ 0 + length q.trees = omega (arith, q.long) in
    record {
      trees = q.trees ++ a.trees;
      long = omega (arith, length-append q.trees a.trees, a.long, q.long);
      stand = slots_append from to' 0 q.trees a.trees
          (slots_same from to to' 0 q.trees (λ i p b. g.same i (omega (arith, q.long))) q.stand)
          (subst (λ k. Slots from to' k a.trees) end a.stand);
      adds = omega (arith, total-append q.trees a.trees, a.adds, q.adds);
    }

pub ahead_step : {from : Store} {to to' roots : List ℕ} {i n used used' whole : ℕ} {r : Slot} → i < n
    → Appended from.words (store_of to used) (store_of to' used') (slot_at roots i) r
    → Ahead from to roots i n used whole → Ahead from to' roots (i + 1) n used' whole
ahead_step lt c a =
    let h = next_root lt a in
    record {
      rest = h.rest;
      long = h.long;
      stand = h.stand;
      sum = h.sum + cells h.tree;
      waiting = waiting_more c.kept (new_trees h.tree c.copied h.here) h.waiting;
      adds = h.adds;
    }

pub roots_step : (from : Store) {to to' : List ℕ} (roots : List ℕ) (i : ℕ) {used used' : ℕ} {s : Slot} → used ≡ own_below roots i
    → Appended from.words (store_of to used) (store_of to' used') (slot_at roots i) s
    → ((k : ℕ) (t : Tree) (s' : Slot) → k < i → Den from (slot_at roots k) t
    → Redirected (own_below roots k) (slot_at roots k) s' → Mixed from to 0 used s' t)
    → (k : ℕ) (t : Tree) (s' : Slot) → k < i + 1 → Den from (slot_at roots k) t
    → Redirected (own_below roots k) (slot_at roots k) s' → Mixed from to' 0 used' s' t
roots_step from {to} {to'} roots i {used} {used'} u c old k t s' b d r =
    elim (below_or_at k i b) [
      | inl l ↦ mixed_kept from 0 s' t c.kept (old k t s' l d r)
      | inr e ↦ landed from to' used used' 0 (slot_at roots i) s' t c.copied
          (subst (λ n. Redirected n (slot_at roots i) s') (sym u)
          (subst (λ x. Redirected (own_below roots x) (slot_at roots x) s') e r))
          (omega arith) (subst (λ x. Den from (slot_at roots x) t) e d)
    ]

-- the roots below i have been copied
pub record RootsBelow (from : List ℕ) (h₀ h : Heap) (roots : List ℕ) (i : ℕ) : Type 0 where
  pub same : SameWords h₀ h
  pub fits : 6 * h.used ≤ length h.words.now
  pub count : h.used ≡ own_below roots i
  pub stands : (top k : ℕ) (t : Tree) (s' : Slot) → k < i → Den (store_of from top) (slot_at roots k) t
      → Redirected (own_below roots k) (slot_at roots k) s' → Mixed (store_of from top) h.words.now 0 h.used s' t
  pub ahead : (top : ℕ) (ts : List Tree) → Roots (store_of from top) roots ts
      → Ahead (store_of from top) h.words.now roots i (length roots / 3) h.used (total ts)

pub roots_below_step : {from : List ℕ} {h₀ h h' : Heap} {roots : List ℕ} {i : ℕ} {r : Slot} → i < length roots / 3
    → Appended from (stored h) (stored h') (slot_at roots i) r → SameWords h h' → RootsBelow from h₀ h roots i
    → RootsBelow from h₀ h' roots (i + 1)
roots_below_step {from} {h₀} {h} {h'} {roots} {i} lt a e k =
    record {
      same = record { long = e.long ∙ k.same.long; lent = e.lent ∙ k.same.lent };
      fits = a.fits;
      count = omega (arith, a.copied.count, k.count, own_more roots i);
      stands = λ top. roots_step (store_of from top) roots i k.count a (k.stands top);
      ahead = λ top ts q. ahead_step lt a (k.ahead top ts q);
    }

pub roots_below_leaf : {from : List ℕ} {h₀ h : Heap} {roots : List ℕ} {i : ℕ} {s : Slot} → i < length roots / 3
    → s ≡ slot_at roots i → s.kind < 16 → RootsBelow from h₀ h roots i → RootsBelow from h₀ h roots (i + 1)
roots_below_leaf {from} {h₀} {h} {roots} {i} lt e b k =
    roots_below_step {h' = h} lt (appended_leaf from (stored h) e k.fits b)
    (record { long = refl; lent = refl }) k

redirected_step : (roots : List ℕ) {words words' : List ℕ} (i : ℕ) {s' : Slot}
    → Redirected (own_below roots i) (slot_at roots i) s' → Wrote words words' i s'
    → ((k : ℕ) → k < i → Redirected (own_below roots k) (slot_at roots k) (slot_at words k))
    → (k : ℕ) → k < i + 1 → Redirected (own_below roots k) (slot_at roots k) (slot_at words' k)
redirected_step roots {words} {words'} i {s'} r w old k b =
    elim (below_or_at k i b) [
      | inl l ↦ subst (λ q. Redirected (own_below roots k) (slot_at roots k) q) (sym (w.other k (λ e. omega arith)))
          (old k l)
      | inr e ↦ subst (λ q. Redirected (own_below roots k) (slot_at roots k) q) (sym (ap (slot_at words') e ∙ w.here))
          (subst (λ x. Redirected (own_below roots x) (slot_at roots x) s') (sym e) r)
    ]

-- root i is redirected next
pub record Redirecting (roots words : List ℕ) (next i : ℕ) : Type 0 where
  pub below : next ≤ i
  pub count : next ≡ own_below roots i
  pub moved : (k : ℕ) → k < i → Redirected (own_below roots k) (slot_at roots k) (slot_at words k)
  pub rest : (k : ℕ) → i ≤ k → slot_at words k ≡ slot_at roots k

redirecting_step : (roots words words' : List ℕ) {next next' i : ℕ} {s' : Slot} → Redirected next (slot_at words i) s'
    → Wrote words words' i s' → next' ≡ next + own (slot_at words i) → Redirecting roots words next i
    → Redirecting roots words' next' (i + 1)
redirecting_step roots words words' {next} {next'} {i} {s'} r w n k =
    let here : slot_at words i ≡ slot_at roots i = k.rest i (omega arith) in
    let own_is : own (slot_at words i) ≡ own (slot_at roots i) = ap own here in
    record {
      below = omega (arith, k.below, n, own-one (slot_at words i));
      count = omega (arith, k.count, n, own_is, own_more roots i);
      moved = redirected_step roots i
          (subst (λ c. Redirected c (slot_at roots i) s') k.count (subst (λ q. Redirected next q s') here r)) w k.moved;
      rest = λ q b. w.other q (λ e. omega arith) ∙ k.rest q (omega arith);
    }

pub redirecting_node : {roots words words' : List ℕ} {next i : ℕ} {s s' : Slot} → s ≡ slot_at words i → 16 ≤ s.kind
    → s'.kind ≡ s.kind → place_of s' ≡ next → Wrote words words' i s' → Redirecting roots words next i
    → Redirecting roots words' (next + 1) (i + 1)
redirecting_node {roots} {words} {words'} {next} {i} {s} {s'} e b q p w k =
    redirecting_step roots words words'
    (subst (λ x. Redirected next x s') e (record { as_leaf = λ l. absurd (omega arith); as_node = λ n. (q, p) })) w
    (omega (arith, ap own e, own_node s b)) k

pub redirecting_leaf : {roots words : List ℕ} {next i : ℕ} {s : Slot} → s ≡ slot_at words i → s.kind < 16
    → Redirecting roots words next i → Redirecting roots words next (i + 1)
redirecting_leaf {roots} {words} {next} {i} {s} e b k =
    redirecting_step roots words words
    (subst (λ x. Redirected next x x) e (record { as_leaf = λ l. refl; as_node = λ n. absurd (omega arith) }))
    (record { here = refl; other = λ q n. refl }) (omega (arith, ap own e, own_leaf s b)) k
