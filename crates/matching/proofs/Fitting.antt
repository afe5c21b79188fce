-- The walk along two trees. A pattern's slot tells what its tree is: a leaf that fits everything, one that fits its like,
-- or a node, which fits a node of its kind if the left parts fit and then the right ones. So after each step to the right
-- the trees at hand fit as those at the start do, and the value's edge, which is at most as long as the cells in use, is
-- one shorter.
use Rattle.std.proofs.Common.{◌≡◌, ℕ, suc, ◌+◌, ◌-◌, ◌*◌, ◌<◌, ◌≤◌, Bool, true, false, cond, ◌&&◌, eqb, List, length, Some, None, Option as Maybe, sym, refl, ap, ◌∙◌, subst, arith, eq-eqb, ne_eqb}
use Rattle.std.specs.Bool.{then_some}
use mathlib.Core.Option.{some, none}
use Rattle.meaning.specs.Basics.{on_some}
use Rattle.store.specs.Heap.{Store, left_of, right_of, Den, Put, Grows}
use Rattle.store.specs.Tree.{Tree, leaf, node, spine, same_tree}
use Rattle.store.specs.declared.slot.Slot.{Slot}
use Rattle.code.specs.Clauses.{PatternIs}
use Rattle.code.specs.declared.clauses.Pattern.TheVariants.{Any, Bind, Leaf, Node}
use Rattle.matching.specs.Fit.{fit, binders, deep, FitTo, FitLacks, AtHand, Fitting}
use Rattle.store.proofs.Laws.{leaf_is, node_is, is_leaf, IsNode, is_node, node_kind, keeps, spine-fits}

-- what fits a leaf, by what its slot tells
leaf_of : {m : Store} {s : Slot} {t : Tree} {k : ℕ} → s.kind ≡ k → k < 16 → Den m s t → t ≡ leaf k s.low s.high
leaf_of {m} {s} {t} e b d = is_leaf t (omega arith) d ∙ ap (λ k. leaf k s.low s.high) e

fit_any : {m : Store} {s : Slot} {p : Tree} (v e : Tree) → PatternIs s Any → Den m s p → fit p v e ≡ some e
fit_any v e k d = ap (λ q. fit q v e) (leaf_of k (omega arith) d)

any_binds : {m : Store} {s : Slot} {p : Tree} → PatternIs s Any → Den m s p → binders p ≡ 0
any_binds k d = ap binders (leaf_of k (omega arith) d)

fit_bind : {m : Store} {s : Slot} {p v e : Tree} → PatternIs s Bind → Den m s p → fit p v e ≡ some (node 31 v e)
fit_bind {v} {e} k d = ap (λ q. fit q v e) (leaf_of k (omega arith) d)

bind_binds : {m : Store} {s : Slot} {p : Tree} → PatternIs s Bind → Den m s p → binders p ≡ 1
bind_binds k d = ap binders (leaf_of k (omega arith) d)

-- a leaf is the same as a tree where the slots are alike
same_leaf : {m : Store} (x y : Slot) (v : Tree) → x.kind < 16 → Den m y v
    → same_tree (leaf x.kind x.low x.high) v ≡
    (eqb x.kind y.kind && (eqb x.low y.low && eqb x.high y.high))
same_leaf x y (leaf k l h) b d =
    ap (λ (q : Slot). eqb x.kind q.kind && (eqb x.low q.low && eqb x.high q.high)) (sym (leaf_is d))
same_leaf x y (node k a c) b d =
    sym (ap (λ z. z && (eqb x.low y.low && eqb x.high y.high))
    (ne_eqb x.kind y.kind (λ e. omega (arith, node_kind d, node_is d))))

leaf_fit : (k l h : ℕ) (v e : Tree) → (k ≡ 6 → ⊥) → (k ≡ 7 → ⊥)
    → fit (leaf k l h) v e ≡ cond (same_tree (leaf k l h) v) (some e) none
leaf_fit k l h v e n n' =
    ap (λ z. cond z (some e) (cond (eqb k 7) (some (node 31 v e)) (cond (same_tree (leaf k l h) v) (some e) none)))
    (ne_eqb k 6 n)
    ∙ ap (λ z. cond z (some (node 31 v e)) (cond (same_tree (leaf k l h) v) (some e) none)) (ne_eqb k 7 n')

fit_leaf : {m m' : Store} {s y x : Slot} {p v : Tree} (e : Tree) {b : Bool} → PatternIs s (Leaf x)
    → b ≡ (eqb x.kind y.kind && (eqb x.low y.low && eqb x.high y.high)) → Den m s p → Den m' y v
    → fit p v e ≡ cond b (some e) none
fit_leaf {m} {m'} {s} {y} {x} {p} {v} e {b} k a d d' =
    ap (λ q. fit q v e) (is_leaf p k.1 d)
    ∙ (leaf_fit s.kind s.low s.high v e k.2 k.3
    ∙ ap (λ z. cond z (some e) none)
    (same_leaf s y v k.1 d'
    ∙ sym (a ∙ ap (λ (q : Slot). eqb q.kind y.kind && (eqb q.low y.low && eqb q.high y.high))
    k.0)))

leaf_binds : {m : Store} {s x : Slot} {p : Tree} → PatternIs s (Leaf x) → Den m s p → binders p ≡ 0
leaf_binds {m} {s} {x} {p} k d = ap binders (is_leaf p k.1 d) ∙ ap (λ z. cond z 1 0) (ne_eqb s.kind 7 k.3)

-- two nodes
fit_nodes : (k : ℕ) (a b c d e : Tree) → fit (node k a b) (node k c d) e ≡ on_some (fit a c e) (fit b d)
fit_nodes k a b c d e = ap (λ z. cond z (on_some (fit a c e) (fit b d)) none) (eq-eqb k k refl)

fit_other : (k : ℕ) (a b : Tree) {m : Store} {y : Slot} (v e : Tree) → (k ≡ y.kind → ⊥) → Den m y v
    → fit (node k a b) v e ≡ none
fit_other k a b (leaf k' l h) e n d = refl
fit_other k a b (node k' x z) e n d = ap (λ z'. cond z' (on_some (fit a x e) (fit b z)) none)
    (ne_eqb k k' (λ q. n (q ∙ sym (node_is d))))

-- The walk, step by step.
pub fitting_starts : {code : List ℕ} {m : Store} {depth : ℕ} {pattern value env : Slot}
    → Fitting code m m depth pattern value env pattern value env 0
fitting_starts =
    record {
      hand = λ {used} {p} {v} {e} a b c d.
          record {
            p = p;
            v = v;
            e = e;
            pattern_at = a;
            value_at = b;
            env_at = c;
            shallow = d;
            short = omega (arith, spine-fits b);
            same = refl;
            count = refl;
          };
    }

pub fits_any : {code : List ℕ} {m₀ m : Store} {depth done : ℕ} {p₀ v₀ e₀ p v e : Slot} → PatternIs p Any
    → Fitting code m₀ m depth p₀ v₀ e₀ p v e done
    → FitTo code m₀ m depth p₀ v₀ e₀ (Some e)
fits_any k f =
    record {
      to = λ a b c d. let h = f.hand a b c d in
          record {
            tree = h.e;
            is = h.same ∙ fit_any h.v h.e k h.pattern_at;
            stands = h.env_at;
            count = omega (arith, h.count, any_binds k h.pattern_at);
          };
    }

pub fits_bind : {code : List ℕ} {m₀ m m' : Store} {depth done : ℕ} {p₀ v₀ e₀ p v e r : Slot} → PatternIs p Bind
    → Put m m' 31 v e r
    → Fitting code m₀ m depth p₀ v₀ e₀ p v e done → FitTo code m₀ m' depth p₀ v₀ e₀ (Some r)
fits_bind k q f =
    record {
      to = λ a b c d. let h = f.hand a b c d in
          record {
            tree = node 31 h.v h.e;
            is = h.same ∙ fit_bind k h.pattern_at;
            stands = q.stands (omega arith) h.value_at h.env_at;
            count = omega (arith, h.count, bind_binds k h.pattern_at, q.count);
          };
    }

pub lacks_bind : {code : List ℕ} {m₀ m : Store} {depth done : ℕ} {p₀ v₀ e₀ p v e : Slot} → PatternIs p Bind
    → Grows m₀ m → length m.words < 6 * (m.used + 1) → Fitting code m₀ m depth p₀ v₀ e₀ p v e done
    → FitLacks code m₀ depth p₀ v₀ e₀
lacks_bind k l q f =
    record { short = λ a b c d. let h = f.hand a b c d in omega (arith, h.count, l.long, bind_binds k h.pattern_at) }

-- a leaf fits where the slots are alike, and binds nothing
pub fits_leaf : {code : List ℕ} {m₀ m : Store} {depth done : ℕ} {p₀ v₀ e₀ p v e x : Slot} (b : Bool) → PatternIs p (Leaf x)
    → b ≡ (eqb x.kind v.kind && (eqb x.low v.low && eqb x.high v.high))
    → Fitting code m₀ m depth p₀ v₀ e₀ p v e done
    → FitTo code m₀ m depth p₀ v₀ e₀ (then_some b e)
fits_leaf true k q f =
    record {
      to = λ a b c d. let h = f.hand a b c d in
          record {
            tree = h.e;
            is = h.same ∙ fit_leaf h.e k q h.pattern_at h.value_at;
            stands = h.env_at;
            count = omega (arith, h.count, leaf_binds k h.pattern_at);
          };
    }
fits_leaf false k q f =
    record { to = λ a b c d. let h = f.hand a b c d in h.same ∙ fit_leaf h.e k q h.pattern_at h.value_at }

-- a pattern that is a node, with its parts
node_of : {code : Store} {p x : Slot} {t : Tree} → PatternIs p (Node x) → Den code p t → IsNode code x t
node_of {code} {t = t} k d = is_node t (subst (λ (q : Slot). 16 ≤ q.kind) (sym k.0) k.1)
    (subst (λ (q : Slot). Den code q t) (sym k.0) d)

pub misfit_kind : {code : List ℕ} {m₀ m : Store} {depth done : ℕ} {p₀ v₀ e₀ p v e x : Slot} → PatternIs p (Node x)
    → (x.kind ≡ v.kind → ⊥)
    → Fitting code m₀ m depth p₀ v₀ e₀ p v e done → FitTo code m₀ m depth p₀ v₀ e₀ None
misfit_kind {x} k n f =
    record {
      to = λ a b c d. let h = f.hand a b c d in let q = node_of k h.pattern_at in
          h.same ∙ (ap (λ t. fit t h.v h.e) q.is
          ∙ fit_other x.kind q.one q.two h.v h.e n h.value_at);
    }

-- both at hand are nodes of one kind
record TwoNodes (code m₀ m : Store) (depth done : ℕ) (x v env : Slot) (p₀ v₀ e₀ : Tree) : Type 0 where
  a : Tree
  b : Tree
  c : Tree
  d : Tree
  e : Tree
  left_pattern : Den code (left_of code.words x) a
  right_pattern : Den code (right_of code.words x) b
  left_value : Den m (left_of m.words v) c
  right_value : Den m (right_of m.words v) d
  env_at : Den m env e
  shallow_left : suc (deep a) ≤ depth
  shallow_right : deep b ≤ depth
  short : spine d + (done + 1) ≤ m₀.used
  same : fit p₀ v₀ e₀ ≡ on_some (fit a c e) (fit b d)
  count : m.used + (binders a + binders b) ≡ m₀.used + binders p₀

two_nodes : {code m₀ m : Store} {depth done : ℕ} {p v env x : Slot} {p₀ v₀ e₀ : Tree} → PatternIs p (Node x)
    → x.kind ≡ v.kind
    → AtHand code m₀ m depth p v env done p₀ v₀ e₀ → TwoNodes code m₀ m depth done x v env p₀ v₀ e₀
two_nodes {m₀} {depth} {done} {v} {x} k s h =
    let q = node_of k h.pattern_at in
    let y = is_node h.v (omega (arith, subst (λ (z : Slot). 16 ≤ z.kind) (sym k.0) k.1)) h.value_at in
    let dp : deep (node x.kind q.one q.two) ≤ depth = subst (λ t. deep t ≤ depth) q.is h.shallow in
    let sp : spine (node v.kind y.one y.two) + done ≤ m₀.used = subst (λ t. spine t + done ≤ m₀.used) y.is h.short in
    record {
      a = q.one;
      b = q.two;
      c = y.one;
      d = y.two;
      e = h.e;
      left_pattern = q.left;
      right_pattern = q.right;
      left_value = y.left;
      right_value = y.right;
      env_at = h.env_at;
      shallow_left = omega (arith, dp);
      shallow_right = omega (arith, dp);
      short = omega (arith, sp);
      same = h.same
          ∙ (ap (λ t. fit t h.v h.e) (q.is ∙ ap (λ i. node i q.one q.two) s)
          ∙ (ap (λ t. fit (node v.kind q.one q.two) t h.e) y.is
          ∙ fit_nodes v.kind q.one q.two y.one y.two h.e));
      count = omega (arith, h.count, ap binders q.is);
    }

-- a value's edge has no more nodes than there are cells in use
pub misfit_edge : {code : List ℕ} {m₀ m : Store} {depth done : ℕ} {p₀ v₀ e₀ p v e x : Slot} → PatternIs p (Node x)
    → x.kind ≡ v.kind → done ≡ m₀.used
    → Fitting code m₀ m depth p₀ v₀ e₀ p v e done → FitTo code m₀ m depth p₀ v₀ e₀ None
misfit_edge k s z f = record { to = λ a b c d. absurd (omega (arith, z, (two_nodes k s (f.hand a b c d)).short)) }

pub misfit_deep : {code : List ℕ} {m₀ m : Store} {depth done : ℕ} {p₀ v₀ e₀ p v e x : Slot} → PatternIs p (Node x)
    → x.kind ≡ v.kind → depth ≡ 0
    → Fitting code m₀ m depth p₀ v₀ e₀ p v e done → FitTo code m₀ m depth p₀ v₀ e₀ None
misfit_deep k s z f = record { to = λ a b c d. absurd (omega (arith, (two_nodes k s (f.hand a b c d)).shallow_left)) }

-- what was found is this
pub found_is : {code : List ℕ} {m m' : Store} {depth : ℕ} {p v e : Slot} {found o : Maybe Slot} → found ≡ o
    → FitTo code m m' depth p v e found
    → FitTo code m m' depth p v e o
found_is {code} {m} {m'} {depth} {p} {v} {e} q f = subst (λ (o : Maybe Slot). FitTo code m m' depth p v e o) q f

-- a slot that was read denotes what stands there
read_at : {m : Store} {s s' : Slot} {t : Tree} → s' ≡ s → Den m s t → Den m s' t
read_at {m} {t = t} q d = subst (λ (z : Slot). Den m z t) (sym q) d

-- what the walk over the left parts ends with: they do not fit, there is no room, or the right parts are next
pub misfit_left : {code : List ℕ} {m₀ m m₁ : Store} {depth done : ℕ} {p₀ v₀ e₀ p v e x x₁ v₁ : Slot}
    → PatternIs p (Node x) → x.kind ≡ v.kind
    → x₁ ≡ left_of code x → v₁ ≡ left_of m.words v → FitTo code m m₁ (depth - 1) x₁ v₁ e None
    → Fitting code m₀ m depth p₀ v₀ e₀ p v e done → FitTo code m₀ m₁ depth p₀ v₀ e₀ None
misfit_left k s l l' o f =
    record {
      to = λ a b c d. let h = two_nodes k s (f.hand a b c d) in
          h.same
          ∙ ap (λ z. on_some z (fit h.b h.d))
          (o.to (read_at l h.left_pattern) (read_at l' h.left_value) h.env_at
          (omega (arith, h.shallow_left)));
    }

pub lacks_left : {code : List ℕ} {m₀ m : Store} {depth done : ℕ} {p₀ v₀ e₀ p v e x x₁ v₁ : Slot}
    → PatternIs p (Node x) → x.kind ≡ v.kind
    → x₁ ≡ left_of code x → v₁ ≡ left_of m.words v → Grows m₀ m → FitLacks code m (depth - 1) x₁ v₁ e
    → Fitting code m₀ m depth p₀ v₀ e₀ p v e done → FitLacks code m₀ depth p₀ v₀ e₀
lacks_left k s l l' n o f =
    record {
      short = λ a b c d. let h = two_nodes k s (f.hand a b c d) in
          omega (
            arith,
            h.count,
            n.long,
            o.short (read_at l h.left_pattern) (read_at l' h.left_value) h.env_at
                (omega (arith, h.shallow_left)),
          );
    }

pub fitting_goes_on : {code : List ℕ} {m₀ m m₁ : Store} {depth done : ℕ} {p₀ v₀ e₀ p v e x x₁ x₂ v₁ v₂ e₁ : Slot}
    → PatternIs p (Node x)
    → x.kind ≡ v.kind → x₁ ≡ left_of code x → x₂ ≡ right_of code x → v₁ ≡ left_of m.words v
    → v₂ ≡ right_of m.words v
    → Grows m m₁ → FitTo code m m₁ (depth - 1) x₁ v₁ e (Some e₁)
    → Fitting code m₀ m depth p₀ v₀ e₀ p v e done → Fitting code m₀ m₁ depth p₀ v₀ e₀ x₂ v₂ e₁ (done + 1)
fitting_goes_on k s l r l' r' g o f =
    record {
      hand = λ a b c d. let h = two_nodes k s (f.hand a b c d) in
          let y = o.to (read_at l h.left_pattern) (read_at l' h.left_value) h.env_at
          (omega (arith, h.shallow_left)) in
          record {
            p = h.b;
            v = h.d;
            e = y.tree;
            pattern_at = read_at r h.right_pattern;
            value_at = keeps g.kept (read_at r' h.right_value);
            env_at = y.stands;
            shallow = h.shallow_right;
            short = omega (arith, h.short);
            same = h.same ∙ ap (λ z. on_some z (fit h.b h.d)) y.is;
            count = omega (arith, h.count, y.count);
          };
    }
