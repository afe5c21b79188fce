-- The tree of a value is made of its parts, and no two forms have the same kind, so two trees are the same where the values are.
use Rattle.std.proofs.Common.{◌≡◌, ℕ, suc, ◌-◌, ◌/◌, ◌%◌, ◌^◌, Bool, true, false, cond, ◌&&◌, eqb, ◌⊎◌, List, [], ◌∷◌, ℤ, pos, negsuc, sym, refl, ap, ◌∙◌, subst, inl, inr, arith, ltb-true, eq-eqb, ne_eqb, eqb-true}
use mathlib.Core.Bool.{and-true}
use Rattle.std.proofs.lemmas.Bool.{and_parts, and_from}
use Rattle.meaning.specs.Basics.{Name, same}
use Rattle.meaning.specs.Values.{
  Value,
  v_int,
  v_atom,
  v_tuple,
  v_nil,
  v_cons,
  v_pid,
  Values,
  no_v,
  and_v,
  fits,
  same_int,
  same_v,
  same_vs,
}
use Rattle.store.specs.Tree.{same_tree}
use Rattle.values.specs.Encoding.{index_of, Known, bits64, tree_v, tree_vs, Fine, Fines}
use Rattle.meaning.proofs.Splits.{T_of, no_clash, same_is, same_refl}

-- both or neither
both : (a b : Bool) → (a ≡ true → b ≡ true) → (b ≡ true → a ≡ true) → a ≡ b
both true b f g = sym (f refl)
both false true f g = g refl
both false false f g = refl

eqb_split : (m n : ℕ) → (eqb (m % 2 ^ 32) (n % 2 ^ 32) && eqb (m / 2 ^ 32) (n / 2 ^ 32)) ≡ eqb m n
eqb_split m n =
    both (eqb (m % 2 ^ 32) (n % 2 ^ 32) && eqb (m / 2 ^ 32) (n / 2 ^ 32)) (eqb m n)
    (λ e.
    let parts = and_parts (eqb (m % 2 ^ 32) (n % 2 ^ 32)) (eqb (m / 2 ^ 32) (n / 2 ^ 32)) e in
    let low : m % 2 ^ 32 ≡ n % 2 ^ 32 = eqb-true _ _ parts.0 in
    let high : m / 2 ^ 32 ≡ n / 2 ^ 32 = eqb-true _ _ parts.1 in
    eq-eqb m n (omega arith))
    (λ e.
    let q : m ≡ n = eqb-true m n e in
    and_from _ _ (eq-eqb _ _ (ap (λ k. k % 2 ^ 32) q)) (eq-eqb _ _ (ap (λ k. k / 2 ^ 32) q)))

bits_same : (x y : ℤ) → fits x ≡ true → fits y ≡ true → eqb (bits64 x) (bits64 y) ≡ same_int x y
bits_same (pos m) (pos n) p q = refl
bits_same (pos m) (negsuc n) p q =
    ne_eqb m (2 ^ 64 - suc n) (λ e. omega (arith, ltb-true m (2 ^ 63) p, ltb-true n (2 ^ 63) q))
bits_same (negsuc m) (pos n) p q =
    ne_eqb (2 ^ 64 - suc m) n (λ e. omega (arith, ltb-true m (2 ^ 63) p, ltb-true n (2 ^ 63) q))
bits_same (negsuc m) (negsuc n) p q =
    both (eqb (2 ^ 64 - suc m) (2 ^ 64 - suc n)) (eqb m n)
    (λ e. let w : 2 ^ 64 - suc m ≡ 2 ^ 64 - suc n = eqb-true _ _ e in
    eq-eqb m n (omega (arith, ltb-true m (2 ^ 63) p, ltb-true n (2 ^ 63) q)))
    (λ e. eq-eqb _ _ (ap (λ k. 2 ^ 64 - suc k) (eqb-true m n e)))

later : {K : Type 0} → (false ≡ true) ⊎ K → K
later (inl e) = no_clash e refl
later (inr k) = k

-- two names by the first of the table, which is one of them, both, or neither
index_split : (n : Name) (ns : List Name) (x y : Name) →
    (Known ns x → Known ns y → index_of ns x ≡ index_of ns y → x ≡ y)
    → (b c : Bool) → same n x ≡ b → same n y ≡ c → (b ≡ true) ⊎ Known ns x → (c ≡ true) ⊎ Known ns y →
    cond b 0 (suc (index_of ns x)) ≡ cond c 0 (suc (index_of ns y)) → x ≡ y
index_split n ns x y rec true true p q k l e = sym (same_is n x (T_of p)) ∙ same_is n y (T_of q)
index_split n ns x y rec true false p q k l e = absurd (omega arith)
index_split n ns x y rec false true p q k l e = absurd (omega arith)
index_split n ns x y rec false false p q k l e = rec (later k) (later l) (omega arith)

-- names of one number are one name
pub index_one : (ns : List Name) (x y : Name) → Known ns x → Known ns y → index_of ns x ≡ index_of ns y → x ≡ y
index_one [] x y p q e = absurd p
index_one (n ∷ ns) x y p q e = index_split n ns x y (index_one ns x y) (same n x) (same n y) refl refl p q e

index_same : (ns : List Name) (x y : Name) → Known ns x → Known ns y → eqb (index_of ns x) (index_of ns y) ≡ same x y
index_same ns x y p q =
    both (eqb (index_of ns x) (index_of ns y)) (same x y)
    (λ e. subst (λ z. same x z ≡ true) (index_one ns x y p q (eqb-true _ _ e)) (same_refl x))
    (λ e. eq-eqb _ _ (ap (index_of ns) (same_is x y (T_of e))))

-- where the forms differ, so do the kinds, and both sides compute to false
mutual
  pub value_same : (ns : List Name) (u v : Value) → Fine ns u → Fine ns v →
      same_tree (tree_v ns u) (tree_v ns v) ≡ same_v u v
  value_same ns (v_int z) (v_int z') f g = eqb_split (bits64 z) (bits64 z') ∙ bits_same z z' f g
  value_same ns (v_int z) (v_atom x') f g = refl
  value_same ns (v_int z) v_nil f g = refl
  value_same ns (v_int z) (v_cons a' b') f g = refl
  value_same ns (v_int z) (v_pid n') f g = refl
  value_same ns (v_int z) (v_tuple no_v) f g = refl
  value_same ns (v_int z) (v_tuple (and_v e es)) f g = refl
  value_same ns (v_atom x) (v_int z') f g = refl
  value_same ns (v_atom x) (v_atom x') f g = and-true (eqb (index_of ns x) (index_of ns x')) ∙ index_same ns x x' f g
  value_same ns (v_atom x) v_nil f g = refl
  value_same ns (v_atom x) (v_cons a' b') f g = refl
  value_same ns (v_atom x) (v_pid n') f g = refl
  value_same ns (v_atom x) (v_tuple no_v) f g = refl
  value_same ns (v_atom x) (v_tuple (and_v e es)) f g = refl
  value_same ns v_nil (v_int z') f g = refl
  value_same ns v_nil (v_atom x') f g = refl
  value_same ns v_nil v_nil f g = refl
  value_same ns v_nil (v_cons a' b') f g = refl
  value_same ns v_nil (v_pid n') f g = refl
  value_same ns v_nil (v_tuple no_v) f g = refl
  value_same ns v_nil (v_tuple (and_v e es)) f g = refl
  value_same ns (v_cons a b) (v_int z') f g = refl
  value_same ns (v_cons a b) (v_atom x') f g = refl
  value_same ns (v_cons a b) v_nil f g = refl
  value_same ns (v_cons a b) (v_cons a' b') f g =
      ap (λ q. q && same_tree (tree_v ns b) (tree_v ns b')) (value_same ns a a' f.0 g.0) ∙ ap
      (λ q. same_v a a' && q) (value_same ns b b' f.1 g.1)
  value_same ns (v_cons a b) (v_pid n') f g = refl
  value_same ns (v_cons a b) (v_tuple no_v) f g = refl
  value_same ns (v_cons a b) (v_tuple (and_v e es)) f g = refl
  value_same ns (v_pid n) (v_int z') f g = refl
  value_same ns (v_pid n) (v_atom x') f g = refl
  value_same ns (v_pid n) v_nil f g = refl
  value_same ns (v_pid n) (v_cons a' b') f g = refl
  value_same ns (v_pid n) (v_pid n') f g = eqb_split n n'
  value_same ns (v_pid n) (v_tuple no_v) f g = refl
  value_same ns (v_pid n) (v_tuple (and_v e es)) f g = refl
  value_same ns (v_tuple no_v) (v_int z') f g = refl
  value_same ns (v_tuple (and_v e es)) (v_int z') f g = refl
  value_same ns (v_tuple no_v) (v_atom x') f g = refl
  value_same ns (v_tuple (and_v e es)) (v_atom x') f g = refl
  value_same ns (v_tuple no_v) v_nil f g = refl
  value_same ns (v_tuple (and_v e es)) v_nil f g = refl
  value_same ns (v_tuple no_v) (v_cons a' b') f g = refl
  value_same ns (v_tuple (and_v e es)) (v_cons a' b') f g = refl
  value_same ns (v_tuple no_v) (v_pid n') f g = refl
  value_same ns (v_tuple (and_v e es)) (v_pid n') f g = refl
  value_same ns (v_tuple vs) (v_tuple ws) f g = tuple-same ns vs ws f g

  pub tuple-same : (ns : List Name) (us vs : Values) → Fines ns us → Fines ns vs →
      same_tree (tree_vs ns us) (tree_vs ns vs) ≡ same_vs us vs
  tuple-same ns no_v no_v f g = refl
  tuple-same ns no_v (and_v w ws) f g = refl
  tuple-same ns (and_v v vs) no_v f g = refl
  tuple-same ns (and_v v vs) (and_v w ws) f g =
      ap (λ q. q && same_tree (tree_vs ns vs) (tree_vs ns ws)) (value_same ns v w f.0 g.0) ∙ ap
      (λ q. same_v v w && q) (tuple-same ns vs ws f.1 g.1)
