-- Looking a word up. Along a chain, what is not the word is passed, and a chain is no longer than the cells in use. The
-- bucket of the word's hash has its number where it is known, and no other name is the same, since no name stands twice.
use Rattle.std.proofs.Common.{◌≡◌, ℕ, suc, ◌+◌, ◌<◌, ◌≤◌, Bool, true, false, cond, eqb, ◌⊎◌, List, [], ◌∷◌, length, get_or, Some, None, Option, sym, refl, ap, ◌∙◌, subst, inl, inr, zero-add, arith}
use Rattle.std.proofs.lemmas.Bool.{cases_Bool, cond-true, cond-false, eq-eqb}
use Rattle.meaning.specs.Basics.{Name, same}
use Rattle.meaning.proofs.Splits.{T_of, same_is}
use Rattle.store.specs.Heap.{Store, Den, left_of, right_of}
use Rattle.store.specs.Slots.{slot_at}
use Rattle.store.specs.Tree.{spine}
use Rattle.store.specs.declared.slot.Slot.{Slot}
use Rattle.store.proofs.Laws.{leaf_is, leaf_kind, node_is, node_left, node_right, spine-fits}
use Rattle.values.specs.Encoding.{index_of, Known}
use Rattle.values.specs.declared.value.Atom.{Atom}
use Rattle.names.specs.Names.{Distinct}
use Rattle.names.specs.Buckets.{hash_of, bucket_from, bucket, atoms, first_of}
use Rattle.names.specs.Table.{table, Numbered, Finds, Walked}
use Rattle.names.proofs.Naming.{known_later, known_or_not}

-- what is left of a chain has the word's number where the chain has it, and there are steps left for it
pub record Walking (ns : List Name) (m : Store) (s : Slot) (w : Name) (steps : ℕ) (numbers : List ℕ) : Type 0 where
  pub rest : List ℕ
  pub here : Den m s (atoms rest)
  pub same_first : first_of ns w rest ≡ first_of ns w numbers
  pub short : steps + length rest ≤ m.used

spine-atoms : (numbers : List ℕ) → spine (atoms numbers) ≡ length numbers
spine-atoms [] = refl
spine-atoms (i ∷ is) = omega (arith, spine-atoms is)

module _ {ns : List Name} {m : Store} {w : Name} where
  pub walking_begins : {s : Slot} (numbers : List ℕ) → Den m s (atoms numbers) → Walking ns m s w 0 numbers
  walking_begins numbers d =
      record { rest = numbers; here = d; same_first = refl; short = omega (arith, spine-fits d, spine-atoms numbers) }

  -- the chain is at its end
  pub walking_ends : {s : Slot} {steps : ℕ} (numbers : List ℕ) → s.kind < 16 → Walking ns m s w steps numbers
      → None ≡ first_of ns w numbers
  walking_ends {s} {steps} numbers k g = way g.rest g.here g.same_first
    where
      way : (rest : List ℕ) → Den m s (atoms rest) → first_of ns w rest ≡ first_of ns w numbers
          → None ≡ first_of ns w numbers
      way [] d e = e
      way (i ∷ is) d e = absurd (omega (arith, node_is d, k))

  -- the number at hand is the word's
  pub walking_found : {s : Slot} {steps : ℕ} (numbers : List ℕ) (left : Slot) (a : Atom) (x : Name) → 16 ≤ s.kind
      → left ≡ left_of m.words s
      → a.0 ≡ left.low → x ≡ get_or ns a.0 [] → true ≡ same x w → Walking ns m s w steps numbers
      → Some a ≡ first_of ns w numbers
  walking_found {s} {steps} numbers left a x k l n is alike g = way g.rest g.here g.same_first
    where
      way : (rest : List ℕ) → Den m s (atoms rest) → first_of ns w rest ≡ first_of ns w numbers
          → Some a ≡ first_of ns w numbers
      way [] d e = absurd (omega (arith, leaf_kind d, k, ap (λ (q : Slot). q.kind) (leaf_is d)))
      way (i ∷ is') d e =
          let number : a.0 ≡ i = n ∙ ap (λ (q : Slot). q.low) (l ∙ leaf_is (node_left d)) in
          let this : same (get_or ns i []) w ≡ true = sym (alike ∙ ap (λ z. same z w) (is ∙ ap
          (λ j. get_or ns j []) number)) in
          let atom : Some a ≡ Some (record { 0 = i }) = ap (λ j. Some (record { 0 = j })) number in
          atom ∙ (sym (cond-true (same (get_or ns i []) w) (Some (record { 0 = i })) (first_of ns w is') this) ∙ e)

  -- the number at hand is another's, and the chain goes on
  pub walking_on : {s : Slot} {steps : ℕ} (numbers : List ℕ) (left right : Slot) (a : Atom) (x : Name) → 16 ≤ s.kind
      → left ≡ left_of m.words s
      → right ≡ right_of m.words s → a.0 ≡ left.low → x ≡ get_or ns a.0 [] → false ≡ same x w
      → Walking ns m s w steps numbers → Walking ns m right w (steps + 1) numbers
  walking_on {s} {steps} numbers left right a x k l r n is differ g = way g.rest g.here g.same_first g.short
    where
      way : (rest : List ℕ) → Den m s (atoms rest) → first_of ns w rest ≡ first_of ns w numbers
          → steps + length rest ≤ m.used
          → Walking ns m right w (steps + 1) numbers
      way [] d e h = absurd (omega (arith, leaf_kind d, k, ap (λ (q : Slot). q.kind) (leaf_is d)))
      way (i ∷ is') d e h =
          let number : a.0 ≡ i = n ∙ ap (λ (q : Slot). q.low) (l ∙ leaf_is (node_left d)) in
          let other : same (get_or ns i []) w ≡ false = sym (differ ∙ ap (λ z. same z w) (is ∙ ap
          (λ j. get_or ns j []) number)) in
          record {
            rest = is';
            here = subst (λ (q : Slot). Den m q (atoms is')) (sym r) (node_right d);
            same_first = sym (cond-false (same (get_or ns i []) w) (Some (record { 0 = i })) (first_of ns w is') other)
                ∙ e;
            short = omega (arith, h);
          }

-- the names from number i on are these
abbrev pub From : List Name → ℕ → List Name → Type 0
From ns i [] = Unit {0}
From ns i (x ∷ xs) = (get_or ns i [] ≡ x) × From ns (suc i) xs

from_later : (y : Name) (ns : List Name) (i : ℕ) (xs : List Name) → From ns i xs → From (y ∷ ns) (suc i) xs
from_later y ns i [] f = tt
from_later y ns i (x ∷ xs) f = (f.0, from_later y ns (suc i) xs f.1)

pub from_start : (ns : List Name) → From ns 0 ns
from_start [] = tt
from_start (x ∷ xs) = (refl, from_later x xs 0 xs (from_start xs))

-- a bucket has nothing of a word that none of the names is
pub first_unknown : (ns : List Name) (w : Name) (b i : ℕ) (xs : List Name) (there : List ℕ) → From ns i xs →
    (Known xs w → ⊥)
    → first_of ns w (bucket_from b i xs there) ≡ first_of ns w there
first_unknown ns w b i [] there f n = refl
first_unknown ns w b i (x ∷ xs) there f n =
    first_unknown ns w b (suc i) xs (cond (eqb (hash_of x) b) (i ∷ there) there) f.1 (λ k. n (inr k))
    ∙ passed (eqb (hash_of x) b) (cases_Bool (same x w))
  where
    passed : (h : Bool) → (same x w ≡ true) ⊎ (same x w ≡ false) → first_of ns w (cond h
        (i ∷ there) there) ≡ first_of ns w there
    passed h (inl e) = absurd (n (inl e))
    passed true (inr e) = cond-false (same (get_or ns i []) w) (Some (record { 0 = i })) (first_of ns w there) (ap
        (λ z. same z w) f.0 ∙ e)
    passed false (inr e) = refl

-- and the number of the name that it is
pub first_known : (ns : List Name) (w : Name) (i : ℕ) (xs : List Name) (there : List ℕ) → From ns i xs → Distinct xs
    → Known xs w
    → first_of ns w (bucket_from (hash_of w) i xs there) ≡ Some (record { 0 = i + index_of xs w })
first_known ns w i [] there f d k = absurd k
first_known ns w i (x ∷ xs) there f d k =
    way (cases_Bool (same x w)) (λ n. first_known ns w (suc i) xs (cond (eqb (hash_of x) (hash_of w))
    (i ∷ there) there) f.1 d.1 (known_later x xs w n k))
  where
    way : (same x w ≡ true) ⊎ (same x w ≡ false)
        → (same x w ≡ false → first_of ns w (bucket_from (hash_of w) i (x ∷ xs) there) ≡ Some
        (record { 0 = suc i + index_of xs w }))
        → first_of ns w (bucket_from (hash_of w) i (x ∷ xs) there) ≡ Some (record { 0 = i + index_of (x ∷ xs) w })
    way (inl e) later =
        let is : x ≡ w = same_is x w (T_of e) in
        let hash : eqb (hash_of x) (hash_of w) ≡ true = eq-eqb (hash_of x) (hash_of w) (ap hash_of is) in
        let number : i ≡ i + index_of (x ∷ xs) w = omega (arith, cond-true (same x w) 0 (suc (index_of xs w)) e) in
        first_unknown ns w (hash_of w) (suc i) xs (cond (eqb (hash_of x) (hash_of w)) (i ∷ there) there) f.1
        (λ q. d.0 (subst (Known xs) (sym is) q))
        ∙ (ap (λ h. first_of ns w (cond h (i ∷ there) there)) hash
        ∙ (cond-true (same (get_or ns i []) w) (Some (record { 0 = i })) (first_of ns w there) (ap (λ z. same z w)
        f.0 ∙ e)
        ∙ ap (λ j. Some (record { 0 = j })) number))
    way (inr n) later =
        let number : suc i + index_of xs w ≡ i + index_of (x ∷ xs) w = omega (
          arith,
          cond-false (same x w) 0 (suc
              (index_of xs w)) n,
        ) in
        later n ∙ ap (λ j. Some (record { 0 = j })) number

none_is_some : {a : Atom} → None ≡ Some a → ⊥
none_is_some {a} p = let z : ◌≡◌ {A = ℕ} 0 1 = cc in omega arith

some_one : {a b : Atom} → Some a ≡ Some b → a.0 ≡ b.0
some_one {a} {b} p = let q : a ≡ b = cc in ap (λ (x : Atom). x.0) q

-- the word's number, or none
pub bucket-numbers : (ns : List Name) (w : Name) (r : Option Atom) → Distinct ns → r ≡ first_of ns w (bucket
    (hash_of w) ns) → Numbered ns w r
bucket-numbers ns w None d e = λ k. none_is_some (e ∙ first_known ns w 0 ns [] (from_start ns) d k)
bucket-numbers ns w (Some a) d e = elim (known_or_not ns w) [
  | inl k ↦ (k, some_one (e ∙ first_known ns w 0 ns [] (from_start ns) d k) ∙ zero-add (index_of ns w))
  | inr n ↦ absurd (none_is_some (sym (e ∙ first_unknown ns w (hash_of w) 0 ns [] (from_start ns) n)))
]

-- so the walk along the word's bucket finds its number
pub bucket_found : {text spans : List ℕ} {count : ℕ} {buckets : List ℕ} {m : Store} {w : Name} {r : Option Atom}
    (b : ℕ) (head : Slot)
    → b ≡ hash_of w → b < 1024 → head ≡ slot_at buckets b → Walked (table text spans count) m head w r
    → Finds text spans count buckets m w r
bucket_found {text} {spans} {count} {buckets} {m} {w} {r} b head hash below is walked =
    record {
      number = λ {ns} t.
          let chain : Den m head (atoms (bucket (hash_of w) ns)) =
          subst (λ j. Den m head (atoms (bucket j ns))) hash
          (subst (λ (q : Slot). Den m q (atoms (bucket b ns))) (sym is) (t.chained.chain b below)) in
          bucket-numbers ns w r t.distinct
          (subst (λ ms. r ≡ first_of ms w (bucket (hash_of w) ns)) t.names (walked.first (bucket
          (hash_of w) ns) chain));
    }
