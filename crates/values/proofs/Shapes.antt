-- The kind of a slot tells the form of the value that it holds, since each form has a kind of its own.
use Rattle.std.proofs.Common.{◌≡◌, ℕ, ◌^◌, true, cond, eqb, List, ℤ, pos, negsuc, sym, refl, ap, ◌∙◌, subst, arith, w64, SFits, to_z, ltb-true}
use Rattle.std.proofs.lemmas.Int.{to_z-of_z}
use Rattle.meaning.specs.Basics.{Name}
use Rattle.meaning.specs.Values.{Value as Val, v_int, v_atom, v_tuple, v_nil, v_cons, v_pid, no_v, and_v, fits}
use Rattle.store.specs.Heap.{Store, Den}
use Rattle.store.specs.Slots.{place_of}
use Rattle.store.specs.declared.slot.Slot.{Slot}
use Rattle.values.specs.Encoding.{Holds, bits64, number}
use Rattle.values.specs.Shape.{Shape, Views}
use Rattle.values.specs.declared.value.Value.{Value}
use Rattle.values.specs.declared.value.Value.TheVariants.{Number, Atom, Worker, Nil, EmptyTuple, Tuple, Pair}
use Rattle.store.proofs.Laws.{leaf_is, node_is, node_left, node_right}

-- the kind of the slot that holds a value
abbrev pub kind_of : Val → ℕ
kind_of (v_int z) = 0
kind_of (v_atom x) = 1
kind_of (v_tuple no_v) = 4
kind_of (v_tuple (and_v a vs)) = 17
kind_of v_nil = 2
kind_of (v_cons a b) = 16
kind_of (v_pid n) = 3

pub kind_is : {ns : List Name} {m : Store} {s : Slot} (v : Val) → Holds ns m s v → s.kind ≡ kind_of v
kind_is (v_int z) h = ap (λ (q : Slot). q.kind) (leaf_is h.stands)
kind_is (v_atom x) h = ap (λ (q : Slot). q.kind) (leaf_is h.stands)
kind_is (v_tuple no_v) h = ap (λ (q : Slot). q.kind) (leaf_is h.stands)
kind_is (v_tuple (and_v a vs)) h = node_is h.stands
kind_is v_nil h = ap (λ (q : Slot). q.kind) (leaf_is h.stands)
kind_is (v_cons a b) h = node_is h.stands
kind_is (v_pid n) h = ap (λ (q : Slot). q.kind) (leaf_is h.stands)

-- the outermost part that a slot of kind k shows
abbrev pub part_by : ℕ → Slot → Value
part_by k s =
    cond (eqb k 0) (Number (to_z w64 (place_of s)))
    (cond (eqb k 1) (Atom (record { 0 = s.low }))
    (cond (eqb k 2) Nil
    (cond (eqb k 3) (Worker (record { 0 = place_of s }))
    (cond (eqb k 4) EmptyTuple
    (cond (eqb k 16) (Pair s) (Tuple s))))))

-- what fits 64 bits, as the machine says it
pub sfits : (z : ℤ) → fits z ≡ true → SFits w64 z
sfits (pos n) e = record { sfits = ltb-true n (2 ^ 63) e }
sfits (negsuc n) e = record { sfits = ltb-true n (2 ^ 63) e }

bits_back : (z : ℤ) → fits z ≡ true → to_z w64 (bits64 z) ≡ z
bits_back (pos n) e = to_z-of_z w64 (pos n) (sfits (pos n) e)
bits_back (negsuc n) e = to_z-of_z w64 (negsuc n) (sfits (negsuc n) e)

-- the two words of a leaf make its 64 bits again
joined_is : {m : Store} {s : Slot} (k n : ℕ) → Den m s (number k n) → place_of s ≡ n
joined_is k n d = ap place_of (leaf_is d) ∙ omega arith

pub part_seen : {ns : List Name} {m : Store} {s : Slot} (v : Val) → Holds ns m s v →
    Shape ns m (part_by (kind_of v) s) v
part_seen {s} (v_int z) h = ap v_int (sym (ap (to_z w64) (joined_is 0 (bits64 z) h.stands) ∙ bits_back z h.fine))
part_seen (v_atom x) h = record {
  name = x;
  is = refl;
  numbered =
      sym (ap (λ (q : Slot). q.low) (leaf_is h.stands));
}
part_seen (v_tuple no_v) h = refl
part_seen (v_tuple (and_v a vs)) h =
    record {
      first = a;
      rest = vs;
      is = refl;
      whole = h;
      left = record { fine = h.fine.0; stands = node_left h.stands };
      right = record { fine = h.fine.1; stands = node_right h.stands };
    }
part_seen v_nil h = refl
part_seen (v_cons a b) h =
    record {
      head = a;
      tail = b;
      is = refl;
      whole = h;
      left = record { fine = h.fine.0; stands = node_left h.stands };
      right = record { fine = h.fine.1; stands = node_right h.stands };
    }
part_seen (v_pid n) h = ap v_pid (sym (joined_is 3 n h.stands))

-- a slot of kind k shows this part
pub seen_by : {ns : List Name} {m : Store} {s : Slot} {v : Val} (k : ℕ) → s.kind ≡ k → Holds ns m s v →
    Shape ns m (part_by k s) v
seen_by {ns} {m} {s} {v} k e h = subst (λ j. Shape ns m (part_by j s) v) (sym (kind_is v h) ∙ e) (part_seen v h)

pub views_by : {s : Slot} (k : ℕ) → s.kind ≡ k → Views s (part_by k s)
views_by k e = record { value = λ h. seen_by k e h }

-- and one of another kind holds no value
pub no_kind : {ns : List Name} {m : Store} {s : Slot} (v : Val) → Holds ns m s v
    → (s.kind ≡ 0 → ⊥) → (s.kind ≡ 1 → ⊥) → (s.kind ≡ 2 → ⊥) → (s.kind ≡ 3 → ⊥) → (s.kind ≡ 4 → ⊥) →
    (s.kind ≡ 16 → ⊥)
    → (s.kind ≡ 17 → ⊥) → ⊥
no_kind (v_int z) h n₀ n₁ n₂ n₃ n₄ n₁₆ n₁₇ = n₀ (kind_is (v_int z) h)
no_kind (v_atom x) h n₀ n₁ n₂ n₃ n₄ n₁₆ n₁₇ = n₁ (kind_is (v_atom x) h)
no_kind (v_tuple no_v) h n₀ n₁ n₂ n₃ n₄ n₁₆ n₁₇ = n₄ (kind_is (v_tuple no_v) h)
no_kind (v_tuple (and_v a vs)) h n₀ n₁ n₂ n₃ n₄ n₁₆ n₁₇ = n₁₇ (kind_is (v_tuple (and_v a vs)) h)
no_kind v_nil h n₀ n₁ n₂ n₃ n₄ n₁₆ n₁₇ = n₂ (kind_is v_nil h)
no_kind (v_cons a b) h n₀ n₁ n₂ n₃ n₄ n₁₆ n₁₇ = n₁₆ (kind_is (v_cons a b) h)
no_kind (v_pid n) h n₀ n₁ n₂ n₃ n₄ n₁₆ n₁₇ = n₃ (kind_is (v_pid n) h)
