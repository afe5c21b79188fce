-- The names that spans stand for, one by one: the name of number i is what the slot i of the spans spells.
use Rattle.std.proofs.Common.{◌≡◌, ℕ, zero, suc, ◌<◌, ◌≤◌, ltb, List, [], ◌∷◌, length, get_or, take, drop, sym, refl, ap, ◌∙◌, inl, inr, arith}
use Rattle.std.proofs.lemmas.List.{get_or_append_left, get_or_push, get_or_past, length_push}
use Rattle.std.proofs.lemmas.Bool.{cases_lt, cond-true, cond-false, lt-ltb, le-ltb}
use Rattle.store.specs.Slots.{slot_at, place_of}
use Rattle.names.specs.Names.{own_atoms}
use Rattle.names.specs.Table.{spelled, table}

module _ (text spans : List ℕ) where
  pub length-table : (count : ℕ) → length (table text spans count) ≡ count
  length-table zero = refl
  length-table (suc n) = length_push (table text spans n) (spelled text n (slot_at spans n)) ∙ omega
      (arith, length-table n)

  pub table_at : (count i : ℕ) → i < count → get_or (table text spans count) i [] ≡ spelled text i (slot_at spans i)
  table_at zero i h = absurd (omega arith)
  table_at (suc n) i h = elim (cases_lt i n) [
    | inl l ↦ get_or_append_left (table text spans n) (spelled text n (slot_at spans n) ∷ []) [] i (omega
        (arith, l, length-table n)) ∙ table_at n i l
    | inr g ↦ let e : n ≡ i = omega arith in
        get_or_push (table text spans n) (spelled text n (slot_at spans n)) [] i (length-table n ∙ e) ∙ ap
        (λ k. spelled text k (slot_at spans k)) e
  ]

  pub table_past : (count i : ℕ) → count ≤ i → [] ≡ get_or (table text spans count) i []
  table_past count i h = sym (get_or_past (table text spans count) i [] (omega (arith, length-table count)))

  -- an atom of the language, and a name of the text
  pub own_at : (count i : ℕ) → i < count → i < 16 → get_or own_atoms i [] ≡ get_or (table text spans count) i []
  own_at count i h o = sym (table_at count i h ∙ cond-true (ltb i 16) (get_or own_atoms i []) _ (lt-ltb i 16 o))

  pub part_at : (count i : ℕ) → i < count → 16 ≤ i
      → take (slot_at spans i).kind (drop (place_of (slot_at spans i)) text) ≡ get_or (table text spans count) i []
  part_at count i h o = sym (table_at count i h ∙ cond-false (ltb i 16) (get_or own_atoms i []) _ (le-ltb i 16 o))
