-- Slots as words: the only proofs that open a slot.
-- A slot is as its three words are, so a write of three words changes that slot and no other.
use Rattle.std.proofs.Common.{◌≡◌, ℕ, ◌+◌, ◌*◌, ◌≤◌, List, length, get_or, set, ◌∙◌, arith}
use Rattle.std.proofs.lemmas.List.{places, get_or_past, get_or-set_other, get_or-set_same, length-set}
use Rattle.store.specs.Slots.{slot_at, cell_at, Wrote}
use Rattle.store.specs.declared.slot.Slot.{Slot}

parts : (a b c d e f : ℕ) → a ≡ d → b ≡ e → c ≡ f
    → ◌≡◌ {A = Slot} (record { kind = a; low = b; high = c }) (record { kind = d; low = e; high = f })
parts a b c d e f p q r = cc

pub slot_parts : {s t : Slot} → s.kind ≡ t.kind → s.low ≡ t.low → s.high ≡ t.high → s ≡ t
slot_parts {s} {t} p q r = parts s.kind s.low s.high t.kind t.low t.high p q r

pub slot_is : (words : List ℕ) (j : ℕ) (s : Slot) → get_or words (3 * j) 0 ≡ s.kind → get_or words (3 * j + 1) 0 ≡ s.low
    → get_or words (3 * j + 2) 0 ≡ s.high → slot_at words j ≡ s
unfolding slot_at
slot_is words j s p q r = slot_parts {s = slot_at words j} {t = s} p q r

pub slot_same : (words words' : List ℕ) (j : ℕ) → get_or words' (3 * j) 0 ≡ get_or words (3 * j) 0
    → get_or words' (3 * j + 1) 0 ≡ get_or words (3 * j + 1) 0 → get_or words' (3 * j + 2) 0 ≡ get_or words (3 * j + 2) 0
    → slot_at words' j ≡ slot_at words j
unfolding slot_at
slot_same words words' j p q r = slot_is words' j (slot_at words j) p q r

pub slot_past : (words : List ℕ) (j : ℕ) → length words ≤ 3 * j
    → slot_at words j ≡ record { kind = 0; low = 0; high = 0 }
slot_past words j h =
    slot_is words j (record { kind = 0; low = 0; high = 0 })
    (get_or_past words (3 * j) 0 h) (get_or_past words (3 * j + 1) 0 (omega arith))
    (get_or_past words (3 * j + 2) 0 (omega arith))

-- the three words of slot j written
written : List ℕ → ℕ → Slot → List ℕ
written words j s = set (set (set words (3 * j) s.kind) (3 * j + 1) s.low) (3 * j + 2) s.high

written_other : (words : List ℕ) (j : ℕ) (s : Slot) (w : ℕ) → (w ≡ 3 * j → ⊥) → (w ≡ 3 * j + 1 → ⊥)
    → (w ≡ 3 * j + 2 → ⊥) → get_or (written words j s) w 0 ≡ get_or words w 0
unfolding written
written_other words j s w p q r =
    get_or-set_other (set (set words (3 * j) s.kind) (3 * j + 1) s.low) (3 * j + 2) w s.high 0 r
    ∙ (get_or-set_other (set words (3 * j) s.kind) (3 * j + 1) w s.low 0 q ∙ get_or-set_other words (3 * j) w
    s.kind 0 p)

pub wrote : (words : List ℕ) (j : ℕ) (s : Slot) → 3 * j + 3 ≤ length words
    → Wrote words (set (set (set words (3 * j) s.kind) (3 * j + 1) s.low) (3 * j + 2) s.high) j s
unfolding written
wrote words j s h =
    record {
      here = slot_is (written words j s) j s
          (grind (arith, places, get_or-set_same, length-set)) (grind (arith, places, get_or-set_same, length-set))
          (grind (arith, places, get_or-set_same, length-set));
      other = λ i n. slot_same words (written words j s) i
          (written_other words j s (3 * i) (λ e. n (omega arith)) (λ e. omega arith) (λ e. omega arith))
          (written_other words j s (3 * i + 1) (λ e. omega arith) (λ e. n (omega arith)) (λ e. omega arith))
          (written_other words j s (3 * i + 2) (λ e. omega arith) (λ e. omega arith) (λ e. n (omega arith)));
    }

pub cell_past : (words : List ℕ) (c : ℕ) → length words ≤ 6 * c
    → record { left = record { kind = 0; low = 0; high = 0 }; right = record { kind = 0; low = 0; high = 0 } } ≡
    cell_at words c
cell_past words c h =
    let p : slot_at words (2 * c) ≡ record { kind = 0; low = 0; high = 0 } = slot_past words (2 * c) (omega arith) in
    let q : slot_at words (2 * c + 1) ≡ record { kind = 0; low = 0; high = 0 } = slot_past words (2 * c + 1)
    (omega arith) in
    cc
