-- Numbers in a row of slots. They are as their slots are, so a write behind them changes none, and a write of the next
-- slot is one number more at the end.
use Rattle.std.proofs.Common.{◌≡◌, ℕ, zero, suc, ◌+◌, ◌-◌, ◌<◌, ◌≤◌, List, [], ◌∷◌, ◌++◌, length, sym, refl, ap, ◌∙◌, arith}
use Rattle.store.specs.Slots.{slot_at, place_of, Wrote}
use Rattle.store.specs.declared.slot.Slot.{Slot}
use Rattle.queue.specs.Line.{numbers}

pub length-numbers : (words : List ℕ) (i n : ℕ) → length (numbers words i n) ≡ n
length-numbers words i zero = refl
length-numbers words i (suc n) = ap suc (length-numbers words (suc i) n)

pub numbers_ap : {words words' : List ℕ} {i i' n n' : ℕ} → words' ≡ words → i' ≡ i → n' ≡ n
    → numbers words' i' n' ≡ numbers words i n
numbers_ap {words} {words'} {i} {i'} {n} {n'} p q r =
    ap (λ w. numbers w i' n') p ∙ (ap (λ j. numbers words j n') q ∙ ap (λ k. numbers words i k) r)

pub numbers-same : (words words' : List ℕ) (i n : ℕ)
    → ((j : ℕ) → j < i + n → slot_at words' j ≡ slot_at words j) → numbers words' i n ≡ numbers words i n
numbers-same words words' i zero same = refl
numbers-same words words' i (suc n) same =
    let here : place_of (slot_at words' i) ≡ place_of (slot_at words i) = ap place_of (same i (omega arith)) in
    let rest : numbers words' (suc i) n ≡ numbers words (suc i) n =
    numbers-same words words' (suc i) n (λ j h. same j (omega arith)) in
    ap (λ m. m ∷ numbers words' (suc i) n) here ∙ ap (λ ns. place_of (slot_at words i) ∷ ns) rest

pub numbers_last : (words : List ℕ) (i n : ℕ)
    → numbers words i (suc n) ≡ numbers words i n ++ (place_of (slot_at words (i + n)) ∷ [])
numbers_last words i zero =
    let e : i + 0 ≡ i = omega arith in ap (λ j. place_of (slot_at words j) ∷ []) (sym e)
numbers_last words i (suc n) =
    let e : suc i + n ≡ i + suc n = omega arith in
    ap (λ ns. place_of (slot_at words i) ∷ ns)
    (numbers_last words (suc i) n ∙ ap (λ j. numbers words (suc i) n ++ (place_of (slot_at words j) ∷ [])) e)

-- the slot behind the numbers from i up to k is written: one number more
pub numbers_push : (words words' : List ℕ) (i k : ℕ) (s : Slot) → i ≤ k → Wrote words words' k s
    → numbers words' i (k + 1 - i) ≡ numbers words i (k - i) ++ (place_of s ∷ [])
numbers_push words words' i k s h w =
    let e : k + 1 - i ≡ suc (k - i) = omega arith in
    let z : i + (k - i) ≡ k = omega arith in
    let same : numbers words' i (k - i) ≡ numbers words i (k - i) =
    numbers-same words words' i (k - i) (λ j l. w.other j (λ q. omega arith)) in
    let last : place_of (slot_at words' (i + (k - i))) ≡ place_of s =
    ap (λ j. place_of (slot_at words' j)) z ∙ ap place_of w.here in
    ap (λ n. numbers words' i n) e ∙ (numbers_last words' i (k - i) ∙ cc)

-- the first of the numbers from i up to k, and those behind it
pub numbers_first : (words : List ℕ) (i k : ℕ) → i < k
    → numbers words i (k - i) ≡ place_of (slot_at words i) ∷ numbers words (i + 1) (k - (i + 1))
numbers_first words i k h =
    let e : k - i ≡ suc (k - (i + 1)) = omega arith in
    let f : suc i ≡ i + 1 = omega arith in
    ap (λ n. numbers words i n) e ∙ ap (λ j. place_of (slot_at words i) ∷ numbers words j (k - (i + 1))) f

-- there are none from i up to k where k is not past i
pub numbers_none : (words : List ℕ) (i k : ℕ) → k ≤ i → numbers words i (k - i) ≡ []
numbers_none words i k h = let e : k - i ≡ 0 = omega arith in ap (λ n. numbers words i n) e
