-- A cell that is written above those that wait is on top of them, and to take it off leaves them.
-- What waits depends on the cells below the depth alone, which no write above them changes.
use Rattle.std.proofs.Common.{◌≡◌, ℕ, zero, suc, ◌+◌, ◌*◌, ◌<◌, List, [], ◌∷◌, length, refl, ap, ◌∙◌, add-one, arith}
use Rattle.store.specs.Slots.{slot_at, cell_at, WroteCell}
use Rattle.store.specs.Stack.{cells_of}
use Rattle.store.specs.declared.slot.Cell.{Cell}
use Rattle.store.specs.declared.slot.Slot.{Slot}

cells_same : (words words' : List ℕ) (n : ℕ) → ((i : ℕ) → i < 2 * n → slot_at words' i ≡ slot_at words i)
    → cells_of words' n ≡ cells_of words n
unfolding cells_of
cells_same words words' zero e = refl
cells_same words words' (suc n) e =
    let l = e (2 * n) (omega arith) in
    let r = e (2 * n + 1) (omega arith) in
    let below = cells_same words words' n (λ i h. e i (omega arith)) in
    cc

parts : {a b c d : Slot} → a ≡ c → b ≡ d → ◌≡◌ {A = Cell} (record { left = a; right = b }) (record { left = c; right = d })
parts p q = cc

pub popped : (words : List ℕ) (n : ℕ) {n' : ℕ} → n' ≡ n + 1 → cells_of words n' ≡ cell_at words n ∷ cells_of words n
unfolding cells_of
popped words n e = ap (cells_of words) (e ∙ add-one n)

pub pushed : (words words' : List ℕ) (n : ℕ) {x : Cell} → WroteCell words words' n x
    → cells_of words' (n + 1) ≡ x ∷ cells_of words n
pushed words words' n {x} w =
    let top : cells_of words' (n + 1) ≡ cell_at words' n ∷ cells_of words' n = popped words' n refl in
    let l : slot_at words' (2 * n) ≡ x.left = w.left in
    let r : slot_at words' (2 * n + 1) ≡ x.right = w.right in
    let cell : cell_at words' n ≡ x = parts l r in
    let below = cells_same words words' n (λ i h. w.other i (λ e. omega arith) (λ e. omega arith)) in
    cc

pub length-cells_of : (words : List ℕ) (n : ℕ) → length (cells_of words n) ≡ n
unfolding cells_of
length-cells_of words zero = refl
length-cells_of words (suc n) = omega (arith, length-cells_of words n)

pub none_below : (words : List ℕ) (n : ℕ) → n ≡ 0 → cells_of words n ≡ []
unfolding cells_of
none_below words n z = ap (cells_of words) z
