-- The text of a number, as values have it, is the one that the library knows: so the digits that it writes into a buffer
-- are the number's text there, before which a sign may be set.
use Rattle.std.proofs.Common.{◌≡◌, ℕ, suc, ◌-◌, ◌^◌, ◌<◌, ◌≤◌, List, [], ◌∷◌, ◌++◌, length, drop, set, take, ℤ, pos, negsuc, nat_abs, ◌<ℤ◌, decimal as spelled, sym, refl, ap, ◌∙◌, append-nil, arith, length-set, rules}
use lib.ListN.{drop_of_length-le}
use borrow.Rule.Slice.PartMut.{mid_of}
use Rattle.std.proofs.lemmas.Int.{ints}
use Rattle.std.proofs.lemmas.Fmt.{PrependsLastDigit, decimal_from_prepends, length-decimal-le_succ}
use Rattle.std.proofs.lemmas.List.{take_rest, drop-set}
use Rattle.meaning.specs.Values.{decimal, digits}

digits_spell : PrependsLastDigit digits
digits_spell = search rules

pub decimal_is : (n : ℕ) → n < 2 ^ 64 → decimal (pos n) ≡ spelled n
decimal_is n h = decimal_from_prepends digits digits_spell (suc n) n [] h (omega (arith, length-decimal-le_succ n h))
    ∙ append-nil (spelled n)

pub decimal_negative : (z : ℤ) (size : ℕ) → z <ℤ pos 0 → size ≡ nat_abs z → 45 ∷ decimal (pos size) ≡ decimal z
decimal_negative (pos n) size l e = absurd (omega (arith, ints))
decimal_negative (negsuc n) size l e = ap (λ k. 45 ∷ decimal (pos k)) e

pub decimal_positive : (z : ℤ) (size : ℕ) → (z <ℤ pos 0 → ⊥) → size ≡ nat_abs z → decimal (pos size) ≡ decimal z
decimal_positive (pos n) size l e = ap (λ k. decimal (pos k)) e
decimal_positive (negsuc n) size l e = absurd (l (omega (arith, ints)))

-- a buffer of k bytes from the place i on
pub rest_of : (k i : ℕ) (xs : List ℕ) → length xs ≡ k → mid_of i (k - i) xs ≡ drop i xs
rest_of k i xs e = ap (λ n. mid_of i (n - i) xs) (sym e) ∙ take_rest xs i

-- .. and with a sign before that place
pub rest_signed : (k i sign : ℕ) (xs : List ℕ) → length xs ≡ k → 1 ≤ i → i ≤ k →
    mid_of (i - 1) (k - (i - 1)) (set xs (i - 1) sign) ≡ sign ∷ drop i xs
rest_signed k i sign xs e low high =
    rest_of k (i - 1) (set xs (i - 1) sign) (length-set xs (i - 1) sign ∙ e) ∙ (drop-set xs (i - 1) sign (omega arith)
    ∙ ap (λ n. sign ∷ drop n xs) (omega arith))

-- the digits of a number that is n at the end of a buffer, ..
pub number_spelled : (old new : List ℕ) (i n : ℕ) {m : ℕ} → n < 2 ^ 64 → length old ≡ 22
    → drop i new ≡ spelled m ++ drop 22 old → m ≡ n → drop i new ≡ decimal (pos n)
number_spelled old new i n h e w is =
    w ∙ ap (λ k. spelled k ++ drop 22 old) is ∙ (ap (λ t. spelled n ++ t) (drop_of_length-le old {i = 22} (omega arith))
    ∙ (append-nil (spelled n) ∙ sym (decimal_is n h)))

-- .. and before a sign there
pub worker_spelled : (old new : List ℕ) (i n : ℕ) {m : ℕ} → n < 2 ^ 64 → length old ≡ 22
    → drop i new ≡ spelled m ++ drop 21 (set old 21 62) → m ≡ n → drop i new ≡ decimal (pos n) ++ (62 ∷ [])
worker_spelled old new i n h e w is =
    w ∙ ap (λ k. spelled k ++ drop 21 (set old 21 62)) is ∙ (ap (λ t. spelled n ++ t) (drop-set old 21 62 (omega arith)
    ∙ ap (λ t. 62 ∷ t) (drop_of_length-le old {i = 22} (omega arith))) ∙ ap (λ t. t ++ (62 ∷ [])) (sym (decimal_is n h)))

-- the first bytes of a buffer that were set
pub one_set : (xs : List ℕ) (a : ℕ) → 0 < length xs → take 1 (set xs 0 a) ≡ a ∷ []
one_set [] a h = absurd (omega arith)
one_set (x ∷ xs) a h = refl

pub two_set : (xs : List ℕ) (a b : ℕ) → 1 < length xs → take 2 (set (set xs 0 a) 1 b) ≡ a ∷ b ∷ []
two_set [] a b h = absurd (omega arith)
two_set (x ∷ []) a b h = absurd (omega arith)
two_set (x ∷ y ∷ xs) a b h = refl
