-- A product by b fits exactly where the other factor lies between the ends of the range, each divided by b toward 0.
-- By the signs of the factors that is one fact of naturals, in two of its four cases at the upper end and in two at the
-- lower one: m is at most n / d exactly where m * d is at most n.
use Rattle.std.proofs.Common.{◌≡◌, ℕ, zero, suc, ◌-◌, ◌*◌, ◌/◌, ◌^◌, ◌<◌, ◌≤◌, Bool, true, false, ◌&&◌, leb, ℤ, pos, negsuc, ◌*ℤ◌, neg_ℤ, sym, refl, ap, ◌∙◌, ⊎_elim, div-lt_iff_lt-mul, le-div_iff_mul-le, arith, lit<, to_z-of_z, w64, SFits}
use mathlib.Core.Bool.{and-true}
use lib.Dec.{leb-suc-suc}
use lib.Signed.{le_z, lt_z, quot_z}
use Rattle.std.proofs.lemmas.Int.{ints}
use Rattle.std.proofs.lemmas.Bool.{cases_lt, le-leb, lt-leb}
use Rattle.meaning.specs.Values.{fits}
use Rattle.numbers.proofs.Fitting.{read, NotZero, NotMinusOne, truncated_fits}

-- the ends of the range
abbrev least : ℤ
least = negsuc (2 ^ 63 - 1)

abbrev greatest : ℤ
greatest = pos (2 ^ 63 - 1)

abbrev between : ℤ → ℤ → ℤ → Bool
between low a high = le_z low a && le_z a high

-- m is at most n / d exactly where m * d is at most n
leb_div : (m n d : ℕ) → 0 < d → leb m (n / d) ≡ leb (m * d) n
leb_div m n d h =
    ⊎_elim
    (λ (above : n / d < m). lt-leb m (n / d) above ∙ sym (lt-leb (m * d) n ((div-lt_iff_lt-mul h).0 above)))
    (λ (below : m ≤ n / d). le-leb m (n / d) below ∙ sym (le-leb (m * d) n ((le-div_iff_mul-le h).0 below)))
    (cases_lt (n / d) m)

-- a number at or below 0, beside one that is not, and beside one that is
le_z_negated_pos : (n m : ℕ) → le_z (neg_ℤ (pos n)) (pos m) ≡ true
le_z_negated_pos zero m = le-leb 0 m (omega arith)
le_z_negated_pos (suc n) m = refl

le_z_negated_negsuc : (n m : ℕ) → le_z (neg_ℤ (pos n)) (negsuc m) ≡ leb (suc m) n
le_z_negated_negsuc zero m = sym (lt-leb (suc m) 0 (omega arith))
le_z_negated_negsuc (suc n) m = sym (leb-suc-suc m n)

fits_pos : (n : ℕ) → leb n (2 ^ 63 - 1) ≡ fits (pos n)
fits_pos n = sym (leb-suc-suc n (2 ^ 63 - 1))

fits_negated : (n : ℕ) → leb n (2 ^ 63) ≡ fits (neg_ℤ (pos n))
fits_negated zero = refl
fits_negated (suc n) = refl

-- a factor between the ends, divided by a number above 0, and by one below it
fits_by_positive : (a : ℤ) (d : ℕ) → 0 < d
    → between (quot_z least (pos d)) a (quot_z greatest (pos d)) ≡ fits (a *ℤ pos d)
fits_by_positive (pos m) d h =
    ap (λ (t : Bool). t && leb m ((2 ^ 63 - 1) / d)) (le_z_negated_pos (2 ^ 63 / d) m)
    ∙ leb_div m (2 ^ 63 - 1) d h ∙ fits_pos (m * d)
fits_by_positive (negsuc m) d h =
    and-true (le_z (quot_z least (pos d)) (negsuc m)) ∙ le_z_negated_negsuc (2 ^ 63 / d) m
    ∙ leb_div (suc m) (2 ^ 63) d h ∙ fits_negated (suc m * d)

fits_by_negative : (a : ℤ) (e : ℕ)
    → between (quot_z greatest (negsuc e)) a (quot_z least (negsuc e)) ≡ fits (a *ℤ negsuc e)
fits_by_negative (pos m) e =
    ap (λ (t : Bool). t && leb m (2 ^ 63 / suc e)) (le_z_negated_pos ((2 ^ 63 - 1) / suc e) m)
    ∙ leb_div m (2 ^ 63) (suc e) (omega arith) ∙ fits_negated (m * suc e)
fits_by_negative (negsuc m) e =
    and-true (le_z (quot_z greatest (negsuc e)) (negsuc m)) ∙ le_z_negated_negsuc ((2 ^ 63 - 1) / suc e) m
    ∙ leb_div (suc m) (2 ^ 63 - 1) (suc e) (omega arith) ∙ fits_pos (suc m * suc e)

-- the test as the machine makes it
least_over : (b : ℤ) → NotMinusOne b → SFits w64 (quot_z least b)
least_over b n = truncated_fits least b (record { sfits = lit< tt }) n

greatest_over : (b : ℤ) → NotMinusOne b → SFits w64 (quot_z greatest b)
greatest_over b n = truncated_fits greatest b (record { sfits = lit< tt }) n

pub fits_below : (a b : ℤ) → SFits w64 a → SFits w64 b → NotMinusOne b → lt_z (read b) (pos 0) ≡ true
    → between (read (quot_z greatest (read b))) (read a) (read (quot_z least (read b))) ≡ fits (a *ℤ b)
fits_below a b f g n t =
    simp (to_z-of_z f, to_z-of_z g, to_z-of_z (greatest_over b n), to_z-of_z (least_over b n))
    (by_sign b (simp (to_z-of_z g) at t))
  where
    by_sign : (b : ℤ) → lt_z b (pos 0) ≡ true → between (quot_z greatest b) a (quot_z least b) ≡ fits (a *ℤ b)
    by_sign (pos d) t = absurd (omega (arith, ints))
    by_sign (negsuc e) t = fits_by_negative a e

pub fits_above : (a b : ℤ) → SFits w64 a → SFits w64 b → NotZero b → NotMinusOne b → lt_z (read b) (pos 0) ≡ false
    → between (read (quot_z least (read b))) (read a) (read (quot_z greatest (read b))) ≡ fits (a *ℤ b)
fits_above a b f g z n t =
    simp (to_z-of_z f, to_z-of_z g, to_z-of_z (greatest_over b n), to_z-of_z (least_over b n))
    (by_sign b z (simp (to_z-of_z g) at t))
  where
    by_sign : (b : ℤ) → NotZero b → lt_z b (pos 0) ≡ false → between (quot_z least b) a (quot_z greatest b) ≡ fits (a *ℤ b)
    by_sign (pos d) z t = fits_by_positive a d (omega arith)
    by_sign (negsuc e) z t = absurd (omega (arith, ints))
