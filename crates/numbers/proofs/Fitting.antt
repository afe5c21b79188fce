-- What fits 64 bits: a number that goes to its bits and back, and the machine's truncated quotient by another divisor
-- than -1: by two or more in size it is smaller than the dividend, and by 1 it is the dividend.
use Rattle.std.proofs.Common.{◌≡◌, ℕ, zero, suc, ◌-◌, ◌/◌, ◌^◌, true, ℤ, pos, negsuc, neg_ℤ, refl, div-le_self, arith, w64, SFits, to_z, of_z}
use native.Mathlib.Nat.{div-lt_self}
use lib.Signed.{mag, quot_z}
use Rattle.std.proofs.lemmas.Bool.{lt-ltb}
use Rattle.meaning.specs.Values.{fits}

-- a number as the machine has it: to its bits and back
abbrev pub read : ℤ → ℤ
read z = to_z w64 (of_z w64 z)

-- what a test of a divisor leaves
abbrev pub NotZero : ℤ → Type 0
NotZero b = of_z w64 b ≡ 0 → ⊥

abbrev pub NotMinusOne : ℤ → Type 0
NotMinusOne b = of_z w64 b ≡ 2 ^ 64 - 1 → ⊥

pub fits_true : (z : ℤ) → SFits w64 z → fits z ≡ true
fits_true (pos n) f = lt-ltb n (2 ^ 63) f.sfits
fits_true (negsuc n) f = lt-ltb n (2 ^ 63) f.sfits

pub negated_size : (n : ℕ) → mag (neg_ℤ (pos n)) ≡ n - 1
negated_size zero = refl
negated_size (suc n) = omega arith

pub truncated_fits : (a b : ℤ) → SFits w64 a → NotMinusOne b → SFits w64 (quot_z a b)
truncated_fits (pos a) (pos b) f n = record { sfits = omega (arith, f.sfits, div-le_self a b) }
truncated_fits (pos a) (negsuc b) f n =
    record { sfits = omega (arith, f.sfits, div-le_self a (suc b), negated_size (a / suc b)) }
truncated_fits (negsuc a) (pos b) f n =
    record { sfits = omega (arith, f.sfits, div-le_self (suc a) b, negated_size (suc a / b)) }
truncated_fits (negsuc a) (negsuc zero) f n = absurd (n refl)
truncated_fits (negsuc a) (negsuc (suc b)) f n =
    record { sfits = omega (arith, f.sfits, div-lt_self {n = suc a} {k = suc (suc b)} (omega arith) (omega arith)) }
