-- What `divide` and `modulo` return is the exact result: the machine's quotient fits, since the divisor is not -1, and
-- so does its remainder; so each is read as it was computed, and what is known of rounding gives the result from it.
use Rattle.std.proofs.Common.{◌≡◌, zero, suc, ◌+◌, ◌/◌, ◌<◌, Bool, true, false, ℤ, pos, negsuc, ◌+ℤ◌, ◌-ℤ◌, Ok, sym, refl, ap, ◌∙◌, subst, div-le_self, arith, to_z-of_z, w64, SFits}
use native.Mathlib.Nat.{add-div_right, div-lt_self}
use lib.Signed.{quot_z, rem_z, mag_rem}
use mir.ValLaws.{sfits_le}
use Rattle.std.proofs.lemmas.Nat.{div_below}
use Rattle.std.proofs.lemmas.Int.{ints}
use Rattle.std.proofs.lemmas.Bool.{ne_eqb}
use Rattle.meaning.specs.Values.{is_zero, quotient, remainder}
use Rattle.numbers.specs.Divided.{Divided, opposite}
use Rattle.numbers.proofs.Fitting.{read, NotZero, NotMinusOne, fits_true, negated_size, truncated_fits}
use Rattle.numbers.proofs.Rounding.{positive, quotient_stays, quotient_lowers, remainder_stays, remainder_raises}

not_zero : (b : ℤ) → NotZero b → is_zero b ≡ false
not_zero (pos b) h = ne_eqb b 0 h
not_zero (negsuc b) h = refl

quotient_fits : (a b : ℤ) → SFits w64 a → is_zero b ≡ false → NotMinusOne b → SFits w64 (quotient a b)
quotient_fits (pos a) (pos b) f z n = record { sfits = omega (arith, f.sfits, div-le_self a b) }
quotient_fits (pos a) (negsuc b) f z n =
    let h : (a + b) / suc b < suc a = div_below (a + b) (suc b) (suc a) (omega arith) (omega arith) in
    record { sfits = omega (arith, f.sfits, negated_size ((a + b) / suc b)) }
quotient_fits (negsuc a) (pos b) f z n =
    let e = add-div_right a (positive b z) in
    record { sfits = omega (arith, f.sfits, e, div-le_self a b, negated_size ((a + b) / b)) }
quotient_fits (negsuc a) (negsuc zero) f z n = absurd (n refl)
quotient_fits (negsuc a) (negsuc (suc b)) f z n =
    record { sfits = omega (arith, f.sfits, div-lt_self {n = suc a} {k = suc (suc b)} (omega arith) (omega arith)) }

truncated_remainder-fits : (a b : ℤ) → SFits w64 a → SFits w64 (rem_z a b)
truncated_remainder-fits a b f = sfits_le (mag_rem a b) f

raised_fits : (r b : ℤ) → SFits w64 r → SFits w64 b → opposite r b ≡ true → SFits w64 (r +ℤ b)
raised_fits r (pos b) f g o = omega (arith, ints)
raised_fits r (negsuc b) f g o = omega (arith, ints)

-- the sign of the remainder, as the machine tests it
sign : (a b : ℤ) (t : Bool) → SFits w64 a → SFits w64 b → t ≡ opposite (read (rem_z (read a) (read b))) (read b)
    → opposite (rem_z a b) b ≡ t
sign a b t f g o =
    let m : SFits w64 (rem_z a b) = truncated_remainder-fits a b f in sym (simp (to_z-of_z f, to_z-of_z g, to_z-of_z m) at o)

-- z, the exact result of a division by b, fits, and is x, which the machine computes
computed : (b z x : ℤ) → is_zero b ≡ false → SFits w64 z → z ≡ x → Divided (Ok (read x)) b z
computed b z x n f e = (n, fits_true z f, ap read (sym e) ∙ to_z-of_z f)

-- the quotient, where the remainder has another sign than the divisor, and where it has not
pub quotient_lowered : (a b : ℤ) → SFits w64 a → SFits w64 b → NotZero b → NotMinusOne b
    → true ≡ opposite (read (rem_z (read a) (read b))) (read b)
    → Divided (Ok (read (read (quot_z (read a) (read b)) -ℤ pos 1))) b (quotient a b)
quotient_lowered a b f g z m o =
    let n : is_zero b ≡ false = not_zero b z in
    let q : SFits w64 (quot_z a b) = truncated_fits a b f m in
    let e : quotient a b ≡ quot_z a b -ℤ pos 1 = quotient_lowers a b n (sign a b true f g o) in
    computed b (quotient a b) (read (quot_z (read a) (read b)) -ℤ pos 1) n (quotient_fits a b f n m)
    (simp (to_z-of_z f, to_z-of_z g, to_z-of_z q) e)

pub quotient_kept : (a b : ℤ) → SFits w64 a → SFits w64 b → NotZero b → NotMinusOne b
    → false ≡ opposite (read (rem_z (read a) (read b))) (read b)
    → Divided (Ok (read (quot_z (read a) (read b)))) b (quotient a b)
quotient_kept a b f g z m o =
    let n : is_zero b ≡ false = not_zero b z in
    let e : quotient a b ≡ quot_z a b = quotient_stays a b n (sign a b false f g o) in
    computed b (quotient a b) (quot_z (read a) (read b)) n (quotient_fits a b f n m) (simp (to_z-of_z f, to_z-of_z g) e)

-- the remainder, likewise
pub remainder_raised : (a b : ℤ) → SFits w64 a → SFits w64 b → NotZero b
    → true ≡ opposite (read (rem_z (read a) (read b))) (read b)
    → Divided (Ok (read (read (rem_z (read a) (read b)) +ℤ read b))) b (remainder a b)
remainder_raised a b f g z o =
    let n : is_zero b ≡ false = not_zero b z in
    let s : opposite (rem_z a b) b ≡ true = sign a b true f g o in
    let m : SFits w64 (rem_z a b) = truncated_remainder-fits a b f in
    let e : remainder a b ≡ rem_z a b +ℤ b = remainder_raises a b n s in
    let h : SFits w64 (remainder a b) = subst (λ (x : ℤ). SFits w64 x) (sym e) (raised_fits (rem_z a b) b m g s) in
    computed b (remainder a b) (read (rem_z (read a) (read b)) +ℤ read b) n h
    (simp (to_z-of_z f, to_z-of_z g, to_z-of_z m) e)

pub remainder_kept : (a b : ℤ) → SFits w64 a → SFits w64 b → NotZero b
    → false ≡ opposite (read (rem_z (read a) (read b))) (read b)
    → Divided (Ok (read (rem_z (read a) (read b)))) b (remainder a b)
remainder_kept a b f g z o =
    let n : is_zero b ≡ false = not_zero b z in
    let m : SFits w64 (rem_z a b) = truncated_remainder-fits a b f in
    let e : remainder a b ≡ rem_z a b = remainder_stays a b n (sign a b false f g o) in
    computed b (remainder a b) (rem_z (read a) (read b)) n (subst (λ (x : ℤ). SFits w64 x) (sym e) m)
    (simp (to_z-of_z f, to_z-of_z g) e)
