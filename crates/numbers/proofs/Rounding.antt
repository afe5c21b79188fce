-- A truncated quotient differs from the one that is rounded down exactly where its remainder has another sign than the
-- divisor: then the quotient is one too large, and the remainder one divisor short.
-- Where the signs differ, that is a fact of naturals: (n + d - 1) / d is n / d where d divides n, and else one more.
use Rattle.std.proofs.Common.{◌≡◌, ℕ, zero, suc, ◌+◌, ◌-◌, ◌*◌, ◌/◌, ◌%◌, ◌<◌, true, false, ℤ, pos, negsuc, ◌+ℤ◌, ◌-ℤ◌, ◌*ℤ◌, neg_ℤ, refl, ap, ◌∙◌, mod-lt, div-add-mod', arith}
use native.Mathlib.Nat.{div-add-mod}
use lib.IntN.{*ℤ_comm, pred_ℤ-*ℤ, -ℤ_one}
use lib.Signed.{quot_z, rem_z}
use Rattle.std.proofs.lemmas.Nat.{div-mul-add}
use Rattle.std.proofs.lemmas.Int.{ints}
use Rattle.std.proofs.lemmas.Bool.{eqb-false}
use Rattle.meaning.specs.Values.{is_zero, quotient, remainder}
use Rattle.numbers.specs.Divided.{opposite}

-- n / d rounded up, where d divides n and where not
ceil_divides : (n d m : ℕ) → 0 < d → n + d ≡ suc m → n % d ≡ 0 → m / d ≡ n / d
ceil_divides n d m h e z =
    let k : m ≡ n / d * d + (d - 1) = omega (arith, div-add-mod' n d) in
    ap (λ (x : ℕ). x / d) k ∙ div-mul-add (n / d) d (d - 1) (omega arith)

ceil_rest : (n d m : ℕ) → 0 < d → n + d ≡ suc m → 0 < n % d → m / d ≡ suc (n / d)
ceil_rest n d m h e p =
    let k : m ≡ suc (n / d) * d + (n % d - 1) = omega (arith, div-add-mod' n d) in
    ap (λ (x : ℕ). x / d) k ∙ div-mul-add (suc (n / d)) d (n % d - 1) (omega (arith, mod-lt n h))

pub positive : (b : ℕ) → is_zero (pos b) ≡ false → 0 < b
positive b z = omega (arith, eqb-false b 0 z)

-- where the remainder has no other sign than the divisor, truncating rounds down
pub quotient_stays : (a b : ℤ) → is_zero b ≡ false → opposite (rem_z a b) b ≡ false → quotient a b ≡ quot_z a b
quotient_stays (pos a) (pos b) z o = refl
quotient_stays (pos a) (negsuc b) z o =
    ap (λ (n : ℕ). neg_ℤ (pos n)) (ceil_divides a (suc b) (a + b) (omega arith) (omega arith) (omega (arith, ints, o)))
quotient_stays (negsuc a) (pos b) z o =
    ap (λ (n : ℕ). neg_ℤ (pos n)) (ceil_divides (suc a) b (a + b) (positive b z) (omega arith) (omega (arith, ints, o)))
quotient_stays (negsuc a) (negsuc b) z o = refl

-- where it has another sign, truncating rounds up, by one
pub quotient_lowers : (a b : ℤ) → is_zero b ≡ false → opposite (rem_z a b) b ≡ true → quotient a b ≡ quot_z a b -ℤ pos 1
quotient_lowers (pos a) (pos b) z o = absurd (omega (arith, ints, o))
quotient_lowers (pos a) (negsuc b) z o =
    ap (λ (n : ℕ). neg_ℤ (pos n)) (ceil_rest a (suc b) (a + b) (omega arith) (omega arith) (omega (arith, ints, o)))
    ∙ omega (arith, ints)
quotient_lowers (negsuc a) (pos b) z o =
    ap (λ (n : ℕ). neg_ℤ (pos n)) (ceil_rest (suc a) b (a + b) (positive b z) (omega arith) (omega (arith, ints, o)))
    ∙ omega (arith, ints)
quotient_lowers (negsuc a) (negsuc b) z o = absurd (omega (arith, ints, o))

times_negated : (b : ℤ) (n : ℕ) → b *ℤ neg_ℤ (pos n) ≡ neg_ℤ (b *ℤ pos n)
times_negated (pos b) zero = omega (arith, ints)
times_negated (pos b) (suc n) = refl
times_negated (negsuc b) zero = omega (arith, ints)
times_negated (negsuc b) (suc n) = omega (arith, ints)

-- the remainder of a truncated quotient
truncated_remainder : (a b : ℤ) → a -ℤ (b *ℤ quot_z a b) ≡ rem_z a b
truncated_remainder (pos a) (pos b) = omega (arith, ints, div-add-mod a b)
truncated_remainder (pos a) (negsuc b) = rw times_negated (omega (arith, ints, div-add-mod a (suc b)))
truncated_remainder (negsuc a) (pos b) = rw times_negated (omega (arith, ints, div-add-mod (suc a) b))
truncated_remainder (negsuc a) (negsuc b) = omega (arith, ints, div-add-mod (suc a) (suc b))

pub remainder_stays : (a b : ℤ) → is_zero b ≡ false → opposite (rem_z a b) b ≡ false → remainder a b ≡ rem_z a b
remainder_stays a b z o = ap (λ (q : ℤ). a -ℤ (b *ℤ q)) (quotient_stays a b z o) ∙ truncated_remainder a b

-- where the quotient is one less, the remainder is one divisor more
times_one_less : (b q : ℤ) → b *ℤ (q -ℤ pos 1) ≡ (b *ℤ q) -ℤ b
times_one_less b q =
    *ℤ_comm b (q -ℤ pos 1) ∙ ap (λ (p : ℤ). p *ℤ b) (-ℤ_one q) ∙ pred_ℤ-*ℤ q b ∙ ap (λ (p : ℤ). p -ℤ b) (*ℤ_comm q b)

pub remainder_raises : (a b : ℤ) → is_zero b ≡ false → opposite (rem_z a b) b ≡ true → remainder a b ≡ rem_z a b +ℤ b
remainder_raises a b z o =
    ap (λ (q : ℤ). a -ℤ (b *ℤ q)) (quotient_lowers a b z o) ∙ ap (λ (p : ℤ). a -ℤ p) (times_one_less b (quot_z a b))
    ∙ moved a (b *ℤ quot_z a b) b (rem_z a b) (truncated_remainder a b)
  where
    moved : (a p b r : ℤ) → a -ℤ p ≡ r → a -ℤ (p -ℤ b) ≡ r +ℤ b
    moved a p b r e = omega (arith, ints, e)
