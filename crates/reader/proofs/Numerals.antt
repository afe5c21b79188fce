-- A number of i digits is below 10 ^ i, so before the last of 18 digits it is below 10 ^ 17,
-- and one digit more keeps it within 64 bits.
use Rattle.std.proofs.Common.{ℕ, ◌^◌, ◌<◌, ◌≤◌, arith}
use native.Mathlib.Nat.{pow-le-pow_right}

pub digits-below : (n i : ℕ) → i < 18 → n < 10 ^ i → n < 10 ^ 17
digits-below n i l h =
    let short : i ≤ 17 = omega arith in
    let ten : 0 < 10 = omega arith in
    let power : 10 ^ i ≤ 10 ^ 17 = pow-le-pow_right ten {i = i} {j = 17} short in
    omega arith
