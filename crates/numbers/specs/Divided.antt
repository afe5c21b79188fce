-- What a division gives: where the divisor is not 0, its exact result if that fits, and else that it is too big.
use Rattle.std.specs.Prelude.{◌≡◌, Bool, true, false, ℤ, pos, negsuc, int_lt, Ok, Err, Result}
use Rattle.meaning.specs.Values.{fits, is_zero}
use Rattle.numbers.specs.declared.division.DivisionError.{DivisionError}
use Rattle.numbers.specs.declared.division.DivisionError.TheVariants.{TooBig, ByZero}

-- b is the divisor, and z the exact result: a quotient or a remainder
abbrev pub Divided : Result ℤ DivisionError → ℤ → ℤ → Type 0
Divided (Err ByZero) b z = is_zero b ≡ true
Divided (Err TooBig) b z = (is_zero b ≡ false) × (fits z ≡ false)
Divided (Ok x) b z = (is_zero b ≡ false) × (fits z ≡ true) × (x ≡ z)

-- a remainder r is not 0 and has another sign than the divisor
abbrev pub opposite : ℤ → ℤ → Bool
opposite r (pos b) = int_lt r (pos 0)
opposite r (negsuc b) = int_lt (pos 0) r
