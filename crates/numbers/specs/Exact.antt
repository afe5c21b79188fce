-- What an operation on numbers of 64 bits gives: its exact result where that fits, and nothing where it does not.
use Rattle.std.specs.Prelude.{◌≡◌, true, false, ℤ, Some, None, Option}
use Rattle.meaning.specs.Values.{fits}

-- z is the exact result
abbrev pub Exact : Option ℤ → ℤ → Type 0
Exact None z = fits z ≡ false
Exact (Some x) z = (fits z ≡ true) × (x ≡ z)
