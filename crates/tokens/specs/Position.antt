-- Where a byte stands in a text. Lines and columns count from 1, and a line feed is the last byte of its line.
use Rattle.std.specs.Prelude.{◌≡◌, ℕ, ◌+◌, ◌-◌, ◌^◌, min, Bool, not, List, ◌++◌, count_by, ◌==◌}
use Rattle.std.specs.List.{suffix_len}

abbrev pub ends_line : ℕ → Bool
ends_line c = c == 10

-- a count, as far as 64 bits hold it
abbrev pub counted : ℕ → ℕ
counted n = min n (2 ^ 64 - 1)

-- the position right behind these bytes: one line more than line feeds, one column more than bytes since the last one
pub record Behind (bytes : List ℕ) (line column : ℕ) : Type 0 where
  pub lines : line ≡ counted (1 + count_by ends_line bytes)
  pub columns : column ≡ counted (1 + suffix_len (λ c. not (ends_line c)) bytes)

-- these bytes lead on from a line and a column to another, whatever stands before them
abbrev pub Passes : ℕ → ℕ → List ℕ → ℕ → ℕ → Type 0
Passes line column bytes line' column' =
    (before : List ℕ) → Behind before line column → Behind (before ++ bytes) line' column'
