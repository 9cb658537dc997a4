-- A number in two words of 128 bits.
use Rattle.std.specs.Prelude.{ℕ, ℤ, pos, ◌^◌, ◌+ℤ◌, ◌*ℤ◌}

-- the number whose high word, with a sign, and low word these are
abbrev pub of_words : ℤ → ℕ → ℤ
of_words high low = pos (2 ^ 128) *ℤ high +ℤ pos low
