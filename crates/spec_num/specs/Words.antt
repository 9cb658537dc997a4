-- Numbers that fit words of a machine.
use Rattle.std.specs.Prelude.{ℤ, pos, neg_ℤ, ◌^◌, ◌&&◌, int_le, int_lt, Option, Some, None, if◌then◌else◌}

-- the number where 128 bits with a sign hold it: from -2^127 to 2^127 - 1
abbrev pub within_128_bits : ℤ → Option ℤ
within_128_bits v = if int_le (neg_ℤ (pos (2 ^ 127))) v && int_lt v (pos (2 ^ 127)) then Some v else None
