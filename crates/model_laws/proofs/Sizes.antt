-- A line has at most 300 bytes.
use Rattle.std.proofs.Common.{ℕ, ◌+◌, ◌≤◌, suc, ℤ, pos, negsuc, unsigned_abs, List, [], ◌∷◌, ◌++◌, length, length-append, arith}
use Rattle.std.specs.Fmt.{decimal, signed_decimal}
use Rattle.std.proofs.lemmas.Fmt.{length-decimal-le_wide}
use Rattle.model_gen.specs.Lines as text
use Rattle.model_gen.specs.Lines.{reference, name, millimetres, coordinate, further}
use Rattle.file_templates.proofs.Decimals.{IsShortNumber}

-- a whole number of at most 18 digits
abbrev pub IsShortWhole : ℤ → Type 0
IsShortWhole z = IsShortNumber (unsigned_abs z)

decimal_short : (n : ℕ) → IsShortNumber n → length (decimal n) ≤ 18
decimal_short n h = length-decimal-le_wide 18 n (omega arith) h (omega arith)

signed_short : (z : ℤ) → IsShortWhole z → length (signed_decimal z) ≤ 19
signed_short (pos n) h = omega (arith, decimal_short n h)
signed_short (negsuc n) h = omega (arith, decimal_short (suc n) h)

pub reference_short : (n : ℕ) → IsShortNumber n → length (reference n) ≤ 19
reference_short n h = omega (arith, decimal_short n h)

pub references_short : (m n : ℕ) → IsShortNumber m → IsShortNumber n → length (text.references m n) ≤ 39
references_short m n h k = omega (arith, length-append (reference m) (44 ∷ reference n), reference_short m h, reference_short n k)

pub millimetres_short : (n : ℕ) → IsShortNumber n → length (millimetres n) ≤ 19
millimetres_short n h = omega (arith, length-append (decimal n) (46 ∷ []), decimal_short n h)

pub lengths_short : (m n : ℕ) → IsShortNumber m → IsShortNumber n → length (text.two_lengths m n) ≤ 39
lengths_short m n h k = omega (arith, length-append (millimetres m) (44 ∷ millimetres n), millimetres_short m h, millimetres_short n k)

coordinate_short : (z : ℤ) → IsShortWhole z → length (coordinate z) ≤ 20
coordinate_short z h = omega (arith, length-append (signed_decimal z) (46 ∷ []), signed_short z h)

pub coordinates_short : (x y z : ℤ) → IsShortWhole x → IsShortWhole y → IsShortWhole z → length (text.coordinates x y z) ≤ 62
coordinates_short x y z h k l =
    omega (arith, length-append (coordinate x ++ further y) (further z), length-append (coordinate x) (further y), coordinate_short x h, coordinate_short y k, coordinate_short z l)

pub line_short : (n : ℕ) (before between behind : List ℕ) → IsShortNumber n → length before + length between + length behind ≤ 250
    → length (text.line n before between behind) ≤ 300
line_short n before between behind h k =
    omega (
      arith,
      k,
      length-append (name n ++ before ++ between) behind,
      length-append (name n ++ before) between,
      length-append (name n) before,
      length-append (reference n) (61 ∷ []),
      reference_short n h,
    )
