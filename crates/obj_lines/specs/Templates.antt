-- Texts by templates: `@` stands for a whole number, `~` for micrometres as metres, each other byte for itself.
use Rattle.std.specs.Prelude.{◌≡◌, ◌≢◌, ◌==◌, ◌||◌, ◌&&◌, not, ℕ, ◌+◌, ◌<◌, ◌^◌, ℤ, pos, neg_ℤ, ◌<ℤ◌, ◌≤ℤ◌, Bool, true, false, List, [], ◌∷◌, ◌++◌, length, All, unsigned_abs, int_lt, if◌then◌else◌}
use Rattle.std.specs.List.{flat_map}
use Rattle.std.specs.Char.{is_ascii_digit}
use Rattle.std.specs.Fmt.{decimal, signed_decimal}
use Rattle.spec_page.specs.Lines.{metres}
use Rattle.spec_check.specs.Limits.{IsShort}
use Rattle.exact_mesh.specs.Meshes.{number_at}

-- no digit stands first
abbrev pub is_end : List ℕ → Bool
is_end [] = true
is_end (c ∷ cs) = not (is_ascii_digit c)

-- the text begins with the spelling of this one value, which no digit follows, and these bytes are behind it
pub record IsFrontOf {A : Type 0} (spelling : A → List ℕ) (Within : A → Type 0) (text : List ℕ) (value : A) (rest : List ℕ) : Type 0 where
  pub text_is : spelling value ++ rest ≡ text
  pub within : Within value
  pub ends : is_end rest ≡ true
  pub sole : (other : A) (more : List ℕ) → Within other → is_end more ≡ true → spelling other ++ more ≡ text → (other ≡ value) × (more ≡ rest)

-- the text begins with no such spelling
abbrev pub HasNoFront : {A : Type 0} → (A → List ℕ) → (A → Type 0) → List ℕ → Type 0
HasNoFront {A} spelling Within text = (other : A) (more : List ℕ) → Within other → is_end more ≡ true → spelling other ++ more ≢ text

-- a size below 2^128
abbrev pub IsSize : ℕ → Type 0
IsSize n = n < 2 ^ 128

-- a number of 128 bits with a sign
pub record IsWord (n : ℤ) : Type 0 where
  pub low : neg_ℤ (pos (2 ^ 127)) ≤ℤ n
  pub high : n <ℤ pos (2 ^ 127)

-- the number has this sign and this size
pub record IsSigned (negative : Bool) (size : ℕ) (n : ℤ) : Type 0 where
  pub sign : int_lt n (pos 0) ≡ negative
  pub size_is : unsigned_abs n ≡ size

-- a text without its minus, if there is one
pub record IsWithoutMinus (text : List ℕ) (negative : Bool) (rest : List ℕ) : Type 0 where
  pub text_is : (if negative then 45 ∷ rest else rest) ≡ text
  pub once : negative ≡ false → (more : List ℕ) → rest ≢ 45 ∷ more

abbrev pub is_place : ℕ → Bool
is_place c = (c == 64) || (c == 126)

-- the spelling of a number at a place
abbrev pub numeral : ℕ → ℤ → List ℕ
numeral place n = if place == 64 then signed_decimal n else metres n

-- the text of a template, with the numbers of a list in its places, those from i on
unfoldable pub filled_from : List ℕ → ℕ → List ℤ → List ℕ
filled_from [] i ns = []
filled_from (c ∷ cs) i ns = if is_place c then numeral c (number_at ns i) ++ filled_from cs (i + 1) ns else c ∷ filled_from cs i ns

abbrev pub filled : List ℕ → List ℤ → List ℕ
filled template ns = filled_from template 0 ns

-- how many places a template has
abbrev pub place_count : List ℕ → ℕ
place_count [] = 0
place_count (c ∷ cs) = if is_place c then place_count cs + 1 else place_count cs

-- neither a digit nor a place stands first
abbrev pub is_break : List ℕ → Bool
is_break [] = true
is_break (c ∷ cs) = not (is_place c) && not (is_ascii_digit c)

-- behind each place is a break
abbrev pub is_template : List ℕ → Bool
is_template [] = true
is_template (c ∷ cs) = (not (is_place c) || is_break cs) && is_template cs

-- so many numbers of 128 bits
pub record AreWords (count : ℕ) (ns : List ℤ) : Type 0 where
  pub count_is : length ns ≡ count
  pub each : (i : ℕ) → i < count → IsWord (number_at ns i)

-- the text is that of the template with these numbers, and with no others
pub record IsFilledBy (template text : List ℕ) (count : ℕ) (ns : List ℤ) : Type 0 where
  pub words : AreWords count ns
  pub text_is : filled template ns ≡ text
  pub sole : (others : List ℤ) → AreWords count others → filled template others ≡ text → others ≡ ns

-- the text is not that of the template, whatever the numbers are
abbrev pub IsNotFilled : List ℕ → List ℕ → ℕ → Type 0
IsNotFilled template text count = (others : List ℤ) → AreWords count others → filled template others ≢ text

-- the text is that of the template with these two numbers of at most 18 digits
pub record IsTwo (template text : List ℕ) (first second : ℕ) : Type 0 where
  pub filled_by : IsFilledBy template text 2 (pos first ∷ pos second ∷ [])
  pub first_short : IsShort first
  pub second_short : IsShort second

abbrev pub IsNotTwo : List ℕ → List ℕ → Type 0
IsNotTwo template text = (first second : ℕ) → IsShort first → IsShort second → filled template (pos first ∷ pos second ∷ []) ≢ text

-- the text is that of the template with these three numbers of at most 18 digits
pub record IsThree (template text : List ℕ) (first second third : ℕ) : Type 0 where
  pub filled_by : IsFilledBy template text 3 (pos first ∷ pos second ∷ pos third ∷ [])
  pub first_short : IsShort first
  pub second_short : IsShort second
  pub third_short : IsShort third

abbrev pub IsNotThree : List ℕ → List ℕ → Type 0
IsNotThree template text = (first second third : ℕ) → IsShort first → IsShort second → IsShort third → filled template (pos first ∷ pos second ∷ pos third ∷ []) ≢ text

-- the number of a corner, behind a space
abbrev pub spaced_index : ℕ → List ℕ
spaced_index n = 32 ∷ decimal n

abbrev pub IsIndex : ℕ → Type 0
IsIndex n = n < 2 ^ 64

abbrev pub indices_text : List ℕ → List ℕ
indices_text ns = flat_map spaced_index ns

-- the text is that of these numbers, and of no others
pub record AreIndicesOf (text ns : List ℕ) : Type 0 where
  pub within : All IsIndex ns
  pub text_is : indices_text ns ≡ text
  pub sole : (others : List ℕ) → All IsIndex others → indices_text others ≡ text → others ≡ ns

abbrev pub IsNoIndices : List ℕ → Type 0
IsNoIndices text = (others : List ℕ) → All IsIndex others → indices_text others ≢ text
