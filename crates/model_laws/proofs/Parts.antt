-- Parts of a model file: lines that are well spelled, with their text, whose numbers rise.
use Rattle.std.proofs.Common.{◌≡◌, ℕ, ◌+◌, ◌*◌, ◌<◌, ◌≤◌, suc, List, [], ◌∷◌, ◌++◌, length, length-append, append-nil, refl, ◌∙◌, ap, arith}
use Rattle.std.proofs.lemmas.Grind.{flat_map-append}
use Rattle.std.specs.List.{AllByRecursion, flat_map}
use Rattle.spec_step.specs.Lexemes.{Lexeme}
use Rattle.spec_step.specs.Canonical.{printed_bytes, line_end, canonical}
use Rattle.file_templates.proofs.Templates.{Line, line_tokens}
use Rattle.file_templates.proofs.Spelled.{IsSpelledLine}
use Rattle.file_templates.proofs.Numbers.{Rise, rise_both}
use Rattle.model_laws.proofs.Texts.{printed}

-- a line and its text
pub record IsLine (l : Line) (text : List ℕ) : Type 0 where
  pub text_is : printed l ≡ text
  pub spelled : IsSpelledLine l
  pub short : length text ≤ 300

-- what is printed of lines
abbrev pub all_printed : List Line → List ℕ
all_printed lines = canonical (flat_map line_tokens lines)

-- lines and their text: the numbers rise, from one on and below another, and each takes at most 300 bytes
pub record AreLines (lines : List Line) (text : List ℕ) (low high : ℕ) : Type 0 where
  pub text_is : all_printed lines ≡ text
  pub spelled : AllByRecursion IsSpelledLine lines
  pub rise : Rise low lines high
  pub short : length text + 300 * low ≤ 300 * high

pub canonical_both : (xs ys : List Lexeme) → canonical (xs ++ ys) ≡ canonical xs ++ canonical ys
canonical_both xs ys = flat_map-append (λ l. printed_bytes l ++ line_end l) xs ys

pub printed_both : (xs ys : List Line) → all_printed (xs ++ ys) ≡ all_printed xs ++ all_printed ys
printed_both xs ys = ap canonical (flat_map-append line_tokens xs ys) ∙ canonical_both (flat_map line_tokens xs) (flat_map line_tokens ys)

pub all_both : (P : Line → Type 0) (xs ys : List Line) → AllByRecursion P xs → AllByRecursion P ys → AllByRecursion P (xs ++ ys)
all_both P [] ys h k = k
all_both P (x ∷ xs) ys h k = (h.0, all_both P xs ys h.1 k)

-- Parts are put together where the numbers of the first end below those of the second.

pub no_lines : (low high : ℕ) → low ≤ high → AreLines [] [] low high
no_lines low high le = record { text_is = refl; spelled = tt; rise = le; short = omega arith }

pub one_line : (l : Line) (text : List ℕ) (low high : ℕ) → IsLine l text → low ≤ l.number → l.number < high → AreLines (l ∷ []) text low high
one_line l text low high h le lt = record {
  text_is = ap canonical (append-nil (line_tokens l)) ∙ h.text_is;
  spelled = (h.spelled, tt);
  rise = (le, lt);
  short = omega (arith, h.short);
}

pub both : {low high : ℕ} {xs ys : List Line} {s t : List ℕ} (middle : ℕ) → AreLines xs s low middle → AreLines ys t middle high → AreLines (xs ++ ys) (s ++ t) low high
both {low} {high} {xs} {ys} {s} {t} middle h k = record {
  text_is = printed_both xs ys ∙ ap (λ x. x ++ all_printed ys) h.text_is ∙ ap (λ x. s ++ x) k.text_is;
  spelled = all_both IsSpelledLine xs ys h.spelled k.spelled;
  rise = rise_both low middle high xs ys h.rise k.rise;
  short = omega (arith, length-append s t, h.short, k.short);
}

lower_rise : (low least high most : ℕ) (lines : List Line) → Rise low lines high → least ≤ low → high ≤ most → Rise least lines most
lower_rise low least high most [] h le ge = omega arith
lower_rise low least high most (l ∷ lines) h le ge = (omega (arith, h.0), lower_rise (suc l.number) (suc l.number) high most lines h.1 (omega arith) ge)

-- within a wider range of numbers
pub within : {low high : ℕ} {lines : List Line} {text : List ℕ} (least most : ℕ) → least ≤ low → high ≤ most → AreLines lines text low high → AreLines lines text least most
within {low} {high} {lines} {text} least most le ge h = record {
  text_is = h.text_is;
  spelled = h.spelled;
  rise = lower_rise low least high most lines h.rise le ge;
  short = omega (arith, h.short);
}
