-- What is read of the text of a line.
use Rattle.std.specs.Prelude.{◌≡◌, ◌≢◌, ℕ, List, [], ◌∷◌, ◌++◌, Option, Some, None}
use Rattle.spec_space.specs.declared.Vector.{Vector}
use Rattle.spec_refusal.specs.declared.Refusal.TheVariants.{Unsupported, Curved, BadAttribute, Dangling, NumberTooLarge, BadDirection, ScaleOutOfRange, TooDeep, ElementTooLarge, CornerTooFar, OpenShell, PlaneTooLarge, Unbounded}
use Rattle.plane_core.specs.Views.{point_of}
use Rattle.exact_mesh.specs.Meshes.{numbered_plane, vector_of}
use Rattle.obj_lines.specs.PageLines.{PageLine, line_text, IsLineWithin}
use Rattle.obj_lines.specs.PageLines as page
use Rattle.obj_lines.specs.declared.line.Line.{Line}
use Rattle.obj_lines.specs.declared.line.Line.TheVariants.{Version, Grid, Element, Frame, Exact, Printed, Face, Edge, Indices, Volume, Skipped, Refused, End}

abbrev pub line_of : Line → PageLine
line_of Version = page.Version
line_of (Grid n) = page.Grid n
line_of (Element n) = page.Element n
line_of (Frame f) = page.Frame f
line_of (Exact c) = page.Exact (point_of c)
line_of (Printed v) = page.Printed (vector_of v)
line_of (Face h) = page.Face (numbered_plane h)
line_of (Edge h) = page.Edge (numbered_plane h)
line_of (Indices ns) = page.Indices ns.items
line_of (Volume six) = page.Volume six
line_of (Skipped n) = page.Skipped n
line_of (Refused n why) = page.Refused n why
line_of End = page.End

-- the line keeps the limits, has this text, its line feed aside, and is the one such line
pub record IsLineOf (text : List ℕ) (line : PageLine) : Type 0 where
  pub within : IsLineWithin line
  pub text_is : line_text line ≡ text ++ 10 ∷ []
  pub sole : (other : PageLine) → IsLineWithin other → line_text other ≡ text ++ 10 ∷ [] → other ≡ line

-- the line of the text; there is none where no line within the limits has it
abbrev pub IsReadingOf : List ℕ → Option Line → Type 0
IsReadingOf text (Some line) = IsLineOf text (line_of line)
IsReadingOf text None = (line : PageLine) → IsLineWithin line → line_text line ≢ text ++ 10 ∷ []

-- no line of this kind has the text
abbrev pub IsNotOf : {A : Type 0} → (A → PageLine) → List ℕ → Type 0
IsNotOf {A} make text = (a : A) → IsLineWithin (make a) → line_text (make a) ≢ text ++ 10 ∷ []

-- the line of the text; there is none where no line of this kind has it
abbrev pub IsReadingAs : {A : Type 0} → (A → PageLine) → List ℕ → Option Line → Type 0
IsReadingAs make text (Some line) = IsLineOf text (line_of line)
IsReadingAs make text None = IsNotOf make text

-- no line of a corner, a face or a volume has the text
pub record IsNoShape (text : List ℕ) : Type 0 where
  pub exact : IsNotOf page.Exact text
  pub printed : IsNotOf page.Printed text
  pub edge : IsNotOf page.Edge text
  pub face : IsNotOf page.Face text
  pub volume : IsNotOf page.Volume text

-- no other line of an element has it, nor one of those that stand once on a page
pub record IsNoHead (text : List ℕ) : Type 0 where
  pub element : IsNotOf page.Element text
  pub frame : IsNotOf page.Frame text
  pub skipped : IsNotOf page.Skipped text
  pub version : IsNotOf (λ (u : Unit {0}). page.Version) text
  pub grid : IsNotOf page.Grid text
  pub end : IsNotOf (λ (u : Unit {0}). page.End) text

-- no line of an element that is refused by one of the first seven codes has the text
pub record IsNoEarly (text : List ℕ) : Type 0 where
  pub unsupported : IsNotOf (λ (n : ℕ × ℕ). page.Refused n.0 (Unsupported n.1)) text
  pub curved : IsNotOf (λ (n : ℕ × ℕ). page.Refused n.0 (Curved n.1)) text
  pub bad_attribute : IsNotOf (λ (n : ℕ × ℕ × ℕ). page.Refused n.0 (BadAttribute n.1 n.2)) text
  pub dangling : IsNotOf (λ (n : ℕ × ℕ × ℕ). page.Refused n.0 (Dangling n.1 n.2)) text
  pub number_too_large : IsNotOf (λ (n : ℕ × ℕ). page.Refused n.0 (NumberTooLarge n.1)) text
  pub bad_direction : IsNotOf (λ (n : ℕ × ℕ). page.Refused n.0 (BadDirection n.1)) text
  pub scale_out_of_range : IsNotOf (λ (n : ℕ × ℕ). page.Refused n.0 (ScaleOutOfRange n.1)) text

-- nor one that is refused by one of the others
pub record IsNoLate (text : List ℕ) : Type 0 where
  pub too_deep : IsNotOf (λ (n : ℕ × ℕ). page.Refused n.0 (TooDeep n.1)) text
  pub element_too_large : IsNotOf (λ (n : ℕ × ℕ). page.Refused n.0 (ElementTooLarge n.1)) text
  pub corner_too_far : IsNotOf (λ (n : ℕ × ℕ). page.Refused n.0 (CornerTooFar n.1)) text
  pub open_shell : IsNotOf (λ (n : ℕ × ℕ × Vector × Vector). page.Refused n.0 (OpenShell n.1 n.2 n.3)) text
  pub plane_too_large : IsNotOf (λ (n : ℕ × ℕ). page.Refused n.0 (PlaneTooLarge n.1)) text
  pub unbounded : IsNotOf (λ (n : ℕ × ℕ). page.Refused n.0 (Unbounded n.1)) text
