-- The lines of a page, each by itself.
use Rattle.std.specs.Prelude.{ℕ, ℤ, ◌<◌, ◌^◌, List, [], ◌∷◌, ◌++◌, Option, IfSome, All, ⊤, codes}
use Rattle.std.specs.List.{flat_map}
use Rattle.std.specs.Fmt.{decimal}
use Rattle.spec_space.specs.declared.Point.{Point}
use Rattle.spec_space.specs.declared.Plane.{Plane}
use Rattle.spec_space.specs.declared.Vector.{Vector}
use Rattle.spec_place.specs.declared.transform.Transform.{Transform}
use Rattle.spec_place.specs.Transforms.{IsFrame}
use Rattle.spec_refusal.specs.declared.Refusal.{Refusal}
use Rattle.spec_page.specs.Lines.{number_line, frame_line, exact_line, printed_line, plane_line, volume_line}
use Rattle.spec_page.specs.Page.{skipped_line, refused_line, page_end}
use Rattle.spec_headline.specs.Reduced.{IsPrintedPlane, IsExactCorner, IsPrintedCorner}
use Rattle.spec_check.specs.Limits.{IsPageGrid, IsShort, IsVolume, IsRefusalWithin}

-- a line: the first; the grid; number and frame of an element; an exact corner and a printed one; the plane of a face and that
-- of an edge; the numbers of a face's corners; the volume; a skipped and a refused element; the last
pub data PageLine : Type 0 where
  Version : PageLine
  Grid : ℕ → PageLine
  Element : ℕ → PageLine
  Frame : Transform → PageLine
  Exact : Point → PageLine
  Printed : Vector → PageLine
  Face : Plane → PageLine
  Edge : Plane → PageLine
  Indices : List ℕ → PageLine
  Volume : Option ℤ → PageLine
  Skipped : ℕ → PageLine
  Refused : ℕ → Refusal → PageLine
  End : PageLine

-- its text, with the line feed
abbrev pub line_text : PageLine → List ℕ
line_text Version = codes "# ifcexact 1\n"
line_text (Grid n) = number_line (codes "# grid ") n
line_text (Element n) = number_line (codes "o ") n
line_text (Frame f) = frame_line f
line_text (Exact p) = exact_line p
line_text (Printed v) = printed_line v
line_text (Face h) = plane_line (codes "#p") h
line_text (Edge h) = plane_line (codes "#e") h
line_text (Indices ns) = codes "f" ++ flat_map (λ n. 32 ∷ decimal n) ns ++ 10 ∷ []
line_text (Volume six) = volume_line six
line_text (Skipped n) = skipped_line n
line_text (Refused n why) = refused_line n why
line_text End = page_end

-- it keeps the limits of pages, and corners have numbers below 2^64
abbrev pub IsLineWithin : PageLine → Type 0
IsLineWithin Version = ⊤
IsLineWithin (Grid n) = IsPageGrid n
IsLineWithin (Element n) = IsShort n
IsLineWithin (Frame f) = IsFrame f
IsLineWithin (Exact p) = IsExactCorner p
IsLineWithin (Printed v) = IsPrintedCorner v
IsLineWithin (Face h) = IsPrintedPlane h
IsLineWithin (Edge h) = IsPrintedPlane h
IsLineWithin (Indices ns) = All (λ n. n < 2 ^ 64) ns
IsLineWithin (Volume six) = IfSome six IsVolume
IsLineWithin (Skipped n) = IsShort n
IsLineWithin (Refused n why) = IsShort n × IsRefusalWithin why
IsLineWithin End = ⊤
