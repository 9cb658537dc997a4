-- The printed corners of an element, and its volume.
use Rattle.std.specs.Prelude.{ℕ, ℤ, pos, ◌^◌, ◌+ℤ◌, ◌*ℤ◌, List, [], ◌∷◌, map}
use Rattle.spec_num.specs.Rounding.{round_of}
use Rattle.spec_space.specs.declared.Point.{Point}
use Rattle.spec_space.specs.declared.Vector.{Vector}
use Rattle.spec_space.specs.Points.{minus, cross, dot}
use Rattle.spec_place.specs.declared.transform.Transform.{Transform}
use Rattle.spec_page.specs.Element.{Element}
use Rattle.spec_page.specs.Faces.{corner_at}

-- a coordinate of the exact image of a corner in the world, in micrometres, is the fraction of these two numbers: by a
-- row of the frame's matrix, in units of 10^-9, its offset in nanometres, and the grid step in micrometres
abbrev pub image_above : Vector → ℤ → ℕ → Point → ℤ
image_above row off grid p = (row.x *ℤ p.x +ℤ row.y *ℤ p.y +ℤ row.z *ℤ p.z) *ℤ pos grid +ℤ off *ℤ pos (10 ^ 6) *ℤ p.w

abbrev pub image_below : Point → ℤ
image_below p = pos (10 ^ 9) *ℤ p.w

-- the exact image, rounded to whole micrometres
abbrev pub rounded_image : Transform → ℕ → Point → Vector
rounded_image f grid p = record {
  x = round_of (image_above f.x f.off.x grid p) (image_below p);
  y = round_of (image_above f.y f.off.y grid p) (image_below p);
  z = round_of (image_above f.z f.off.z grid p) (image_below p);
}

-- sixfold volumes of the tetrahedra from an origin over the triangles of a fan
abbrev pub fan_volume : Vector → Vector → List Vector → ℤ
fan_volume origin c [] = pos 0
fan_volume origin c (u ∷ []) = pos 0
fan_volume origin c (u ∷ v ∷ vs) = dot (minus c origin) (cross (minus u origin) (minus v origin)) +ℤ fan_volume origin c (v ∷ vs)

abbrev pub face_volume : Vector → List Vector → ℤ
face_volume origin [] = pos 0
face_volume origin (c ∷ cs) = fan_volume origin c cs

abbrev pub faces_volume : Vector → List (List Vector) → ℤ
faces_volume origin [] = pos 0
faces_volume origin (f ∷ fs) = face_volume origin f +ℤ faces_volume origin fs

-- the sixfold volume of the printed element in cubic micrometres, from its first printed corner
abbrev pub printed_volume : Element → ℤ
printed_volume e = faces_volume (corner_at e 0).printed (map (λ f. map (λ i. (corner_at e i).printed) f.corners) e.faces)
