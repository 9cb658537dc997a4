-- What a printed element promises of the element whose meaning is given by its items and openings on the grid.
use Rattle.std.specs.Prelude.{◌≡◌, ◌≢◌, ℕ, ◌<◌, ◌∷◌, length, map, All, Any, AllPairs, Contains, ◌⊎◌}
use Rattle.spec_space.specs.declared.Point.{Point}
use Rattle.spec_space.specs.declared.Plane.{Plane}
use Rattle.spec_space.specs.Points.{IsPoint, opposite}
use Rattle.spec_solid.specs.Solids.{Body}
use Rattle.spec_solid.specs.Planes.{IsPlaneOf, IsAlone, boundary_at}
use Rattle.spec_place.specs.Transforms.{IsFrame}
use Rattle.spec_headline.specs.Reduced.{IsCornerWithin, IsPrintedPlane}
use Rattle.spec_page.specs.Element.{Element}
use Rattle.spec_page.specs.Faces.{IsFull, faces_at, edge_count}
use Rattle.spec_page.specs.World.{rounded_image, printed_volume}
use Rattle.spec_num.specs.Words.{within_128_bits}

pub record IsPrintOf (body : Body) (grid : ℕ) (e : Element) : Type 0 where
  -- each printed corner is the exact image of its exact corner, rounded
  pub rounded : All (λ c. c.printed ≡ rounded_image e.frame grid c.exact) e.corners
  -- frame and corners keep the limits of their sizes
  pub frame : IsFrame e.frame
  pub corners : All IsCornerWithin e.corners
  -- the volume is that of the printed mesh, or none where it passes 128 bits
  pub volume : e.six ≡ within_128_bits (printed_volume e)
  -- each face is full, and on a plane of the element, seen from one of its sides
  pub full : All (IsFull e) e.faces
  pub planes : All (λ f. IsPlaneOf body f.plane ⊎ IsPlaneOf body (opposite f.plane)) e.faces
  -- its plane and the planes of its edges are reduced
  pub reduced : All (λ f. All IsPrintedPlane (f.plane ∷ f.edges)) e.faces
  -- a point alone on a plane of the element lies on exactly one face, turned outwards, where the meaning differs across
  -- the plane there, and on none otherwise
  pub boundary : (h : Plane) (p : Point) → IsPoint p → IsAlone body h p → map (λ f. f.plane) (faces_at e p) ≡ boundary_at body h p
  -- the surface is closed: each directed edge stands in the faces as often as its reverse
  pub edges : (i j : ℕ) → edge_count e.faces i j ≡ edge_count e.faces j i
  -- no corner stands twice, and each is a corner of some face
  pub different : AllPairs (λ c d. c.exact ≢ d.exact) e.corners
  pub used : (i : ℕ) → i < length e.corners → Any (λ f. Contains f.corners i) e.faces
