-- The printed element, which a page stands for.
use Rattle.std.specs.Prelude.{ℕ, ℤ, List, Option}
use Rattle.spec_space.specs.declared.Plane.{Plane}
use Rattle.spec_page.specs.declared.Corner.{Corner}
use Rattle.spec_place.specs.declared.transform.Transform.{Transform}

-- a face: its plane with the normal outwards, for each edge a plane with the normal out of the face, and the places of
-- its corners among the element's, from 0; edge i goes from corner i to the next, and the last to the first
pub record Face : Type 0 where
  pub plane : Plane
  pub edges : List Plane
  pub corners : List ℕ

-- an element of a page; the volume is sixfold, in cubic micrometres, and None where it passes 128 bits
pub record Element : Type 0 where
  pub number : ℕ
  pub frame : Transform
  pub corners : List Corner
  pub faces : List Face
  pub six : Option ℤ
