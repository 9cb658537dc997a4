-- Lists of planes without repeats, and the walls of the enclosing cube.
use Rattle.std.specs.Prelude.{◌≡◌, ◌≢◌, ◌≤◌, ◌^◌, map, take, length, List, [], ◌∷◌, ℤ, pos, negsuc}
use Rattle.std.specs.List.{AllPairs}
use Rattle.spec_space.specs.declared.Plane.{Plane as AnyPlane}
use Rattle.plane_core.specs.declared.numbers.Plane.{Plane}
use Rattle.plane_core.specs.Views.{plane_of}

-- no two planes of the list are equal
abbrev pub AreDistinct : List Plane → Type 0
AreDistinct ps = AllPairs (λ p q. p ≢ q) ps

abbrev pub x_plane : ℤ → AnyPlane
x_plane d = record { a = pos 1; b = pos 0; c = pos 0; d = d }

abbrev pub y_plane : ℤ → AnyPlane
y_plane d = record { a = pos 0; b = pos 1; c = pos 0; d = d }

abbrev pub z_plane : ℤ → AnyPlane
z_plane d = record { a = pos 0; b = pos 0; c = pos 1; d = d }

-- the walls of the enclosing cube: -1048577 and 1048577 along each axis
abbrev pub cube_walls : List AnyPlane
cube_walls =
    x_plane (negsuc 1048576) ∷ x_plane (pos 1048577)
    ∷ y_plane (negsuc 1048576) ∷ y_plane (pos 1048577)
    ∷ z_plane (negsuc 1048576) ∷ z_plane (pos 1048577) ∷ []

-- the first six planes are the walls, in their order
abbrev pub BeginsWithWalls : List Plane → Type 0
BeginsWithWalls ps = map plane_of (take 6 ps) ≡ cube_walls

-- the planes of a book, in the order of their numbers
pub record IsBook (ps : List Plane) : Type 0 where
  pub distinct : AreDistinct ps
  pub walls : BeginsWithWalls ps
  pub few : length ps ≤ 2 ^ 31
