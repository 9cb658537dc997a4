-- How many planes a solid and an element have at most: four for each triangle, and one for each half-space.
use Rattle.std.specs.Prelude.{ℕ, ◌+◌, ◌*◌, List, [], ◌∷◌, length}
use Rattle.spec_solid.specs.Solids.{Solid, Shell, HalfSpace, Combined, Body}

abbrev pub plane_count : Solid → ℕ
plane_count (Shell triangles) = 4 * length triangles
plane_count (HalfSpace h in_front) = 1
plane_count (Combined operator first second) = plane_count first + plane_count second

abbrev pub all_planes_count : List Solid → ℕ
all_planes_count [] = 0
all_planes_count (s ∷ ss) = plane_count s + all_planes_count ss

abbrev pub body_plane_count : Body → ℕ
body_plane_count body = all_planes_count body.items + all_planes_count body.openings
