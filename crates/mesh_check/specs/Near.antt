-- When a printed corner is near its exact image, as a test; and frames with their numbers negated.
use Rattle.std.specs.Prelude.{ℕ, ℤ, pos, ◌*ℤ◌, ◌-ℤ◌, Bool, ◌&&◌, nat_le, unsigned_abs, List}
use Rattle.spec_place.specs.declared.transform.Transform.{Transform}
use Rattle.spec_place.specs.Vectors.{reversed}
use Rattle.spec_page.specs.declared.Corner.{Corner as PageCorner}
use Rattle.spec_page.specs.World.{image_above, image_below}
use Rattle.plane_core.specs.declared.numbers.Corner.{Corner}
use Rattle.plane_core.specs.Views.{point_of}
use Rattle.exact_mesh.specs.Meshes.{vector_of}

-- the corner of a page with these parts
abbrev pub page_corner : Corner → List ℤ → PageCorner
page_corner corner printed = record { exact = point_of corner; printed = vector_of printed }

-- the frame with each of its numbers negated
abbrev pub negated : Transform → Transform
negated t = record { x = reversed t.x; y = reversed t.y; z = reversed t.z; off = reversed t.off }

-- the number differs from the fraction by at most a half
abbrev pub is_within_half : ℤ → ℤ → ℤ → Bool
is_within_half n above below = nat_le (unsigned_abs (pos 2 *ℤ (n *ℤ below -ℤ above))) (unsigned_abs below)

-- the printed corner is within half a micrometre of the exact image, in each coordinate
abbrev pub is_near : Transform → ℕ → PageCorner → Bool
is_near f grid c =
    is_within_half c.printed.x (image_above f.x f.off.x grid c.exact) (image_below c.exact)
    && (is_within_half c.printed.y (image_above f.y f.off.y grid c.exact) (image_below c.exact)
    && is_within_half c.printed.z (image_above f.z f.off.z grid c.exact) (image_below c.exact))
