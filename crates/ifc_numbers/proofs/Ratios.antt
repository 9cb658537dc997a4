-- A direction of the ratios that are read.
use Rattle.std.proofs.Common.{◌≡◌, ℕ, ℤ, List, Ok, Err, ap}
use Rattle.spec_space.specs.declared.Vector.{Vector}
use Rattle.spec_place.specs.Directions as directions
use Rattle.spec_refusal.specs.Reads.{Read, next}
use Rattle.spec_geometry.specs.Files.{placed}
use Rattle.spec_geometry.specs.Points.{in_space}

pub direction_read : (at : ℕ) (r : Read (List ℤ)) (found : Vector) → Ok found ≡ next r (λ rs. Ok (in_space rs))
    → placed at (directions.direction found) ≡ next r (λ rs. placed at (directions.direction (in_space rs)))
direction_read at (Ok rs) found e = let is : found ≡ in_space rs = cc in ap (λ v. placed at (directions.direction v)) is
direction_read at (Err refusal) found e = absurd (cc)
