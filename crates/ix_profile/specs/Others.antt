-- Points that differ from others.
use Rattle.std.specs.Prelude.{not, ◌&&◌, List, [], ◌∷◌, Option, Some, None, if◌then◌else◌}
use Rattle.spec_space.specs.declared.Vector.{Vector}
use Rattle.spec_shape.specs.Loops.{is_same}

-- the first point that differs from two others
abbrev pub other_than : Vector → Vector → List Vector → Option Vector
other_than p q [] = None
other_than p q (r ∷ rs) = if not (is_same p r) && not (is_same q r) then Some r else other_than p q rs
