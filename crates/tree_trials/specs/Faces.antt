-- Faces of few edges.
use Rattle.std.specs.Prelude.{◌≤◌}
use Rattle.spec_shape.specs.Shapes.{Face, face_count}

-- a face of at most eight edges
abbrev pub IsSmall : Face → Type 0
IsSmall face = face_count face ≤ 8
