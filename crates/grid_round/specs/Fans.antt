-- The triangles from a corner to edges.
use Rattle.spec_space.specs.declared.Vector.{Vector}
use Rattle.spec_solid.specs.Triangles.{Triangle}
use Rattle.spec_shell.specs.Edges.{Edge}

abbrev pub fan_triangle : Vector → Edge → Triangle
fan_triangle apex e = record { a = apex; b = e.0; c = e.1 }
