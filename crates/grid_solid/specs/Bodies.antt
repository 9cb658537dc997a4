-- The element that a solid on the grid stands for.
use Rattle.std.specs.Prelude.{map}
use Rattle.spec_solid.specs.Solids.{Body}
use Rattle.grid_solid.specs.declared.solids.GridSolid.{GridSolid}
use Rattle.grid_solid.specs.Views.{solid_of}

abbrev pub body_of : GridSolid → Body
body_of s = record { items = map solid_of s.items; openings = map solid_of s.openings }
