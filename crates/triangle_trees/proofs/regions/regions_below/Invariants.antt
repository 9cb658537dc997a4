use Rattle.std.proofs.Common.{◌*◌, map, take}
use Rattle.grid_solid.specs.Triangles.{triangle_of}
use Rattle.triangle_trees.specs.Forms.{IsGrown, AreRegionsBelow}
use Rattle.triangle_trees.proofs.regions.regions_below.Given as goal

-- the regions below the triangles so far
abbrev pub invariant-loop-t : goal.invariant-loop-t
invariant-loop-t l = record {
  regions : AreRegionsBelow l.book (map triangle_of (take l.t-index l.triangles)) l.regions.items;
  grown : IsGrown (4 * l.t-index) l.fn.book l.book;
}
