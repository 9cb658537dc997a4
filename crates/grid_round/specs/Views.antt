-- What the answers of rounding stand for: the answer is that of the definition, or memory is wanting.
use Rattle.std.specs.Prelude.{◌≡◌, ⊤, ℕ, true, false, not, List, map, Result, Ok, Err, None, Vec}
use Rattle.std.specs.List.{find, list_all, All}
use Rattle.spec_shape.specs.Shapes.{Face}
use Rattle.spec_grid.specs.Rounded.{is_face_near, is_face_fitting, if_fitting, triangles_of}
use Rattle.ray_law.specs.Faces.{BeginsWithCorner}
use Rattle.spec_solid.specs.Solids.{Solid, Shell, Body}
use Rattle.spec_refusal.specs.Reads.{Read}
use Rattle.spec_refusal.specs.declared.Refusal.{Refusal}
use Rattle.spec_refusal.specs.declared.Refusal.TheVariants.{CornerTooFar}
use Rattle.grid_solid.specs.declared.triangles.GridTriangle.{GridTriangle}
use Rattle.grid_solid.specs.declared.nodes.GridNode.{GridNode}
use Rattle.grid_solid.specs.declared.shells.GridShell.{GridShell}
use Rattle.grid_solid.specs.declared.solids.GridSolid.{GridSolid}
use Rattle.grid_solid.specs.Triangles.{triangle_of}
use Rattle.grid_solid.specs.Shapes.{union_of, shape_solid}
use Rattle.grid_solid.specs.Views.{shape_of, solid_of}
use Rattle.grid_solid.specs.Bodies.{body_of}
use Rattle.grid_round.specs.declared.faults.RoundFault.{RoundFault}
use Rattle.grid_round.specs.declared.faults.RoundFault.TheVariants.{Refused, NoMemory}

-- the answer, seen so, is that of the definition, or memory is wanting
abbrev pub RoundsAs : {T U : Type 0} → (T → U) → Result T RoundFault → Read U → Type 0
RoundsAs view (Ok x) wanted = wanted ≡ Ok (view x)
RoundsAs view (Err (Refused refusal)) wanted = wanted ≡ Err refusal
RoundsAs view (Err NoMemory) wanted = ⊤

-- the faces on the grid, of which all corners are near
abbrev pub RoundsFaces : {A : Type 0} → ℕ → List Face → Result (Vec Face A) RoundFault → Type 0
RoundsFaces at wanted (Ok faces) = (faces.items ≡ wanted) × (list_all is_face_near wanted ≡ true)
RoundsFaces at wanted (Err (Refused refusal)) = (refusal ≡ CornerTooFar at) × (list_all is_face_near wanted ≡ false)
RoundsFaces at wanted (Err NoMemory) = ⊤

abbrev pub RoundsNothing : Result (Unit {0}) RoundFault → Read (Unit {0}) → Type 0
RoundsNothing result wanted = RoundsAs (λ nothing. tt) result wanted

-- the triangles of faces that all fit, each with a first corner from which it is cut
abbrev pub RoundsTriangles : {A : Type 0} → List Face → Result (Vec GridTriangle A) RoundFault → Type 0
RoundsTriangles faces (Ok ts) = (map triangle_of ts.items ≡ triangles_of faces) × (find (λ f. not (is_face_fitting f)) faces ≡ None) × All (λ f. BeginsWithCorner f.loops) faces
RoundsTriangles faces (Err (Refused refusal)) = if_fitting (find (λ f. not (is_face_fitting f)) faces) ≡ Err refusal
RoundsTriangles faces (Err NoMemory) = ⊤

abbrev pub RoundsShell : Result GridShell RoundFault → Read Solid → Type 0
RoundsShell result wanted = RoundsAs (λ s. Shell (map triangle_of s.triangles)) result wanted

-- a half-space takes no memory
abbrev pub RoundsHalf : Result GridNode Refusal → Read Solid → Type 0
RoundsHalf (Ok n) wanted = wanted ≡ Ok (solid_of n)
RoundsHalf (Err refusal) wanted = wanted ≡ Err refusal

abbrev pub RoundsShape : Result GridNode RoundFault → Read Solid → Type 0
RoundsShape result wanted = RoundsAs solid_of result wanted

-- the parts of a union
abbrev pub RoundsParts : Result (List GridNode) RoundFault → Read Solid → Type 0
RoundsParts result wanted = RoundsAs (λ ns. shape_solid (union_of (map shape_of ns))) result wanted

abbrev pub RoundsItems : Result (List GridNode) RoundFault → Read (List Solid) → Type 0
RoundsItems result wanted = RoundsAs (map solid_of) result wanted

abbrev pub RoundsElement : Result GridSolid RoundFault → Read Body → Type 0
RoundsElement result wanted = RoundsAs body_of result wanted

-- an answer that takes no memory
abbrev pub as_read : Result (Unit {0}) Refusal → Read (Unit {0})
as_read result = result
