-- The surface of an element from the contracts of the calls that make it.
use Rattle.std.proofs.Common.{◌≡◌, ◌<◌, ℕ, Result, Ok, Err, IfOk, List, map, length, All}
use Rattle.std.specs.declared.alloc.AllocError.{AllocError}
use Rattle.spec_num.specs.Words.{within_128_bits}
use Rattle.spec_solid.specs.Solids.{Body}
use Rattle.spec_place.specs.declared.transform.Transform.{Transform}
use Rattle.spec_page.specs.World.{rounded_image, printed_volume}
use Rattle.spec_headline.specs.Headline.{IsPrintOf}
use Rattle.spec_place.specs.Transforms.{IsFrame}
use Rattle.spec_headline.specs.Reduced.{IsCornerWithin}
use Rattle.grid_solid.specs.Bodies.{body_of}
use Rattle.grid_solid.specs.declared.solids.GridSolid.{GridSolid}
use Rattle.ifc_kinds.specs.declared.kind.Kind.{Kind}
use Rattle.plane_core.specs.declared.numbers.Plane.{Plane as BookPlane}
use Rattle.plane_core.specs.Books.{AreDistinct}
use Rattle.convex_cycles.proofs.Lists.{each_from_all, all_from_each, each_weaker}
use Rattle.poly_frag.specs.Cycles.{IsCycle}
use Rattle.tree_pool.specs.Trees.{Tree}
use Rattle.tree_pool.specs.Pools.{Slots, StandsFor, IsLive, AreTrees}
use Rattle.tree_pool.specs.declared.node.TreeId.{TreeId}
use Rattle.solid_tree.specs.Elements.{IsElementTree, IsTight}
use Rattle.face_walk.specs.declared.faces.OutFace.{OutFace}
use Rattle.face_walk.specs.Faces.{IsFace, IsOfBook, AreFacesOf}
use Rattle.face_walk.specs.Faces.{IsTight as IsFalseOutOfRange}
use Rattle.corner_book.specs.Corners.{AreDistinct as CornersDiffer}
use Rattle.exact_mesh.specs.Meshes.{face_of}
use Rattle.exact_mesh.specs.Order.{AreInFirstUse}
use Rattle.exact_mesh.specs.declared.mesh.ExactMesh.{ExactMesh}
use Rattle.edge_cut.specs.Cuts.{AreCutFacesOf}
use Rattle.world_print.specs.Elements.{element_of, IsMeshOf}
use Rattle.world_print.specs.Ranges.{IsOnGrid, HasItsCorners}
use Rattle.world_print.specs.declared.element.ElementMesh.{ElementMesh}
use Rattle.element_mesh.specs.Surfaces.{AreFacesOfBody, IsSurfaceOf}
use Rattle.element_mesh.proofs.Beside.{tight_in_range}
use Rattle.element_mesh.proofs.Printed.{tree_of_book, print_of}
use Rattle.element_mesh.proofs.Reach.{all_on_grid, places_below}

-- the faces of the tree of an element are its faces
pub faces_of_tree : (planes : List BookPlane) (body : Body) (pool : Slots) (id : TreeId) (pieces : List OutFace) → AreDistinct planes → AreTrees pool → IsLive pool id
    → ((t : Tree) → StandsFor pool id t → IsElementTree planes body t) → ((t : Tree) → StandsFor pool id t → IsTight planes t)
    → ((t : Tree) → StandsFor pool id t → IsOfBook planes t → IsFalseOutOfRange planes t → AreFacesOf planes t pieces) → AreFacesOfBody planes body pieces
faces_of_tree planes body pool id pieces distinct trees live means tight faces =
    let t = trees.tree id live in
    record {
      distinct = distinct;
      tree = t.0;
      means = means t.0 t.1;
      faces = faces t.0 t.1 (tree_of_book planes body t.0 (means t.0 t.1)) (tight_in_range planes t.0 (tight t.0 t.1));
    }

-- the pieces are cycles
pub pieces_cycle : (planes : List BookPlane) (body : Body) (pieces : List OutFace) → AreFacesOfBody planes body pieces → All (λ o. IsCycle planes o.frag) pieces
pieces_cycle planes body pieces of = all_from_each (λ o. IsCycle planes o.frag) pieces
    (each_weaker (IsFace planes of.tree) (λ o. IsCycle planes o.frag) (λ o is. is.fragment.cycle) pieces (each_from_all (IsFace planes of.tree) pieces of.faces.faces))

-- the mesh of these faces
pub surface_of : (planes : List BookPlane) (body : Body) (pieces : List OutFace) (mesh : ExactMesh) → AreFacesOfBody planes body pieces → AreCutFacesOf planes mesh.corners.items pieces (map face_of mesh.faces.items)
    → CornersDiffer mesh.corners.items → AreInFirstUse mesh.corners.items (map face_of mesh.faces.items) → IsSurfaceOf body mesh
surface_of planes body pieces mesh of cut different order = record { planes = planes; pieces = pieces; of_body = of; cut = cut; different = different; order = order }

-- its corners lie on the grid, and its faces name corners that it has
pub surface_on_grid : (body : Body) (mesh : ExactMesh) → IsSurfaceOf body mesh → All IsOnGrid mesh.corners.items
surface_on_grid body mesh s = all_on_grid s.planes s.of_body.tree mesh.corners.items s.pieces (map face_of mesh.faces.items) s.of_body.faces.faces s.cut s.order

pub surface_places : (body : Body) (mesh : ExactMesh) → IsSurfaceOf body mesh → HasItsCorners mesh
surface_places body mesh s = all_from_each (λ f. All (λ i. i < length mesh.corners.items) f.corners.items) mesh.faces.items (places_below s.planes mesh.corners.items s.pieces mesh.faces.items s.cut)

-- the printed mesh has all that is promised of it
pub printed : (s : GridSolid) (number : ℕ) (kind : Kind) (frame : Transform) (step : ℕ) (mesh : ExactMesh) → IsSurfaceOf (body_of s) mesh → (r : Result ElementMesh AllocError) → IfOk r (IsMeshOf number kind frame step mesh)
    → IfOk r (λ m. All (λ c. c.printed ≡ rounded_image frame step c.exact) (element_of m).corners) → IfOk r (λ m. IsFrame (element_of m).frame) → IfOk r (λ m. All IsCornerWithin (element_of m).corners)
    → IfOk r (λ m. m.six ≡ within_128_bits (printed_volume (element_of m))) → IfOk r (λ m. IsPrintOf (body_of s) step (element_of m))
printed s number kind frame step mesh surface (Ok m) kept rounded framed limits volume = print_of s number kind frame step mesh surface m kept rounded framed limits volume
printed s number kind frame step mesh surface (Err e) kept rounded framed limits volume = tt
