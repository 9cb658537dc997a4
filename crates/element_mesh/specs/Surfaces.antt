-- The surface of an element: the faces of its tree of planes, and the mesh of these faces with their edges cut.
use Rattle.std.specs.Prelude.{List, map}
use Rattle.spec_solid.specs.Solids.{Body}
use Rattle.plane_core.specs.declared.numbers.Plane.{Plane as BookPlane}
use Rattle.plane_core.specs.Books.{AreDistinct}
use Rattle.tree_pool.specs.Trees.{Tree}
use Rattle.solid_tree.specs.Elements.{IsElementTree}
use Rattle.face_walk.specs.declared.faces.OutFace.{OutFace}
use Rattle.face_walk.specs.Faces.{AreFacesOf}
use Rattle.corner_book.specs.Corners.{AreDistinct as CornersDiffer}
use Rattle.exact_mesh.specs.Meshes.{face_of}
use Rattle.exact_mesh.specs.Order.{AreInFirstUse}
use Rattle.exact_mesh.specs.declared.mesh.ExactMesh.{ExactMesh}
use Rattle.edge_cut.specs.Cuts.{AreCutFacesOf}

-- the pieces are the faces of the tree of the element, over the planes of a book
pub record AreFacesOfBody (planes : List BookPlane) (body : Body) (pieces : List OutFace) : Type 0 where
  pub distinct : AreDistinct planes
  pub tree : Tree
  pub means : IsElementTree planes body tree
  pub faces : AreFacesOf planes tree pieces

-- the faces of the mesh are faces of the element, with their edges cut at every corner of the mesh on them; corners stand
-- once, in the order of their first use
pub record IsSurfaceOf (body : Body) (mesh : ExactMesh) : Type 0 where
  pub planes : List BookPlane
  pub pieces : List OutFace
  pub of_body : AreFacesOfBody planes body pieces
  pub cut : AreCutFacesOf planes mesh.corners.items pieces (map face_of mesh.faces.items)
  pub different : CornersDiffer mesh.corners.items
  pub order : AreInFirstUse mesh.corners.items (map face_of mesh.faces.items)
