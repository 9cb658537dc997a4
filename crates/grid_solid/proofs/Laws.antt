-- What the types of this crate keep, said of the solids and the elements that they stand for.
use Rattle.std.proofs.Common.{◌≡◌, ℕ, zero, suc, ◌<◌, ℤ, pos, ◌*ℤ◌, ◌++◌, List, [], ◌∷◌, map, length, get_or, refl, sym, subst, inl, inr, arith}
use Rattle.std.proofs.lemmas.Int.{ints}
use Rattle.std.specs.List.{flat_map, All, Contains}
use Rattle.std.proofs.lemmas.Grind.{merely}
use Rattle.std.proofs.lemmas.List.Elements.{All-nil, All-cons, All-head, All-tail, All-contains, Contains-append_cases}
use Rattle.spec_space.specs.declared.Plane.{Plane}
use Rattle.spec_solid.specs.Triangles.{Triangle}
use Rattle.spec_solid.specs.Solids.{Solid}
use Rattle.spec_solid.specs.Planes.{triangle_planes, solid_planes, body_planes}
use Rattle.ray_law.specs.Shells.{IsClosed}
use Rattle.ray_law.specs.Bodies.{HasClosedShells, IsClosedBody}
use Rattle.plane_core.specs.declared.numbers.Plane.{Plane as BookPlane}
use Rattle.plane_core.specs.Views.{plane_of}
use Rattle.grid_solid.specs.Triangles.{triangle_of, HasForm, HasForms}
use Rattle.grid_solid.specs.Shapes.{Shape, Triangles, Half, Joined, Nothing, shape_solid}
use Rattle.grid_solid.specs.Views.{shape_of, solid_of}
use Rattle.grid_solid.specs.Bodies.{body_of}
use Rattle.grid_solid.specs.declared.nodes.GridNode.{GridNode}
use Rattle.grid_solid.specs.declared.solids.GridSolid.{GridSolid}

-- ---- closed shells
nothing_closed : IsClosed []
nothing_closed u v apart = refl

pub shape_closed : (s : Shape) → HasClosedShells (shape_solid s)
shape_closed (Triangles shell) = shell.closed
shape_closed (Half plane in_front) = tt
shape_closed (Joined operator first second) = (shape_closed first, shape_closed second)
shape_closed Nothing = nothing_closed

each_closed : (ns : List GridNode) → All HasClosedShells (map solid_of ns)
each_closed [] = All-nil HasClosedShells
each_closed (n ∷ ns) = All-cons HasClosedShells (solid_of n) (map solid_of ns) (shape_closed (shape_of n)) (each_closed ns)

-- each shell of an element is closed
pub body_closed : (s : GridSolid) → IsClosedBody (body_of s)
body_closed s = record { items = each_closed s.items; openings = each_closed s.openings }

-- ---- reduced forms
none_in : {X : Type 0} (x : X) → Contains [] x → ⊥
none_in x (i, h, e) = omega arith

triangles_formed : (ts : List Triangle) → All HasForms ts → (k : Plane) → Contains (flat_map triangle_planes ts) k → HasForm k
triangles_formed [] all k c = absurd (none_in k c)
triangles_formed (t ∷ ts) all k c = elim (Contains-append_cases (triangle_planes t) (flat_map triangle_planes ts) k c) [
  | inl i ↦ All-contains HasForm (triangle_planes t) k (All-head HasForms t ts all) i
  | inr i ↦ triangles_formed ts (All-tail HasForms t ts all) k i
]

own_form : (p : BookPlane) → HasForm (plane_of p)
own_form p = merely (p, record { factor = pos 1; some = λ e. omega (arith, ints); times = (once p.a, once p.b, once p.c, once p.d) })
  where
    once : (a : ℤ) → a ≡ pos 1 *ℤ a
    once a = omega (arith, ints)

single : {X : Type 0} (x z : X) → Contains (x ∷ []) z → x ≡ z
single x z (zero, h, e) = e
single x z (suc i, h, e) = absurd (omega arith)

pub shape_formed : (s : Shape) (k : Plane) → Contains (solid_planes (shape_solid s)) k → HasForm k
shape_formed (Triangles shell) k c = triangles_formed (map triangle_of shell.triangles) shell.forms k c
shape_formed (Half plane in_front) k c = subst HasForm (single (plane_of plane) k c) (own_form plane)
shape_formed (Joined operator first second) k c = elim (Contains-append_cases (solid_planes (shape_solid first)) (solid_planes (shape_solid second)) k c) [
  | inl i ↦ shape_formed first k i
  | inr i ↦ shape_formed second k i
]
shape_formed Nothing k c = absurd (none_in k c)

each_formed : (ns : List GridNode) (k : Plane) → Contains (flat_map solid_planes (map solid_of ns)) k → HasForm k
each_formed [] k c = absurd (none_in k c)
each_formed (n ∷ ns) k c = elim (Contains-append_cases (solid_planes (solid_of n)) (flat_map solid_planes (map solid_of ns)) k c) [
  | inl i ↦ shape_formed (shape_of n) k i
  | inr i ↦ each_formed ns k i
]

-- each plane of an element has a reduced form within the sizes of planes
pub body_formed : (s : GridSolid) (k : Plane) → Contains (body_planes (body_of s)) k → HasForm k
body_formed s k c = elim (Contains-append_cases (flat_map solid_planes (map solid_of s.items)) (flat_map solid_planes (map solid_of s.openings)) k c) [
  | inl i ↦ each_formed s.items k i
  | inr i ↦ each_formed s.openings k i
]
