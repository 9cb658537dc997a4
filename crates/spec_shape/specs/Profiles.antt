-- The loops of profiles (IfcProfileDef of IFC4), in nanometres in the plane z = 0. The rounding is a rule of this project.
use Rattle.std.specs.Prelude.{ℤ, pos, neg_ℤ, ◌+ℤ◌, ◌-ℤ◌, List, [], ◌∷◌, map, Option}
use Rattle.spec_num.specs.Rounding.{round_of}
use Rattle.spec_space.specs.declared.Vector.{Vector}
use Rattle.spec_place.specs.Axes.{plane_point}

abbrev pub planar : ℤ → ℤ → Vector
planar x y = record { x = x; y = y; z = pos 0 }

-- the lower end of an extent that is centred on 0, and the upper one
abbrev pub lower : ℤ → ℤ
lower extent = round_of (neg_ℤ extent) (pos 2)

abbrev pub upper : ℤ → ℤ
upper extent = lower extent +ℤ extent

-- the loop of a rectangle between two ends along x and two along y
abbrev pub between : ℤ → ℤ → ℤ → ℤ → List Vector
between x0 x1 y0 y1 = planar x0 y0 ∷ planar x1 y0 ∷ planar x1 y1 ∷ planar x0 y1 ∷ []

-- IfcRectangleProfileDef
abbrev pub rectangle : ℤ → ℤ → List (List Vector)
rectangle x y = between (lower x) (upper x) (lower y) (upper y) ∷ []

-- IfcRectangleHollowProfileDef: the rectangle, and a hole a wall's thickness within it
abbrev pub hollow : ℤ → ℤ → ℤ → List (List Vector)
hollow x y wall =
    between (lower x) (upper x) (lower y) (upper y)
    ∷ between (lower x +ℤ wall) (upper x -ℤ wall) (lower y +ℤ wall) (upper y -ℤ wall) ∷ []

-- an I between its ends: the web from w0 to w1, the lower flange up to f0 and the upper one from f1 on
abbrev pub i_loop : ℤ → ℤ → ℤ → ℤ → ℤ → ℤ → ℤ → ℤ → List Vector
i_loop x0 w0 w1 x1 y0 f0 f1 y1 =
    planar x0 y0 ∷ planar x1 y0 ∷ planar x1 f0 ∷ planar w1 f0 ∷ planar w1 f1 ∷ planar x1 f1
    ∷ planar x1 y1 ∷ planar x0 y1 ∷ planar x0 f1 ∷ planar w0 f1 ∷ planar w0 f0 ∷ planar x0 f0 ∷ []

-- IfcIShapeProfileDef
abbrev pub i_shape : ℤ → ℤ → ℤ → ℤ → List (List Vector)
i_shape width depth web flange =
    i_loop (lower width) (lower web) (upper web) (upper width) (lower depth) (lower depth +ℤ flange) (upper depth -ℤ flange) (upper depth) ∷ []

-- loops that stand in axes in the plane: at a place, with the first axis along the reference direction, x where it is unset
abbrev pub placed_loops : Vector → Option Vector → List (List Vector) → List (List Vector)
placed_loops at ref loops = map (map (λ p. plane_point at ref p.x p.y)) loops
