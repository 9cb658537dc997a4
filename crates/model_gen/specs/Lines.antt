-- The lines of a model file: instances of IFC4 in the spelling of ISO 10303-21. Lengths are whole millimetres.
use Rattle.std.specs.Prelude.{ℕ, ℤ, List, [], ◌∷◌, ◌++◌, codes}
use Rattle.std.specs.Fmt.{decimal, signed_decimal}

-- a reference to an instance, and two with a comma between them
abbrev pub reference : ℕ → List ℕ
reference n = 35 ∷ decimal n

abbrev pub references : ℕ → ℕ → List ℕ
references first second = reference first ++ 44 ∷ reference second

-- the name of an instance, with which its line begins
abbrev pub name : ℕ → List ℕ
name n = reference n ++ 61 ∷ []

-- a length, and two with a comma between them
abbrev pub millimetres : ℕ → List ℕ
millimetres n = decimal n ++ 46 ∷ []

abbrev pub two_lengths : ℕ → ℕ → List ℕ
two_lengths first second = millimetres first ++ 44 ∷ millimetres second

-- a coordinate, one behind a comma, and three
abbrev pub coordinate : ℤ → List ℕ
coordinate z = signed_decimal z ++ 46 ∷ []

abbrev pub further : ℤ → List ℕ
further z = 44 ∷ coordinate z

abbrev pub coordinates : ℤ → ℤ → ℤ → List ℕ
coordinates x y z = coordinate x ++ further y ++ further z

-- a line with something between two texts
abbrev pub line : ℕ → List ℕ → List ℕ → List ℕ → List ℕ
line n before between behind = name n ++ before ++ between ++ behind

abbrev pub point_line : ℕ → ℤ → ℤ → ℤ → List ℕ
point_line n x y z = line n (codes "IFCCARTESIANPOINT((") (coordinates x y z) (codes "));\n")

abbrev pub axes_line : ℕ → ℕ → List ℕ
axes_line n point = line n (codes "IFCAXIS2PLACEMENT3D(") (reference point) (codes ",$,$);\n")

-- a placement in the world, and one in another
abbrev pub placement_line : ℕ → ℕ → List ℕ
placement_line n axes = line n (codes "IFCLOCALPLACEMENT($,") (reference axes) (codes ");\n")

abbrev pub placement_in_line : ℕ → ℕ → ℕ → List ℕ
placement_in_line n parent axes = line n (codes "IFCLOCALPLACEMENT(") (references parent axes) (codes ");\n")

abbrev pub rectangle_line : ℕ → ℕ → ℕ → List ℕ
rectangle_line n length width = line n (codes "IFCRECTANGLEPROFILEDEF(.AREA.,$,$,") (two_lengths length width) (codes ");\n")

abbrev pub extrusion_line : ℕ → ℕ → ℕ → List ℕ
extrusion_line n profile depth = line n (codes "IFCEXTRUDEDAREASOLID(") (reference profile ++ codes ",$,#8," ++ millimetres depth) (codes ");\n")

abbrev pub representation_line : ℕ → ℕ → List ℕ
representation_line n solid = line n (codes "IFCSHAPEREPRESENTATION(#5,'Body','SweptSolid',(") (reference solid) (codes "));\n")

abbrev pub shape_line : ℕ → ℕ → List ℕ
shape_line n representation = line n (codes "IFCPRODUCTDEFINITIONSHAPE($,$,(") (reference representation) (codes "));\n")

-- products at a placement, of a shape
abbrev pub wall_line : ℕ → ℕ → ℕ → List ℕ
wall_line n placement shape = line n (codes "IFCWALL('',$,$,$,$,") (references placement shape) (codes ",$,$);\n")

abbrev pub slab_line : ℕ → ℕ → ℕ → List ℕ
slab_line n placement shape = line n (codes "IFCSLAB('',$,$,$,$,") (references placement shape) (codes ",$,$);\n")

abbrev pub opening_line : ℕ → ℕ → ℕ → List ℕ
opening_line n placement shape = line n (codes "IFCOPENINGELEMENT('',$,$,$,$,") (references placement shape) (codes ",$,$);\n")

-- an opening cuts an element
abbrev pub voids_line : ℕ → ℕ → ℕ → List ℕ
voids_line n element opening = line n (codes "IFCRELVOIDSELEMENT('',$,$,$,") (references element opening) (codes ");\n")
