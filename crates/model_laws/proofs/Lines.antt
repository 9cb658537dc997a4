-- The lines of a model file as templates, each named as its text is.
use Rattle.std.proofs.Common.{ℕ, ℤ, List, [], ◌∷◌, ◌++◌, codes}
use Rattle.std.specs.Fmt.{decimal, signed_decimal}
use Rattle.file_templates.proofs.Templates.{Atom, unset, real, text, enumeration, reference, Argument, one, list, Line}

-- a line of a number, a keyword and parameters
abbrev pub line : ℕ → List ℕ → List Argument → Line
line n keyword arguments = record { number = n; call = record { keyword = keyword; arguments = arguments } }

-- a length, and a coordinate
abbrev pub length_atom : ℕ → Atom
length_atom n = real (decimal n ++ 46 ∷ [])

abbrev pub coordinate_atom : ℤ → Atom
coordinate_atom z = real (signed_decimal z ++ 46 ∷ [])

-- an unset parameter
abbrev pub nothing : Argument
nothing = one unset

-- a reference, and a list of one
abbrev pub named : ℕ → Argument
named n = one (reference n)

abbrev pub one_named : ℕ → Argument
one_named n = list (reference n ∷ [])

-- a text of bytes with their quotes
abbrev pub text_of : List ℕ → Argument
text_of bytes = one (text bytes)

-- a text of no bytes
abbrev pub empty : Argument
empty = text_of (codes "''")

-- a point, and axes at one
abbrev pub point : ℕ → ℤ → ℤ → ℤ → Line
point n x y z = line n (codes "IFCCARTESIANPOINT") (list (coordinate_atom x ∷ coordinate_atom y ∷ coordinate_atom z ∷ []) ∷ [])

abbrev pub axes : ℕ → ℕ → Line
axes n at = line n (codes "IFCAXIS2PLACEMENT3D") (named at ∷ nothing ∷ nothing ∷ [])

-- a placement in the world, and one in another
abbrev pub placed : ℕ → ℕ → Line
placed n at = line n (codes "IFCLOCALPLACEMENT") (nothing ∷ named at ∷ [])

abbrev pub placed_in : ℕ → ℕ → ℕ → Line
placed_in n parent at = line n (codes "IFCLOCALPLACEMENT") (named parent ∷ named at ∷ [])

-- the shape of a block
abbrev pub rectangle : ℕ → ℕ → ℕ → Line
rectangle n length width =
    line n (codes "IFCRECTANGLEPROFILEDEF") (one (enumeration (codes ".AREA.")) ∷ nothing ∷ nothing ∷ one (length_atom length) ∷ one (length_atom width) ∷ [])

abbrev pub extrusion : ℕ → ℕ → ℕ → Line
extrusion n profile depth = line n (codes "IFCEXTRUDEDAREASOLID") (named profile ∷ nothing ∷ named 8 ∷ one (length_atom depth) ∷ [])

abbrev pub representation : ℕ → ℕ → Line
representation n solid =
    line n (codes "IFCSHAPEREPRESENTATION") (named 5 ∷ text_of (codes "'Body'") ∷ text_of (codes "'SweptSolid'") ∷ one_named solid ∷ [])

abbrev pub shape : ℕ → ℕ → Line
shape n body = line n (codes "IFCPRODUCTDEFINITIONSHAPE") (nothing ∷ nothing ∷ one_named body ∷ [])

-- a product of a keyword at a placement, and what cuts one out of another
abbrev pub product : List ℕ → ℕ → ℕ → ℕ → Line
product keyword n at body = line n keyword (empty ∷ nothing ∷ nothing ∷ nothing ∷ nothing ∷ named at ∷ named body ∷ nothing ∷ nothing ∷ [])

abbrev pub voids : ℕ → ℕ → ℕ → Line
voids n element opening = line n (codes "IFCRELVOIDSELEMENT") (empty ∷ nothing ∷ nothing ∷ nothing ∷ named element ∷ named opening ∷ [])
