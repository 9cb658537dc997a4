-- The canonical spelling of each line is its text.
use Rattle.std.proofs.Common.{◌≡◌, ℕ, ℤ, List, [], ◌∷◌, ◌++◌, sym, ◌∙◌, ap, append_assoc, append-nil, codes}
use Rattle.std.specs.Fmt.{digits}
use Rattle.spec_step.specs.Canonical.{canonical}
use Rattle.model_gen.specs.Lines as text
use Rattle.model_gen.specs.Lines.{reference, name, millimetres, coordinate, point_line, axes_line, placement_line, placement_in_line, rectangle_line, extrusion_line, representation_line, shape_line, wall_line, slab_line, opening_line, voids_line}
use Rattle.file_templates.proofs.Templates.{Line, mark_token, call_tokens, line_tokens}
use Rattle.model_laws.proofs.Lines.{point, axes, placed, placed_in, rectangle, extrusion, representation, shape, product, voids}

-- what is printed of a line, and behind its number and the equals sign
abbrev pub printed : Line → List ℕ
printed l = canonical (line_tokens l)

abbrev behind_name : Line → List ℕ
behind_name l = canonical (call_tokens l.call ++ mark_token 59 ∷ [])

-- Pieces of text.

one_piece : (a r : List ℕ) → (a ++ []) ++ r ≡ a ++ r
one_piece a r = ap (λ t. t ++ r) (append-nil a)

two_pieces : (a c b r : List ℕ) → (a ++ []) ++ (c ++ ((b ++ []) ++ r)) ≡ ((a ++ c) ++ b) ++ r
two_pieces a c b r =
    one_piece a (c ++ ((b ++ []) ++ r)) ∙ ap (λ t. a ++ (c ++ t)) (one_piece b r)
    ∙ sym (append_assoc (a ++ c) b r ∙ append_assoc a c (b ++ r))

with_comma : (a b r : List ℕ) → (a ++ []) ++ (44 ∷ ((b ++ []) ++ r)) ≡ (a ++ 44 ∷ b) ++ r
with_comma a b r = one_piece a (44 ∷ ((b ++ []) ++ r)) ∙ ap (λ t. a ++ 44 ∷ t) (one_piece b r) ∙ sym (append_assoc a (44 ∷ b) r)

with_commas : (a b c r : List ℕ) → (a ++ []) ++ (44 ∷ ((b ++ []) ++ (44 ∷ ((c ++ []) ++ r)))) ≡ ((a ++ 44 ∷ b) ++ 44 ∷ c) ++ r
with_commas a b c r = with_comma a b (44 ∷ ((c ++ []) ++ r)) ∙ ap (λ t. (a ++ 44 ∷ b) ++ 44 ∷ t) (one_piece c r) ∙ sym (append_assoc (a ++ 44 ∷ b) (44 ∷ c) r)

nested : (a b c d : List ℕ) → a ++ (b ++ (c ++ d)) ≡ a ++ b ++ c ++ d
nested a b c d = sym (append_assoc (a ++ b) c d ∙ append_assoc a b (c ++ d))

-- a line has its text if it has it behind its number
line_by : (l : Line) (before between behind : List ℕ) → behind_name l ≡ before ++ (between ++ behind) → printed l ≡ text.line l.number before between behind
line_by l before between behind e =
    ap (λ t. t ++ 61 ∷ behind_name l) (append-nil (reference l.number)) ∙ sym (append_assoc (reference l.number) (61 ∷ []) (behind_name l))
    ∙ ap (λ t. name l.number ++ t) e ∙ nested (name l.number) before between behind

-- Lines.

pub point_text : (n : ℕ) (x y z : ℤ) → printed (point n x y z) ≡ point_line n x y z
point_text n x y z =
    line_by (point n x y z) (codes "IFCCARTESIANPOINT((") (text.coordinates x y z) (codes "));\n")
    (ap (λ t. codes "IFCCARTESIANPOINT((" ++ t) (with_commas (coordinate x) (coordinate y) (coordinate z) (codes "));\n")))

pub axes_text : (n at : ℕ) → printed (axes n at) ≡ axes_line n at
axes_text n at =
    line_by (axes n at) (codes "IFCAXIS2PLACEMENT3D(") (reference at) (codes ",$,$);\n") (ap (λ t. codes "IFCAXIS2PLACEMENT3D(" ++ t) (one_piece (reference at) (codes ",$,$);\n")))

pub placed_text : (n at : ℕ) → printed (placed n at) ≡ placement_line n at
placed_text n at =
    line_by (placed n at) (codes "IFCLOCALPLACEMENT($,") (reference at) (codes ");\n") (ap (λ t. codes "IFCLOCALPLACEMENT($," ++ t) (one_piece (reference at) (codes ");\n")))

pub placed_in_text : (n parent at : ℕ) → printed (placed_in n parent at) ≡ placement_in_line n parent at
placed_in_text n parent at =
    line_by (placed_in n parent at) (codes "IFCLOCALPLACEMENT(") (text.references parent at) (codes ");\n")
    (ap (λ t. codes "IFCLOCALPLACEMENT(" ++ t) (with_comma (reference parent) (reference at) (codes ");\n")))

pub rectangle_text : (n length width : ℕ) → printed (rectangle n length width) ≡ rectangle_line n length width
rectangle_text n length width =
    line_by (rectangle n length width) (codes "IFCRECTANGLEPROFILEDEF(.AREA.,$,$,") (text.two_lengths length width) (codes ");\n")
    (ap (λ t. codes "IFCRECTANGLEPROFILEDEF(.AREA.,$,$," ++ t) (with_comma (millimetres length) (millimetres width) (codes ");\n")))

pub extrusion_text : (n profile depth : ℕ) → printed (extrusion n profile depth) ≡ extrusion_line n profile depth
unfolding digits
extrusion_text n profile depth =
    line_by (extrusion n profile depth) (codes "IFCEXTRUDEDAREASOLID(") (reference profile ++ codes ",$,#8," ++ millimetres depth) (codes ");\n")
    (ap (λ t. codes "IFCEXTRUDEDAREASOLID(" ++ t) (two_pieces (reference profile) (codes ",$,#8,") (millimetres depth) (codes ");\n")))

pub representation_text : (n solid : ℕ) → printed (representation n solid) ≡ representation_line n solid
unfolding digits
representation_text n solid =
    line_by (representation n solid) (codes "IFCSHAPEREPRESENTATION(#5,'Body','SweptSolid',(") (reference solid) (codes "));\n")
    (ap (λ t. codes "IFCSHAPEREPRESENTATION(#5,'Body','SweptSolid',(" ++ t) (one_piece (reference solid) (codes "));\n")))

pub shape_text : (n body : ℕ) → printed (shape n body) ≡ shape_line n body
shape_text n body =
    line_by (shape n body) (codes "IFCPRODUCTDEFINITIONSHAPE($,$,(") (reference body) (codes "));\n")
    (ap (λ t. codes "IFCPRODUCTDEFINITIONSHAPE($,$,(" ++ t) (one_piece (reference body) (codes "));\n")))

pub wall_text : (n at body : ℕ) → printed (product (codes "IFCWALL") n at body) ≡ wall_line n at body
wall_text n at body =
    line_by (product (codes "IFCWALL") n at body) (codes "IFCWALL('',$,$,$,$,") (text.references at body) (codes ",$,$);\n")
    (ap (λ t. codes "IFCWALL('',$,$,$,$," ++ t) (with_comma (reference at) (reference body) (codes ",$,$);\n")))

pub slab_text : (n at body : ℕ) → printed (product (codes "IFCSLAB") n at body) ≡ slab_line n at body
slab_text n at body =
    line_by (product (codes "IFCSLAB") n at body) (codes "IFCSLAB('',$,$,$,$,") (text.references at body) (codes ",$,$);\n")
    (ap (λ t. codes "IFCSLAB('',$,$,$,$," ++ t) (with_comma (reference at) (reference body) (codes ",$,$);\n")))

pub opening_text : (n at body : ℕ) → printed (product (codes "IFCOPENINGELEMENT") n at body) ≡ opening_line n at body
opening_text n at body =
    line_by (product (codes "IFCOPENINGELEMENT") n at body) (codes "IFCOPENINGELEMENT('',$,$,$,$,") (text.references at body) (codes ",$,$);\n")
    (ap (λ t. codes "IFCOPENINGELEMENT('',$,$,$,$," ++ t) (with_comma (reference at) (reference body) (codes ",$,$);\n")))

pub voids_text : (n element opening : ℕ) → printed (voids n element opening) ≡ voids_line n element opening
voids_text n element opening =
    line_by (voids n element opening) (codes "IFCRELVOIDSELEMENT('',$,$,$,") (text.references element opening) (codes ");\n")
    (ap (λ t. codes "IFCRELVOIDSELEMENT('',$,$,$," ++ t) (with_comma (reference element) (reference opening) (codes ");\n")))
