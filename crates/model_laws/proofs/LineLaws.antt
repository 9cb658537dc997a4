-- Each line of a model file is well spelled, and has its text.
use Rattle.std.proofs.Common.{ℕ, ℤ, ◌++◌, length, length-append, refl, arith, codes}
use Rattle.model_gen.specs.Lines as text
use Rattle.model_gen.specs.Lines.{reference, millimetres, point_line, axes_line, placement_line, placement_in_line, rectangle_line, extrusion_line, representation_line, shape_line, wall_line, slab_line, opening_line, voids_line}
use Rattle.file_templates.proofs.Decimals.{IsShortNumber, decimal_spelled, signed_spelled}
use Rattle.model_laws.proofs.Lines.{point, axes, placed, placed_in, rectangle, extrusion, representation, shape, product, voids}
use Rattle.model_laws.proofs.Texts.{point_text, axes_text, placed_text, placed_in_text, rectangle_text, extrusion_text, representation_text, shape_text, wall_text, slab_text, opening_text, voids_text}
use Rattle.model_laws.proofs.Sizes.{IsShortWhole, reference_short, references_short, millimetres_short, lengths_short, coordinates_short, line_short}
use Rattle.model_laws.proofs.Parts.{IsLine}

pub point_is : (n : ℕ) (x y z : ℤ) → IsShortNumber n → IsShortWhole x → IsShortWhole y → IsShortWhole z → IsLine (point n x y z) (point_line n x y z)
point_is n x y z h a b c = record {
  text_is = point_text n x y z;
  spelled = record {
    number = h;
    call = record { keyword = refl; arguments = ((signed_spelled x (omega arith), (signed_spelled y (omega arith), (signed_spelled z (omega arith), tt))), tt) };
  };
  short = line_short n (codes "IFCCARTESIANPOINT((") (text.coordinates x y z) (codes "));\n") h (omega (arith, coordinates_short x y z a b c));
}

pub axes_is : (n at : ℕ) → IsShortNumber n → IsShortNumber at → IsLine (axes n at) (axes_line n at)
axes_is n at h k = record {
  text_is = axes_text n at;
  spelled = record { number = h; call = record { keyword = refl; arguments = (k, (tt, (tt, tt))) } };
  short = line_short n (codes "IFCAXIS2PLACEMENT3D(") (reference at) (codes ",$,$);\n") h (omega (arith, reference_short at k));
}

pub placed_is : (n at : ℕ) → IsShortNumber n → IsShortNumber at → IsLine (placed n at) (placement_line n at)
placed_is n at h k = record {
  text_is = placed_text n at;
  spelled = record { number = h; call = record { keyword = refl; arguments = (tt, (k, tt)) } };
  short = line_short n (codes "IFCLOCALPLACEMENT($,") (reference at) (codes ");\n") h (omega (arith, reference_short at k));
}

pub placed_in_is : (n parent at : ℕ) → IsShortNumber n → IsShortNumber parent → IsShortNumber at → IsLine (placed_in n parent at) (placement_in_line n parent at)
placed_in_is n parent at h j k = record {
  text_is = placed_in_text n parent at;
  spelled = record { number = h; call = record { keyword = refl; arguments = (j, (k, tt)) } };
  short = line_short n (codes "IFCLOCALPLACEMENT(") (text.references parent at) (codes ");\n") h (omega (arith, references_short parent at j k));
}

pub rectangle_is : (n length width : ℕ) → IsShortNumber n → IsShortNumber length → IsShortNumber width → IsLine (rectangle n length width) (rectangle_line n length width)
rectangle_is n length width h j k = record {
  text_is = rectangle_text n length width;
  spelled = record {
    number = h;
    call = record { keyword = refl; arguments = (refl, (tt, (tt, (decimal_spelled length (omega arith), (decimal_spelled width (omega arith), tt))))) };
  };
  short = line_short n (codes "IFCRECTANGLEPROFILEDEF(.AREA.,$,$,") (text.two_lengths length width) (codes ");\n") h (omega (arith, lengths_short length width j k));
}

pub extrusion_is : (n profile depth : ℕ) → IsShortNumber n → IsShortNumber profile → IsShortNumber depth → IsLine (extrusion n profile depth) (extrusion_line n profile depth)
extrusion_is n profile depth h j k = record {
  text_is = extrusion_text n profile depth;
  spelled = record { number = h; call = record { keyword = refl; arguments = (j, (tt, (omega arith, (decimal_spelled depth (omega arith), tt)))) } };
  short = line_short n (codes "IFCEXTRUDEDAREASOLID(") (reference profile ++ codes ",$,#8," ++ millimetres depth) (codes ");\n") h
      (omega (
        arith,
        length-append (reference profile ++ codes ",$,#8,") (millimetres depth),
        length-append (reference profile) (codes ",$,#8,"),
        reference_short profile j,
        millimetres_short depth k,
      ));
}

pub representation_is : (n solid : ℕ) → IsShortNumber n → IsShortNumber solid → IsLine (representation n solid) (representation_line n solid)
representation_is n solid h k = record {
  text_is = representation_text n solid;
  spelled = record { number = h; call = record { keyword = refl; arguments = (omega arith, (refl, (refl, ((k, tt), tt)))) } };
  short = line_short n (codes "IFCSHAPEREPRESENTATION(#5,'Body','SweptSolid',(") (reference solid) (codes "));\n") h (omega (arith, reference_short solid k));
}

pub shape_is : (n body : ℕ) → IsShortNumber n → IsShortNumber body → IsLine (shape n body) (shape_line n body)
shape_is n body h k = record {
  text_is = shape_text n body;
  spelled = record { number = h; call = record { keyword = refl; arguments = (tt, (tt, ((k, tt), tt))) } };
  short = line_short n (codes "IFCPRODUCTDEFINITIONSHAPE($,$,(") (reference body) (codes "));\n") h (omega (arith, reference_short body k));
}

pub wall_is : (n at body : ℕ) → IsShortNumber n → IsShortNumber at → IsShortNumber body → IsLine (product (codes "IFCWALL") n at body) (wall_line n at body)
wall_is n at body h j k = record {
  text_is = wall_text n at body;
  spelled = record { number = h; call = record { keyword = refl; arguments = (refl, (tt, (tt, (tt, (tt, (j, (k, (tt, (tt, tt))))))))) } };
  short = line_short n (codes "IFCWALL('',$,$,$,$,") (text.references at body) (codes ",$,$);\n") h (omega (arith, references_short at body j k));
}

pub slab_is : (n at body : ℕ) → IsShortNumber n → IsShortNumber at → IsShortNumber body → IsLine (product (codes "IFCSLAB") n at body) (slab_line n at body)
slab_is n at body h j k = record {
  text_is = slab_text n at body;
  spelled = record { number = h; call = record { keyword = refl; arguments = (refl, (tt, (tt, (tt, (tt, (j, (k, (tt, (tt, tt))))))))) } };
  short = line_short n (codes "IFCSLAB('',$,$,$,$,") (text.references at body) (codes ",$,$);\n") h (omega (arith, references_short at body j k));
}

pub opening_is : (n at body : ℕ) → IsShortNumber n → IsShortNumber at → IsShortNumber body → IsLine (product (codes "IFCOPENINGELEMENT") n at body) (opening_line n at body)
opening_is n at body h j k = record {
  text_is = opening_text n at body;
  spelled = record { number = h; call = record { keyword = refl; arguments = (refl, (tt, (tt, (tt, (tt, (j, (k, (tt, (tt, tt))))))))) } };
  short = line_short n (codes "IFCOPENINGELEMENT('',$,$,$,$,") (text.references at body) (codes ",$,$);\n") h (omega (arith, references_short at body j k));
}

pub voids_is : (n element opening : ℕ) → IsShortNumber n → IsShortNumber element → IsShortNumber opening → IsLine (voids n element opening) (voids_line n element opening)
voids_is n element opening h j k = record {
  text_is = voids_text n element opening;
  spelled = record { number = h; call = record { keyword = refl; arguments = (refl, (tt, (tt, (tt, (j, (k, tt)))))) } };
  short = line_short n (codes "IFCRELVOIDSELEMENT('',$,$,$,") (text.references element opening) (codes ");\n") h (omega (arith, references_short element opening j k));
}
