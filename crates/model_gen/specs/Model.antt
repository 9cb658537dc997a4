-- The model of walls with windows and a slab with holes (a file of this project).
use Rattle.std.specs.Prelude.{ℕ, zero, suc, ℤ, pos, ◌+◌, ◌*◌, ◌/◌, ◌%◌, ◌-ℤ◌, List, [], ◌++◌, codes}
use Rattle.model_gen.specs.Lines.{point_line, axes_line, placement_line, placement_in_line, rectangle_line, extrusion_line, representation_line, shape_line, wall_line, slab_line, opening_line, voids_line}

-- the header, the unit of a millimetre, the project, and the direction upwards under number 8
abbrev pub head : List ℕ
head =
    codes "ISO-10303-21;\nHEADER;\nFILE_DESCRIPTION((''),'2;1');\nFILE_NAME('','',(''),(''),'','','');\nFILE_SCHEMA(('IFC4'));\nENDSEC;\nDATA;\n"
    ++ codes "#1=IFCSIUNIT(*,.LENGTHUNIT.,.MILLI.,.METRE.);\n#2=IFCUNITASSIGNMENT((#1));\n#3=IFCCARTESIANPOINT((0.,0.,0.));\n#4=IFCAXIS2PLACEMENT3D(#3,$,$);\n"
    ++ codes "#5=IFCGEOMETRICREPRESENTATIONCONTEXT($,'Model',3,1.E-5,#4,$);\n#6=IFCPROJECT('1',$,'p',$,$,$,$,(#5),#2);\n#8=IFCDIRECTION((0.,0.,1.));\n"

abbrev pub end : List ℕ
end = codes "ENDSEC;\nEND-ISO-10303-21;\n"

-- three instances from a number on: a placement at a point in the world
abbrev pub placement : ℕ → ℤ → ℤ → ℤ → List ℕ
placement n x y z = point_line n x y z ++ axes_line (n + 1) n ++ placement_line (n + 2) (n + 1)

-- the same in another placement
abbrev pub placement_in : ℕ → ℕ → ℤ → ℤ → ℤ → List ℕ
placement_in parent n x y z = point_line n x y z ++ axes_line (n + 1) n ++ placement_in_line (n + 2) parent (n + 1)

-- four instances from a number on: the shape of a block upwards from a rectangle
abbrev pub block : ℕ → ℕ → ℕ → ℕ → List ℕ
block n length width height =
    rectangle_line n length width ++ extrusion_line (n + 1) n height ++ representation_line (n + 2) (n + 1) ++ shape_line (n + 3) (n + 2)

-- a wall without its window, from its number on
abbrev pub plain_wall : ℕ → ℤ → List ℕ
plain_wall n x = placement n x (pos 0) (pos 0) ++ block (n + 3) 5000 200 3000 ++ wall_line (n + 7) (n + 2) (n + 6)

-- the window of the wall of a number
abbrev pub window : ℕ → ℕ → List ℕ
window n width =
    placement_in (n + 2) (n + 8) (pos 0) (pos 0) (pos 900) ++ block (n + 11) width 400 1200
    ++ opening_line (n + 15) (n + 10) (n + 14) ++ voids_line (n + 16) (n + 7) (n + 15)

-- wall i, counted from 0
abbrev pub wall : ℕ → List ℕ
wall i = plain_wall (100 + 20 * i) (pos (6000 * i)) ++ window (100 + 20 * i) (800 + 100 * (i % 5))

-- the slab, and the shape of its holes
abbrev pub slab : List ℕ
slab = placement 10000 (pos 0) (pos 20000) (pos 0) ++ block 10003 16000 11000 250 ++ slab_line 10007 10002 10006 ++ block 10008 500 500 350

-- a hole of the slab, from its number on
abbrev pub hole_at : ℕ → ℤ → ℤ → List ℕ
hole_at n x y = placement_in 10002 n x y (pos 0 -ℤ pos 50) ++ opening_line (n + 3) (n + 2) 10011 ++ voids_line (n + 4) 10007 (n + 3)

-- hole i, counted from 0, in rows of fifteen
abbrev pub hole : ℕ → List ℕ
hole i = hole_at (10100 + 10 * i) (pos (1000 * (i % 15)) -ℤ pos 7250) (pos (1000 * (i / 15)) -ℤ pos 4750)

-- the first so many walls, and holes
abbrev pub walls : ℕ → List ℕ
walls zero = []
walls (suc n) = walls n ++ wall n

abbrev pub holes : ℕ → List ℕ
holes zero = []
holes (suc n) = holes n ++ hole n

-- the file of so many walls, and a slab with so many holes
abbrev pub model : ℕ → List ℕ
model n = head ++ walls n ++ slab ++ holes n ++ end
