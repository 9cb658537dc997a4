-- The walls, the slab and the holes of a model file as templates, and that these are well spelled.
use Rattle.std.proofs.Common.{ℕ, ◌+◌, ◌*◌, ◌/◌, ◌%◌, ◌<◌, ◌≤◌, ◌^◌, zero, suc, ℤ, pos, ◌-ℤ◌, List, [], ◌∷◌, ◌++◌, arith, codes}
use Rattle.std.proofs.lemmas.Int.{ints}
use Rattle.model_gen.specs.Model as text
use Rattle.file_templates.proofs.Templates.{Line}
use Rattle.model_laws.proofs.Lines.{point, axes, placed, placed_in, rectangle, extrusion, representation, shape, product, voids}
use Rattle.model_laws.proofs.Sizes.{IsShortWhole}
use Rattle.model_laws.proofs.Parts.{AreLines, no_lines, one_line, both, within}
use Rattle.model_laws.proofs.LineLaws.{point_is, axes_is, placed_is, placed_in_is, rectangle_is, extrusion_is, representation_is, shape_is, wall_is, slab_is, opening_is, voids_is}

-- one line
abbrev single : Line → List Line
single l = l ∷ []

-- The templates, each made of its parts as its text is.

-- three instances: a placement in the world, and one in another
abbrev pub placement : ℕ → ℤ → ℤ → ℤ → List Line
placement n x y z = single (point n x y z) ++ single (axes (n + 1) n) ++ single (placed (n + 2) (n + 1))

abbrev pub placement_in : ℕ → ℕ → ℤ → ℤ → ℤ → List Line
placement_in parent n x y z = single (point n x y z) ++ single (axes (n + 1) n) ++ single (placed_in (n + 2) parent (n + 1))

-- the shape of a block
abbrev pub block : ℕ → ℕ → ℕ → ℕ → List Line
block n length width height =
    single (rectangle n length width) ++ single (extrusion (n + 1) n height) ++ single (representation (n + 2) (n + 1)) ++ single (shape (n + 3) (n + 2))

-- a wall without its window, the window, and both
abbrev pub plain_wall : ℕ → ℤ → List Line
plain_wall n x = placement n x (pos 0) (pos 0) ++ block (n + 3) 5000 200 3000 ++ single (product (codes "IFCWALL") (n + 7) (n + 2) (n + 6))

abbrev pub window : ℕ → ℕ → List Line
window n width =
    placement_in (n + 2) (n + 8) (pos 0) (pos 0) (pos 900) ++ block (n + 11) width 400 1200
    ++ single (product (codes "IFCOPENINGELEMENT") (n + 15) (n + 10) (n + 14)) ++ single (voids (n + 16) (n + 7) (n + 15))

abbrev pub wall : ℕ → List Line
wall i = plain_wall (100 + 20 * i) (pos (6000 * i)) ++ window (100 + 20 * i) (800 + 100 * (i % 5))

-- the slab, and its holes
abbrev pub slab : List Line
slab = placement 10000 (pos 0) (pos 20000) (pos 0) ++ block 10003 16000 11000 250 ++ single (product (codes "IFCSLAB") 10007 10002 10006) ++ block 10008 500 500 350

abbrev pub hole_at : ℕ → ℤ → ℤ → List Line
hole_at n x y =
    placement_in 10002 n x y (pos 0 -ℤ pos 50) ++ single (product (codes "IFCOPENINGELEMENT") (n + 3) (n + 2) 10011) ++ single (voids (n + 4) 10007 (n + 3))

abbrev pub hole : ℕ → List Line
hole i = hole_at (10100 + 10 * i) (pos (1000 * (i % 15)) -ℤ pos 7250) (pos (1000 * (i / 15)) -ℤ pos 4750)

-- the first so many
abbrev pub walls : ℕ → List Line
walls zero = []
walls (suc n) = walls n ++ wall n

abbrev pub holes : ℕ → List Line
holes zero = []
holes (suc n) = holes n ++ hole n

-- Numbers of a file, with room for those of its lines.

-- far below 18 digits
abbrev pub IsSmall : ℕ → Type 0
IsSmall n = n < 10 ^ 9

placement_are : (n : ℕ) (x y z : ℤ) → IsSmall n → IsShortWhole x → IsShortWhole y → IsShortWhole z → AreLines (placement n x y z) (text.placement n x y z) n (n + 3)
placement_are n x y z h a b c =
    both (n + 2)
    (both (n + 1)
    (one_line (point n x y z) _ n (n + 1) (point_is n x y z (omega arith) a b c) (omega arith) (omega arith))
    (one_line (axes (n + 1) n) _ (n + 1) (n + 2) (axes_is (n + 1) n (omega arith) (omega arith)) (omega arith) (omega arith)))
    (one_line (placed (n + 2) (n + 1)) _ (n + 2) (n + 3) (placed_is (n + 2) (n + 1) (omega arith) (omega arith)) (omega arith) (omega arith))

placement_in_are : (parent n : ℕ) (x y z : ℤ) → IsSmall parent → IsSmall n → IsShortWhole x → IsShortWhole y → IsShortWhole z
    → AreLines (placement_in parent n x y z) (text.placement_in parent n x y z) n (n + 3)
placement_in_are parent n x y z p h a b c =
    both (n + 2)
    (both (n + 1)
    (one_line (point n x y z) _ n (n + 1) (point_is n x y z (omega arith) a b c) (omega arith) (omega arith))
    (one_line (axes (n + 1) n) _ (n + 1) (n + 2) (axes_is (n + 1) n (omega arith) (omega arith)) (omega arith) (omega arith)))
    (one_line (placed_in (n + 2) parent (n + 1)) _ (n + 2) (n + 3) (placed_in_is (n + 2) parent (n + 1) (omega arith) (omega arith) (omega arith)) (omega arith) (omega arith))

block_are : (n length width height : ℕ) → IsSmall n → IsSmall length → IsSmall width → IsSmall height
    → AreLines (block n length width height) (text.block n length width height) n (n + 4)
block_are n length width height h a b c =
    both (n + 3)
    (both (n + 2)
    (both (n + 1)
    (one_line (rectangle n length width) _ n (n + 1) (rectangle_is n length width (omega arith) (omega arith) (omega arith)) (omega arith) (omega arith))
    (one_line (extrusion (n + 1) n height) _ (n + 1) (n + 2) (extrusion_is (n + 1) n height (omega arith) (omega arith) (omega arith)) (omega arith) (omega arith)))
    (one_line (representation (n + 2) (n + 1)) _ (n + 2) (n + 3) (representation_is (n + 2) (n + 1) (omega arith) (omega arith)) (omega arith) (omega arith)))
    (one_line (shape (n + 3) (n + 2)) _ (n + 3) (n + 4) (shape_is (n + 3) (n + 2) (omega arith) (omega arith)) (omega arith) (omega arith))

-- Walls with windows.

plain_wall_are : (n : ℕ) (x : ℤ) → n < 10 ^ 8 → IsShortWhole x → AreLines (plain_wall n x) (text.plain_wall n x) n (n + 8)
plain_wall_are n x h a =
    both (n + 7)
    (both (n + 3)
    (placement_are n x (pos 0) (pos 0) (omega arith) a (omega (arith, ints)) (omega (arith, ints)))
    (within (n + 3) (n + 7) (omega arith) (omega arith) (block_are (n + 3) 5000 200 3000 (omega arith) (omega arith) (omega arith) (omega arith))))
    (one_line (product (codes "IFCWALL") (n + 7) (n + 2) (n + 6)) _ (n + 7) (n + 8) (wall_is (n + 7) (n + 2) (n + 6) (omega arith) (omega arith) (omega arith)) (omega arith) (omega arith))

window_are : (n width : ℕ) → n < 10 ^ 8 → IsSmall width → AreLines (window n width) (text.window n width) (n + 8) (n + 17)
window_are n width h a =
    both (n + 16)
    (both (n + 15)
    (both (n + 11)
    (within (n + 8) (n + 11) (omega arith) (omega arith)
    (placement_in_are (n + 2) (n + 8) (pos 0) (pos 0) (pos 900) (omega arith) (omega arith) (omega (arith, ints)) (omega (arith, ints)) (omega (arith, ints))))
    (within (n + 11) (n + 15) (omega arith) (omega arith) (block_are (n + 11) width 400 1200 (omega arith) a (omega arith) (omega arith))))
    (one_line (product (codes "IFCOPENINGELEMENT") (n + 15) (n + 10) (n + 14)) _ (n + 15) (n + 16)
    (opening_is (n + 15) (n + 10) (n + 14) (omega arith) (omega arith) (omega arith)) (omega arith) (omega arith)))
    (one_line (voids (n + 16) (n + 7) (n + 15)) _ (n + 16) (n + 17) (voids_is (n + 16) (n + 7) (n + 15) (omega arith) (omega arith) (omega arith)) (omega arith) (omega arith))

wall_are : (i : ℕ) → i ≤ 150 → AreLines (wall i) (text.wall i) (100 + 20 * i) (100 + 20 * suc i)
wall_are i h =
    both (100 + 20 * i + 8)
    (plain_wall_are (100 + 20 * i) (pos (6000 * i)) (omega arith) (omega (arith, ints)))
    (within (100 + 20 * i + 8) (100 + 20 * suc i) (omega arith) (omega arith) (window_are (100 + 20 * i) (800 + 100 * (i % 5)) (omega arith) (omega arith)))

pub walls_are : (n : ℕ) → n ≤ 150 → AreLines (walls n) (text.walls n) 100 (100 + 20 * n)
walls_are zero h = no_lines 100 (100 + 20 * 0) (omega arith)
walls_are (suc n) h = both (100 + 20 * n) (walls_are n (omega arith)) (wall_are n (omega arith))

-- The slab with holes.

pub slab_are : AreLines slab text.slab 10000 10012
slab_are =
    both 10008
    (both 10007
    (both 10003
    (placement_are 10000 (pos 0) (pos 20000) (pos 0) (omega arith) (omega (arith, ints)) (omega (arith, ints)) (omega (arith, ints)))
    (block_are 10003 16000 11000 250 (omega arith) (omega arith) (omega arith) (omega arith)))
    (one_line (product (codes "IFCSLAB") 10007 10002 10006) _ 10007 10008 (slab_is 10007 10002 10006 (omega arith) (omega arith) (omega arith)) (omega arith) (omega arith)))
    (block_are 10008 500 500 350 (omega arith) (omega arith) (omega arith) (omega arith))

hole_at_are : (n : ℕ) (x y : ℤ) → n < 10 ^ 8 → IsShortWhole x → IsShortWhole y → AreLines (hole_at n x y) (text.hole_at n x y) n (n + 5)
hole_at_are n x y h a b =
    both (n + 4)
    (both (n + 3)
    (placement_in_are 10002 n x y (pos 0 -ℤ pos 50) (omega arith) (omega arith) a b (omega (arith, ints)))
    (one_line (product (codes "IFCOPENINGELEMENT") (n + 3) (n + 2) 10011) _ (n + 3) (n + 4) (opening_is (n + 3) (n + 2) 10011 (omega arith) (omega arith) (omega arith)) (omega arith) (omega arith)))
    (one_line (voids (n + 4) 10007 (n + 3)) _ (n + 4) (n + 5) (voids_is (n + 4) 10007 (n + 3) (omega arith) (omega arith) (omega arith)) (omega arith) (omega arith))

short_less : (m k : ℕ) → IsSmall m → IsSmall k → IsShortWhole (pos m -ℤ pos k)
short_less m k h j = omega (arith, ints)

hole_are : (i : ℕ) → i ≤ 150 → AreLines (hole i) (text.hole i) (10100 + 10 * i) (10100 + 10 * suc i)
hole_are i h =
    within (10100 + 10 * i) (10100 + 10 * suc i) (omega arith) (omega arith)
    (hole_at_are (10100 + 10 * i) (pos (1000 * (i % 15)) -ℤ pos 7250) (pos (1000 * (i / 15)) -ℤ pos 4750) (omega arith)
    (short_less (1000 * (i % 15)) 7250 (omega arith) (omega arith))
    (short_less (1000 * (i / 15)) 4750 (omega arith) (omega arith)))

pub holes_are : (n : ℕ) → n ≤ 150 → AreLines (holes n) (text.holes n) 10100 (10100 + 10 * n)
holes_are zero h = no_lines 10100 (10100 + 10 * 0) (omega arith)
holes_are (suc n) h = both (10100 + 10 * n) (holes_are n (omega arith)) (hole_are n (omega arith))
