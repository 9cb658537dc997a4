-- The parts of a node are smaller than the node.
use Rattle.std.proofs.Common.{◌≡◌, ℕ, zero, suc, ◌+◌, ◌<◌, List, [], ◌∷◌, map, length, get_or, sym, ap, subst, ◌∙◌, arith}
use Rattle.spec_solid.specs.declared.BoolOp.{BoolOp}
use Rattle.grid_solid.specs.declared.nodes.GridNode.{GridNode}
use Rattle.grid_solid.specs.declared.nodes.GridNode.TheVariants.{Combined, Union}
use Rattle.grid_solid.specs.Shapes.{Shape, Triangles, Half, Joined, Nothing, union_of}
use Rattle.grid_solid.specs.Views.{shape_of}
use Rattle.grid_solid.proofs.Folds.{shape-Combined, shape-Union}

abbrev pub size_of : Shape → ℕ
size_of (Triangles shell) = 1
size_of (Half plane in_front) = 1
size_of (Joined operator first second) = suc (size_of first + size_of second)
size_of Nothing = 0

part_in : (ns : List GridNode) (i : ℕ) (n : GridNode) → i < length ns → n ≡ get_or ns i n → size_of (shape_of n) < size_of (union_of (map shape_of ns))
part_in [] i n h e = absurd (omega arith)
part_in (x ∷ xs) zero n h e = let k : size_of (shape_of n) ≡ size_of (shape_of x) = ap (λ y. size_of (shape_of y)) e in omega arith
part_in (x ∷ xs) (suc i) n h e = let k = part_in xs i n (omega arith) e in omega arith

pub part_smaller : (node : GridNode) (parts ns : List GridNode) (i : ℕ) (n : GridNode) → node ≡ Union parts → ns ≡ parts → i < length ns → n ≡ get_or ns i n → size_of (shape_of n) < size_of (shape_of node)
part_smaller node parts ns i n e f h g =
    let whole : shape_of node ≡ union_of (map shape_of ns) = ap shape_of e ∙ shape-Union parts ∙ ap (λ ms. union_of (map shape_of ms)) (sym f) in
    subst (λ s. size_of (shape_of n) < size_of s) (sym whole) (part_in ns i n h g)

pub first_smaller : (node : GridNode) (operator : BoolOp) (first second f : GridNode) → node ≡ Combined operator first second → f ≡ first → size_of (shape_of f) < size_of (shape_of node)
first_smaller node operator first second f e p =
    let whole : shape_of node ≡ Joined operator (shape_of first) (shape_of second) = ap shape_of e ∙ shape-Combined operator first second in
    let same : size_of (shape_of f) ≡ size_of (shape_of first) = ap (λ y. size_of (shape_of y)) p in
    subst (λ s. size_of (shape_of f) < size_of s) (sym whole) (omega arith)

pub second_smaller : (node : GridNode) (operator : BoolOp) (first second s : GridNode) → node ≡ Combined operator first second → s ≡ second → size_of (shape_of s) < size_of (shape_of node)
second_smaller node operator first second s e p =
    let whole : shape_of node ≡ Joined operator (shape_of first) (shape_of second) = ap shape_of e ∙ shape-Combined operator first second in
    let same : size_of (shape_of s) ≡ size_of (shape_of second) = ap (λ y. size_of (shape_of y)) p in
    subst (λ w. size_of (shape_of s) < size_of w) (sym whole) (omega arith)
