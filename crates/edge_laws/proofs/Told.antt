-- What a tree says at a point is told by the point's sides of the planes of the book.
use Rattle.std.proofs.Common.{◌≡◌, ℕ, zero, suc, Bool, true, false, List, [], ◌∷◌, Option, Some, None, slice_get, ℤ, pos, negsuc, ◌<ℤ◌, inl, inr, refl, sym, ap, ap₂, ◌∙◌, arith}
use Rattle.std.proofs.lemmas.Int.{ints}
use Rattle.spec_space.specs.declared.Point.{Point}
use Rattle.spec_space.specs.Points.{IsPoint, value}
use Rattle.plane_core.specs.declared.numbers.Plane.{Plane as BookPlane}
use Rattle.plane_core.specs.Views.{plane_of}
use Rattle.convex_cycles.proofs.Lists.{Member}
use Rattle.line_turns.proofs.Neighbours.{IsStrictly}
use Rattle.line_turns.proofs.Places.{AreBeside, IsToldBy}
use Rattle.tree_pool.specs.Trees.{Tree, leaf, node, level_by, choose, value_of}
use Rattle.face_walk.specs.Faces.{told, is_true_at}

-- a plane of the book
pub get_member : (planes : List BookPlane) (k : ℕ) (p : BookPlane) → slice_get planes k ≡ Some p → Member p planes
get_member [] k p e = cc
get_member (q ∷ qs) zero p e = let same : q ≡ p = cc in inl (sym same)
get_member (q ∷ qs) (suc k) p e = inr (get_member qs k p e)

-- two numbers on one side choose alike
chosen : {X : Type 0} (b : Bool) (x y : ℤ) (f g : Option X) → IsStrictly b x → IsStrictly b y → choose x f g ≡ choose y f g
chosen true (pos zero) y f g h k = absurd (omega (arith, ints, h))
chosen true (pos (suc m)) (pos zero) f g h k = absurd (omega (arith, ints, k))
chosen true (pos (suc m)) (pos (suc n)) f g h k = refl
chosen true (pos (suc m)) (negsuc n) f g h k = absurd (omega (arith, ints, k))
chosen true (negsuc m) y f g h k = absurd (omega (arith, ints, h))
chosen false (pos m) y f g h k = absurd (omega (arith, ints, h))
chosen false (negsuc m) (pos n) f g h k = absurd (omega (arith, ints, k))
chosen false (negsuc m) (negsuc n) f g h k = refl

value_told : (planes : List BookPlane) (t : Tree) (q r : Point) → ((h : BookPlane) → Member h planes → AreBeside q r h) → value_of planes t q ≡ value_of planes t r
value_told planes (leaf b) q r beside = refl
value_told planes (node k front back) q r beside = at_node (value_told planes front q r beside) (value_told planes back q r beside) (slice_get planes k) refl
  where
    at_node : value_of planes front q ≡ value_of planes front r → value_of planes back q ≡ value_of planes back r → (o : Option BookPlane) → slice_get planes k ≡ o
        → choose (level_by o q) (value_of planes front q) (value_of planes back q) ≡ choose (level_by o r) (value_of planes front r) (value_of planes back r)
    at_node f g None e = refl
    at_node f g (Some p) e =
        let b = beside p (get_member planes k p e) in
        ap₂ (λ x y. choose (value (plane_of p) q) x y) f g
        ∙ chosen b.0 (value (plane_of p) q) (value (plane_of p) r) (value_of planes front r) (value_of planes back r) b.1 b.2

-- two points on the same sides of all planes of the book have one value
pub tree_told : (planes : List BookPlane) (t : Tree) → IsToldBy planes (is_true_at planes t)
tree_told planes t q r iq ir beside = ap told (value_told planes t q r beside)
