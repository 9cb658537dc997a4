-- Printed corners that are near their images lie near one another.
use Rattle.std.proofs.Common.{◌≡◌, inl, inr, ℕ, ◌≤◌, ◌^◌, ℤ, pos, neg_ℤ, ◌-ℤ◌, ◌*ℤ◌, unsigned_abs, List, [], ◌∷◌, length, All, sym, ap, subst, ◌∙◌, arith}
use Rattle.std.proofs.lemmas.Int.{ints}
use Rattle.std.proofs.lemmas.List.Elements.{All-nil, All-cons, All-head, All-tail, All-weaker}
use Rattle.spec_num.specs.Rounding.{round_of}
use Rattle.spec_space.specs.declared.Vector.{Vector}
use Rattle.spec_space.specs.Points.{minus}
use Rattle.spec_place.specs.declared.transform.Transform.{Transform}
use Rattle.spec_place.specs.Transforms.{IsFrame}
use Rattle.spec_place.specs.Vectors.{IsWithin}
use Rattle.spec_page.specs.World.{image_above, image_below}
use Rattle.spec_check.specs.Verdicts.{IsWithinHalf, IsNearImage}
use Rattle.plane_core.specs.declared.numbers.Corner.{Corner}
use Rattle.plane_core.specs.Views.{point_of}
use Rattle.exact_mesh.specs.Meshes.{vector_of}
use Rattle.exact_mesh.specs.Ranges.{IsWithin as IsNear, AreNear}
use Rattle.world_print.specs.Ranges.{IsStep, IsOnGrid}
use Rattle.world_print.specs.Elements.{page_corners}
use Rattle.world_print.proofs.Images.{near_offset}
use Rattle.mesh_check.specs.Near.{page_corner}
use Rattle.mesh_check.proofs.Nearest.{either, row_negated, below_positive}

same_size : (a : ℤ) (n : ℕ) → unsigned_abs a ≤ n → unsigned_abs (neg_ℤ a) ≤ n
same_size a n h = omega (arith, ints)

-- 1000 times a number that is near a coordinate of the image, less the offset
near_one : (n : ℤ) (row : Vector) (off : ℤ) (step : ℕ) (c : Corner) → IsWithin (10 ^ 9) row → IsStep step → IsOnGrid c
    → IsWithinHalf n (image_above row off step (point_of c)) (image_below (point_of c)) → unsigned_abs (pos 1000 *ℤ n -ℤ off) ≤ 31457280000500
near_one n row off step c small range reach near = elim (either n (image_above row off step (point_of c)) (image_below (point_of c)) (below_positive c.w c.positive) near) [
  | inl up ↦ subst (λ r. unsigned_abs (pos 1000 *ℤ r -ℤ off) ≤ 31457280000500) (sym up)
      (near_offset row.x row.y row.z off c.x c.y c.z c.w step small.x small.y small.z range.most c.positive reach.x reach.y reach.z)
  | inr down ↦ turned n (neg_ℤ n) off (subst (λ r. unsigned_abs (pos 1000 *ℤ r -ℤ neg_ℤ off) ≤ 31457280000500) (ap (λ a. round_of a (image_below (point_of c))) (row_negated row off step (point_of c)) ∙ down)
      (near_offset (neg_ℤ row.x) (neg_ℤ row.y) (neg_ℤ row.z) (neg_ℤ off) c.x c.y c.z c.w step (same_size row.x (10 ^ 9) small.x) (same_size row.y (10 ^ 9) small.y) (same_size row.z (10 ^ 9) small.z)
      range.most c.positive reach.x reach.y reach.z))
]
  where
    turned : (n m off : ℤ) → unsigned_abs (pos 1000 *ℤ neg_ℤ n -ℤ neg_ℤ off) ≤ 31457280000500 → unsigned_abs (pos 1000 *ℤ n -ℤ off) ≤ 31457280000500
    turned n m off h = omega (arith, ints)

record IsNearOffset (off v : Vector) : Type 0 where
  x : unsigned_abs (pos 1000 *ℤ v.x -ℤ off.x) ≤ 31457280000500
  y : unsigned_abs (pos 1000 *ℤ v.y -ℤ off.y) ≤ 31457280000500
  z : unsigned_abs (pos 1000 *ℤ v.z -ℤ off.z) ≤ 31457280000500

near_one_another : (off u v : Vector) → IsNearOffset off u → IsNearOffset off v → IsNear (2 ^ 37) (minus u v)
near_one_another off u v h k = record { x = apart u.x v.x off.x h.x k.x; y = apart u.y v.y off.y h.y k.y; z = apart u.z v.z off.z h.z k.z }
  where
    apart : (a b off : ℤ) → unsigned_abs (pos 1000 *ℤ a -ℤ off) ≤ 31457280000500 → unsigned_abs (pos 1000 *ℤ b -ℤ off) ≤ 31457280000500 → unsigned_abs (a -ℤ b) ≤ 2 ^ 37
    apart a b off h k = omega (arith, ints)

module _ (f : Transform) (step : ℕ) (frame : IsFrame f) (range : IsStep step) where
  offsets : (cs : List Corner) (vs : List (List ℤ)) → length vs ≡ length cs → All IsOnGrid cs → All (IsNearImage f step) (page_corners cs vs) → All (λ v. IsNearOffset f.off (vector_of v)) vs
  offsets cs [] e reach near = All-nil (λ v. IsNearOffset f.off (vector_of v))
  offsets [] (v ∷ vs) e reach near = absurd (omega arith)
  offsets (c ∷ cs) (v ∷ vs) e reach near =
      let on = All-head IsOnGrid c cs reach in
      let one = All-head (IsNearImage f step) (page_corner c v) (page_corners cs vs) near in
      All-cons (λ v. IsNearOffset f.off (vector_of v)) v vs
      (record {
        x = near_one (vector_of v).x f.x f.off.x step c frame.x range on one.x;
        y = near_one (vector_of v).y f.y f.off.y step c frame.y range on one.y;
        z = near_one (vector_of v).z f.z f.off.z step c frame.z range on one.z;
      })
      (offsets cs vs (omega arith) (All-tail IsOnGrid c cs reach) (All-tail (IsNearImage f step) (page_corner c v) (page_corners cs vs) near))

  pub are_near : (cs : List Corner) (vs : List (List ℤ)) → length vs ≡ length cs → All IsOnGrid cs → All (IsNearImage f step) (page_corners cs vs) → AreNear vs
  are_near cs vs e reach near = first vs (offsets cs vs e reach near)
    where
      first : (vs : List (List ℤ)) → All (λ v. IsNearOffset f.off (vector_of v)) vs → AreNear vs
      first [] h = All-nil (λ v. IsNear (2 ^ 37) (minus (vector_of v) (vector_of [])))
      first (v ∷ vs) h =
          All-weaker (λ u. IsNearOffset f.off (vector_of u)) (λ u. IsNear (2 ^ 37) (minus (vector_of u) (vector_of v)))
          (λ u near. near_one_another f.off (vector_of u) (vector_of v) near (All-head (λ u. IsNearOffset f.off (vector_of u)) v vs h)) (v ∷ vs) h
