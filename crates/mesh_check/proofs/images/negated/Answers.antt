use Rattle.std.proofs.Common.{◌≡◌, ℕ, ◌≤◌, ◌^◌, ℤ, neg_ℤ, unsigned_abs, sym, subst, arith}
use Rattle.std.proofs.lemmas.Int.{ints}
use Rattle.spec_space.specs.declared.Vector.{Vector}
use Rattle.spec_place.specs.Vectors.{IsWithin, reversed}
use Rattle.mesh_check.proofs.images.negated.Goals as goal

reversed_within : (n : ℕ) (v w : Vector) → w ≡ reversed v → IsWithin n v → IsWithin n w
reversed_within n v w e h = subst (IsWithin n) (sym e) (record { x = same v.x n h.x; y = same v.y n h.y; z = same v.z n h.z })
  where
    same : (a : ℤ) (n : ℕ) → unsigned_abs a ≤ n → unsigned_abs (neg_ℤ a) ≤ n
    same a n h = omega (arith, ints)

pub invariant_of-result : goal.invariant_of-result
invariant_of-result c =
    let t = c.frame.inside.transform in
    let small = c.frame.invariant in
    record {
      x = reversed_within (10 ^ 9) t.x c.reversed.result c.reversed.ensures small.x;
      y = reversed_within (10 ^ 9) t.y c.reversed-2.result c.reversed-2.ensures small.y;
      z = reversed_within (10 ^ 9) t.z c.reversed-3.result c.reversed-3.ensures small.z;
      off = reversed_within (10 ^ 16) t.off c.reversed-4.result c.reversed-4.ensures small.off;
    }
