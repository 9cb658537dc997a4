-- The planes of a triangle are planes that a reduction takes.
use Rattle.std.proofs.Common.{◌≡◌, ◌≢◌, ℕ, ◌+◌, ◌*◌, ◌≤◌, ◌^◌, ℤ, pos, neg_ℤ, ◌*ℤ◌, ◌-ℤ◌, ◌+ℤ◌, unsigned_abs, List, [], ◌∷◌, refl, sym, ap, ◌∙◌, arith}
use Rattle.std.proofs.lemmas.Int.{ints}
use Rattle.spec_space.specs.declared.Plane.{Plane}
use Rattle.spec_space.specs.declared.Vector.{Vector}
use Rattle.spec_space.specs.Points.{minus, dot}
use Rattle.spec_solid.specs.Triangles.{Triangle, turn}
use Rattle.spec_solid.specs.Planes.{plane_through, upright_plane}
use Rattle.integer_laws.proofs.Sizes.{size_add, size_sub, size_mul}
use Rattle.integer_laws.proofs.Ring.{var, con, neg, ◌⊕◌, ◌⊗◌, ◌⊖◌, ring}
use Rattle.ray_law.specs.Ranges.{AreSteps}
use Rattle.grid_solid.specs.Triangles.{IsNear}
use Rattle.triangle_planes.specs.Sizes.{AreRuns, AreAreas}
use Rattle.triangle_planes.specs.Planes.{IsPlane}

run_small : (a b : ℤ) → unsigned_abs a ≤ 2 ^ 20 → unsigned_abs b ≤ 2 ^ 20 → unsigned_abs (a -ℤ b) ≤ 2 ^ 21
run_small a b p q = omega (arith, ints)

wide : (n : ℕ) → n ≤ 2 ^ 21 → n ≤ 2 ^ 70
wide n h = omega arith

area_wide : (n : ℕ) → n ≤ 2 ^ 43 → n ≤ 2 ^ 70
area_wide n h = omega arith

wide_turned : (a : ℤ) → unsigned_abs a ≤ 2 ^ 21 → unsigned_abs (neg_ℤ a) ≤ 2 ^ 70
wide_turned a h = omega (arith, ints)

sum_wide : (n : ℕ) → n ≤ 2 ^ 41 + 2 ^ 41 → n ≤ 2 ^ 70
sum_wide n h = omega arith

dot_wide : (n : ℕ) → n ≤ 2 ^ 63 + 2 ^ 63 + 2 ^ 63 → n ≤ 2 ^ 70
dot_wide n h = omega arith

none_small : unsigned_abs (pos 0) ≤ 2 ^ 70
none_small = omega (arith, ints)

-- an upright plane through two places one of which is apart from the other, seen along z
pub upright_is : (u v : Vector) → AreSteps u → AreSteps v → ((v.y -ℤ u.y ≡ pos 0) × (v.x -ℤ u.x ≡ pos 0) → ⊥) → IsPlane (upright_plane u v)
upright_is u v p q apart =
    let length = run_small v.y u.y q.y p.y in
    let width = run_small v.x u.x q.x p.x in
    record {
      a = wide (unsigned_abs (v.y -ℤ u.y)) length;
      b = wide_turned (v.x -ℤ u.x) width;
      c = none_small;
      d = sum_wide (unsigned_abs ((v.y -ℤ u.y) *ℤ u.x -ℤ (v.x -ℤ u.x) *ℤ u.y))
          (size_sub ((v.y -ℤ u.y) *ℤ u.x) ((v.x -ℤ u.x) *ℤ u.y) (2 ^ 41) (2 ^ 41) (size_mul (v.y -ℤ u.y) u.x (2 ^ 21) (2 ^ 20) length p.x) (size_mul (v.x -ℤ u.x) u.y (2 ^ 21) (2 ^ 20) width p.y));
      some = λ e. apart (e.0, turned (v.x -ℤ u.x) e.1);
    }
  where
    turned : (a : ℤ) → neg_ℤ a ≡ pos 0 → a ≡ pos 0
    turned a e = omega (arith, ints)

pub through_is : (t : Triangle) → IsNear t → AreAreas (turn t) → (turn t).z ≢ pos 0 → IsPlane (plane_through t)
through_is t near small steep = record {
  a = area_wide (unsigned_abs (turn t).x) small.x;
  b = area_wide (unsigned_abs (turn t).y) small.y;
  c = area_wide (unsigned_abs (turn t).z) small.z;
  d = dot_wide (unsigned_abs (dot (turn t) t.a)) (dot_small (turn t) t.a small near.a);
  some = λ e. steep e.2;
}
  where
    dot_small : (n p : Vector) → AreAreas n → AreSteps p → unsigned_abs (dot n p) ≤ 2 ^ 63 + 2 ^ 63 + 2 ^ 63
    dot_small n p h k =
        size_add (n.x *ℤ p.x +ℤ n.y *ℤ p.y) (n.z *ℤ p.z) (2 ^ 63 + 2 ^ 63) (2 ^ 63)
        (size_add (n.x *ℤ p.x) (n.y *ℤ p.y) (2 ^ 63) (2 ^ 63) (size_mul n.x p.x (2 ^ 43) (2 ^ 20) h.x k.x) (size_mul n.y p.y (2 ^ 43) (2 ^ 20) h.y k.y))
        (size_mul n.z p.z (2 ^ 43) (2 ^ 20) h.z k.z)

-- ---- the edges of a triangle that is not upright
no_way : (x y u v : ℤ) → x ≡ pos 0 → y ≡ pos 0 → x *ℤ v -ℤ y *ℤ u ≡ pos 0
no_way x y u v e f = (λ i. e i *ℤ v -ℤ f i *ℤ u) ∙ ring (u ∷ (v ∷ [])) (con (pos 0) ⊗ var 1 ⊖ con (pos 0) ⊗ var 0) (con (pos 0)) refl

second_edge : (ax ay bx by cx cy : ℤ) → (bx -ℤ ax) *ℤ (cy -ℤ ay) -ℤ (by -ℤ ay) *ℤ (cx -ℤ ax) ≡ (cx -ℤ bx) *ℤ (ay -ℤ by) -ℤ (cy -ℤ by) *ℤ (ax -ℤ bx)
second_edge ax ay bx by cx cy = ring (ax ∷ (ay ∷ (bx ∷ (by ∷ (cx ∷ (cy ∷ []))))))
    ((var 2 ⊖ var 0) ⊗ (var 5 ⊖ var 1) ⊖ (var 3 ⊖ var 1) ⊗ (var 4 ⊖ var 0)) ((var 4 ⊖ var 2) ⊗ (var 1 ⊖ var 3) ⊖ (var 5 ⊖ var 3) ⊗ (var 0 ⊖ var 2)) refl

third_edge : (ax ay bx by cx cy : ℤ) → (bx -ℤ ax) *ℤ (cy -ℤ ay) -ℤ (by -ℤ ay) *ℤ (cx -ℤ ax) ≡ (ax -ℤ cx) *ℤ (by -ℤ cy) -ℤ (ay -ℤ cy) *ℤ (bx -ℤ cx)
third_edge ax ay bx by cx cy = ring (ax ∷ (ay ∷ (bx ∷ (by ∷ (cx ∷ (cy ∷ []))))))
    ((var 2 ⊖ var 0) ⊗ (var 5 ⊖ var 1) ⊖ (var 3 ⊖ var 1) ⊗ (var 4 ⊖ var 0)) ((var 0 ⊖ var 4) ⊗ (var 3 ⊖ var 5) ⊖ (var 1 ⊖ var 5) ⊗ (var 2 ⊖ var 4)) refl

module _ (t : Triangle) (steep : (turn t).z ≢ pos 0) where
  pub ab_apart : (t.b.y -ℤ t.a.y ≡ pos 0) × (t.b.x -ℤ t.a.x ≡ pos 0) → ⊥
  ab_apart e = steep (no_way (t.b.x -ℤ t.a.x) (t.b.y -ℤ t.a.y) (t.c.x -ℤ t.a.x) (t.c.y -ℤ t.a.y) e.1 e.0)

  pub bc_apart : (t.c.y -ℤ t.b.y ≡ pos 0) × (t.c.x -ℤ t.b.x ≡ pos 0) → ⊥
  bc_apart e = steep (second_edge t.a.x t.a.y t.b.x t.b.y t.c.x t.c.y ∙ no_way (t.c.x -ℤ t.b.x) (t.c.y -ℤ t.b.y) (t.a.x -ℤ t.b.x) (t.a.y -ℤ t.b.y) e.1 e.0)

  pub ca_apart : (t.a.y -ℤ t.c.y ≡ pos 0) × (t.a.x -ℤ t.c.x ≡ pos 0) → ⊥
  ca_apart e = steep (third_edge t.a.x t.a.y t.b.x t.b.y t.c.x t.c.y ∙ no_way (t.a.x -ℤ t.c.x) (t.a.y -ℤ t.c.y) (t.b.x -ℤ t.c.x) (t.b.y -ℤ t.c.y) e.1 e.0)
