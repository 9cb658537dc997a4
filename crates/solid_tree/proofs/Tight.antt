-- The tree of an element is tight: where a coordinate has a size above 2^20 it is false, also on planes of the element that
-- it does not have.
use Rattle.std.proofs.Common.{◌≡◌, ◌≢◌, ℕ, zero, suc, ℤ, pos, negsuc, ◌+ℤ◌, ◌-ℤ◌, ◌*ℤ◌, ◌<ℤ◌, ◌≤ℤ◌, int_lt, Bool, true, false, not, ◌&&◌, List, [], ◌∷◌, ◌++◌, map, slice_get, Option, Some, refl, sym, ap, subst, ◌∙◌, inl, inr, arith, true≢false}
use Rattle.std.specs.List.{Contains, flat_map}
use Rattle.std.proofs.lemmas.Int.{ints}
use Rattle.std.proofs.lemmas.List.Elements.{Contains-append_left, Contains-append_right, Contains-append_cases}
use Rattle.std.proofs.Math.Logic.{∥∥₁_elim}
use Rattle.spec_space.specs.declared.Point.{Point}
use Rattle.spec_space.specs.declared.Plane.{Plane}
use Rattle.spec_space.specs.Points.{value}
use Rattle.spec_space.specs.Reduced.{LeadsPositive}
use Rattle.spec_solid.specs.Solids.{is_inside_some, is_meant}
use Rattle.spec_solid.specs.Planes.{solid_planes, body_planes}
use Rattle.integer_laws.proofs.Ring.{var, ◌⊕◌, ◌⊗◌, ring}
use Rattle.integer_laws.proofs.Signs.{mul_positive, mul_nonneg, square_positive}
use Rattle.integer_laws.proofs.Cancel.{sign_cases}
use Rattle.plane_core.specs.declared.numbers.Plane.{Plane as BookPlane}
use Rattle.plane_core.specs.Books.{x_plane, y_plane, z_plane}
use Rattle.plane_core.specs.Planes.{IsReductionOf}
use Rattle.plane_core.specs.Views.{plane_of}
use Rattle.plane_core.proofs.Laws.{reduced_is_reduced}
use Rattle.poly_frag.specs.Cubes.{IsInsideCube}
use Rattle.poly_frag.specs.Frags.{numbered}
use Rattle.tree_pool.specs.Trees.{Tree, leaf, node, level_by, choose, value_of, IsOff}
use Rattle.parity_trees.proofs.Cells.{level_is}
use Rattle.grid_solid.specs.Triangles.{HasForm}
use Rattle.grid_solid.specs.Bodies.{body_of}
use Rattle.grid_solid.specs.Views.{solid_of}
use Rattle.grid_solid.specs.declared.solids.GridSolid.{GridSolid}
use Rattle.grid_solid.proofs.Laws.{body_formed}
use Rattle.triangle_trees.specs.Forms.{IsTreeOf}
use Rattle.solid_tree.specs.Elements.{IsOut, out_left, out_right, out_front, out_back, out_down, out_up, IsTight}
use Rattle.solid_tree.proofs.Far.{far_items}
use Rattle.solid_tree.proofs.Nudges.{dot, HasNormal, IsBeside, avoids}

-- ---- planes with a form have a normal
square_weak : (a : ℤ) → pos 0 ≤ℤ (a *ℤ a)
square_weak (pos n) = mul_nonneg (pos n) (pos n) (weak n) (weak n)
  where
    weak : (n : ℕ) → pos 0 ≤ℤ pos n
    weak n = omega (arith, ints)
square_weak (negsuc n) = omega (arith, ints)

sum_first : (x y z : ℤ) → pos 0 <ℤ x → pos 0 ≤ℤ y → pos 0 ≤ℤ z → pos 0 <ℤ (x +ℤ y +ℤ z)
sum_first x y z p q r = omega (arith, ints)

sum_second : (x y z : ℤ) → pos 0 ≤ℤ x → pos 0 <ℤ y → pos 0 ≤ℤ z → pos 0 <ℤ (x +ℤ y +ℤ z)
sum_second x y z p q r = omega (arith, ints)

sum_third : (x y z : ℤ) → pos 0 ≤ℤ x → pos 0 ≤ℤ y → pos 0 <ℤ z → pos 0 <ℤ (x +ℤ y +ℤ z)
sum_third x y z p q r = omega (arith, ints)

lead_normal : (h : Plane) → LeadsPositive h → HasNormal h
lead_normal h (inl p) = sum_first (h.a *ℤ h.a) (h.b *ℤ h.b) (h.c *ℤ h.c) (mul_positive h.a h.a p p) (square_weak h.b) (square_weak h.c)
lead_normal h (inr (e, inl p)) = sum_second (h.a *ℤ h.a) (h.b *ℤ h.b) (h.c *ℤ h.c) (square_weak h.a) (mul_positive h.b h.b p p) (square_weak h.c)
lead_normal h (inr (e, inr (f, p))) = sum_third (h.a *ℤ h.a) (h.b *ℤ h.b) (h.c *ℤ h.c) (square_weak h.a) (square_weak h.b) (mul_positive h.c h.c p p)

form_normal : (k : Plane) (p : BookPlane) → IsReductionOf p k.a k.b k.c k.d → HasNormal k
form_normal k p r =
    let m = r.factor in
    let t = r.times in
    let same : dot k k ≡ (m *ℤ m) *ℤ dot (plane_of p) (plane_of p) =
    (λ i. t.0 i *ℤ t.0 i +ℤ t.1 i *ℤ t.1 i +ℤ t.2 i *ℤ t.2 i)
    ∙ ring (m ∷ (p.a ∷ (p.b ∷ (p.c ∷ []))))
    ((var 0 ⊗ var 1) ⊗ (var 0 ⊗ var 1) ⊕ (var 0 ⊗ var 2) ⊗ (var 0 ⊗ var 2) ⊕ (var 0 ⊗ var 3) ⊗ (var 0 ⊗ var 3))
    ((var 0 ⊗ var 0) ⊗ (var 1 ⊗ var 1 ⊕ var 2 ⊗ var 2 ⊕ var 3 ⊗ var 3)) refl in
    subst (λ v. pos 0 <ℤ v) (sym same) (mul_positive (m *ℤ m) (dot (plane_of p) (plane_of p)) (square_positive m r.some) (lead_normal (plane_of p) (reduced_is_reduced p).lead))

has_normal : (k : Plane) → HasForm k → HasNormal k
has_normal k form = elim (sign_cases (dot k k)) [
  | inl low ↦ absurd (∥∥₁_elim form (λ a b. absurd a) (λ f. apart (dot k k) low (form_normal k f.0 f.1)))
  | inr (inl on) ↦ absurd (∥∥₁_elim form (λ a b. absurd a) (λ f. zero_apart (dot k k) on (form_normal k f.0 f.1)))
  | inr (inr high) ↦ high
]
  where
    apart : (v : ℤ) → v <ℤ pos 0 → pos 0 <ℤ v → ⊥
    apart v h k = omega (arith, ints)

    zero_apart : (v : ℤ) → v ≡ pos 0 → pos 0 <ℤ v → ⊥
    zero_apart v h k = omega (arith, ints)

-- ---- the planes of a tree
tree_planes : List BookPlane → Tree → List Plane
tree_planes planes (leaf b) = []
tree_planes planes (node k f g) = numbered (slice_get planes k) ∷ (tree_planes planes f ++ tree_planes planes g)

off_planes : (planes : List BookPlane) (t : Tree) (q : Point) → IsOff planes t q → (l : Plane) → Contains (tree_planes planes t) l → value l q ≢ pos 0
unfolding tree_planes
off_planes planes (leaf b) q off l (i, h, e) = absurd (omega arith)
off_planes planes (node k f g) q off l (zero, h, e) = subst (λ m. value m q ≢ pos 0) e (λ z. off k (inl refl) (level_is (slice_get planes k) q ∙ z))
off_planes planes (node k f g) q off l (suc i, h, e) = elim (Contains-append_cases (tree_planes planes f) (tree_planes planes g) l (i, omega arith, e)) [
  | inl c ↦ off_planes planes f q (λ m is. off m (inr (inl is))) l c
  | inr c ↦ off_planes planes g q (λ m is. off m (inr (inr is))) l c
]

choose_same : (v u : ℤ) (a b c d : Option Bool) → v ≢ pos 0 → u ≢ pos 0 → int_lt (pos 0) v ≡ int_lt (pos 0) u → a ≡ c → b ≡ d → choose v a b ≡ choose u c d
choose_same (pos zero) u a b c d off on e f g = absurd (off refl)
choose_same (pos (suc n)) (pos zero) a b c d off on e f g = absurd (on refl)
choose_same (pos (suc n)) (pos (suc m)) a b c d off on e f g = f
choose_same (pos (suc n)) (negsuc m) a b c d off on e f g = absurd (apart n m e)
  where
    apart : (n m : ℕ) → int_lt (pos 0) (pos (suc n)) ≡ int_lt (pos 0) (negsuc m) → ⊥
    apart n m e = omega (arith, ints)
choose_same (negsuc n) (pos zero) a b c d off on e f g = absurd (on refl)
choose_same (negsuc n) (pos (suc m)) a b c d off on e f g = absurd (apart n m e)
  where
    apart : (n m : ℕ) → int_lt (pos 0) (negsuc n) ≡ int_lt (pos 0) (pos (suc m)) → ⊥
    apart n m e = omega (arith, ints)
choose_same (negsuc n) (negsuc m) a b c d off on e f g = g

-- a tree has the same value at points on the same sides of its planes
same_value : (planes : List BookPlane) (t : Tree) (q p : Point) → ((l : Plane) → Contains (tree_planes planes t) l → (int_lt (pos 0) (value l p) ≡ int_lt (pos 0) (value l q)) × (value l p ≢ pos 0) × (value l q ≢ pos 0)) → value_of planes t p ≡ value_of planes t q
unfolding tree_planes
same_value planes (leaf b) q p same = refl
same_value planes (node k f g) q p same =
    let h = same (numbered (slice_get planes k)) (0, omega arith, refl) in
    let level = λ (x : Point). level_is (slice_get planes k) x in
    choose_same (level_by (slice_get planes k) p) (level_by (slice_get planes k) q) (value_of planes f p) (value_of planes g p) (value_of planes f q) (value_of planes g q)
    (λ z. h.1 (sym (level p) ∙ z)) (λ z. h.2 (sym (level q) ∙ z))
    (ap (int_lt (pos 0)) (level p) ∙ h.0 ∙ ap (int_lt (pos 0)) (sym (level q)))
    (same_value planes f q p (λ l c. same l (deeper (numbered (slice_get planes k)) (tree_planes planes f ++ tree_planes planes g) l (Contains-append_left (tree_planes planes f) (tree_planes planes g) l c))))
    (same_value planes g q p (λ l c. same l (deeper (numbered (slice_get planes k)) (tree_planes planes f ++ tree_planes planes g) l (Contains-append_right (tree_planes planes f) (tree_planes planes g) l c))))
  where
    deeper : (x : Plane) (xs : List Plane) (l : Plane) → Contains xs l → Contains (x ∷ xs) l
    deeper x xs l (i, h, e) = (suc i, omega arith, e)

-- ---- bounds of coordinates as sides of planes
at_x : (d : ℤ) (q : Point) → value (x_plane d) q ≡ q.x -ℤ d *ℤ q.w
at_x d q = plain d q.x q.y q.z q.w
  where
    plain : (d x y z w : ℤ) → pos 1 *ℤ x +ℤ pos 0 *ℤ y +ℤ pos 0 *ℤ z -ℤ d *ℤ w ≡ x -ℤ d *ℤ w
    plain d x y z w = omega (arith, ints)

at_y : (d : ℤ) (q : Point) → value (y_plane d) q ≡ q.y -ℤ d *ℤ q.w
at_y d q = plain d q.x q.y q.z q.w
  where
    plain : (d x y z w : ℤ) → pos 0 *ℤ x +ℤ pos 1 *ℤ y +ℤ pos 0 *ℤ z -ℤ d *ℤ w ≡ y -ℤ d *ℤ w
    plain d x y z w = omega (arith, ints)

at_z : (d : ℤ) (q : Point) → value (z_plane d) q ≡ q.z -ℤ d *ℤ q.w
at_z d q = plain d q.x q.y q.z q.w
  where
    plain : (d x y z w : ℤ) → pos 0 *ℤ x +ℤ pos 0 *ℤ y +ℤ pos 1 *ℤ z -ℤ d *ℤ w ≡ z -ℤ d *ℤ w
    plain d x y z w = omega (arith, ints)

-- the sign of v at one point, from that at another
up_kept : (v u c d e f : ℤ) → v ≡ c -ℤ d → u ≡ e -ℤ f → int_lt (pos 0) u ≡ int_lt (pos 0) v → d <ℤ c → f <ℤ e
up_kept v u c d e f a b same h = by (int_lt (pos 0) v) (int_lt (pos 0) u) refl refl
  where
    by : (s r : Bool) → int_lt (pos 0) v ≡ s → int_lt (pos 0) u ≡ r → f <ℤ e
    by true true p q = omega (arith, ints)
    by true false p q = absurd (true≢false (sym p ∙ sym same ∙ q))
    by false r p q = absurd (omega (arith, ints))

down_kept : (v u c d e f : ℤ) → v ≡ c -ℤ d → u ≡ e -ℤ f → u ≢ pos 0 → int_lt (pos 0) u ≡ int_lt (pos 0) v → c <ℤ d → e <ℤ f
down_kept v u c d e f a b off same h = elim (sign_cases u) [
  | inl low ↦ omega (arith, ints)
  | inr (inl on) ↦ absurd (off on)
  | inr (inr high) ↦ by (int_lt (pos 0) v) (int_lt (pos 0) u) refl refl high
]
  where
    by : (s r : Bool) → int_lt (pos 0) v ≡ s → int_lt (pos 0) u ≡ r → pos 0 <ℤ u → e <ℤ f
    by true r p q high = absurd (omega (arith, ints))
    by false true p q high = absurd (true≢false (sym q ∙ same ∙ p))
    by false false p q high = absurd (omega (arith, ints))

above_off : (v c d : ℤ) → v ≡ c -ℤ d → d <ℤ c → v ≢ pos 0
above_off v c d e h z = omega (arith, ints)

under_off : (v c d : ℤ) → v ≡ c -ℤ d → c <ℤ d → v ≢ pos 0
under_off v c d e h z = omega (arith, ints)

abbrev wall_list : List Plane
wall_list = x_plane (negsuc 1048576) ∷ x_plane (pos 1048577) ∷ y_plane (negsuc 1048576) ∷ y_plane (pos 1048577) ∷ z_plane (negsuc 1048576) ∷ z_plane (pos 1048577) ∷ []

walls_off : (q : Point) → IsInsideCube q → (l : Plane) → Contains wall_list l → value l q ≢ pos 0
walls_off q cube l (zero, h, e) = subst (λ m. value m q ≢ pos 0) e (above_off (value (x_plane (negsuc 1048576)) q) q.x (negsuc 1048576 *ℤ q.w) (at_x (negsuc 1048576) q) cube.x_low)
walls_off q cube l (suc zero, h, e) = subst (λ m. value m q ≢ pos 0) e (under_off (value (x_plane (pos 1048577)) q) q.x (pos 1048577 *ℤ q.w) (at_x (pos 1048577) q) cube.x_high)
walls_off q cube l (suc (suc zero), h, e) = subst (λ m. value m q ≢ pos 0) e (above_off (value (y_plane (negsuc 1048576)) q) q.y (negsuc 1048576 *ℤ q.w) (at_y (negsuc 1048576) q) cube.y_low)
walls_off q cube l (suc (suc (suc zero)), h, e) = subst (λ m. value m q ≢ pos 0) e (under_off (value (y_plane (pos 1048577)) q) q.y (pos 1048577 *ℤ q.w) (at_y (pos 1048577) q) cube.y_high)
walls_off q cube l (suc (suc (suc (suc zero))), h, e) = subst (λ m. value m q ≢ pos 0) e (above_off (value (z_plane (negsuc 1048576)) q) q.z (negsuc 1048576 *ℤ q.w) (at_z (negsuc 1048576) q) cube.z_low)
walls_off q cube l (suc (suc (suc (suc (suc zero)))), h, e) = subst (λ m. value m q ≢ pos 0) e (under_off (value (z_plane (pos 1048577)) q) q.z (pos 1048577 *ℤ q.w) (at_z (pos 1048577) q) cube.z_high)
walls_off q cube l (suc (suc (suc (suc (suc (suc n))))), h, e) = absurd (omega arith)

-- a point on the same sides of the walls is inside the cube too
inside_kept : (q p : Point) → IsInsideCube q → IsBeside wall_list q p → IsInsideCube p
inside_kept q p cube b =
    let flag = λ (l : Plane) (c : Contains wall_list l). b.flag l c in
    let off = λ (l : Plane) (c : Contains wall_list l). b.off l c in
    record {
      x_low = up_kept (value (x_plane (negsuc 1048576)) q) (value (x_plane (negsuc 1048576)) p) q.x (negsuc 1048576 *ℤ q.w) p.x (negsuc 1048576 *ℤ p.w) (at_x (negsuc 1048576) q) (at_x (negsuc 1048576) p) (flag (x_plane (negsuc 1048576)) (0, omega arith, refl)) cube.x_low;
      x_high = down_kept (value (x_plane (pos 1048577)) q) (value (x_plane (pos 1048577)) p) q.x (pos 1048577 *ℤ q.w) p.x (pos 1048577 *ℤ p.w) (at_x (pos 1048577) q) (at_x (pos 1048577) p) (off (x_plane (pos 1048577)) (1, omega arith, refl)) (flag (x_plane (pos 1048577)) (1, omega arith, refl)) cube.x_high;
      y_low = up_kept (value (y_plane (negsuc 1048576)) q) (value (y_plane (negsuc 1048576)) p) q.y (negsuc 1048576 *ℤ q.w) p.y (negsuc 1048576 *ℤ p.w) (at_y (negsuc 1048576) q) (at_y (negsuc 1048576) p) (flag (y_plane (negsuc 1048576)) (2, omega arith, refl)) cube.y_low;
      y_high = down_kept (value (y_plane (pos 1048577)) q) (value (y_plane (pos 1048577)) p) q.y (pos 1048577 *ℤ q.w) p.y (pos 1048577 *ℤ p.w) (at_y (pos 1048577) q) (at_y (pos 1048577) p) (off (y_plane (pos 1048577)) (3, omega arith, refl)) (flag (y_plane (pos 1048577)) (3, omega arith, refl)) cube.y_high;
      z_low = up_kept (value (z_plane (negsuc 1048576)) q) (value (z_plane (negsuc 1048576)) p) q.z (negsuc 1048576 *ℤ q.w) p.z (negsuc 1048576 *ℤ p.w) (at_z (negsuc 1048576) q) (at_z (negsuc 1048576) p) (flag (z_plane (negsuc 1048576)) (4, omega arith, refl)) cube.z_low;
      z_high = down_kept (value (z_plane (pos 1048577)) q) (value (z_plane (pos 1048577)) p) q.z (pos 1048577 *ℤ q.w) p.z (pos 1048577 *ℤ p.w) (at_z (pos 1048577) q) (at_z (pos 1048577) p) (off (z_plane (pos 1048577)) (5, omega arith, refl)) (flag (z_plane (pos 1048577)) (5, omega arith, refl)) cube.z_high;
    }

-- the plane beyond which a coordinate is out
record IsBeyond (q : Point) : Type 0 where
  plane : Plane
  off : value plane q ≢ pos 0
  out : (p : Point) → value plane p ≢ pos 0 → int_lt (pos 0) (value plane p) ≡ int_lt (pos 0) (value plane q) → IsOut p

beyond : (q : Point) → IsOut q → IsBeyond q
beyond q (out_left h) = record {
  plane = x_plane (negsuc 1048575);
  off = under_off (value (x_plane (negsuc 1048575)) q) q.x (negsuc 1048575 *ℤ q.w) (at_x (negsuc 1048575) q) h;
  out = λ p off same. out_left (down_kept (value (x_plane (negsuc 1048575)) q) (value (x_plane (negsuc 1048575)) p) q.x (negsuc 1048575 *ℤ q.w) p.x (negsuc 1048575 *ℤ p.w) (at_x (negsuc 1048575) q) (at_x (negsuc 1048575) p) off same h);
}
beyond q (out_right h) = record {
  plane = x_plane (pos 1048576);
  off = above_off (value (x_plane (pos 1048576)) q) q.x (pos 1048576 *ℤ q.w) (at_x (pos 1048576) q) h;
  out = λ p off same. out_right (up_kept (value (x_plane (pos 1048576)) q) (value (x_plane (pos 1048576)) p) q.x (pos 1048576 *ℤ q.w) p.x (pos 1048576 *ℤ p.w) (at_x (pos 1048576) q) (at_x (pos 1048576) p) same h);
}
beyond q (out_front h) = record {
  plane = y_plane (negsuc 1048575);
  off = under_off (value (y_plane (negsuc 1048575)) q) q.y (negsuc 1048575 *ℤ q.w) (at_y (negsuc 1048575) q) h;
  out = λ p off same. out_front (down_kept (value (y_plane (negsuc 1048575)) q) (value (y_plane (negsuc 1048575)) p) q.y (negsuc 1048575 *ℤ q.w) p.y (negsuc 1048575 *ℤ p.w) (at_y (negsuc 1048575) q) (at_y (negsuc 1048575) p) off same h);
}
beyond q (out_back h) = record {
  plane = y_plane (pos 1048576);
  off = above_off (value (y_plane (pos 1048576)) q) q.y (pos 1048576 *ℤ q.w) (at_y (pos 1048576) q) h;
  out = λ p off same. out_back (up_kept (value (y_plane (pos 1048576)) q) (value (y_plane (pos 1048576)) p) q.y (pos 1048576 *ℤ q.w) p.y (pos 1048576 *ℤ p.w) (at_y (pos 1048576) q) (at_y (pos 1048576) p) same h);
}
beyond q (out_down h) = record {
  plane = z_plane (negsuc 1048575);
  off = under_off (value (z_plane (negsuc 1048575)) q) q.z (negsuc 1048575 *ℤ q.w) (at_z (negsuc 1048575) q) h;
  out = λ p off same. out_down (down_kept (value (z_plane (negsuc 1048575)) q) (value (z_plane (negsuc 1048575)) p) q.z (negsuc 1048575 *ℤ q.w) p.z (negsuc 1048575 *ℤ p.w) (at_z (negsuc 1048575) q) (at_z (negsuc 1048575) p) off same h);
}
beyond q (out_up h) = record {
  plane = z_plane (pos 1048576);
  off = above_off (value (z_plane (pos 1048576)) q) q.z (pos 1048576 *ℤ q.w) (at_z (pos 1048576) q) h;
  out = λ p off same. out_up (up_kept (value (z_plane (pos 1048576)) q) (value (z_plane (pos 1048576)) p) q.z (pos 1048576 *ℤ q.w) p.z (pos 1048576 *ℤ p.w) (at_z (pos 1048576) q) (at_z (pos 1048576) p) same h);
}

-- ---- the element
in_first : (xs ys : List Plane) (q p : Point) → IsBeside (xs ++ ys) q p → IsBeside xs q p
in_first xs ys q p b = record {
  is_point = b.is_point;
  flag = λ l c. b.flag l (Contains-append_left xs ys l c);
  off = λ l c. b.off l (Contains-append_left xs ys l c);
}

off_three : (q : Point) (xs ys zs : List Plane) → ((l : Plane) → Contains xs l → value l q ≢ pos 0) → ((l : Plane) → Contains ys l → value l q ≢ pos 0) → ((l : Plane) → Contains zs l → value l q ≢ pos 0) → (l : Plane) → Contains (xs ++ (ys ++ zs)) l → value l q ≢ pos 0
off_three q xs ys zs f g h l c = elim (Contains-append_cases xs (ys ++ zs) l c) [
  | inl i ↦ f l i
  | inr i ↦ elim (Contains-append_cases ys zs l i) [ inl j ↦ g l j | inr j ↦ h l j ]
]

single_off : (q : Point) (k : Plane) → value k q ≢ pos 0 → (l : Plane) → Contains (k ∷ []) l → value l q ≢ pos 0
single_off q k off l (zero, h, e) = subst (λ m. value m q ≢ pos 0) e off
single_off q k off l (suc i, h, e) = absurd (omega arith)

-- the tree of an element is tight
pub element_tight : (planes : List BookPlane) (s : GridSolid) (t : Tree) → IsTreeOf planes (body_planes (body_of s)) (is_meant (body_of s)) t → IsTight planes t
element_tight planes s t is q point cube off out =
    let b = beyond q out in
    let tree = tree_planes planes t in
    let last = b.plane ∷ [] in
    let found = avoids (body_planes (body_of s)) (wall_list ++ (tree ++ last)) q (λ k c. has_normal k (body_formed s k c)) point
    (off_three q wall_list tree last (walls_off q cube) (off_planes planes t q off) (single_off q b.plane b.off)) in
    let p = found.point in
    let beside = found.beside in
    let at_last : Contains (wall_list ++ (tree ++ last)) b.plane = Contains-append_right wall_list (tree ++ last) b.plane (Contains-append_right tree last b.plane (0, omega arith, refl)) in
    let in_tree = λ (l : Plane) (c : Contains tree l). Contains-append_right wall_list (tree ++ last) l (Contains-append_left tree last l c) in
    let p_out = b.out p (beside.off b.plane at_last) (beside.flag b.plane at_last) in
    let p_cube = inside_kept q p cube (in_first wall_list (tree ++ last) q p beside) in
    let false_there = far_items s.items p beside.is_point p_out s.bounded (λ k c. found.clear k (Contains-append_left (flat_map solid_planes (map solid_of s.items)) (flat_map solid_planes (map solid_of s.openings)) k c)) in
    sym (same_value planes t q p (λ l c. (beside.flag l (in_tree l c), beside.off l (in_tree l c), off_planes planes t q off l c)))
    ∙ is.value p beside.is_point p_cube found.clear
    ∙ ap (λ x. Some (x && not (is_inside_some (map solid_of s.openings) p))) false_there
