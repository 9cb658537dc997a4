-- The image of a corner in the world: by whole grid steps and a rest, and how far it is from the frame's offset.
use Rattle.std.proofs.Common.{◌≡◌, ℕ, ◌+◌, ◌*◌, ◌≤◌, ◌^◌, ℤ, pos, negsuc, ◌+ℤ◌, ◌-ℤ◌, ◌*ℤ◌, ◌<ℤ◌, ◌≤ℤ◌, unsigned_abs, [], ◌∷◌, refl, sym, ap, ap₂, ◌∙◌, arith}
use Rattle.std.proofs.lemmas.Int.{ints}
use Rattle.std.specs.Int.{int_div_euclid}
use Rattle.integer_laws.proofs.Ring.{var, con, ◌⊕◌, ◌⊗◌, ◌⊖◌, ring}
use Rattle.integer_laws.proofs.Signs.{unscaled_lt}
use Rattle.integer_laws.proofs.Sizes.{size_add, size_mul}
use Rattle.ix_num.proofs.Division.{floor_low, floor_high}
use Rattle.spec_num.specs.Rounding.{round_of}
use Rattle.world_print.proofs.Floors.{floor_by_parts}

-- ---- rounding by parts
-- what is computed of a whole part and a rest
pub rounded_by_parts : (whole rest w : ℤ) → pos 0 <ℤ w
    → int_div_euclid (pos 2 *ℤ whole +ℤ pos 1000000000 +ℤ int_div_euclid (pos 2 *ℤ rest) w) (pos 2000000000) ≡ round_of (whole *ℤ w +ℤ rest) (pos 1000000000 *ℤ w)
rounded_by_parts whole rest w positive =
    floor_by_parts (pos 2 *ℤ whole +ℤ pos 1000000000) (pos 2 *ℤ rest) w (pos 2000000000) positive ahead
    ∙ ap₂ int_div_euclid
    (ring (whole ∷ (rest ∷ (w ∷ []))) ((con (pos 2) ⊗ var 0 ⊕ con (pos 1000000000)) ⊗ var 2 ⊕ con (pos 2) ⊗ var 1) (con (pos 2) ⊗ (var 0 ⊗ var 2 ⊕ var 1) ⊕ con (pos 1000000000) ⊗ var 2) refl)
    (ring (w ∷ []) (con (pos 2000000000) ⊗ var 0) (con (pos 2) ⊗ (con (pos 1000000000) ⊗ var 0)) refl)
  where
    ahead : pos 0 <ℤ pos 2000000000
    ahead = omega (arith, ints)

-- ---- the image by whole steps and a rest
-- a row (a, b, c) and an offset, on a grid of so many micrometres, at the coordinates x, y, z with the weight w
pub image_by_parts : (a b c off g w u v t r s q x y z : ℤ) → x ≡ u *ℤ w +ℤ r → y ≡ v *ℤ w +ℤ s → z ≡ t *ℤ w +ℤ q
    → ((a *ℤ u +ℤ b *ℤ v +ℤ c *ℤ t) *ℤ g +ℤ off *ℤ pos 1000000) *ℤ w +ℤ (a *ℤ r +ℤ b *ℤ s +ℤ c *ℤ q) *ℤ g ≡ (a *ℤ x +ℤ b *ℤ y +ℤ c *ℤ z) *ℤ g +ℤ off *ℤ pos 1000000 *ℤ w
image_by_parts a b c off g w u v t r s q x y z ex ey ez =
    parts
    ∙ ap (λ n. (a *ℤ n +ℤ b *ℤ (v *ℤ w +ℤ s) +ℤ c *ℤ (t *ℤ w +ℤ q)) *ℤ g +ℤ off *ℤ pos 1000000 *ℤ w) (sym ex)
    ∙ ap (λ n. (a *ℤ x +ℤ b *ℤ n +ℤ c *ℤ (t *ℤ w +ℤ q)) *ℤ g +ℤ off *ℤ pos 1000000 *ℤ w) (sym ey)
    ∙ ap (λ n. (a *ℤ x +ℤ b *ℤ y +ℤ c *ℤ n) *ℤ g +ℤ off *ℤ pos 1000000 *ℤ w) (sym ez)
  where
    parts : ((a *ℤ u +ℤ b *ℤ v +ℤ c *ℤ t) *ℤ g +ℤ off *ℤ pos 1000000) *ℤ w +ℤ (a *ℤ r +ℤ b *ℤ s +ℤ c *ℤ q) *ℤ g
        ≡ (a *ℤ (u *ℤ w +ℤ r) +ℤ b *ℤ (v *ℤ w +ℤ s) +ℤ c *ℤ (t *ℤ w +ℤ q)) *ℤ g +ℤ off *ℤ pos 1000000 *ℤ w
    parts = ring (a ∷ (b ∷ (c ∷ (off ∷ (g ∷ (w ∷ (u ∷ (v ∷ (t ∷ (r ∷ (s ∷ (q ∷ []))))))))))))
        (((var 0 ⊗ var 6 ⊕ var 1 ⊗ var 7 ⊕ var 2 ⊗ var 8) ⊗ var 4 ⊕ var 3 ⊗ con (pos 1000000)) ⊗ var 5 ⊕ (var 0 ⊗ var 9 ⊕ var 1 ⊗ var 10 ⊕ var 2 ⊗ var 11) ⊗ var 4)
        ((var 0 ⊗ (var 6 ⊗ var 5 ⊕ var 9) ⊕ var 1 ⊗ (var 7 ⊗ var 5 ⊕ var 10) ⊕ var 2 ⊗ (var 8 ⊗ var 5 ⊕ var 11)) ⊗ var 4 ⊕ var 3 ⊗ con (pos 1000000) ⊗ var 5)
        refl

-- ---- how far a rounded image is from the offset
-- a row of a frame's matrix times a corner, on a grid of so many micrometres
row_size : (a b c x y z w : ℤ) (g : ℕ) → unsigned_abs a ≤ 10 ^ 9 → unsigned_abs b ≤ 10 ^ 9 → unsigned_abs c ≤ 10 ^ 9 → g ≤ 10 ^ 4
    → unsigned_abs x ≤ 2 ^ 20 * unsigned_abs w → unsigned_abs y ≤ 2 ^ 20 * unsigned_abs w → unsigned_abs z ≤ 2 ^ 20 * unsigned_abs w
    → unsigned_abs ((a *ℤ x +ℤ b *ℤ y +ℤ c *ℤ z) *ℤ pos g) ≤ 31457280000000000000 * unsigned_abs w
row_size a b c x y z w g ha hb hc hg hx hy hz =
    let n = 2 ^ 20 * unsigned_abs w in
    joined (unsigned_abs ((a *ℤ x +ℤ b *ℤ y +ℤ c *ℤ z) *ℤ pos g)) (unsigned_abs w)
    (size_mul (a *ℤ x +ℤ b *ℤ y +ℤ c *ℤ z) (pos g) (10 ^ 9 * n + 10 ^ 9 * n + 10 ^ 9 * n) (10 ^ 4)
    (size_add (a *ℤ x +ℤ b *ℤ y) (c *ℤ z) (10 ^ 9 * n + 10 ^ 9 * n) (10 ^ 9 * n)
    (size_add (a *ℤ x) (b *ℤ y) (10 ^ 9 * n) (10 ^ 9 * n) (size_mul a x (10 ^ 9) n ha hx) (size_mul b y (10 ^ 9) n hb hy))
    (size_mul c z (10 ^ 9) n hc hz))
    hg)
  where
    joined : (m w : ℕ) → m ≤ (10 ^ 9 * (2 ^ 20 * w) + 10 ^ 9 * (2 ^ 20 * w) + 10 ^ 9 * (2 ^ 20 * w)) * 10 ^ 4 → m ≤ 31457280000000000000 * w
    joined m w h = omega arith

-- 1000 times the rounded image r, less the offset, by its bounds times the weight
not_far_above : (product n A B M w t : ℤ) → product ≡ pos 2000000000 *ℤ A → n ≡ pos 2 *ℤ (M +ℤ pos 1000000 *ℤ B) +ℤ pos 1000000000 *ℤ w → t ≡ pos 1000 *ℤ A -ℤ B
    → pos 0 <ℤ w → product ≤ℤ n → unsigned_abs M ≤ 31457280000000000000 * unsigned_abs w → t <ℤ (pos 31457280000501 *ℤ w)
not_far_above product n A B M w t ep en et positive low size = omega (arith, ints)

not_far_below : (product n d A B M w t : ℤ) → product ≡ pos 2000000000 *ℤ A → n ≡ pos 2 *ℤ (M +ℤ pos 1000000 *ℤ B) +ℤ pos 1000000000 *ℤ w → d ≡ pos 2000000000 *ℤ w → t ≡ pos 1000 *ℤ A -ℤ B
    → pos 0 <ℤ w → n <ℤ (product +ℤ d) → unsigned_abs M ≤ 31457280000000000000 * unsigned_abs w → (negsuc 31457280000500 *ℤ w) <ℤ t
not_far_below product n d A B M w t ep en ed et positive high size = omega (arith, ints)

pub near_offset : (a b c off x y z w : ℤ) (g : ℕ) → unsigned_abs a ≤ 10 ^ 9 → unsigned_abs b ≤ 10 ^ 9 → unsigned_abs c ≤ 10 ^ 9 → g ≤ 10 ^ 4 → pos 0 <ℤ w
    → unsigned_abs x ≤ 2 ^ 20 * unsigned_abs w → unsigned_abs y ≤ 2 ^ 20 * unsigned_abs w → unsigned_abs z ≤ 2 ^ 20 * unsigned_abs w
    → unsigned_abs (pos 1000 *ℤ round_of ((a *ℤ x +ℤ b *ℤ y +ℤ c *ℤ z) *ℤ pos g +ℤ off *ℤ pos 1000000 *ℤ w) (pos 1000000000 *ℤ w) -ℤ off) ≤ 31457280000500
near_offset a b c off x y z w g ha hb hc hg positive hx hy hz =
    let M = (a *ℤ x +ℤ b *ℤ y +ℤ c *ℤ z) *ℤ pos g in
    let n = pos 2 *ℤ (M +ℤ off *ℤ pos 1000000 *ℤ w) +ℤ pos 1000000000 *ℤ w in
    let d = pos 2 *ℤ (pos 1000000000 *ℤ w) in
    let r = int_div_euclid n d in
    let size = row_size a b c x y z w g ha hb hc hg hx hy hz in
    let product_is = ring (w ∷ (r ∷ [])) (con (pos 2) ⊗ (con (pos 1000000000) ⊗ var 0) ⊗ var 1) (con (pos 2000000000) ⊗ (var 0 ⊗ var 1)) refl in
    let n_is = ring (M ∷ (off ∷ (w ∷ []))) (con (pos 2) ⊗ (var 0 ⊕ var 1 ⊗ con (pos 1000000) ⊗ var 2) ⊕ con (pos 1000000000) ⊗ var 2) (con (pos 2) ⊗ (var 0 ⊕ con (pos 1000000) ⊗ (var 2 ⊗ var 1)) ⊕ con (pos 1000000000) ⊗ var 2) refl in
    let d_is = ring (w ∷ []) (con (pos 2) ⊗ (con (pos 1000000000) ⊗ var 0)) (con (pos 2000000000) ⊗ var 0) refl in
    let t_is = ring (r ∷ (off ∷ (w ∷ []))) ((con (pos 1000) ⊗ var 0 ⊖ var 1) ⊗ var 2) (con (pos 1000) ⊗ (var 2 ⊗ var 0) ⊖ var 2 ⊗ var 1) refl in
    let ahead = twice_positive w positive in
    between (pos 1000 *ℤ r -ℤ off)
    (unscaled_lt (pos 1000 *ℤ r -ℤ off) (pos 31457280000501) w positive
    (not_far_above (d *ℤ r) n (w *ℤ r) (w *ℤ off) M w ((pos 1000 *ℤ r -ℤ off) *ℤ w) product_is n_is t_is positive (floor_low n d ahead) size))
    (unscaled_lt (negsuc 31457280000500) (pos 1000 *ℤ r -ℤ off) w positive
    (not_far_below (d *ℤ r) n d (w *ℤ r) (w *ℤ off) M w ((pos 1000 *ℤ r -ℤ off) *ℤ w) product_is n_is d_is t_is positive (floor_high n d ahead) size))
  where
    twice_positive : (w : ℤ) → pos 0 <ℤ w → pos 0 <ℤ (pos 2 *ℤ (pos 1000000000 *ℤ w))
    twice_positive w h = omega (arith, ints)

    between : (t : ℤ) → t <ℤ pos 31457280000501 → negsuc 31457280000500 <ℤ t → unsigned_abs t ≤ 31457280000500
    between t h k = omega (arith, ints)
