-- A place has one reduced corner.
use Rattle.std.proofs.Common.{◌≡◌, ℕ, zero, suc, ◌<◌, ℤ, pos, negsuc, ◌*ℤ◌, ◌<ℤ◌, refl, sym, ap, ◌∙◌, arith}
use Rattle.std.proofs.lemmas.Int.{ints}
use Rattle.integer_laws.proofs.Ring.{*ℤ_comm}
use Rattle.spec_space.specs.Sums.{IsSamePoint}
use Rattle.plane_core.specs.Numbers.{AreCoprime}
use Rattle.plane_core.specs.declared.numbers.Corner.{Corner}
use Rattle.plane_core.specs.Views.{point_of}
use Rattle.plane_core.proofs.Laws.{divides_size}
use Rattle.plane_core.proofs.Multiples.{shares}
use Rattle.corner_book.proofs.Same.{same_corner}

coprime_factor : (k : ℕ) (a b c d u v w t : ℤ) → AreCoprime a b c d → a ≡ pos k *ℤ u → b ≡ pos k *ℤ v → c ≡ pos k *ℤ w → d ≡ pos k *ℤ t → k ≡ 1
coprime_factor k a b c d u v w t co ea eb ec ed = co k (divides_size (pos k) u a ea) (divides_size (pos k) v b eb) (divides_size (pos k) w c ec) (divides_size (pos k) t d ed)

once : (k : ℕ) (x z : ℤ) → k ≡ 1 → x ≡ pos k *ℤ z → x ≡ z
once k x z e f = f ∙ ap (λ n. pos n *ℤ z) e ∙ one z
  where
    one : (z : ℤ) → pos 1 *ℤ z ≡ z
    one z = omega (arith, ints)

natural : (w : ℤ) → pos 0 <ℤ w → (n : ℕ) × (0 < n) × (w ≡ pos n)
natural (pos zero) h = absurd (omega (arith, ints, h))
natural (pos (suc n)) h = (suc n, omega arith, refl)
natural (negsuc n) h = absurd (omega (arith, ints, h))

crossed : (x y v w m n : ℤ) → x *ℤ v ≡ y *ℤ w → v ≡ m → w ≡ n → m *ℤ x ≡ n *ℤ y
crossed x y v w m n e f g = *ℤ_comm m x ∙ ap (λ k. x *ℤ k) (sym f) ∙ e ∙ ap (λ k. y *ℤ k) g ∙ *ℤ_comm y n

pub one_corner : (c d : Corner) → IsSamePoint (point_of c) (point_of d) → c ≡ d
one_corner c d same =
    let n = natural c.w c.positive in
    let m = natural d.w d.positive in
    let s = shares m.0 n.0 m.1 n.1 in
    let x = s.share c.x d.x (crossed c.x d.x d.w c.w (pos m.0) (pos n.0) same.same_x m.2 n.2) in
    let y = s.share c.y d.y (crossed c.y d.y d.w c.w (pos m.0) (pos n.0) same.same_y m.2 n.2) in
    let z = s.share c.z d.z (crossed c.z d.z d.w c.w (pos m.0) (pos n.0) same.same_z m.2 n.2) in
    let w = s.share c.w d.w (crossed c.w d.w d.w c.w (pos m.0) (pos n.0) (*ℤ_comm c.w d.w) m.2 n.2) in
    let i = coprime_factor s.first c.x c.y c.z c.w x.0 y.0 z.0 w.0 c.coprime x.1 y.1 z.1 w.1 in
    let j = coprime_factor s.second d.x d.y d.z d.w x.0 y.0 z.0 w.0 d.coprime x.2 y.2 z.2 w.2 in
    same_corner c d
    (once s.first c.x x.0 i x.1 ∙ sym (once s.second d.x x.0 j x.2))
    (once s.first c.y y.0 i y.1 ∙ sym (once s.second d.y y.0 j y.2))
    (once s.first c.z z.0 i z.1 ∙ sym (once s.second d.z z.0 j z.2))
    (once s.first c.w w.0 i w.1 ∙ sym (once s.second d.w w.0 j w.2))
