-- The parts of a cut edge run as the edge does.
use Rattle.std.proofs.Common.{◌≡◌, ◌≢◌, ◌⊎◌, inl, inr, [], ◌∷◌, ℤ, pos, neg_ℤ, ◌-ℤ◌, ◌*ℤ◌, ◌<ℤ◌, refl, sym, ap, ◌∙◌, subst, arith}
use Rattle.std.proofs.lemmas.Int.{ints}
use Rattle.integer_laws.proofs.Ring.{var, neg, ◌⊗◌, ◌⊖◌, ring}
use Rattle.integer_laws.proofs.Signs.{mul_positive}
use Rattle.integer_laws.proofs.Cancel.{positive_right}
use Rattle.spec_space.specs.declared.Point.{Point}
use Rattle.spec_space.specs.declared.Plane.{Plane}
use Rattle.spec_space.specs.declared.Vector.{Vector}
use Rattle.spec_space.specs.Points.{value, normal, cross, dot, way_between, opposite}
use Rattle.spec_page.specs.Faces.{GoesAlong}
use Rattle.convex_cycles.specs.Cycles.{Step, IsEdgeOf}
use Rattle.line_turns.proofs.Along.{own_way, turned_down, dot_swapped}
use Rattle.line_turns.proofs.Between.{IsAfter}
use Rattle.line_turns.proofs.Rising.{AreOneWay, one_way}
use Rattle.line_turns.proofs.Runs.{way_of, way_on}
use Rattle.edge_laws.proofs.Runs.{along_front}

moved : (k d x : ℤ) → k *ℤ (d *ℤ x) ≡ d *ℤ (k *ℤ x)
moved k d x = ring (k ∷ (d ∷ (x ∷ []))) (var 0 ⊗ (var 1 ⊗ var 2)) (var 1 ⊗ (var 0 ⊗ var 2)) refl

-- where a goes to the side of d, so does b, which is in proportion to it
same_side : (n m d a b : ℤ) → pos 0 <ℤ n → pos 0 <ℤ m → n *ℤ b ≡ m *ℤ a → pos 0 <ℤ (d *ℤ a) → pos 0 <ℤ (d *ℤ b)
same_side n m d a b hn hm e up = positive_right n (d *ℤ b) hn (subst (λ x. pos 0 <ℤ x) (moved m d a ∙ ap (λ x. d *ℤ x) (sym e) ∙ sym (moved n d b)) (mul_positive m (d *ℤ a) hm up))

goes_same : (d a b : Vector) → AreOneWay a b → pos 0 <ℤ dot a a → pos 0 <ℤ dot a b → GoesAlong d a → GoesAlong d b
goes_same d a b w n m (inl x) = inl (same_side (dot a a) (dot a b) d.x a.x b.x n m w.on_x x)
goes_same d a b w n m (inr (x, inl y)) = inr (x, inl (same_side (dot a a) (dot a b) d.y a.y b.y n m w.on_y y))
goes_same d a b w n m (inr (x, inr (y, z))) = inr (x, inr (y, same_side (dot a a) (dot a b) d.z a.z b.z n m w.on_z z))

module _ (s : Plane) (e : Step) (is : IsEdgeOf s e) where
  whole : GoesAlong (cross (normal s) (normal (opposite e.side))) (way_of e)
  whole = along_front s (opposite e.side) e.start e.end (record {
    side = e.side;
    next = e.next;
    outer = refl;
    first_point = is.start_point;
    second_point = is.end_point;
    first_on = is.start_on;
    second_on = is.end_on;
    first_side = is.start_side;
    second_side = is.end_side;
    second_next = is.end_next;
    inside_next = is.inside_next;
    left = is.left_next;
  })

  pub part_along : (u v : Point) → value s u ≡ pos 0 → value s v ≡ pos 0 → value e.side u ≡ pos 0 → value e.side v ≡ pos 0 → IsAfter (way_of e) u v → GoesAlong (cross (normal s) (normal (opposite e.side))) (way_between u v)
  part_along u v su sv eu ev after = goes_same (cross (normal s) (normal (opposite e.side))) (way_of e) (way_between u v)
      (one_way (normal s) (normal e.side) (way_of e) (way_between u v)
      (down (dot (normal s) (cross (normal e.side) (way_of e))) (turned_down s e is (way_of e) (own_way s e is) e.start is.start_on is.start_side))
      (way_on s e.start e.end is.start_on is.end_on) (way_on e.side e.start e.end is.start_side is.end_side) (way_on s u v su sv) (way_on e.side u v eu ev))
      (own_way s e is) (subst (λ x. pos 0 <ℤ x) (dot_swapped (way_between u v) (way_of e)) after) whole
    where
      down : (x : ℤ) → x <ℤ pos 0 → x ≢ pos 0
      down x h e = omega (arith, ints)

-- ---- seen from the other side
flipped : (d w x y : ℤ) → x ≡ neg_ℤ d → y ≡ neg_ℤ w → pos 0 <ℤ (d *ℤ w) → pos 0 <ℤ (x *ℤ y)
flipped d w x y e f h = subst (λ z. pos 0 <ℤ z) (sym (ap (λ z. z *ℤ y) e ∙ ap (λ z. neg_ℤ d *ℤ z) f ∙ both d w)) h
  where
    both : (d w : ℤ) → neg_ℤ d *ℤ neg_ℤ w ≡ d *ℤ w
    both d w = ring (d ∷ (w ∷ [])) (neg (var 0) ⊗ neg (var 1)) (var 0 ⊗ var 1) refl

zero_flipped : (d x : ℤ) → x ≡ neg_ℤ d → d ≡ pos 0 → x ≡ pos 0
zero_flipped d x e f = omega (arith, ints)

record AreOpposite (d e : Vector) : Type 0 where
  pub on_x : e.x ≡ neg_ℤ d.x
  pub on_y : e.y ≡ neg_ℤ d.y
  pub on_z : e.z ≡ neg_ℤ d.z

goes_flipped : (d w e v : Vector) → AreOpposite d e → AreOpposite w v → GoesAlong d w → GoesAlong e v
goes_flipped d w e v o p (inl x) = inl (flipped d.x w.x e.x v.x o.on_x p.on_x x)
goes_flipped d w e v o p (inr (x, inl y)) = inr (zero_flipped d.x e.x o.on_x x, inl (flipped d.y w.y e.y v.y o.on_y p.on_y y))
goes_flipped d w e v o p (inr (x, inr (y, z))) = inr (zero_flipped d.x e.x o.on_x x, inr (zero_flipped d.y e.y o.on_y y, flipped d.z w.z e.z v.z o.on_z p.on_z z))

turned_part : (p q x y : ℤ) → neg_ℤ p *ℤ x -ℤ neg_ℤ q *ℤ y ≡ neg_ℤ (p *ℤ x -ℤ q *ℤ y)
turned_part p q x y = ring (p ∷ (q ∷ (x ∷ (y ∷ [])))) (neg (var 0) ⊗ var 2 ⊖ neg (var 1) ⊗ var 3) (neg (var 0 ⊗ var 2 ⊖ var 1 ⊗ var 3)) refl

back_part : (p q x y : ℤ) → p *ℤ x -ℤ q *ℤ y ≡ neg_ℤ (q *ℤ y -ℤ p *ℤ x)
back_part p q x y = ring (p ∷ (q ∷ (x ∷ (y ∷ [])))) (var 0 ⊗ var 2 ⊖ var 1 ⊗ var 3) (neg (var 1 ⊗ var 3 ⊖ var 0 ⊗ var 2)) refl

pub along_turned : (s m : Plane) (u v : Point) → GoesAlong (cross (normal s) (normal m)) (way_between u v) → GoesAlong (cross (normal (opposite s)) (normal m)) (way_between v u)
along_turned s m u v = goes_flipped (cross (normal s) (normal m)) (way_between u v) (cross (normal (opposite s)) (normal m)) (way_between v u)
    (record { on_x = turned_part s.b s.c m.c m.b; on_y = turned_part s.c s.a m.a m.c; on_z = turned_part s.a s.b m.b m.a })
    (record { on_x = back_part u.x v.x v.w u.w; on_y = back_part u.y v.y v.w u.w; on_z = back_part u.z v.z v.w u.w })
