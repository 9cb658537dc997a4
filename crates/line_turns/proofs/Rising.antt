-- Corners in the order of their coordinates, by x, then y, then z: along an edge this is its own order or the other way round.
use Rattle.std.proofs.Common.{◌≡◌, ◌≢◌, inl, inr, List, [], ◌∷◌, ℤ, pos, ◌*ℤ◌, ◌<ℤ◌, refl, sym, ap, ◌∙◌, subst, arith}
use Rattle.std.proofs.lemmas.Int.{ints}
use Rattle.spec_space.specs.declared.Vector.{Vector}
use Rattle.spec_space.specs.declared.Point.{Point}
use Rattle.spec_space.specs.declared.Plane.{Plane}
use Rattle.spec_space.specs.Points.{cross, dot, normal, value, way_between}
use Rattle.integer_laws.proofs.Ring.{var, ◌⊗◌, ring}
use Rattle.integer_laws.proofs.Signs.{mul_positive}
use Rattle.integer_laws.proofs.Products.{cancel_zero, cancel_factor, zero_right}
use Rattle.integer_laws.proofs.Cancel.{positive_right}
use Rattle.convex_cycles.specs.Cycles.{Step, IsEdgeOf}
use Rattle.convex_cycles.proofs.Lists.{EachPair, Member, each_member}
use Rattle.line_turns.proofs.Orders.{Leads, LeadsOf, leads_factor}
use Rattle.line_turns.proofs.Along.{third, dot_swapped, own_way, turned_down, along_first, along_second, along_third}
use Rattle.line_turns.proofs.Between.{IsAfter}
use Rattle.line_turns.proofs.Chains.{pairs_from}
use Rattle.line_turns.proofs.Runs.{way_of, way_on}

-- a comes before b by x, then y, then z
abbrev pub IsBefore : Point → Point → Type 0
IsBefore a b = Leads (way_between a b)

-- ---- factors
off_zero : (x : ℤ) → pos 0 <ℤ x → x ≢ pos 0
off_zero x h e = omega (arith, ints)

pub leads_scaled : (k x y z : ℤ) → pos 0 <ℤ k → LeadsOf x y z → LeadsOf (k *ℤ x) (k *ℤ y) (k *ℤ z)
leads_scaled k x y z h (inl a) = inl (mul_positive k x h a)
leads_scaled k x y z h (inr (a, inl b)) = inr (zero_right k x a, inl (mul_positive k y h b))
leads_scaled k x y z h (inr (a, inr (b, c))) = inr (zero_right k x a, inr (zero_right k y b, mul_positive k z h c))

pub leads_unscaled : (k x y z : ℤ) → pos 0 <ℤ k → LeadsOf (k *ℤ x) (k *ℤ y) (k *ℤ z) → LeadsOf x y z
leads_unscaled k x y z h (inl a) = inl (positive_right k x h a)
leads_unscaled k x y z h (inr (a, inl b)) = inr (cancel_zero k x (off_zero k h) a, inl (positive_right k y h b))
leads_unscaled k x y z h (inr (a, inr (b, c))) = inr (cancel_zero k x (off_zero k h) a, inr (cancel_zero k y (off_zero k h) b, positive_right k z h c))

leads_same : (x y z u v w : ℤ) → x ≡ u → y ≡ v → z ≡ w → LeadsOf x y z → LeadsOf u v w
leads_same x y z u v w p q r l = subst (λ k. LeadsOf u v k) r (subst (λ k. LeadsOf u k z) q (subst (λ k. LeadsOf k y z) p l))

-- ---- two ways along one line
-- vectors across two others are along one line
one_line : (s e a b i : Vector) → dot s (cross e a) ≢ pos 0 → dot s a ≡ pos 0 → dot e a ≡ pos 0 → dot s b ≡ pos 0 → dot e b ≡ pos 0 → dot a a *ℤ dot b i ≡ dot a b *ℤ dot a i
one_line s e a b i some sa ea sb eb = cancel_factor (dot s (cross e a)) (dot a a *ℤ dot b i) (dot a b *ℤ dot a i) some
    (moved (dot s (cross e a)) (dot a a) (dot b i)
    ∙ ap (λ x. dot a a *ℤ x) (third s e a b i sb eb)
    ∙ exchanged (dot a a) (dot a b) (dot s (cross e i))
    ∙ ap (λ x. dot a b *ℤ x) (sym (third s e a a i sa ea))
    ∙ sym (moved (dot s (cross e a)) (dot a b) (dot a i)))
  where
    moved : (k x y : ℤ) → k *ℤ (x *ℤ y) ≡ x *ℤ (k *ℤ y)
    moved k x y = ring (k ∷ (x ∷ (y ∷ []))) (var 0 ⊗ (var 1 ⊗ var 2)) (var 1 ⊗ (var 0 ⊗ var 2)) refl

    exchanged : (x y z : ℤ) → x *ℤ (y *ℤ z) ≡ y *ℤ (x *ℤ z)
    exchanged x y z = ring (x ∷ (y ∷ (z ∷ []))) (var 0 ⊗ (var 1 ⊗ var 2)) (var 1 ⊗ (var 0 ⊗ var 2)) refl

pub record AreOneWay (a b : Vector) : Type 0 where
  pub on_x : dot a a *ℤ b.x ≡ dot a b *ℤ a.x
  pub on_y : dot a a *ℤ b.y ≡ dot a b *ℤ a.y
  pub on_z : dot a a *ℤ b.z ≡ dot a b *ℤ a.z

pub one_way : (s e a b : Vector) → dot s (cross e a) ≢ pos 0 → dot s a ≡ pos 0 → dot e a ≡ pos 0 → dot s b ≡ pos 0 → dot e b ≡ pos 0 → AreOneWay a b
one_way s e a b some sa ea sb eb = record {
  on_x = ap (λ k. dot a a *ℤ k) (sym (along_first b.x b.y b.z)) ∙ one_line s e a b (record { x = pos 1; y = pos 0; z = pos 0 }) some sa ea sb eb ∙ ap (λ k. dot a b *ℤ k) (along_first a.x a.y a.z);
  on_y = ap (λ k. dot a a *ℤ k) (sym (along_second b.x b.y b.z)) ∙ one_line s e a b (record { x = pos 0; y = pos 1; z = pos 0 }) some sa ea sb eb ∙ ap (λ k. dot a b *ℤ k) (along_second a.x a.y a.z);
  on_z = ap (λ k. dot a a *ℤ k) (sym (along_third b.x b.y b.z)) ∙ one_line s e a b (record { x = pos 0; y = pos 0; z = pos 1 }) some sa ea sb eb ∙ ap (λ k. dot a b *ℤ k) (along_third a.x a.y a.z);
}

-- two ways that lead go the same way
pub same_way : (a b : Vector) → AreOneWay a b → pos 0 <ℤ dot a a → Leads a → Leads b → pos 0 <ℤ dot a b
same_way a b w some la lb = leads_factor (dot a b) a.x a.y a.z la
    (leads_same (dot a a *ℤ b.x) (dot a a *ℤ b.y) (dot a a *ℤ b.z) (dot a b *ℤ a.x) (dot a b *ℤ a.y) (dot a b *ℤ a.z) w.on_x w.on_y w.on_z (leads_scaled (dot a a) b.x b.y b.z some lb))

-- a way that goes with one that leads does lead
pub leads_with : (a b : Vector) → AreOneWay a b → pos 0 <ℤ dot a a → Leads a → pos 0 <ℤ dot a b → Leads b
leads_with a b w some la up = leads_unscaled (dot a a) b.x b.y b.z some
    (leads_same (dot a b *ℤ a.x) (dot a b *ℤ a.y) (dot a b *ℤ a.z) (dot a a *ℤ b.x) (dot a a *ℤ b.y) (dot a a *ℤ b.z) (sym w.on_x) (sym w.on_y) (sym w.on_z) (leads_scaled (dot a b) a.x a.y a.z up la))

-- ---- along an edge
module _ (s : Plane) (e : Step) (is : IsEdgeOf s e) where
  ways : (c d : Point) → value s c ≡ pos 0 → value s d ≡ pos 0 → value e.side c ≡ pos 0 → value e.side d ≡ pos 0 → AreOneWay (way_of e) (way_between c d)
  ways c d sc sd ec ed = one_way (normal s) (normal e.side) (way_of e) (way_between c d)
      (down (dot (normal s) (cross (normal e.side) (way_of e))) (turned_down s e is (way_of e) (own_way s e is) e.start is.start_on is.start_side))
      (way_on s e.start e.end is.start_on is.end_on) (way_on e.side e.start e.end is.start_side is.end_side) (way_on s c d sc sd) (way_on e.side c d ec ed)
    where
      down : (x : ℤ) → x <ℤ pos 0 → x ≢ pos 0
      down x h e = omega (arith, ints)

  -- along an edge whose start comes before its end, corners that come before others are followed by them
  pub rising_after : (c d : Point) → value s c ≡ pos 0 → value s d ≡ pos 0 → value e.side c ≡ pos 0 → value e.side d ≡ pos 0 → IsBefore e.start e.end → IsBefore c d → IsAfter (way_of e) c d
  rising_after c d sc sd ec ed up h = subst (λ x. pos 0 <ℤ x) (dot_swapped (way_of e) (way_between c d)) (same_way (way_of e) (way_between c d) (ways c d sc sd ec ed) (own_way s e is) up h)

  pub after_rising : (c d : Point) → value s c ≡ pos 0 → value s d ≡ pos 0 → value e.side c ≡ pos 0 → value e.side d ≡ pos 0 → IsBefore e.start e.end → IsAfter (way_of e) c d → IsBefore c d
  after_rising c d sc sd ec ed up h = leads_with (way_of e) (way_between c d) (ways c d sc sd ec ed) (own_way s e is) up (subst (λ x. pos 0 <ℤ x) (dot_swapped (way_between c d) (way_of e)) h)

-- ---- the neighbours in an ordered list
pair_first : {C : Type 0} (p : C × C) (y : C) (ys : List C) → Member p (pairs_from y ys) → Member p.0 (y ∷ ys)
pair_first p y [] m = absurd m
pair_first p y (z ∷ zs) (inl same) = inl (ap (λ q. q.0) same)
pair_first p y (z ∷ zs) (inr m) = inr (pair_first p z zs m)

-- no item of an ordered list is between two that stand next to each other in it
pub none_between : {C : Type 0} (R : C → C → Type 0) → ((x y : C) → R x y → R y x → ⊥) → (c : C) (cs : List C) → EachPair R (c ∷ cs) → (p : C × C) → Member p (pairs_from c cs) → (d : C) → Member d (c ∷ cs) → R p.0 d → R d p.1 → ⊥
none_between R once c [] order p mp d md first second = absurd mp
none_between R once c (x ∷ xs) order p (inl same) d (inl here) first second = once p.0 p.0 (subst (λ z. R p.0 z) (here ∙ sym (ap (λ q. q.0) same)) first) (subst (λ z. R p.0 z) (here ∙ sym (ap (λ q. q.0) same)) first)
none_between R once c (x ∷ xs) order p (inl same) d (inr (inl here)) first second = once p.1 p.1 (subst (λ z. R z p.1) (here ∙ sym (ap (λ q. q.1) same)) second) (subst (λ z. R z p.1) (here ∙ sym (ap (λ q. q.1) same)) second)
none_between R once c (x ∷ xs) order p (inl same) d (inr (inr later)) first second = once d p.1 second (subst (λ z. R z d) (sym (ap (λ q. q.1) same)) (each_member (R x) d xs later order.1.0))
none_between R once c (x ∷ xs) order p (inr mp) d (inr md) first second = none_between R once x xs order.1 p mp d md first second
none_between R once c (x ∷ xs) order p (inr mp) d (inl here) first second = once p.0 d first (subst (λ z. R z p.0) (sym here) (each_member (R c) p.0 (x ∷ xs) (pair_first p x xs mp) order.0))
