-- An edge of a convex cycle that a cut does not keep is spare.
use Rattle.std.proofs.Common.{◌≡◌, ◌≢◌, ◌⊎◌, inl, inr, List, [], ◌∷◌, ℤ, pos, neg_ℤ, ◌+ℤ◌, ◌*ℤ◌, ◌-ℤ◌, ◌<ℤ◌, ◌≤ℤ◌, refl, sym, ap, ◌∙◌, arith}
use Rattle.std.proofs.lemmas.Int.{ints}
use Rattle.integer_laws.proofs.Ring.{var, ◌⊕◌, ◌⊗◌, ◌⊖◌, ring, *ℤ_comm}
use Rattle.spec_space.specs.declared.Point.{Point}
use Rattle.spec_space.specs.declared.Plane.{Plane}
use Rattle.spec_space.specs.Points.{value}
use Rattle.integer_laws.proofs.Cancel.{mul_zero_right, zero_right}
use Rattle.integer_laws.proofs.Cramer as C
use Rattle.convex_cycles.specs.Cycles.{Step, IsEdgeOf, turn}
use Rattle.convex_cycles.proofs.Lists.{Member, each_member}
use Rattle.convex_cycles.proofs.Quotes.{valuee}
use Rattle.convex_cycles.proofs.Crossings.{Touches}
use Rattle.convex_cycles.proofs.Turns.{turned}
use Rattle.convex_cycles.proofs.Segments.{planes_det, edge_outside}
use Rattle.convex_cycles.proofs.Spares.{IsSpare}

-- three planes that meet in the point q, and a fourth that does not hold it
apart_at : (s e p n : Plane) (q : Point) → turn s e p ≢ pos 0 → value s q ≡ pos 0 → value e q ≡ pos 0 → value p q ≡ pos 0 → pos 0 <ℤ value n q → planes_det s e p n ≢ pos 0
apart_at s e p n q some qs qe qp qn zero_det =
    let x = C.same_x s.a s.b s.c s.d e.a e.b e.c e.d p.a p.b p.c p.d q.x q.y q.z q.w qs qe qp in
    let y = C.same_y s.a s.b s.c s.d e.a e.b e.c e.d p.a p.b p.c p.d q.x q.y q.z q.w qs qe qp in
    let z = C.same_z s.a s.b s.c s.d e.a e.b e.c e.d p.a p.b p.c p.d q.x q.y q.z q.w qs qe qp in
    let product : value n q *ℤ C.w s.a s.b s.c s.d e.a e.b e.c e.d p.a p.b p.c p.d ≡ planes_det s e p n *ℤ q.w =
    scaled n.a n.b n.c n.d q.x q.y q.z q.w (C.w s.a s.b s.c s.d e.a e.b e.c e.d p.a p.b p.c p.d) ∙ joined n.a n.b n.c n.d _ _ _ _ _ _ _ q.w x y z ∙ sym (scaled n.a n.b n.c n.d _ _ _ _ q.w) in
    some (sym (C.triple s.a s.b s.c e.a e.b e.c p.a p.b p.c) ∙ zero_right (value n q) (C.w s.a s.b s.c s.d e.a e.b e.c e.d p.a p.b p.c p.d) qn (product ∙ ap (λ v. v *ℤ q.w) zero_det ∙ *ℤ_comm (pos 0) q.w ∙ mul_zero_right q.w))
  where
    scaled : (a b c d x y z w k : ℤ) → C.side_value a b c d x y z w *ℤ k ≡ a *ℤ (x *ℤ k) +ℤ b *ℤ (y *ℤ k) +ℤ c *ℤ (z *ℤ k) -ℤ d *ℤ (w *ℤ k)
    scaled a b c d x y z w k = ring (a ∷ (b ∷ (c ∷ (d ∷ (x ∷ (y ∷ (z ∷ (w ∷ (k ∷ [])))))))))
        (valuee (var 0) (var 1) (var 2) (var 3) (var 4) (var 5) (var 6) (var 7) ⊗ var 8)
        (var 0 ⊗ (var 4 ⊗ var 8) ⊕ var 1 ⊗ (var 5 ⊗ var 8) ⊕ var 2 ⊗ (var 6 ⊗ var 8) ⊖ var 3 ⊗ (var 7 ⊗ var 8)) refl

    joined : (a b c d x y z u v t k w : ℤ) → x *ℤ k ≡ u *ℤ w → y *ℤ k ≡ v *ℤ w → z *ℤ k ≡ t *ℤ w
        → a *ℤ (x *ℤ k) +ℤ b *ℤ (y *ℤ k) +ℤ c *ℤ (z *ℤ k) -ℤ d *ℤ (w *ℤ k) ≡ a *ℤ (u *ℤ w) +ℤ b *ℤ (v *ℤ w) +ℤ c *ℤ (t *ℤ w) -ℤ d *ℤ (k *ℤ w)
    joined a b c d x y z u v t k w ex ey ez = rw (ex, ey, ez, *ℤ_comm w k)

-- an edge both of whose corners the cut does not keep is spare, where its neighbours are among the other sides
pub IsSpare-edge : (s cut : Plane) (kept spare : List Plane) (e : Step) → IsEdgeOf s e
    → Member e.prev kept ⊎ Member e.prev spare → Member e.next kept ⊎ Member e.next spare
    → value cut e.start ≤ℤ pos 0 → value cut e.end ≤ℤ pos 0 → IsSpare s kept spare cut e.side
IsSpare-edge s cut kept spare e is prev_of next_of start_out end_out q q_s q_e in_kept in_spare =
    edge_outside s e.side e.prev e.next cut e.start e.end q
    (apart_at s e.side e.prev e.next e.start (λ z. right (turn s e.prev e.side) is.left (sym (turned s e.prev e.side) ∙ z)) is.start_on is.start_side is.start_prev is.inside_next)
    is.start_on is.start_side is.start_prev is.inside_next
    is.end_on is.end_side is.end_next is.inside_prev
    q_s q_e (among e.prev prev_of) (among e.next next_of) start_out end_out
  where
    right : (x : ℤ) → pos 0 <ℤ x → neg_ℤ x ≡ pos 0 → ⊥
    right x h k = omega (arith, ints)

    among : (f : Plane) → Member f kept ⊎ Member f spare → pos 0 ≤ℤ value f q
    among f (inl m) = each_member (Touches q) f kept m in_kept
    among f (inr m) = each_member (Touches q) f spare m in_spare
