-- The value of a plane is linear in the point.
use Rattle.std.proofs.Common.{◌≡◌, List, [], ◌∷◌, ℤ, ◌+ℤ◌, ◌*ℤ◌, refl}
use Rattle.integer_laws.proofs.Ring.{Expr, var, ◌⊕◌, ◌⊗◌, ◌⊖◌, ring}
use Rattle.integer_laws.proofs.Cramer as C
use Rattle.spec_space.specs.declared.Point.{Point}
use Rattle.spec_space.specs.declared.Plane.{Plane}
use Rattle.spec_space.specs.Points.{value}
use Rattle.spec_space.specs.Sums.{times, plus}

abbrev valuee : Expr → Expr → Expr → Expr → Expr → Expr → Expr → Expr → Expr
valuee a b c d x y z w = a ⊗ x ⊕ b ⊗ y ⊕ c ⊗ z ⊖ d ⊗ w

pub value_scaled : (h : Plane) (k : ℤ) (p : Point) → value h (times k p) ≡ k *ℤ value h p
value_scaled h k p = C.side_value-scaled h.a h.b h.c h.d k p.x p.y p.z p.w

pub value_linear : (h : Plane) (p q : Point) → value h (plus p q) ≡ value h p +ℤ value h q
value_linear h p q =
    let numbers : List ℤ = h.a ∷ (h.b ∷ (h.c ∷ (h.d ∷ (p.x ∷ (p.y ∷ (p.z ∷ (p.w ∷ (q.x ∷ (q.y ∷ (q.z ∷ (q.w ∷ []))))))))))) in
    ring numbers
    (valuee (var 0) (var 1) (var 2) (var 3) (var 4 ⊕ var 8) (var 5 ⊕ var 9) (var 6 ⊕ var 10) (var 7 ⊕ var 11))
    (valuee (var 0) (var 1) (var 2) (var 3) (var 4) (var 5) (var 6) (var 7) ⊕ valuee (var 0) (var 1) (var 2) (var 3) (var 8) (var 9) (var 10) (var 11)) refl
