-- Values, determinants and turns as expressions for the normal form of polynomials.
use Rattle.integer_laws.proofs.Ring.{Expr, ◌⊕◌, ◌⊗◌, ◌⊖◌}

-- the value of a plane at a point
abbrev pub valuee : Expr → Expr → Expr → Expr → Expr → Expr → Expr → Expr → Expr
valuee a b c d x y z w = a ⊗ x ⊕ b ⊗ y ⊕ c ⊗ z ⊖ d ⊗ w

-- two and three rows
abbrev pub det2e : Expr → Expr → Expr → Expr → Expr
det2e a b c d = a ⊗ d ⊖ b ⊗ c

abbrev pub det3e : Expr → Expr → Expr → Expr → Expr → Expr → Expr → Expr → Expr → Expr
det3e a b c d e f g h i = a ⊗ det2e e f h i ⊕ d ⊗ det2e h i b c ⊕ g ⊗ det2e b c e f

-- three normals, as `turn` spells their determinant
abbrev pub turne : Expr → Expr → Expr → Expr → Expr → Expr → Expr → Expr → Expr → Expr
turne a b c d e f g h i = a ⊗ (e ⊗ i ⊖ f ⊗ h) ⊕ b ⊗ (f ⊗ g ⊖ d ⊗ i) ⊕ c ⊗ (d ⊗ h ⊖ e ⊗ g)
