-- The loops of shapes by their ends.
use Rattle.std.proofs.Common.{◌≡◌, ℤ, ◌+ℤ◌, ◌-ℤ◌, List, [], ◌∷◌, refl}
use Rattle.spec_shape.specs.Profiles.{lower, upper, between, i_loop, hollow, i_shape}

pub hollow_ends : {x0 x1 y0 y1 u0 u1 v0 v1 a b t : ℤ} (x y wall : ℤ) → a ≡ x → b ≡ y → t ≡ wall
    → x0 ≡ lower a → x1 ≡ upper a → y0 ≡ lower b → y1 ≡ upper b → u0 ≡ x0 +ℤ t → u1 ≡ x1 -ℤ t → v0 ≡ y0 +ℤ t → v1 ≡ y1 -ℤ t
    → between x0 x1 y0 y1 ∷ between u0 u1 v0 v1 ∷ [] ≡ hollow x y wall
hollow_ends x y wall ea eb et ex0 ex1 ey0 ey1 eu0 eu1 ev0 ev1 = rw (eu0, eu1, ev0, ev1, ex0, ex1, ey0, ey1, ea, eb, et) refl

pub i_ends : {x0 w0 w1 x1 y0 f0 f1 y1 a b c t : ℤ} (width depth web flange : ℤ) → a ≡ width → b ≡ depth → c ≡ web → t ≡ flange
    → x0 ≡ lower a → x1 ≡ upper a → y0 ≡ lower b → y1 ≡ upper b → w0 ≡ lower c → w1 ≡ upper c → f0 ≡ y0 +ℤ t → f1 ≡ y1 -ℤ t
    → i_loop x0 w0 w1 x1 y0 f0 f1 y1 ∷ [] ≡ i_shape width depth web flange
i_ends width depth web flange ea eb ec et ex0 ex1 ey0 ey1 ew0 ew1 ef0 ef1 = rw (ef0, ef1, ex0, ex1, ey0, ey1, ew0, ew1, ea, eb, ec, et) refl
