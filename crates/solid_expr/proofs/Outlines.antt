-- What the loops of faces keep.
use Rattle.std.proofs.Common.{◌≡◌, ℕ, ◌≤◌, ◌<◌, ◌^◌, ◌-◌, ◌+◌, ℤ, pos, unsigned_abs, T, leb, leb→le, List, [], ◌∷◌, length, map, get_or, refl, sym, subst, ap, ◌∙◌, arith}
use Rattle.std.specs.Prelude.{All}
use Rattle.std.proofs.lemmas.List.Elements.{All-map, All-weaker, All-from_get_or, All-get_or}
use Rattle.spec_space.specs.declared.Vector.{Vector}
use Rattle.spec_place.specs.Vectors.{IsWithin, origin}
use Rattle.spec_solid.specs.Extrusions.{plus}
use Rattle.spec_shape.specs.Shapes.{upwards}
use Rattle.ix_place.proofs.Sizes.{wider, plus_within}
use Rattle.ix_profile.specs.Outlines.{AreWithin, IsLoop, IsOutline}
use Rattle.ix_profile.proofs.Outlines.{one_outline, listed_loop, moved_outline}
use Rattle.solid_expr.specs.Sides.{side, block_loops}

-- each loop of an outline is one
pub outline_loops : (n : ℕ) (loops : List (List Vector)) → IsOutline n loops → All (IsLoop n) loops
outline_loops n loops h = All-from_get_or (IsLoop n) loops [] (λ i l. record {
  long = All-get_or (λ l. 3 ≤ length l) loops i [] l h.long;
  within = All-get_or (All (IsWithin n)) loops i [] l h.within;
})

pub outline_wider : (m n : ℕ) (loops copies : List (List Vector)) → copies ≡ loops → T (leb m n) → IsOutline m loops → IsOutline n copies
outline_wider m n loops copies e t h = subst (λ ls. IsOutline n ls) (sym e) (record {
  some = h.some;
  long = h.long;
  within = All-weaker (All (IsWithin m)) (All (IsWithin n)) (λ l k. All-weaker (IsWithin m) (IsWithin n) (λ v w. wider v w t) l k) loops h.within;
})

mapped_within : (f : Vector → Vector) (m n : ℕ) (loops : List (List Vector)) → ((u : Vector) → IsWithin m u → IsWithin n (f u)) → AreWithin m loops → AreWithin n (map (map f) loops)
mapped_within f m n loops step h =
    All-map (All (IsWithin n)) (map f) loops
    (All-weaker (All (IsWithin m)) (λ l. All (IsWithin n) (map f l)) (λ l k.
    All-map (IsWithin n) f l (All-weaker (IsWithin m) (λ u. IsWithin n (f u)) step l k)) loops h)

pub swept_outline : (sweep : Vector) (loops moved : List (List Vector)) → moved ≡ map (λ l. map (λ u. plus u sweep) l) loops
    → IsWithin (2 ^ 61 - 1) sweep → IsOutline (2 ^ 61 - 1) loops → IsOutline (2 ^ 62 - 1) moved
swept_outline sweep loops moved e w h =
    moved_outline (λ u. plus u sweep) (2 ^ 61 - 1) (2 ^ 62 - 1) loops moved e
    (subst (λ ls. AreWithin (2 ^ 62 - 1) ls) (sym e) (mapped_within (λ u. plus u sweep) (2 ^ 61 - 1) (2 ^ 62 - 1) loops (λ u k. wider (plus u sweep) (plus_within u sweep k w) tt) h.within))
    h

pub lifted_outline : (by : Vector) (loops moved : List (List Vector)) → moved ≡ map (map (plus by)) loops
    → IsWithin (2 ^ 59) by → IsOutline (2 ^ 59) loops → IsOutline (2 ^ 60) moved
lifted_outline by loops moved e w h =
    moved_outline (plus by) (2 ^ 59) (2 ^ 60) loops moved e
    (subst (λ ls. AreWithin (2 ^ 60) ls) (sym e) (mapped_within (plus by) (2 ^ 59) (2 ^ 60) loops (λ u k. wider (plus by u) (plus_within by u w k) tt) h.within))
    h

pub side_outline : (sweep u v : Vector) (loops : List (List Vector)) → loops ≡ side sweep (u, v)
    → IsWithin (2 ^ 61 - 1) u → IsWithin (2 ^ 61 - 1) v → IsWithin (2 ^ 61 - 1) sweep → IsOutline (2 ^ 62 - 1) loops
side_outline sweep u v loops e hu hv hs =
    one_outline (u ∷ v ∷ plus v sweep ∷ plus u sweep ∷ []) loops
    (listed_loop (2 ^ 62 - 1) {qs = u ∷ v ∷ plus v sweep ∷ plus u sweep ∷ []} refl
    (wider u hu tt, (wider v hv tt, (wider (plus v sweep) (plus_within v sweep hv hs) tt, (wider (plus u sweep) (plus_within u sweep hu hs) tt, tt)))) tt)
    e

small_zero : unsigned_abs (pos 0) ≤ 2 ^ 61 - 1
small_zero = leb→le 0 (2 ^ 61 - 1) tt

pub block_outline : (size : Vector) (loops : List (List Vector)) → loops ≡ block_loops size → IsWithin (2 ^ 61 - 1) size → IsOutline (2 ^ 61 - 1) loops
block_outline size loops e h =
    one_outline corners loops
    (listed_loop (2 ^ 61 - 1) {qs = corners} refl (
      record { x = small_zero; y = small_zero; z = small_zero },
      (
        record { x = h.x; y = small_zero; z = small_zero },
        (
          record { x = h.x; y = h.y; z = small_zero },
          (record { x = small_zero; y = h.y; z = small_zero }, tt),
        ),
      ),
    ) tt)
    e
  where
    corners : List Vector
    corners = record { x = pos 0; y = pos 0; z = pos 0 } ∷ record { x = size.x; y = pos 0; z = pos 0 } ∷ record { x = size.x; y = size.y; z = pos 0 } ∷ record { x = pos 0; y = size.y; z = pos 0 } ∷ []

pub height_within : (size way : Vector) → way ≡ upwards size.z → IsWithin (2 ^ 61 - 1) size → IsWithin (2 ^ 61 - 1) way
height_within size way e h = subst (λ v. IsWithin (2 ^ 61 - 1) v) (sym e) (record { x = small_zero; y = small_zero; z = h.z })
