-- The printed corners of a mesh.
use Rattle.std.proofs.Common.{◌≡◌, ℕ, ◌+◌, ◌<◌, ◌≤◌, ◌^◌, List, [], ◌∷◌, ◌++◌, length, map, take, get_or, ℤ, pos, ◌-ℤ◌, ◌*ℤ◌, unsigned_abs, All, refl, sym, ap, subst, ◌∙◌, arith}
use Rattle.std.proofs.lemmas.Int.{ints}
use Rattle.std.proofs.lemmas.List.{length-map, take_more, take_all}
use Rattle.std.proofs.lemmas.List.Elements.{All-nil, All-cons, All-head, All-tail, All-weaker}
use Rattle.spec_space.specs.declared.Vector.{Vector}
use Rattle.spec_space.specs.Points.{minus}
use Rattle.spec_place.specs.declared.transform.Transform.{Transform}
use Rattle.spec_place.specs.Transforms.{IsFrame}
use Rattle.spec_place.specs.Vectors.{IsWithin}
use Rattle.spec_page.specs.declared.Corner.{Corner as PageCorner}
use Rattle.spec_page.specs.World.{rounded_image}
use Rattle.spec_headline.specs.Reduced.{IsReducedPoint, IsCornerWithin}
use Rattle.plane_core.specs.declared.numbers.Corner.{Corner}
use Rattle.plane_core.specs.Views.{point_of}
use Rattle.plane_core.proofs.Laws.{divides_size}
use Rattle.exact_mesh.specs.Meshes.{vector_of}
use Rattle.exact_mesh.specs.Ranges.{IsWithin as IsNear, AreNear}
use Rattle.world_print.specs.Ranges.{IsStep, IsOnGrid, IsPrintable}
use Rattle.world_print.specs.Elements.{page_corners}
use Rattle.world_print.proofs.Images.{near_offset}

-- ---- sizes of rounded images
-- 1000 times the vector, in micrometres, is not far from the frame's offset, in nanometres
record IsNearOffset (off v : Vector) : Type 0 where
  x : unsigned_abs (pos 1000 *ℤ v.x -ℤ off.x) ≤ 31457280000500
  y : unsigned_abs (pos 1000 *ℤ v.y -ℤ off.y) ≤ 31457280000500
  z : unsigned_abs (pos 1000 *ℤ v.z -ℤ off.z) ≤ 31457280000500

image_near : (t : Transform) (step : ℕ) (c : Corner) → IsFrame t → IsStep step → IsOnGrid c → IsNearOffset t.off (rounded_image t step (point_of c))
image_near t step c frame range reach = record {
  x = near_offset t.x.x t.x.y t.x.z t.off.x c.x c.y c.z c.w step frame.x.x frame.x.y frame.x.z range.most c.positive reach.x reach.y reach.z;
  y = near_offset t.y.x t.y.y t.y.z t.off.y c.x c.y c.z c.w step frame.y.x frame.y.y frame.y.z range.most c.positive reach.x reach.y reach.z;
  z = near_offset t.z.x t.z.y t.z.z t.off.z c.x c.y c.z c.w step frame.z.x frame.z.y frame.z.z range.most c.positive reach.x reach.y reach.z;
}

printable : (off v : Vector) → IsWithin (10 ^ 16) off → IsNearOffset off v → IsWithin (10 ^ 14) v
printable off v small near = record { x = one v.x off.x small.x near.x; y = one v.y off.y small.y near.y; z = one v.z off.z small.z near.z }
  where
    one : (a off : ℤ) → unsigned_abs off ≤ 10 ^ 16 → unsigned_abs (pos 1000 *ℤ a -ℤ off) ≤ 31457280000500 → unsigned_abs a ≤ 10 ^ 14
    one a off small near = omega (arith, ints)

near_one_another : (off u v : Vector) → IsNearOffset off u → IsNearOffset off v → IsNear (2 ^ 37) (minus u v)
near_one_another off u v h k = record { x = apart u.x v.x off.x h.x k.x; y = apart u.y v.y off.y h.y k.y; z = apart u.z v.z off.z h.z k.z }
  where
    apart : (a b off : ℤ) → unsigned_abs (pos 1000 *ℤ a -ℤ off) ≤ 31457280000500 → unsigned_abs (pos 1000 *ℤ b -ℤ off) ≤ 31457280000500 → unsigned_abs (a -ℤ b) ≤ 2 ^ 37
    apart a b off h k = omega (arith, ints)

-- ---- lists of printed corners
pub head_same : {X : Type 0} (x y : X) (xs ys : List X) → x ∷ xs ≡ y ∷ ys → x ≡ y
head_same x y xs ys e = cc

pub tail_same : {X : Type 0} (x y : X) (xs ys : List X) → x ∷ xs ≡ y ∷ ys → xs ≡ ys
tail_same x y xs ys e = cc

map-append : {X Y : Type 0} (f : X → Y) (xs ys : List X) → map f (xs ++ ys) ≡ map f xs ++ map f ys
map-append f [] ys = refl
map-append f (x ∷ xs) ys = ap (λ zs. f x ∷ zs) (map-append f xs ys)

-- the printed corners are the images, in order
abbrev pub ArePrinted : (Corner → Vector) → List Corner → List (List ℤ) → Type 0
ArePrinted image corners printed = map vector_of printed ≡ map image corners

abbrev pub image_in : Transform → ℕ → Corner → Vector
image_in t step c = rounded_image t step (point_of c)

-- one corner more was printed
pub next_printed : (image : Corner → Vector) (corners : List Corner) (i : ℕ) (c : Corner) (before next : List (List ℤ)) (one : List ℤ) → i < length corners → c ≡ get_or corners i c → vector_of one ≡ image c
    → next ≡ before ++ one ∷ [] → ArePrinted image (take i corners) before → ArePrinted image (take (i + 1) corners) next
next_printed image corners i c before next one below item same items printed =
    ap (map vector_of) items ∙ map-append vector_of before (one ∷ []) ∙ ap (λ vs. vs ++ vector_of one ∷ []) printed ∙ ap (λ v. map image (take i corners) ++ v ∷ []) same
    ∙ sym (map-append image (take i corners) (c ∷ [])) ∙ ap (map image) (ap (λ d. take i corners ++ d ∷ []) item ∙ sym (take_more corners i c below))

pub all_printed : (image : Corner → Vector) (corners : List Corner) (i : ℕ) (printed : List (List ℤ)) → length corners ≤ i → ArePrinted image (take i corners) printed → ArePrinted image corners printed
all_printed image corners i printed past e = subst (λ cs. ArePrinted image cs printed) (take_all i corners past) e

pub same_length : (image : Corner → Vector) (cs : List Corner) (vs : List (List ℤ)) → ArePrinted image cs vs → length vs ≡ length cs
same_length image cs vs e = sym (length-map vs vector_of) ∙ ap length e ∙ length-map cs image

-- what holds of each image holds of each printed corner
each_printed : (P : Vector → Type 0) (image : Corner → Vector) (cs : List Corner) (vs : List (List ℤ)) → ArePrinted image cs vs → All (λ c. P (image c)) cs → All (λ v. P (vector_of v)) vs
each_printed P image [] [] e h = All-nil (λ v. P (vector_of v))
each_printed P image [] (v ∷ vs) e h = cc
each_printed P image (c ∷ cs) [] e h = cc
each_printed P image (c ∷ cs) (v ∷ vs) e h =
    All-cons (λ v. P (vector_of v)) v vs (subst P (sym (head_same (vector_of v) (image c) (map vector_of vs) (map image cs) e)) (All-head (λ c. P (image c)) c cs h))
    (each_printed P image cs vs (tail_same (vector_of v) (image c) (map vector_of vs) (map image cs) e) (All-tail (λ c. P (image c)) c cs h))

-- ---- where printed corners lie
module _ (t : Transform) (step : ℕ) (frame : IsFrame t) (range : IsStep step) (cs : List Corner) (vs : List (List ℤ)) (printed : ArePrinted (image_in t step) cs vs) (reach : All IsOnGrid cs) where
  near_offsets : All (λ v. IsNearOffset t.off (vector_of v)) vs
  near_offsets = each_printed (IsNearOffset t.off) (image_in t step) cs vs printed
      (All-weaker IsOnGrid (λ c. IsNearOffset t.off (image_in t step c)) (λ c on. image_near t step c frame range on) cs reach)

  pub all_printable : All IsPrintable vs
  all_printable = All-weaker (λ v. IsNearOffset t.off (vector_of v)) IsPrintable (λ v near. printable t.off (vector_of v) frame.off near) vs near_offsets

  pub are_near : AreNear vs
  are_near = near_first t.off vs near_offsets
    where
      near_first : (off : Vector) (vs : List (List ℤ)) → All (λ v. IsNearOffset off (vector_of v)) vs → AreNear vs
      near_first off [] h = All-nil (λ v. IsNear (2 ^ 37) (minus (vector_of v) (vector_of [])))
      near_first off (v ∷ vs) h =
          All-weaker (λ u. IsNearOffset off (vector_of u)) (λ u. IsNear (2 ^ 37) (minus (vector_of u) (vector_of v)))
          (λ u near. near_one_another off (vector_of u) (vector_of v) near (All-head (λ u. IsNearOffset off (vector_of u)) v vs h)) (v ∷ vs) h

-- ---- the corners of the page
-- where as many corners are printed as there are exact ones, these are those of the mesh
pub exact_corners : (cs : List Corner) (vs : List (List ℤ)) → length vs ≡ length cs → map (λ (c : PageCorner). c.exact) (page_corners cs vs) ≡ map point_of cs
exact_corners [] vs e = refl
exact_corners (c ∷ cs) [] e = cc
exact_corners (c ∷ cs) (v ∷ vs) e = ap (λ ps. point_of c ∷ ps) (exact_corners cs vs (omega arith))

pub printed_corners : (cs : List Corner) (vs : List (List ℤ)) → length vs ≡ length cs → map (λ (c : PageCorner). c.printed) (page_corners cs vs) ≡ map vector_of vs
printed_corners [] [] e = refl
printed_corners [] (v ∷ vs) e = cc
printed_corners (c ∷ cs) [] e = cc
printed_corners (c ∷ cs) (v ∷ vs) e = ap (λ ps. vector_of v ∷ ps) (printed_corners cs vs (omega arith))

-- each printed corner is the image of the exact one
pub each_rounded : (t : Transform) (step : ℕ) (cs : List Corner) (vs : List (List ℤ)) → ArePrinted (image_in t step) cs vs → All (λ (c : PageCorner). c.printed ≡ rounded_image t step c.exact) (page_corners cs vs)
each_rounded t step [] vs e = All-nil (λ (c : PageCorner). c.printed ≡ rounded_image t step c.exact)
each_rounded t step (c ∷ cs) [] e = All-nil (λ (c : PageCorner). c.printed ≡ rounded_image t step c.exact)
each_rounded t step (c ∷ cs) (v ∷ vs) e =
    All-cons (λ (c : PageCorner). c.printed ≡ rounded_image t step c.exact) (record { exact = point_of c; printed = vector_of v }) (page_corners cs vs)
    (head_same (vector_of v) (image_in t step c) (map vector_of vs) (map (image_in t step) cs) e)
    (each_rounded t step cs vs (tail_same (vector_of v) (image_in t step c) (map vector_of vs) (map (image_in t step) cs) e))

corner_reduced : (c : Corner) → IsReducedPoint (point_of c)
corner_reduced c = record {
  weight = c.positive;
  divisors = λ m q t. c.coprime (unsigned_abs m) (divides_size m q.x c.x t.0) (divides_size m q.y c.y t.1) (divides_size m q.z c.z t.2) (divides_size m q.w c.w t.3);
}

corner_within : (c : Corner) (v : List ℤ) → IsOnGrid c → IsPrintable v → IsCornerWithin (record { exact = point_of c; printed = vector_of v })
corner_within c v on printed = (
  record {
    reduced = corner_reduced c;
    weight = c.w_small;
    size = record { x = c.x_small; y = c.y_small; z = c.z_small };
    reach = record { x = on.x; y = on.y; z = on.z };
  },
  printed,
)

pub each_within : (cs : List Corner) (vs : List (List ℤ)) → All IsOnGrid cs → All IsPrintable vs → All IsCornerWithin (page_corners cs vs)
each_within [] vs on printed = All-nil IsCornerWithin
each_within (c ∷ cs) [] on printed = All-nil IsCornerWithin
each_within (c ∷ cs) (v ∷ vs) on printed =
    All-cons IsCornerWithin (record { exact = point_of c; printed = vector_of v }) (page_corners cs vs)
    (corner_within c v (All-head IsOnGrid c cs on) (All-head IsPrintable v vs printed))
    (each_within cs vs (All-tail IsOnGrid c cs on) (All-tail IsPrintable v vs printed))
