-- Regions below triangles, one after another, in a book that grows.
use Rattle.std.proofs.Common.{◌≡◌, ◌≢◌, ℕ, zero, suc, map, get_or, ◌<◌, ℤ, pos, Bool, true, false, ◌&&◌, List, [], ◌∷◌, ◌++◌, length, slice_get, unsigned_abs, refl, sym, ap, subst, ◌∙◌, inl, inr, arith}
use Rattle.std.specs.Prelude.{◌==◌, if◌then◌else◌}
use Rattle.std.specs.List.{All, Contains, flat_map}
use Rattle.std.proofs.lemmas.List.Elements.{All-head, All-tail, Contains-append_left, Contains-append_right, Contains-append_cases}
use Rattle.spec_space.specs.declared.Point.{Point}
use Rattle.spec_space.specs.declared.Plane.{Plane}
use Rattle.spec_solid.specs.Triangles.{Triangle, turn, differ}
use Rattle.spec_solid.specs.Planes.{triangle_planes, plane_through}
use Rattle.ray_law.specs.Columns.{is_in_column, is_under}
use Rattle.ray_law.specs.Shells.{is_covered, is_covered_oddly}
use Rattle.convex_cycles.specs.Sides.{is_in_front}
use Rattle.plane_core.specs.declared.numbers.Plane.{Plane as BookPlane}
use Rattle.poly_frag.specs.Frags.{numbered, kept_side}
use Rattle.plane_cells.specs.declared.steps.Step.{Step}
use Rattle.parity_trees.specs.declared.regions.Region.{Region}
use Rattle.parity_trees.specs.Regions.{is_on_all, lies_in_oddly, all_sides}
use Rattle.grid_solid.specs.Triangles.{triangle_of}
use Rattle.grid_solid.specs.declared.triangles.GridTriangle.{GridTriangle}
use Rattle.triangle_trees.specs.Forms.{IsGrown, HasFormOf, IsOffAll, IsRegionBelow, AreRegionsBelow}
use Rattle.triangle_trees.proofs.Grown.{form_kept, form_same}

-- ---- an upright triangle covers nothing
pub upright_covers : (t : Triangle) (q : Point) → (turn t).z ≡ pos 0 → is_covered t q ≡ false
upright_covers t q e = ap (λ n. if n == 0 then false else is_in_column t q && is_under (plane_through t) q) (ap unsigned_abs e)

-- ---- exactly one of some
differ_assoc : (p q r : Bool) → differ (differ p q) r ≡ differ p (differ q r)
differ_assoc true true true = refl
differ_assoc true true false = refl
differ_assoc true false true = refl
differ_assoc true false false = refl
differ_assoc false q r = refl

pub differ_false : (p : Bool) → differ p false ≡ p
differ_false true = refl
differ_false false = refl

-- ---- one more at the end
covered_push : (ts : List Triangle) (t : Triangle) (q : Point) → is_covered_oddly (ts ++ t ∷ []) q ≡ differ (is_covered_oddly ts q) (is_covered t q)
covered_push [] t q = differ_false (is_covered t q)
covered_push (x ∷ xs) t q = ap (differ (is_covered x q)) (covered_push xs t q) ∙ sym (differ_assoc (is_covered x q) (is_covered_oddly xs q) (is_covered t q))

lies_push : (planes : List BookPlane) (rs : List Region) (r : Region) (q : Point) → lies_in_oddly planes (rs ++ r ∷ []) q ≡ differ (lies_in_oddly planes rs q) (is_on_all planes r.sides.items q)
lies_push planes [] r q = differ_false (is_on_all planes r.sides.items q)
lies_push planes (x ∷ xs) r q = ap (differ (is_on_all planes x.sides.items q)) (lies_push planes xs r q) ∙ sym (differ_assoc (is_on_all planes x.sides.items q) (lies_in_oddly planes xs q) (is_on_all planes r.sides.items q))

flat_push : {X A : Type 0} (f : X → List A) (xs : List X) (x : X) → flat_map f (xs ++ x ∷ []) ≡ flat_map f xs ++ f x
flat_push f [] x = none (f x)
  where
    none : {A : Type 0} (xs : List A) → xs ++ [] ≡ xs
    none [] = refl
    none (x ∷ xs) = ap (λ ys. x ∷ ys) (none xs)
flat_push f (y ∷ ys) x = ap (λ l. f y ++ l) (flat_push f ys x) ∙ sym (joined (f y) (flat_map f ys) (f x))
  where
    joined : {A : Type 0} (xs ys zs : List A) → (xs ++ ys) ++ zs ≡ xs ++ (ys ++ zs)
    joined [] ys zs = refl
    joined (x ∷ xs) ys zs = ap (λ l. x ∷ l) (joined xs ys zs)

-- ---- in a book that has grown
module _ (n : ℕ) (old new : List BookPlane) (grown : IsGrown n old new) where
  on_all_kept : (ks : List Plane) (sides : List Step) (q : Point) → ((s : Step) → Contains sides s → HasFormOf old ks s.plane.k) → is_on_all new sides q ≡ is_on_all old sides q
  on_all_kept ks [] q forms = refl
  on_all_kept ks (s ∷ ss) q forms =
      let here = form_same n old new grown ks s.plane.k (forms s (0, omega arith, refl)) in
      let rest = on_all_kept ks ss q (λ x c. forms x (Contains-append_right (s ∷ []) ss x c)) in
      λ i. is_in_front (kept_side s.in_front (numbered (here i))) q && rest i

  lies_kept : (ks : List Plane) (rs : List Region) (q : Point) → ((s : Step) → Contains (all_sides rs) s → HasFormOf old ks s.plane.k) → lies_in_oddly new rs q ≡ lies_in_oddly old rs q
  lies_kept ks [] q forms = refl
  lies_kept ks (r ∷ rs) q forms =
      let here = on_all_kept ks r.sides.items q (λ s c. forms s (Contains-append_left r.sides.items (all_sides rs) s c)) in
      let rest = lies_kept ks rs q (λ s c. forms s (Contains-append_right r.sides.items (all_sides rs) s c)) in
      λ i. differ (here i) (rest i)

  more_planes : (ts : List Triangle) (t : Triangle) (k : ℕ) → HasFormOf new (flat_map triangle_planes ts) k → HasFormOf new (flat_map triangle_planes (ts ++ t ∷ [])) k
  more_planes ts t k f = (f.0, f.1, f.2, subst (λ ks. Contains ks f.1) (sym (flat_push triangle_planes ts t)) (Contains-append_left (flat_map triangle_planes ts) (triangle_planes t) f.1 f.3), f.4)

  last_planes : (ts : List Triangle) (t : Triangle) (k : ℕ) → HasFormOf new (triangle_planes t) k → HasFormOf new (flat_map triangle_planes (ts ++ t ∷ [])) k
  last_planes ts t k f = (f.0, f.1, f.2, subst (λ ks. Contains ks f.1) (sym (flat_push triangle_planes ts t)) (Contains-append_right (flat_map triangle_planes ts) (triangle_planes t) f.1 f.3), f.4)

  off_first : (ts : List Triangle) (t : Triangle) (q : Point) → IsOffAll (flat_map triangle_planes (ts ++ t ∷ [])) q → IsOffAll (flat_map triangle_planes ts) q
  off_first ts t q off k c = off k (subst (λ ks. Contains ks k) (sym (flat_push triangle_planes ts t)) (Contains-append_left (flat_map triangle_planes ts) (triangle_planes t) k c))

  off_last : (ts : List Triangle) (t : Triangle) (q : Point) → IsOffAll (flat_map triangle_planes (ts ++ t ∷ [])) q → IsOffAll (triangle_planes t) q
  off_last ts t q off k c = off k (subst (λ ks. Contains ks k) (sym (flat_push triangle_planes ts t)) (Contains-append_right (flat_map triangle_planes ts) (triangle_planes t) k c))

  -- an upright triangle more
  pub upright_added : (ts : List Triangle) (rs : List Region) (t : Triangle) → (turn t).z ≡ pos 0 → AreRegionsBelow old ts rs → AreRegionsBelow new (ts ++ t ∷ []) rs
  upright_added ts rs t e are = record {
    covers = λ q off.
        lies_kept (flat_map triangle_planes ts) rs q are.forms
        ∙ are.covers q (off_first ts t q off)
        ∙ sym (covered_push ts t q ∙ ap (differ (is_covered_oddly ts q)) (upright_covers t q e) ∙ differ_false (is_covered_oddly ts q));
    forms = λ s c. more_planes ts t s.plane.k (form_kept n old new grown (flat_map triangle_planes ts) s.plane.k (are.forms s c));
  }

  -- and one with a region
  pub region_added : (ts : List Triangle) (rs : List Region) (t : Triangle) (r : Region) → IsRegionBelow new t r → AreRegionsBelow old ts rs → AreRegionsBelow new (ts ++ t ∷ []) (rs ++ r ∷ [])
  region_added ts rs t r is are = record {
    covers = λ q off.
        lies_push new rs r q
        ∙ (λ i. differ ((lies_kept (flat_map triangle_planes ts) rs q are.forms ∙ are.covers q (off_first ts t q off)) i) (is.covers q (off_last ts t q off) i))
        ∙ sym (covered_push ts t q);
    forms = λ s c. elim (Contains-append_cases (all_sides rs) r.sides.items s (subst (λ l. Contains l s) (flat_push (λ (x : Region). x.sides.items) rs r) c)) [
      | inl k ↦ more_planes ts t s.plane.k (form_kept n old new grown (flat_map triangle_planes ts) s.plane.k (are.forms s k))
      | inr k ↦ last_planes ts t s.plane.k (is.forms s k)
    ];
  }

pub no_regions : (planes : List BookPlane) → AreRegionsBelow planes [] []
no_regions planes = record { covers = λ q off. refl; forms = λ s c. absurd (none s c) }
  where
    none : (s : Step) → Contains [] s → ⊥
    none s (i, h, e) = omega arith

-- what holds of all triangles holds of the one at a place
pub each_at : (P : Triangle → Type 0) (xs : List GridTriangle) (i : ℕ) (d : GridTriangle) → All P (map triangle_of xs) → i < length xs → P (triangle_of (get_or xs i d))
each_at P [] i d all h = absurd (omega arith)
each_at P (x ∷ xs) zero d all h = All-head P (triangle_of x) (map triangle_of xs) all
each_at P (x ∷ xs) (suc i) d all h = each_at P xs i d (All-tail P (triangle_of x) (map triangle_of xs) all) (omega arith)
