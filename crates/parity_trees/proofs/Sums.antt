-- Counts in a cell, region by region.
use Rattle.std.proofs.Common.{◌≡◌, ◌⊎◌, ℕ, ◌+◌, ◌≤◌, Bool, true, false, not, List, [], ◌∷◌, ◌++◌, length, slice_get, refl, sym, ap, subst, ◌∙◌, inl, inr, arith}
use Rattle.std.specs.List.{Contains}
use Rattle.std.proofs.lemmas.List.{length-append}
use Rattle.std.proofs.lemmas.List.Elements.{Contains-append_cases}
use Rattle.spec_space.specs.declared.Point.{Point}
use Rattle.spec_solid.specs.Triangles.{differ}
use Rattle.plane_core.specs.declared.numbers.Plane.{Plane}
use Rattle.plane_cells.specs.Cells.{IsInCell}
use Rattle.plane_cells.specs.declared.steps.Step.{Step}
use Rattle.parity_trees.specs.declared.regions.Region.{Region}
use Rattle.parity_trees.specs.Regions.{is_on_all, lies_in_oddly, all_sides, IsOffSides}
use Rattle.parity_trees.specs.Works.{Sum, told, sides_in, others, IsNowhere, AreCrossing, IsAdded, IsLeftOf}
use Rattle.parity_trees.proofs.Lists.{others_append, contains_flat}

-- ---- exactly one of some
pub differ_assoc : (p q r : Bool) → differ (differ p q) r ≡ differ p (differ q r)
differ_assoc true true true = refl
differ_assoc true true false = refl
differ_assoc true false true = refl
differ_assoc true false false = refl
differ_assoc false q r = refl

pub differ_false : (p : Bool) → differ p false ≡ p
differ_false true = refl
differ_false false = refl

not_differs : (p q : Bool) → differ (not p) q ≡ differ (differ p q) true
not_differs true true = refl
not_differs true false = refl
not_differs false true = refl
not_differs false false = refl

-- ---- one region more at the end
oddly_push : (planes : List Plane) (rs : List Region) (r : Region) (q : Point) → lies_in_oddly planes (rs ++ r ∷ []) q ≡ differ (lies_in_oddly planes rs q) (is_on_all planes r.sides.items q)
oddly_push planes [] r q = differ_false (is_on_all planes r.sides.items q)
oddly_push planes (x ∷ xs) r q =
    ap (differ (is_on_all planes x.sides.items q)) (oddly_push planes xs r q)
    ∙ sym (differ_assoc (is_on_all planes x.sides.items q) (lies_in_oddly planes xs q) (is_on_all planes r.sides.items q))

sides_push : (rs : List Region) (r : Region) → all_sides (rs ++ r ∷ []) ≡ all_sides rs ++ r.sides.items
sides_push [] r = none r.sides.items
  where
    none : (xs : List Step) → xs ++ [] ≡ xs
    none [] = refl
    none (x ∷ xs) = ap (λ ys. x ∷ ys) (none xs)
sides_push (x ∷ xs) r = ap (λ ys. x.sides.items ++ ys) (sides_push xs r) ∙ sym (joined x.sides.items (all_sides xs) r.sides.items)
  where
    joined : (xs ys zs : List Step) → (xs ++ ys) ++ zs ≡ xs ++ (ys ++ zs)
    joined [] ys zs = refl
    joined (x ∷ xs) ys zs = ap (λ l. x ∷ l) (joined xs ys zs)

module _ (planes : List Plane) (steps : List Step) (taken : Step) where
  -- ---- what is counted of a region
  module _ (region : Region) (rs : List Region) (odd : Bool) where
    abbrev old : Sum
    old = record { regions = rs; odd = odd }

    pub added_nowhere : IsNowhere planes steps region.sides.items → IsAdded planes steps taken region old old
    added_nowhere none = record {
      value = λ q i off. sym (ap (differ (told planes old q)) (none q i off) ∙ differ_false (told planes old q));
      among = λ s c. inl c;
      fewer = omega arith;
    }

    pub added_everywhere : ((q : Point) → IsInCell planes steps q → IsOffSides planes region.sides.items q → is_on_all planes region.sides.items q ≡ true)
        → IsAdded planes steps taken region old (record { regions = rs; odd = not odd })
    added_everywhere all = record {
      value = λ q i off. not_differs odd (lies_in_oddly planes rs q) ∙ sym (ap (differ (told planes old q)) (all q i off));
      among = λ s c. inl c;
      fewer = omega arith;
    }

    pub added_within : (r : Region) → AreCrossing planes steps taken region.sides.items r.sides.items → IsAdded planes steps taken region old (record { regions = rs ++ r ∷ []; odd = odd })
    added_within r is = record {
      value = λ q i off.
          ap (differ odd) (oddly_push planes rs r q) ∙ sym (differ_assoc odd (lies_in_oddly planes rs q) (is_on_all planes r.sides.items q))
          ∙ sym (ap (differ (told planes old q)) (is.same q i off));
      among = λ s c. elim (Contains-append_cases (all_sides rs) r.sides.items s (subst (λ l. Contains l s) (sides_push rs r) c)) [ inl k ↦ inl k | inr k ↦ inr (is.among s k) ];
      fewer =
          let l : length (all_sides (rs ++ r ∷ [])) ≡ length (all_sides rs) + length r.sides.items = ap length (sides_push rs r) ∙ length-append (all_sides rs) r.sides.items in
          let f = is.fewer in
          omega arith;
    }

  -- ---- the count so far, and the rest of the regions
  pub record IsCountedSoFar (whole left : Sum) (rest : List Region) : Type 0 where
    pub value : (q : Point) → IsInCell planes steps q → IsOffSides planes (sides_in whole) q → differ (told planes left q) (lies_in_oddly planes rest q) ≡ told planes whole q
    pub among : (s : Step) → Contains (sides_in left) s → Contains (sides_in whole) s
    pub fewer : length (sides_in left) + others taken (all_sides rest) ≤ others taken (sides_in whole)

  pub counted_begins : (rs : List Region) (odd : Bool) → IsCountedSoFar (record { regions = rs; odd = odd }) (record { regions = []; odd = odd }) rs
  counted_begins rs odd = record {
    value = λ q i off. ap (λ b. differ b (lies_in_oddly planes rs q)) (differ_false odd);
    among = λ s c. absurd (no_item s c);
    fewer = omega arith;
  }
    where
      no_item : (s : Step) → Contains [] s → ⊥
      no_item s (i, h, e) = omega arith

  pub counted_next : (whole left next : Sum) (r : Region) (more : List Region) → Contains whole.regions r → IsAdded planes steps taken r left next → IsCountedSoFar whole left (r ∷ more) → IsCountedSoFar whole next more
  counted_next whole left next r more is added so_far =
      let inside : (s : Step) → Contains r.sides.items s → Contains (sides_in whole) s = λ s c. contains_flat (λ (x : Region). x.sides.items) whole.regions r s is c in
      record {
        value = λ q i off.
            ap (λ b. differ b (lies_in_oddly planes more q)) (added.value q i (λ s c. off s (inside s c)))
            ∙ differ_assoc (told planes left q) (is_on_all planes r.sides.items q) (lies_in_oddly planes more q)
            ∙ so_far.value q i off;
        among = λ s c. elim (added.among s c) [ inl k ↦ so_far.among s k | inr k ↦ inside s k ];
        fewer =
            let o = others_append taken r.sides.items (all_sides more) in
            let f = so_far.fewer in
            let a = added.fewer in
            omega arith;
      }

  pub counted_ends : (whole left : Sum) → IsCountedSoFar whole left [] → IsLeftOf planes steps taken whole left
  counted_ends whole left so_far = record {
    value = λ q i off. sym (differ_false (told planes left q)) ∙ so_far.value q i off;
    among = so_far.among;
    fewer = let f = so_far.fewer in omega arith;
  }
