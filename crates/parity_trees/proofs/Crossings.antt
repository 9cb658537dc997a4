-- What a cell leaves of the sides of a region, side by side.
use Rattle.std.proofs.Common.{◌≡◌, ℕ, suc, ◌+◌, ◌≤◌, Bool, true, false, ◌&&◌, List, [], ◌∷◌, ◌++◌, length, slice_get, pos, refl, sym, ap, subst, ◌∙◌, arith, eqb→eq, T}
use Rattle.std.specs.Prelude.{◌≢◌, ◌==◌}
use Rattle.std.specs.List.{Contains}
use Rattle.std.proofs.lemmas.List.{length-append}
use Rattle.spec_space.specs.declared.Point.{Point}
use Rattle.plane_core.specs.declared.numbers.Plane.{Plane}
use Rattle.convex_cycles.specs.Sides.{is_in_front}
use Rattle.plane_cells.specs.Cells.{step_side, IsInCell}
use Rattle.plane_cells.specs.declared.steps.Step.{Step}
use Rattle.parity_trees.specs.Regions.{is_on_all, IsOffSides}
use Rattle.parity_trees.specs.Works.{others, IsDecided, IsNowhere, AreCrossing}
use Rattle.parity_trees.proofs.Lists.{all_push, all_end, all_none, contains_push, others_other, others_next}

-- the crossing sides so far, and the rest of the sides
pub record AreCrossingSoFar (planes : List Plane) (steps : List Step) (taken : Step) (sides crossing rest : List Step) : Type 0 where
  pub same : (q : Point) → IsInCell planes steps q → IsOffSides planes sides q → is_on_all planes sides q ≡ (is_on_all planes crossing q && is_on_all planes rest q)
  pub among : (s : Step) → Contains crossing s → Contains sides s
  pub fewer : length crossing + others taken rest ≤ others taken sides

module _ (planes : List Plane) (steps : List Step) (taken : Step) (sides : List Step) where
  abbrev SoFar : List Step → List Step → Type 0
  SoFar crossing rest = AreCrossingSoFar planes steps taken sides crossing rest

  pub crossing_begins : SoFar [] sides
  crossing_begins = record {
    same = λ q i off. refl;
    among = λ s c. absurd (no_item s c);
    fewer = omega arith;
  }
    where
      no_item : (s : Step) → Contains [] s → ⊥
      no_item s (i, h, e) = omega arith

  module _ (crossing : List Step) (s : Step) (more : List Step) (is_side : Contains sides s) where
    pub crossing_kept : (s.plane.k ≡ taken.plane.k → ⊥) → SoFar crossing (s ∷ more) → SoFar (crossing ++ s ∷ []) more
    crossing_kept apart so_far = record {
      same = λ q i off. so_far.same q i off ∙ all_push (λ x. is_in_front (step_side planes x) q) crossing s (is_on_all planes more q);
      among = contains_push crossing sides s so_far.among is_side;
      fewer =
          let l = length-append crossing (s ∷ []) in
          let o = others_other taken s more apart in
          let f = so_far.fewer in
          omega arith;
    }

    pub crossing_passed : IsDecided planes steps s true → SoFar crossing (s ∷ more) → SoFar crossing more
    crossing_passed is so_far = record {
      same = λ q i off. so_far.same q i off ∙ ap (λ b. is_on_all planes crossing q && (b && is_on_all planes more q)) (is q i (off s is_side));
      among = so_far.among;
      fewer =
          let o = others_next taken s more in
          let f = so_far.fewer in
          omega arith;
    }

    pub crossing_missed : IsDecided planes steps s false → SoFar crossing (s ∷ more) → IsNowhere planes steps sides
    crossing_missed is so_far q i off = so_far.same q i off ∙ all_none (is_on_all planes crossing q) (is_in_front (step_side planes s) q && is_on_all planes more q) (ap (λ b. b && is_on_all planes more q) (is q i (off s is_side)))

  pub crossing_ends : (crossing : List Step) → SoFar crossing [] → AreCrossing planes steps taken sides crossing
  crossing_ends crossing so_far = record {
    same = λ q i off. so_far.same q i off ∙ all_end (is_on_all planes crossing q);
    among = so_far.among;
    fewer = let f = so_far.fewer in omega arith;
  }

  -- where no side crosses, the cell lies on all of them
  pub none_crosses : (crossing : List Step) → AreCrossing planes steps taken sides crossing → (length crossing == 0) ≡ true → (q : Point) → IsInCell planes steps q → IsOffSides planes sides q → is_on_all planes sides q ≡ true
  none_crosses [] is e q i off = is.same q i off
  none_crosses (x ∷ xs) is e q i off = absurd (some (length xs) e)
    where
      some : (n : ℕ) → (suc n == 0) ≡ true → ⊥
      some n e = let z : suc n ≡ 0 = eqb→eq (suc n) 0 (subst T (sym e) tt) in omega arith
