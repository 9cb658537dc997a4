-- The corners on a line, sorted.
use Rattle.std.proofs.Common.{◌≡◌, ◌≢◌, ℕ, ◌<◌, ◌≤◌, Bool, true, false, true≢false, List, [], ◌∷◌, filter, get_or, cond, AllPairs, inl, inr, refl, sym, ap, ◌∙◌, subst, arith}
use denote.Param.Members.{Mut}
use denote.Ref.{Bor}
use Rattle.std.specs.Cmp.{IsStrictWeakOrder}
use Rattle.std.specs.Fn.{Called, ComparesAs}
use Rattle.std.specs.Ordering.{is_lt}
use Rattle.std.specs.declared.cmp.Ordering.{Ordering}
use Rattle.std.specs.List.Sorted.{IsPermutation, IsSortedBy}
use Rattle.std.proofs.lemmas.Fn.{always_returns_same}
use Rattle.std.proofs.lemmas.List.Kept.{AllPairs-filter}
use Rattle.std.proofs.lemmas.List.Sorted.{sorted_far, Contains-permutation, IsPermutation-sym}
use Rattle.std.proofs.lemmas.Map.Keys.{IsDistinct-IsPermutation}
use Rattle.std.proofs.lemmas.Map.Made.{AllPairs-from_IsDistinct, IsDistinct-from_AllPairs}
use Rattle.plane_core.specs.declared.numbers.Plane.{Plane as BookPlane}
use Rattle.plane_core.specs.declared.numbers.Corner.{Corner}
use Rattle.convex_cycles.proofs.Lists.{Member}
use Rattle.corner_book.specs.Corners.{AreDistinct}
use Rattle.corner_book.proofs.Same.{corner_eq, corner_eq-Decides}
use Rattle.poly_frag.proofs.CornerSigns.{contains_member, member_contains}
use Rattle.edge_cut.specs.declared.lines.LineId.{LineId}
use Rattle.edge_cut.specs.Stretches.{comes_before, lies_on_both}
use Rattle.edge_cut.specs.Lines.{IsLineOf}
use Rattle.edge_cut.proofs.Orders.{order-IsStrictWeakOrder, comes_first}
use Rattle.edge_cut.proofs.Spellings.{one_corner}

-- ---- members of a filtered list
pub member_filter : (p : Corner → Bool) (c : Corner) (cs : List Corner) → Member c (filter p cs) → Member c cs × (p c ≡ true)
member_filter p c [] m = absurd m
member_filter p c (d ∷ cs) m = by (p d) refl (member_filter p c cs) m
  where
    by : (b : Bool) → p d ≡ b → (Member c (filter p cs) → Member c cs × (p c ≡ true)) → Member c (cond b (d ∷ filter p cs) (filter p cs)) → Member c (d ∷ cs) × (p c ≡ true)
    by true e rest (inl same) = (inl same, ap p same ∙ e)
    by true e rest (inr m) = let r = rest m in (inr r.0, r.1)
    by false e rest m = let r = rest m in (inr r.0, r.1)

pub filter_member : (p : Corner → Bool) (c : Corner) (cs : List Corner) → Member c cs → p c ≡ true → Member c (filter p cs)
filter_member p c [] m e = absurd m
filter_member p c (d ∷ cs) m e = by (p d) refl (λ later. filter_member p c cs later e) m
  where
    by : (b : Bool) → p d ≡ b → (Member c cs → Member c (filter p cs)) → Member c (d ∷ cs) → Member c (cond b (d ∷ filter p cs) (filter p cs))
    by true f rest (inl same) = inl same
    by true f rest (inr m) = inr (rest m)
    by false f rest (inl same) = absurd (true≢false (sym e ∙ ap p same ∙ f))
    by false f rest (inr m) = rest m

-- ---- the order of distinct corners
eq_flips : (c d : Corner) → corner_eq c d ≡ corner_eq d c
eq_flips c d = by (corner_eq c d) (corner_eq d c) refl refl
  where
    by : (a b : Bool) → corner_eq c d ≡ a → corner_eq d c ≡ b → a ≡ b
    by true true e f = refl
    by false false e f = refl
    by true false e f = absurd (true≢false (sym ((corner_eq-Decides d c).1 (sym ((corner_eq-Decides c d).0 e))) ∙ f))
    by false true e f = absurd (true≢false (sym ((corner_eq-Decides c d).1 (sym ((corner_eq-Decides d c).0 f))) ∙ e))

distinct_kept : (found sorted : List Corner) → IsPermutation found sorted → AreDistinct found → AreDistinct sorted
distinct_kept found sorted perm distinct =
    AllPairs-from_IsDistinct corner_eq-Decides sorted (IsDistinct-IsPermutation corner_eq eq_flips found sorted perm (IsDistinct-from_AllPairs corner_eq-Decides found distinct))

rises : (sorted : List Corner) → AreDistinct sorted → IsSortedBy comes_before sorted → AllPairs (λ c d. comes_before c d ≡ true) sorted
rises sorted distinct up i j d below within =
    comes_first (get_or sorted i d) (get_or sorted j d) (λ same. distinct i j d below within (one_corner (get_or sorted i d) (get_or sorted j d) same))
    (sorted_far comes_before order-IsStrictWeakOrder sorted up i j d (weaker i j below) within)
  where
    weaker : (i j : ℕ) → i < j → i ≤ j
    weaker i j h = omega (arith, h)

-- a sort by a closure that answers by the order of corners
pub sorted_by : {F : Type 0} {g : Mut F (Bor Corner × (Bor Corner × Unit {0})) Ordering} {f : F} (cs : List Corner) → ((lt : Corner → Corner → Bool) → IsStrictWeakOrder lt → ComparesAs g lt f → IsSortedBy lt cs)
    → ((a : Bor Corner × (Bor Corner × Unit {0})) (r : Ordering) (f' : F) → Called g f a r f' → (is_lt r ≡ comes_before a.0.now a.1.0.now) × (f' ≡ f)) → IsSortedBy comes_before cs
sorted_by {g = g} {f = f} cs sorted h = sorted comes_before order-IsStrictWeakOrder (always_returns_same g (λ a r. is_lt r ≡ comes_before a.0.now a.1.0.now) f h)

-- ---- the line
pub sorted-IsLineOf : (planes : List BookPlane) (cs : List Corner) (id : LineId) (found sorted : List Corner) → AreDistinct cs → found ≡ filter (lies_on_both planes id.first id.second) cs
    → IsPermutation found sorted → IsSortedBy comes_before sorted → IsLineOf planes cs id sorted
sorted-IsLineOf planes cs id found sorted distinct are perm up =
    let on = lies_on_both planes id.first id.second in
    record {
      all = λ c. (
        λ m.
            let r = member_filter on c cs (subst (Member c) are (contains_member c found (Contains-permutation sorted found c (IsPermutation-sym found sorted perm) m))) in
            (member_contains c cs r.0, r.1),
        λ h. Contains-permutation found sorted c perm (member_contains c found (subst (Member c) (sym are) (filter_member on c cs (contains_member c cs h.0) h.1))),
      );
      rising = rises sorted (distinct_kept found sorted perm (subst AreDistinct (sym are) (AllPairs-filter (λ c d. c ≢ d) on cs distinct))) up;
    }
