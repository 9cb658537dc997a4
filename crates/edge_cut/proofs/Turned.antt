-- Planes turned outwards, as four numbers.
use Rattle.std.proofs.Common.{◌≡◌, ℕ, ◌+◌, ◌<◌, ◌≤◌, ◌^◌, Bool, true, false, not, List, [], ◌∷◌, ◌++◌, Some, length, map, take, get_or, slice_get, ℤ, pos, neg_ℤ, ◌-ℤ◌, unsigned_abs, to_z, of_z, arith, refl, sym, ap, ◌∙◌, true≢false}
use Rattle.std.proofs.lemmas.Int.{ints}
use Rattle.std.proofs.lemmas.List.{take_more}
use mir.Syntax.{w128}
use Rattle.integer_laws.proofs.Computed.{Is, arg, again, difference}
use Rattle.spec_space.specs.declared.Plane.{Plane}
use Rattle.spec_space.specs.Points.{opposite}
use Rattle.plane_core.specs.declared.numbers.Plane.{Plane as BookPlane}
use Rattle.plane_core.specs.Views.{plane_of}
use Rattle.exact_mesh.specs.Meshes.{numbered_plane}
use Rattle.poly_frag.specs.Frags.{numbered, kept_side}
use Rattle.poly_frag.specs.declared.frag.Edge.{Edge}
use Rattle.edge_cut.specs.Seen.{outer_side}
use Rattle.edge_cut.proofs.Reversed.{map-append}

-- ---- the two sides of a plane
pub twice_opposite : (h : Plane) → h ≡ opposite (opposite h)
twice_opposite h = λ i. record { a = twice h.a i; b = twice h.b i; c = twice h.c i; d = twice h.d i }
  where
    twice : (x : ℤ) → x ≡ neg_ℤ (neg_ℤ x)
    twice x = omega (arith, ints)

pub other_kept : (keep : Bool) (h : Plane) → kept_side (not keep) h ≡ opposite (kept_side keep h)
other_kept true h = refl
other_kept false h = twice_opposite h

-- ---- four numbers that are computed
zero_is : Is (pos 0) (pos 0) 0
zero_is = record { is = refl; size = omega arith }

-- a number with its sign turned
pub turned_number : (a : ℤ) → unsigned_abs a ≤ 2 ^ 44 → to_z w128 (of_z w128 (pos 0 -ℤ to_z w128 (of_z w128 a))) ≡ neg_ℤ a
turned_number a small = (again (difference zero_is (arg a small tt)) tt).is ∙ minus a
  where
    minus : (a : ℤ) → pos 0 -ℤ a ≡ neg_ℤ a
    minus a = omega (arith, ints)

pub normal_size : (a : ℤ) → unsigned_abs a ≤ 2 ^ 26 → unsigned_abs a ≤ 2 ^ 44
normal_size a small = omega arith

pub turned_plane : (a b c d p q r s : ℤ) → a ≡ p → b ≡ q → c ≡ r → d ≡ s → numbered_plane (a ∷ (b ∷ (c ∷ (d ∷ [])))) ≡ record { a = p; b = q; c = r; d = s }
turned_plane a b c d p q r s ea eb ec ed = λ i. record { a = ea i; b = eb i; c = ec i; d = ed i }

-- seen from the back
pub seen_from_back : (front : Bool) (h x : Plane) → front ≡ false → x ≡ opposite h → x ≡ kept_side front h
seen_from_back true h x e f = absurd (true≢false e)
seen_from_back false h x e f = f

-- ---- the planes of the edges
pub next_plane : (planes : List BookPlane) (edges : List Edge) (i : ℕ) (d : Edge) (p : BookPlane) (before next : List (List ℤ)) (one : List ℤ)
    → i < length edges → slice_get planes (get_or edges i d).plane.k ≡ Some p → numbered_plane one ≡ kept_side (not (get_or edges i d).keep_front) (plane_of p)
    → next ≡ before ++ one ∷ [] → map numbered_plane before ≡ map (outer_side planes) (take i edges)
    → map numbered_plane next ≡ map (outer_side planes) (take (i + 1) edges)
next_plane planes edges i d p before next one below given outward items same =
    let e = get_or edges i d in
    let here : numbered_plane one ≡ outer_side planes e =
    outward ∙ ap (λ h. kept_side (not e.keep_front) h) (sym (ap numbered given)) ∙ other_kept e.keep_front (numbered (slice_get planes e.plane.k)) in
    ap (map numbered_plane) items
    ∙ map-append numbered_plane before (one ∷ [])
    ∙ ap (λ hs. hs ++ numbered_plane one ∷ []) same
    ∙ ap (λ h. map (outer_side planes) (take i edges) ++ h ∷ []) here
    ∙ sym (map-append (outer_side planes) (take i edges) (e ∷ []))
    ∙ ap (map (outer_side planes)) (sym (take_more edges i d below))
