-- The faces of a mesh on which a point that is alone on a plane of the element lies.
use Rattle.std.proofs.Common.{◌≡◌, ◌≢◌, inl, inr, ℕ, zero, suc, ◌<◌, Bool, true, false, true≢false, cond, List, [], ◌∷◌, Some, map, filter, length, slice_get, ℤ, pos, ◌<ℤ◌, ◌≤ℤ◌, refl, sym, ap, ap₂, ◌∙◌, subst, arith}
use Rattle.std.specs.Prelude.{if◌then◌else◌}
use Rattle.std.specs.List.{AllZip}
use Rattle.std.proofs.lemmas.Int.{ints}
use Rattle.std.proofs.lemmas.Option.{slice_get_within}
use Rattle.spec_space.specs.declared.Plane.{Plane}
use Rattle.spec_space.specs.declared.Point.{Point}
use Rattle.spec_space.specs.Points.{IsPoint, value, opposite}
use Rattle.spec_solid.specs.Planes.{IsPlaneOf, IsAlone, boundary_at}
use Rattle.spec_page.specs.Element.{Face}
use Rattle.spec_page.specs.Faces.{lies_on}
use Rattle.plane_core.specs.declared.numbers.Plane.{Plane as BookPlane}
use Rattle.plane_core.specs.declared.numbers.Corner.{Corner}
use Rattle.plane_core.specs.declared.book.PlaneId.{PlaneId}
use Rattle.plane_core.specs.Views.{plane_of}
use Rattle.plane_core.proofs.Laws.{one_number}
use Rattle.plane_core.proofs.Books.{same_plane}
use Rattle.grid_solid.specs.Bodies.{body_of}
use Rattle.grid_solid.specs.declared.solids.GridSolid.{GridSolid}
use Rattle.convex_cycles.proofs.Lists.{Each, each_from_all, all_from_each, each_weaker}
use Rattle.poly_frag.specs.Frags.{numbered, plane_at, kept_side, sides_of, support_of, IsInside}
use Rattle.line_turns.proofs.Neighbours.{neighbour}
use Rattle.tree_pool.specs.Trees.{IsPlaneOf as HasPlane}
use Rattle.face_walk.specs.declared.faces.OutFace.{OutFace}
use Rattle.face_walk.specs.Points.{holds}
use Rattle.face_walk.specs.Faces.{IsFace, IsInRange, IsAloneOn, is_true_at, outside_by, pieces_at}
use Rattle.edge_cut.specs.Cuts.{IsCutFaceOf}
use Rattle.edge_laws.proofs.Boundary.{holds_inside}
use Rattle.edge_laws.proofs.Points.{face_lies_on}
use Rattle.edge_laws.proofs.Room.{room_inside, range_room}
use Rattle.element_mesh.specs.Surfaces.{AreFacesOfBody}
use Rattle.element_mesh.proofs.Beside.{range_cases, out_of_range}
use Rattle.element_mesh.proofs.Meanings.{IsNumbered, numbered_cases, meaning, told_meaning, far_same, unnumbered_same}

same_flag : (a b : Bool) → (a ≡ true → b ≡ true) → (b ≡ true → a ≡ true) → a ≡ b
same_flag true b f g = sym (f refl)
same_flag false true f g = absurd (true≢false (sym (g refl)))
same_flag false false f g = refl

-- the plane of a piece with its normal outwards
abbrev pub outward : List BookPlane → OutFace → Plane
outward planes o = kept_side o.front_out (support_of planes o.frag)

-- ---- faces and pieces at a point
module _ (planes : List BookPlane) (corners : List Corner) (p : Point) where
  strictly_inside : (o : OutFace) → holds planes o.frag p ≡ true → IsInside planes o.frag p
  strictly_inside o e = let i = (holds_inside planes o.frag p).0 e in (i.0, all_from_each (λ h. pos 0 <ℤ value h p) (sides_of planes o.frag) i.1)

  inside_held : (o : OutFace) → IsInside planes o.frag p → holds planes o.frag p ≡ true
  inside_held o i = (holds_inside planes o.frag p).1 (i.0, each_from_all (λ h. pos 0 <ℤ value h p) (sides_of planes o.frag) i.1)

  lies_held : (o : OutFace) (f : Face) → IsCutFaceOf planes corners corners o f → lies_on f p ≡ holds planes o.frag p
  lies_held o f is = same_flag (lies_on f p) (holds planes o.frag p)
      (λ e. inside_held o ((face_lies_on planes p corners corners o f is).0 e))
      (λ e. (face_lies_on planes p corners corners o f is).1 (strictly_inside o e))

  abbrev face_planes : List Face → List Plane
  face_planes fs = map (λ f. f.plane) (filter (λ f. lies_on f p) fs)

  abbrev piece_planes : List OutFace → List Plane
  piece_planes os = map (outward planes) (filter (λ o. holds planes o.frag p) os)

  -- the planes of the faces on which the point lies are those of the pieces that have it strictly inside
  pub planes_there : (os : List OutFace) (fs : List Face) → AllZip (IsCutFaceOf planes corners corners) os fs → face_planes fs ≡ piece_planes os
  planes_there [] [] z = refl
  planes_there [] (f ∷ fs) z = absurd z
  planes_there (o ∷ os) [] z = absurd z
  planes_there (o ∷ os) (f ∷ fs) z =
      ap (λ b. map (λ (g : Face). g.plane) (cond b (f ∷ filter (λ f. lies_on f p) fs) (filter (λ f. lies_on f p) fs))) (lies_held o f z.0)
      ∙ by (holds planes o.frag p) (planes_there os fs z.1)
    where
      by : (b : Bool) → face_planes fs ≡ piece_planes os
          → map (λ (g : Face). g.plane) (cond b (f ∷ filter (λ f. lies_on f p) fs) (filter (λ f. lies_on f p) fs)) ≡ map (outward planes) (cond b (o ∷ filter (λ o. holds planes o.frag p) os) (filter (λ o. holds planes o.frag p) os))
      by true e = ap₂ (λ h hs. h ∷ hs) z.0.plane e
      by false e = e

  -- where each of these pieces lies on one plane, only the side that is outside counts
  pub one_plane : (h : Plane) (os : List OutFace) → Each (λ o. holds planes o.frag p ≡ true → support_of planes o.frag ≡ h) os → piece_planes os ≡ map (λ b. kept_side b h) (map (λ o. o.front_out) (pieces_at planes p os))
  one_plane h [] e = refl
  one_plane h (o ∷ os) e = by (holds planes o.frag p) refl (one_plane h os e.1)
    where
      rest : List OutFace
      rest = filter (λ o. holds planes o.frag p) os

      by : (b : Bool) → holds planes o.frag p ≡ b → map (outward planes) rest ≡ map (λ b. kept_side b h) (map (λ o. o.front_out) rest)
          → map (outward planes) (cond b (o ∷ rest) rest) ≡ map (λ b. kept_side b h) (map (λ o. o.front_out) (cond b (o ∷ rest) rest))
      by true here d = ap₂ (λ k ks. k ∷ ks) (ap (kept_side o.front_out) (e.0 here)) d
      by false here d = d

  -- no piece has the point strictly inside
  pub none_there : (os : List OutFace) → Each (λ o. holds planes o.frag p ≡ true → ⊥) os → pieces_at planes p os ≡ []
  none_there [] e = refl
  none_there (o ∷ os) e = by (holds planes o.frag p) refl (none_there os e.1)
    where
      rest : List OutFace
      rest = filter (λ o. holds planes o.frag p) os

      by : (b : Bool) → holds planes o.frag p ≡ b → rest ≡ [] → cond b (o ∷ rest) rest ≡ []
      by true here d = absurd (e.0 here)
      by false here d = d

-- ---- the boundary of an element by the sides that are outside
boundary_by : (front back : Bool) (h : Plane) → map (λ b. kept_side b h) (outside_by front back) ≡ (if back then (if front then [] else h ∷ []) else (if front then opposite h ∷ [] else []))
boundary_by true true h = refl
boundary_by true false h = refl
boundary_by false true h = refl
boundary_by false false h = refl

none_outside : (front back : Bool) → front ≡ back → outside_by front back ≡ []
none_outside true true e = refl
none_outside true false e = absurd (true≢false e)
none_outside false true e = absurd (true≢false (sym e))
none_outside false false e = refl

pub given_plane : (planes : List BookPlane) (k : ℕ) → k < length planes → (b : BookPlane) × (slice_get planes k ≡ Some b)
given_plane [] k h = absurd (omega (arith, h))
given_plane (b ∷ bs) zero h = (b, refl)
given_plane (b ∷ bs) (suc k) h = given_plane bs k (omega (arith, h))

module _ (planes : List BookPlane) (s : GridSolid) (pieces : List OutFace) (of : AreFacesOfBody planes (body_of s) pieces) (h : Plane) (p : Point) (point : IsPoint p) (alone : IsAlone (body_of s) h p) where
  abbrev mean : Bool → Bool
  mean a = meaning planes s of.tree of.means h p point alone a

  -- the plane of a number of the tree on which the point lies is h
  own_plane : (k : ℕ) → HasPlane k of.tree → (b : BookPlane) → slice_get planes k ≡ Some b → value (plane_of b) p ≡ pos 0 → plane_of b ≡ h
  own_plane k has b at on = by (of.means.among k has)
    where
      same_some : (c d : BookPlane) → Some c ≡ Some d → c ≡ d
      same_some c d e = cc

      by : ((c : BookPlane) × (slice_get planes k ≡ Some c) × IsPlaneOf (body_of s) (plane_of c)) → plane_of b ≡ h
      by (c, at_c, is) = alone.2 (plane_of b) (subst (λ x. IsPlaneOf (body_of s) (plane_of x)) (same_some c b (sym at_c ∙ at)) is) on

  support_there : (o : OutFace) → IsFace planes of.tree o → (b : BookPlane) × (slice_get planes o.frag.support.k ≡ Some b)
  support_there o is = given_plane planes o.frag.support.k is.fragment.cycle.support_given

  -- a piece that has the point strictly inside lies on h
  held_support : (o : OutFace) → IsFace planes of.tree o → holds planes o.frag p ≡ true → support_of planes o.frag ≡ h
  held_support o is e =
      let b = support_there o is in
      let same = ap numbered b.1 in
      same ∙ own_plane o.frag.support.k is.support b.0 b.1 (subst (λ k. value k p ≡ pos 0) same (strictly_inside planes [] p o e).0)

  held_numbered : (o : OutFace) → IsFace planes of.tree o → holds planes o.frag p ≡ true → IsNumbered planes h
  held_numbered o is e =
      let b = support_there o is in
      (o.frag.support.k, b.0, b.1, sym (ap numbered b.1) ∙ held_support o is e)

  held_in_range : (o : OutFace) → IsFace planes of.tree o → holds planes o.frag p ≡ true → IsInRange p
  held_in_range o is e =
      let i = strictly_inside planes [] p o e in
      is.in_range p point (i.0, all_from_each (λ k. pos 0 ≤ℤ value k p) (sides_of planes o.frag) (each_weaker (λ k. pos 0 <ℤ value k p) (λ k. pos 0 ≤ℤ value k p) (λ k up. weaker (value k p) up) (sides_of planes o.frag) (each_from_all (λ k. pos 0 <ℤ value k p) (sides_of planes o.frag) i.1)))
    where
      weaker : (x : ℤ) → pos 0 <ℤ x → pos 0 ≤ℤ x
      weaker x up = omega (arith, ints)

  are : Each (IsFace planes of.tree) pieces
  are = each_from_all (IsFace planes of.tree) pieces of.faces.faces

  abbrev shown : List Bool
  shown = map (λ o. o.front_out) (pieces_at planes p pieces)

  -- where no meaning differs no piece has the point
  unshown : mean true ≡ mean false → Each (λ o. holds planes o.frag p ≡ true → ⊥) pieces → shown ≡ outside_by (mean true) (mean false)
  unshown same none = ap (map (λ o. o.front_out)) (none_there planes [] p pieces none) ∙ sym (none_outside (mean true) (mean false) same)

  alone_on : (k : ℕ) (b : BookPlane) → slice_get planes k ≡ Some b → plane_of b ≡ h → IsInRange p → IsAloneOn planes of.tree (record { k = k }) p
  alone_on k b at same r = record {
    is_point = point;
    in_cube = room_inside p (range_room p point r);
    on = subst (λ g. value g p ≡ pos 0) (sym (ap numbered at ∙ same)) alone.1;
    off = λ other has apart zero_there. by other has apart zero_there (of.means.among other.k has);
  }
    where
      numbers_same : (c d : BookPlane) → plane_of c ≡ plane_of d → c ≡ d
      numbers_same c d e = same_plane c d (ap (λ g. g.a) e) (ap (λ g. g.b) e) (ap (λ g. g.c) e) (ap (λ g. g.d) e)

      by : (other : PlaneId) → HasPlane other.k of.tree → other.k ≢ k → value (plane_at planes other) p ≡ pos 0 → ((c : BookPlane) × (slice_get planes other.k ≡ Some c) × IsPlaneOf (body_of s) (plane_of c)) → ⊥
      by other has apart zero_there (c, at_c, is) =
          let here : plane_of c ≡ h = own_plane other.k has c at_c (subst (λ g. value g p ≡ pos 0) (ap numbered at_c) zero_there) in
          apart (one_number planes other.k k b of.distinct (at_c ∙ ap Some (numbers_same c b (here ∙ sym same))) at)

  numbered_shown : IsInRange p → IsNumbered planes h → shown ≡ outside_by (mean true) (mean false)
  numbered_shown r (k, b, at, same) =
      of.faces.boundary (record { k = k }) (slice_get_within planes k b at) p (alone_on k b at same r)
      ∙ ap (λ g. outside_by (is_true_at planes of.tree (neighbour true g p)) (is_true_at planes of.tree (neighbour false g p))) (ap numbered at ∙ same)
      ∙ ap₂ outside_by (told_meaning planes s of.tree of.means h p point alone true r) (told_meaning planes s of.tree of.means h p point alone false r)

  all_shown : shown ≡ outside_by (mean true) (mean false)
  all_shown = elim (range_cases p) [
    | inr out ↦ unshown (far_same planes s of.tree of.means h p point alone out) (each_weaker (IsFace planes of.tree) (λ o. holds planes o.frag p ≡ true → ⊥) (λ o is e. out_of_range p out (held_in_range o is e)) pieces are)
    | inl r ↦ elim (numbered_cases planes h) [
      | inl there ↦ numbered_shown r there
      | inr none ↦ unshown (unnumbered_same planes s of.tree of.means h p point alone r none) (each_weaker (IsFace planes of.tree) (λ o. holds planes o.frag p ≡ true → ⊥) (λ o is e. none (held_numbered o is e)) pieces are)
    ]
  ]

  -- a point alone on a plane of the element lies on one face, turned outwards, where the meaning differs across the plane there,
  -- and on none otherwise
  pub boundary_shown : (corners : List Corner) (faces : List Face) → AllZip (IsCutFaceOf planes corners corners) pieces faces → map (λ f. f.plane) (filter (λ f. lies_on f p) faces) ≡ boundary_at (body_of s) h p
  boundary_shown corners faces cut =
      planes_there planes corners p pieces faces cut
      ∙ one_plane planes corners p h pieces (each_weaker (IsFace planes of.tree) (λ o. holds planes o.frag p ≡ true → support_of planes o.frag ≡ h) (λ o is. held_support o is) pieces are)
      ∙ ap (map (λ b. kept_side b h)) all_shown
      ∙ boundary_by (mean true) (mean false) h
