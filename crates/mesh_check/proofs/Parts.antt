-- What is found of the parts of an element, as what is found of the element.
use Rattle.std.proofs.Common.{◌≡◌, ℕ, ◌+◌, ◌<◌, true, false, ℤ, Option, Some, None, List, [], ◌∷◌, map, length, get_or, All, refl, sym, ap, subst, ◌∙◌, arith}
use Rattle.std.specs.Option.{MatchOption}
use Rattle.std.proofs.lemmas.List.{length-map}
use Rattle.std.proofs.lemmas.List.Elements.{All-nil, All-cons, All-head, All-tail}
use Rattle.std.proofs.Math.ListN.{get_or-map}
use Rattle.spec_num.specs.Words.{within_128_bits}
use Rattle.spec_place.specs.Transforms.{IsFrame}
use Rattle.spec_page.specs.declared.Corner.{Corner as PageCorner}
use Rattle.spec_page.specs.Element.{Face, Element}
use Rattle.spec_page.specs.Faces.{IsSound}
use Rattle.spec_page.specs.World.{printed_volume}
use Rattle.spec_check.specs.Limits.{IsPageGrid, IsElementWithin, IsFaceWithin}
use Rattle.spec_headline.specs.Reduced.{IsCornerWithin}
use Rattle.spec_check.specs.Verdicts.{IsNearImage, IsBalanced, IsFlat, IsFarCorner, IsFaultyFace, Holds, Fails, IsUnbalanced, HasWrongVolume, IsSoundElement}
use Rattle.plane_core.specs.declared.numbers.Corner.{Corner}
use Rattle.plane_core.specs.Views.{point_of}
use Rattle.exact_mesh.specs.declared.mesh.MeshFace.{MeshFace}
use Rattle.exact_mesh.specs.Meshes.{face_of, mesh_volume}
use Rattle.exact_mesh.specs.Ranges.{AreNear}
use Rattle.exact_mesh.proofs.Prints.{printed_volume_is}
use Rattle.world_print.specs.Ranges.{IsStep, IsOnGrid, IsPrintable}
use Rattle.world_print.specs.Elements.{page_corners}
use Rattle.world_print.proofs.Prints.{exact_corners, printed_corners}
use Rattle.obj_file.specs.declared.element.ObjElement.{ObjElement}
use Rattle.obj_file.specs.Items.{element_of}
use Rattle.edge_balance.specs.Balance.{IsLeastUnbalanced}
use Rattle.face_check.specs.Sizes.{IsSizedFace}
use Rattle.face_check.specs.Sound.{is_flat, is_sound, first_not}
use Rattle.face_check.proofs.Members.{image_of}
use Rattle.face_check.proofs.Sounds.{flat_decides, sound_decides, faces_sized}
use Rattle.mesh_check.specs.Near.{page_corner, is_near}
use Rattle.mesh_check.proofs.Nearest.{near_decides}
use Rattle.mesh_check.proofs.Found.{IsFound, all_hold, found, member_at, member_below}
use Rattle.mesh_check.proofs.Pairs.{pair_below}
use Rattle.mesh_check.proofs.Offsets.{are_near}

-- ---- corners of a page, and their parts
pub corners_count : (cs : List Corner) (vs : List (List ℤ)) → length vs ≡ length cs → length (page_corners cs vs) ≡ length cs
corners_count cs vs e = sym (length-map (page_corners cs vs) (λ (c : PageCorner). c.exact)) ∙ ap length (exact_corners cs vs e) ∙ length-map cs point_of

each_on_grid : (cs : List Corner) (vs : List (List ℤ)) → length vs ≡ length cs → All IsCornerWithin (page_corners cs vs) → All IsOnGrid cs
each_on_grid [] vs e h = All-nil IsOnGrid
each_on_grid (c ∷ cs) [] e h = cc
each_on_grid (c ∷ cs) (v ∷ vs) e h =
    let one = (All-head IsCornerWithin (page_corner c v) (page_corners cs vs) h).0 in
    All-cons IsOnGrid c cs (record { x = one.reach.x; y = one.reach.y; z = one.reach.z }) (each_on_grid cs vs (omega arith) (All-tail IsCornerWithin (page_corner c v) (page_corners cs vs) h))

each_printable : (cs : List Corner) (vs : List (List ℤ)) → length vs ≡ length cs → All IsCornerWithin (page_corners cs vs) → All IsPrintable vs
each_printable cs [] e h = All-nil IsPrintable
each_printable [] (v ∷ vs) e h = cc
each_printable (c ∷ cs) (v ∷ vs) e h =
    All-cons IsPrintable v vs (All-head IsCornerWithin (page_corner c v) (page_corners cs vs) h).1
    (each_printable cs vs (omega arith) (All-tail IsCornerWithin (page_corner c v) (page_corners cs vs) h))

each_place : (n : ℕ) (fs : List MeshFace) → All (IsFaceWithin n) (map face_of fs) → All (λ f. All (λ i. i < n) f.corners.items) fs
each_place n [] h = All-nil (λ (f : MeshFace). All (λ i. i < n) f.corners.items)
each_place n (f ∷ fs) h =
    All-cons (λ (f : MeshFace). All (λ i. i < n) f.corners.items) f fs (All-head (IsFaceWithin n) (face_of f) (map face_of fs) h).within
    (each_place n fs (All-tail (IsFaceWithin n) (face_of f) (map face_of fs) h))

each_round : (n : ℕ) (fs : List Face) → All (IsFaceWithin n) fs → All (λ f. All (λ i. i < n) f.corners) fs
each_round n [] h = All-nil (λ (f : Face). All (λ i. i < n) f.corners)
each_round n (f ∷ fs) h =
    All-cons (λ (f : Face). All (λ i. i < n) f.corners) f fs (All-head (IsFaceWithin n) f fs h).within (each_round n fs (All-tail (IsFaceWithin n) f fs h))

-- ---- what is known of an optional pair
pub at_none : (r : Option (ℕ × ℕ)) (P : Type 0) (Q : ℕ × ℕ → Type 0) → MatchOption r P Q → r ≡ None → P
at_none r P Q h e = subst (λ x. MatchOption x P Q) e h

pub at_some : (r : Option (ℕ × ℕ)) (P : Type 0) (Q : ℕ × ℕ → Type 0) (p : ℕ × ℕ) → MatchOption r P Q → r ≡ Some p → Q p
at_some r P Q p h e = subst (λ x. MatchOption x P Q) e h

-- ---- an element of a page
module _ (grid : ℕ) (range : IsPageGrid grid) (o : ObjElement) (kept : IsElementWithin (element_of o)) (paired : length o.printed.items ≡ length o.corners.items) where
  abbrev pub e : Element
  e = element_of o

  abbrev cs : List Corner
  cs = o.corners.items

  abbrev vs : List (List ℤ)
  vs = o.printed.items

  abbrev fs : List Face
  fs = map face_of o.faces.items

  pub step : IsStep grid
  step = record { least = range.least; most = range.most }

  count : length e.corners ≡ length cs
  count = corners_count cs vs paired

  pub on_grid : All IsOnGrid cs
  on_grid = each_on_grid cs vs paired kept.corners

  pub printable : All IsPrintable vs
  printable = each_printable cs vs paired kept.corners

  faces_kept : All (IsFaceWithin (length cs)) fs
  faces_kept = subst (λ n. All (IsFaceWithin n) fs) count kept.faces

  pub sized : All (IsSizedFace (length cs)) fs
  sized = faces_sized (length cs) fs faces_kept

  pub places : All (λ f. All (λ i. i < length vs) f.corners.items) o.faces.items
  places = each_place (length vs) o.faces.items (subst (λ n. All (IsFaceWithin n) fs) (count ∙ sym paired) kept.faces)

  pub face_sized : (m : ℕ) (f : MeshFace) → m < length o.faces.items → f ≡ get_or o.faces.items m f → IsSizedFace (length cs) (face_of f)
  face_sized m f below is = image_of (IsSizedFace (length cs)) face_of o.faces.items m f sized below is

  -- ---- corners
  trivial : (xs : List PageCorner) → All (λ (c : PageCorner). Unit {0}) xs
  trivial [] = All-nil (λ (c : PageCorner). Unit {0})
  trivial (x ∷ xs) = All-cons (λ (c : PageCorner). Unit {0}) x xs tt (trivial xs)

  abbrev pub AreNearImages : Type 0
  AreNearImages = All (IsNearImage e.frame grid) e.corners

  pub none_far : None ≡ first_not (is_near o.frame grid) 0 (page_corners cs vs) → AreNearImages
  none_far h = all_hold (is_near o.frame grid) (λ c. Unit {0}) (IsNearImage o.frame grid) (λ c _. near_decides o.frame grid c) 0 (page_corners cs vs) (trivial (page_corners cs vs)) (sym h)

  far_found : (m : ℕ) → Some m ≡ first_not (is_near o.frame grid) 0 (page_corners cs vs) → IsFound (IsNearImage o.frame grid) 0 m (page_corners cs vs)
  far_found m h = found (is_near o.frame grid) (λ c. Unit {0}) (IsNearImage o.frame grid) (λ c _. near_decides o.frame grid c) 0 m (page_corners cs vs) (trivial (page_corners cs vs)) (sym h)

  pub far_below : (m : ℕ) → Some m ≡ first_not (is_near o.frame grid) 0 (page_corners cs vs) → m < length cs
  far_below m h =
      let f = far_found m h in
      below m (length f.before) (length e.corners) (length cs) f.place (member_below e.corners f.before f.member f.after f.first.split) count
    where
      below : (m k n j : ℕ) → m ≡ 0 + k → k < n → n ≡ j → m < j
      below m k n j a b c = omega arith

  pub is_far : (m v : ℕ) → Some m ≡ first_not (is_near o.frame grid) 0 (page_corners cs vs) → v ≡ o.before + m + 1 → IsFarCorner grid o.before e v
  is_far m v h named =
      let f = far_found m h in
      record { before = f.before; corner = f.member; after = f.after; first = f.first; named = place v o.before m (length f.before) named f.place }
    where
      place : (v n m k : ℕ) → v ≡ n + m + 1 → m ≡ 0 + k → v ≡ n + k + 1
      place v n m k a b = omega arith

  -- ---- faces
  exact : map (λ (c : PageCorner). c.exact) e.corners ≡ map point_of cs
  exact = exact_corners cs vs paired

  pub all_sound : None ≡ first_not (is_sound cs) 0 fs → All (IsSound e) e.faces
  all_sound h = all_hold (is_sound cs) (IsFaceWithin (length e.corners)) (IsSound e) (λ f k. sound_decides e cs exact f k) 0 fs kept.faces (sym h)

  faulty : (m : ℕ) → Some m ≡ first_not (is_sound cs) 0 fs → IsFound (IsSound e) 0 m fs
  faulty m h = found (is_sound cs) (IsFaceWithin (length e.corners)) (IsSound e) (λ f k. sound_decides e cs exact f k) 0 m fs kept.faces (sym h)

  pub faulty_below : (m : ℕ) → Some m ≡ first_not (is_sound cs) 0 fs → m < length o.faces.items
  faulty_below m h =
      let f = faulty m h in
      below m (length f.before) (length fs) (length o.faces.items) f.place (member_below fs f.before f.member f.after f.first.split) (length-map o.faces.items face_of)
    where
      below : (m k n j : ℕ) → m ≡ 0 + k → k < n → n ≡ j → m < j
      below m k n j a b c = omega arith

  -- the face that was looked at
  same_face : (m : ℕ) (h : Some m ≡ first_not (is_sound cs) 0 fs) (f : MeshFace) → f ≡ get_or o.faces.items m f → face_of f ≡ (faulty m h).member
  same_face m h f is =
      let g = faulty m h in
      ap face_of is ∙ sym (get_or-map face_of o.faces.items m f) ∙ ap (λ k. get_or fs k (face_of f)) (zero_more m (length g.before) g.place) ∙ member_at fs g.before g.member g.after (face_of f) g.first.split
    where
      zero_more : (m k : ℕ) → m ≡ 0 + k → m ≡ k
      zero_more m k e = omega arith

  named_face : (n before m k : ℕ) → n ≡ before + m + 1 → m ≡ 0 + k → n ≡ before + k + 1
  named_face n before m k a b = omega arith

  pub is_bent : (before m n : ℕ) (f : MeshFace) → AreNearImages → Some m ≡ first_not (is_sound cs) 0 fs → f ≡ get_or o.faces.items m f → is_flat cs (face_of f) ≡ true → n ≡ before + m + 1
      → IsFaultyFace Holds grid before e n
  is_bent before m n f near h is flat named =
      let g = faulty m h in
      record {
        near = near;
        before = g.before;
        face = g.member;
        after = g.after;
        first = g.first;
        flat = subst (IsFlat e) (same_face m h f is) ((flat_decides e cs exact (face_of f)).0 flat);
        named = named_face n before m (length g.before) named g.place;
      }

  pub is_off : (before m n : ℕ) (f : MeshFace) → AreNearImages → Some m ≡ first_not (is_sound cs) 0 fs → f ≡ get_or o.faces.items m f → is_flat cs (face_of f) ≡ false → n ≡ before + m + 1
      → IsFaultyFace Fails grid before e n
  is_off before m n f near h is flat named =
      let g = faulty m h in
      record {
        near = near;
        before = g.before;
        face = g.member;
        after = g.after;
        first = g.first;
        flat = λ on. no (sym ((flat_decides e cs exact (face_of f)).1 (subst (IsFlat e) (sym (same_face m h f is)) on)) ∙ flat);
        named = named_face n before m (length g.before) named g.place;
      }
    where
      no : true ≡ false → ⊥
      no e = cc

  -- ---- pairs of places
  pub pair_within : (u v : ℕ) → IsLeastUnbalanced fs u v → (u < length cs) × (v < length cs)
  pair_within u v least = pair_below (length cs) fs u v (each_round (length cs) fs faces_kept) least.fails

  pub is_unbalanced : (i j u v : ℕ) → AreNearImages → All (IsSound e) e.faces → IsLeastUnbalanced fs i j → u ≡ o.before + i + 1 → v ≡ o.before + j + 1 → IsUnbalanced grid o.before e u v
  is_unbalanced i j u v near sound least first second = record {
    near = near;
    faces = sound;
    from = i;
    to = j;
    fails = least.fails;
    least = least.least;
    first_named = first;
    second_named = second;
  }

  -- ---- the volume
  pub near_printed : AreNearImages → IsFrame o.frame → AreNear vs
  near_printed near frame = are_near o.frame grid frame step cs vs paired on_grid near

  volume_is : within_128_bits (mesh_volume vs o.faces.items) ≡ within_128_bits (printed_volume e)
  volume_is = ap within_128_bits (sym (printed_volume_is e vs o.faces.items (printed_corners cs vs paired) refl))

  pub has_wrong_volume : AreNearImages → All (IsSound e) e.faces → IsBalanced e → (o.six ≡ within_128_bits (mesh_volume vs o.faces.items) → ⊥) → HasWrongVolume grid e o.number
  has_wrong_volume near sound balanced wrong = record {
    near = near;
    faces = sound;
    balanced = balanced;
    volume = λ h. wrong (h ∙ sym volume_is);
    named = refl;
  }

  pub is_sound_element : AreNearImages → All (IsSound e) e.faces → IsBalanced e → o.six ≡ within_128_bits (mesh_volume vs o.faces.items) → IsSoundElement grid e
  is_sound_element near sound balanced right = record { near = near; faces = sound; balanced = balanced; volume = right ∙ volume_is }
