-- The walk over the items of a page, element by element.
use Rattle.std.proofs.Common.{◌≡◌, ℕ, zero, suc, ◌+◌, ◌<◌, ◌≤◌, List, [], ◌∷◌, ◌++◌, map, length, get_or, take, drop, drop-cons, add-one, append-nil, All, refl, sym, ap, subst, ◌∙◌, arith}
use Rattle.std.specs.List.{sum_by}
use Rattle.std.proofs.lemmas.List.{take_more, take_all, take-append-drop, length-map}
use Rattle.std.proofs.lemmas.List.Sums.{sum_by-cons, sum_by-append}
use Rattle.std.proofs.lemmas.List.Elements.{All-nil, All-head, All-tail, All-push}
use Rattle.spec_page.specs.Element.{Element}
use Rattle.spec_page.specs.Items.{Item, Printed, Skipped, Refused, corner_count, face_count}
use Rattle.spec_check.specs.Limits.{IsItemWithin}
use Rattle.spec_check.specs.Verdicts.{IsSoundElement, IsFaultOf, IsFirstFault, IsVerdict, elements_in}
use Rattle.spec_check.specs.declared.Verdict.{Verdict}
use Rattle.spec_check.specs.declared.Verdict.TheVariants.{Sound, FarCorner, OffPlane, NotConvex, Unbalanced, WrongVolume}
use Rattle.exact_mesh.specs.Meshes.{face_of}
use Rattle.obj_file.specs.declared.element.ObjElement.{ObjElement}
use Rattle.obj_file.specs.declared.item.ObjItem.{ObjItem}
use Rattle.obj_file.specs.declared.item.ObjItem.TheVariants as read
use Rattle.obj_file.specs.Items.{element_of, item_of}
use Rattle.obj_file.specs.Files.{AreCounted}
use Rattle.mesh_check.specs.Outcomes.{IsOutcome}
use Rattle.mesh_check.proofs.Parts.{corners_count}

-- ---- lists of items
elements_append : (xs ys : List Item) → elements_in (xs ++ ys) ≡ elements_in xs ++ elements_in ys
elements_append [] ys = refl
elements_append (Printed e ∷ xs) ys = ap (λ zs. e ∷ zs) (elements_append xs ys)
elements_append (Skipped n ∷ xs) ys = elements_append xs ys
elements_append (Refused n why ∷ xs) ys = elements_append xs ys

map-append : {X Y : Type 0} (f : X → Y) (xs ys : List X) → map f (xs ++ ys) ≡ map f xs ++ map f ys
map-append f [] ys = refl
map-append f (x ∷ xs) ys = ap (λ zs. f x ∷ zs) (map-append f xs ys)

abbrev pub corners_in : List Element → ℕ
corners_in es = sum_by (λ e. length e.corners) es

abbrev pub faces_in : List Element → ℕ
faces_in es = sum_by (λ e. length e.faces) es

zero_more : (n : ℕ) → 0 + n ≡ n
zero_more n = omega arith

corners_counted : (is : List Item) → sum_by corner_count is ≡ corners_in (elements_in is)
corners_counted [] = refl
corners_counted (Printed e ∷ is) = sum_by-cons corner_count (Printed e) is ∙ ap (λ n. length e.corners + n) (corners_counted is) ∙ sym (sum_by-cons (λ (e : Element). length e.corners) e (elements_in is))
corners_counted (Skipped n ∷ is) = sum_by-cons corner_count (Skipped n) is ∙ zero_more (sum_by corner_count is) ∙ corners_counted is
corners_counted (Refused n why ∷ is) = sum_by-cons corner_count (Refused n why) is ∙ zero_more (sum_by corner_count is) ∙ corners_counted is

faces_counted : (is : List Item) → sum_by face_count is ≡ faces_in (elements_in is)
faces_counted [] = refl
faces_counted (Printed e ∷ is) = sum_by-cons face_count (Printed e) is ∙ ap (λ n. length e.faces + n) (faces_counted is) ∙ sym (sum_by-cons (λ (e : Element). length e.faces) e (elements_in is))
faces_counted (Skipped n ∷ is) = sum_by-cons face_count (Skipped n) is ∙ zero_more (sum_by face_count is) ∙ faces_counted is
faces_counted (Refused n why ∷ is) = sum_by-cons face_count (Refused n why) is ∙ zero_more (sum_by face_count is) ∙ faces_counted is

-- ---- the walk
module _ (grid : ℕ) (items : List ObjItem) where
  abbrev pub all : List Element
  all = elements_in (map item_of items)

  abbrev pub done : ℕ → List Element
  done i = elements_in (map item_of (take i items))

  abbrev left : ℕ → List Element
  left i = elements_in (map item_of (drop i items))

  -- the elements of the first i items are sound, and have so many faces; those that follow tell how many corners stand before them
  pub record IsWalked (i faces : ℕ) : Type 0 where
    pub sound : All (IsSoundElement grid) (done i)
    pub faces_so_far : faces ≡ faces_in (done i)
    pub counted : AreCounted (corners_in (done i)) (drop i items)

  pub at_start : AreCounted 0 items → IsWalked 0 0
  at_start h = record { sound = All-nil (IsSoundElement grid); faces_so_far = refl; counted = h }

  pub at_end : (i faces : ℕ) → length items ≤ i → IsWalked i faces → All (IsSoundElement grid) all
  at_end i faces past w = subst (λ is. All (IsSoundElement grid) (elements_in (map item_of is))) (take_all i items past) w.sound

  module _ (i : ℕ) (x : ObjItem) (below : i < length items) (at : x ≡ get_or items i x) where
    taken : take (i + 1) items ≡ take i items ++ x ∷ []
    taken = take_more items i x below ∙ ap (λ y. take i items ++ y ∷ []) (sym at)

    dropped : drop i items ≡ x ∷ drop (i + 1) items
    dropped = step items i x below ∙ ap (λ y. y ∷ drop (i + 1) items) (sym at)
      where
        step : (xs : List ObjItem) (i : ℕ) (d : ObjItem) → i < length xs → drop i xs ≡ get_or xs i d ∷ drop (i + 1) xs
        step xs i d h = rw add-one (drop-cons xs i d h)

    done_more : done (i + 1) ≡ done i ++ elements_in (item_of x ∷ [])
    done_more = ap (λ is. elements_in (map item_of is)) taken ∙ ap elements_in (map-append item_of (take i items) (x ∷ [])) ∙ elements_append (map item_of (take i items)) (item_of x ∷ [])

    counted_at : (n : ℕ) → AreCounted n (drop i items) → AreCounted n (x ∷ drop (i + 1) items)
    counted_at n h = subst (AreCounted n) dropped h

    whole : all ≡ done i ++ elements_in (item_of x ∷ map item_of (drop (i + 1) items))
    whole =
        ap (λ is. elements_in (map item_of is)) (sym (take-append-drop i items) ∙ ap (λ ys. take i items ++ ys) dropped)
        ∙ ap elements_in (map-append item_of (take i items) (x ∷ drop (i + 1) items)) ∙ elements_append (map item_of (take i items)) (item_of x ∷ map item_of (drop (i + 1) items))

    pub kept_at : All IsItemWithin (map item_of items) → IsItemWithin (item_of x)
    kept_at h = subst (λ y. IsItemWithin (item_of y)) (sym at) (one items i x h below)
      where
        one : (xs : List ObjItem) (i : ℕ) (d : ObjItem) → All IsItemWithin (map item_of xs) → i < length xs → IsItemWithin (item_of (get_or xs i d))
        one [] i d h below = absurd (omega arith)
        one (y ∷ ys) zero d h below = All-head IsItemWithin (item_of y) (map item_of ys) h
        one (y ∷ ys) (suc i) d h below = one ys i d (All-tail IsItemWithin (item_of y) (map item_of ys) h) (omega arith)

  -- ---- an item that is no element
  past_skipped : (i n faces : ℕ) → i < length items → read.Skipped n ≡ get_or items i (read.Skipped n) → IsWalked i faces → IsWalked (i + 1) faces
  past_skipped i n faces below at w =
      let same : done (i + 1) ≡ done i = done_more i (read.Skipped n) below at ∙ append-nil (done i) in
      record {
        sound = subst (All (IsSoundElement grid)) (sym same) w.sound;
        faces_so_far = w.faces_so_far ∙ ap faces_in (sym same);
        counted = subst (λ es. AreCounted (corners_in es) (drop (i + 1) items)) (sym same) (counted_at i (read.Skipped n) below at (corners_in (done i)) w.counted);
      }

  past_refused : (i n faces : ℕ) (why : _) → i < length items → read.Refused n why ≡ get_or items i (read.Refused n why) → IsWalked i faces → IsWalked (i + 1) faces
  past_refused i n faces why below at w =
      let same : done (i + 1) ≡ done i = done_more i (read.Refused n why) below at ∙ append-nil (done i) in
      record {
        sound = subst (All (IsSoundElement grid)) (sym same) w.sound;
        faces_so_far = w.faces_so_far ∙ ap faces_in (sym same);
        counted = subst (λ es. AreCounted (corners_in es) (drop (i + 1) items)) (sym same) (counted_at i (read.Refused n why) below at (corners_in (done i)) w.counted);
      }

  pub past_other : (i faces : ℕ) (x : ObjItem) → i < length items → x ≡ get_or items i x → ((o : ObjElement) → x ≡ read.Printed o → ⊥) → IsWalked i faces → IsWalked (i + 1) faces
  past_other i faces (read.Printed o) below at other w = absurd (other o refl)
  past_other i faces (read.Skipped n) below at other w = past_skipped i n faces below at w
  past_other i faces (read.Refused n why) below at other w = past_refused i n faces why below at w

  -- ---- an element
  module _ (i faces : ℕ) (o : ObjElement) (below : i < length items) (at : read.Printed o ≡ get_or items i (read.Printed o)) (w : IsWalked i faces) where
    counts : AreCounted (corners_in (done i)) (read.Printed o ∷ drop (i + 1) items)
    counts = counted_at i (read.Printed o) below at (corners_in (done i)) w.counted

    split : all ≡ done i ++ element_of o ∷ elements_in (map item_of (drop (i + 1) items))
    split = whole i (read.Printed o) below at

    corner_sum : corners_in all ≡ corners_in (done i) + (length (element_of o).corners + corners_in (left (i + 1)))
    corner_sum = ap corners_in split ∙ sum_by-append (λ (e : Element). length e.corners) (done i) (element_of o ∷ left (i + 1)) ∙ ap (λ n. corners_in (done i) + n) (sum_by-cons (λ (e : Element). length e.corners) (element_of o) (left (i + 1)))

    face_sum : faces_in all ≡ faces_in (done i) + (length (element_of o).faces + faces_in (left (i + 1)))
    face_sum = ap faces_in split ∙ sum_by-append (λ (e : Element). length e.faces) (done i) (element_of o ∷ left (i + 1)) ∙ ap (λ n. faces_in (done i) + n) (sum_by-cons (λ (e : Element). length e.faces) (element_of o) (left (i + 1)))

    pub few_corners : (n : ℕ) → sum_by corner_count (map item_of items) ≤ n → o.before + length o.corners.items ≤ n
    few_corners n h = least (corners_in (done i)) (length (element_of o).corners) (corners_in (left (i + 1))) o.before (length o.corners.items) (sum_by corner_count (map item_of items)) n h
        (corners_counted (map item_of items) ∙ corner_sum) counts.0 (corners_count o.corners.items o.printed.items o.paired)
      where
        least : (a b c d e m n : ℕ) → m ≤ n → m ≡ a + (b + c) → d ≡ a → b ≡ e → d + e ≤ n
        least a b c d e m n h s x y = omega arith

    pub few_faces : (n : ℕ) → sum_by face_count (map item_of items) ≤ n → faces + length o.faces.items ≤ n
    few_faces n h = least (faces_in (done i)) (length (element_of o).faces) (faces_in (left (i + 1))) faces (length o.faces.items) (sum_by face_count (map item_of items)) n h
        (faces_counted (map item_of items) ∙ face_sum) w.faces_so_far (length-map o.faces.items face_of)
      where
        least : (a b c d e m n : ℕ) → m ≤ n → m ≡ a + (b + c) → d ≡ a → b ≡ e → d + e ≤ n
        least a b c d e m n h s x y = omega arith

    fault : (v : Verdict) → IsFaultOf grid o.before faces (element_of o) v → IsFirstFault grid all v
    fault v h = record {
      before = done i;
      element = element_of o;
      after = left (i + 1);
      split = split;
      sound = w.sound;
      fault = subst (λ n. IsFaultOf grid (corners_in (done i)) n (element_of o) v) w.faces_so_far (subst (λ n. IsFaultOf grid n faces (element_of o) v) counts.0 h);
    }

    pub is_verdict : (v : Verdict) → (v ≡ Sound → ⊥) → IsOutcome grid o.before faces (element_of o) v → IsVerdict grid all v
    is_verdict Sound apart h = absurd (apart refl)
    is_verdict (FarCorner v) apart h = fault (FarCorner v) h
    is_verdict (OffPlane f) apart h = fault (OffPlane f) h
    is_verdict (NotConvex f) apart h = fault (NotConvex f) h
    is_verdict (Unbalanced u v) apart h = fault (Unbalanced u v) h
    is_verdict (WrongVolume n) apart h = fault (WrongVolume n) h

    pub past_sound : IsSoundElement grid (element_of o) → IsWalked (i + 1) (faces + length o.faces.items)
    past_sound h =
        let more : done (i + 1) ≡ done i ++ element_of o ∷ [] = done_more i (read.Printed o) below at in
        record {
          sound = subst (All (IsSoundElement grid)) (sym more) (All-push (IsSoundElement grid) (done i) (element_of o) w.sound h);
          faces_so_far = sum faces (length o.faces.items) (faces_in (done i)) (length (element_of o).faces) (faces_in (done (i + 1))) w.faces_so_far (length-map o.faces.items face_of)
              (ap faces_in more ∙ sum_by-append (λ (e : Element). length e.faces) (done i) (element_of o ∷ []) ∙ ap (λ n. faces_in (done i) + n) (sum_by-cons (λ (e : Element). length e.faces) (element_of o) []));
          counted = subst (λ n. AreCounted n (drop (i + 1) items))
              (sum (corners_in (done i)) (length o.corners.items) (corners_in (done i)) (length (element_of o).corners) (corners_in (done (i + 1))) refl (corners_count o.corners.items o.printed.items o.paired)
              (ap corners_in more ∙ sum_by-append (λ (e : Element). length e.corners) (done i) (element_of o ∷ []) ∙ ap (λ n. corners_in (done i) + n) (sum_by-cons (λ (e : Element). length e.corners) (element_of o) [])))
              counts.1;
        }
      where
        sum : (f n a b t : ℕ) → f ≡ a → b ≡ n → t ≡ a + (b + 0) → f + n ≡ t
        sum f n a b t x y z = omega arith
