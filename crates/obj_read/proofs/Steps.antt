-- One line more keeps the limits, and grows the text by the line.
use Rattle.std.proofs.Common.{◌≡◌, ℕ, Bool, true, false, cond, eqb, Option, Some, None, ℤ, List, [], ◌∷◌, ◌++◌, length, refl, sym, ap, ◌∙◌, subst, append-nil, codes, IfSome, arith}
use Rattle.std.specs.List.{All, flat_map}
use Rattle.std.proofs.lemmas.Bool.{eqb-true}
use Rattle.std.proofs.lemmas.List.Elements.{All-push, All-nil}
use Rattle.spec_space.specs.declared.Point.{Point}
use Rattle.spec_space.specs.declared.Vector.{Vector}
use Rattle.spec_space.specs.declared.Plane.{Plane}
use Rattle.spec_place.specs.declared.transform.Transform.{Transform}
use Rattle.spec_place.specs.Transforms.{IsFrame}
use Rattle.spec_page.specs.declared.Corner.{Corner}
use Rattle.spec_page.specs.Element.{Face, Element}
use Rattle.spec_page.specs.Items.{Item, Printed, Skipped, Refused}
use Rattle.spec_page.specs.Lines.{number_line, frame_line, plane_line, indices_line}
use Rattle.spec_page.specs.Page.{page_head}
use Rattle.spec_headline.specs.Reduced.{IsPrintedPlane, IsExactCorner, IsPrintedCorner, IsCornerWithin}
use Rattle.spec_check.specs.Limits.{IsShort, IsFaceWithin, IsVolume, IsElementWithin, IsItemWithin}
use Rattle.obj_lines.specs.PageLines.{PageLine, line_text}
use Rattle.obj_lines.specs.PageLines as page
use Rattle.obj_read.specs.States.{State, Start, Headed, Among, Named, Open, Halved, Faced, Ended, step, faced, corners_before, bare_element, with_corner, with_face, with_volume, places_of, are_indices}
use Rattle.obj_read.proofs.Indices.{face_fits, indices_text}
use Rattle.obj_read.proofs.Texts.{ArePageParts, IsKept, IsLineKept, Grows, moved, items_text, items_text_push, open_text, closed, cornered, with_face_text, edged, face_joined, bare_text}

with_parts : (grid : ℕ) (is : List Item) (i : Item) → ArePageParts grid is → IsItemWithin i → ArePageParts grid (is ++ i ∷ [])
with_parts grid is i k w = record { grid_kept = k.grid_kept; items_kept = All-push IsItemWithin is i k.items_kept w }

-- a face is behind the others
with_face_kept : (e : Element) (f : Face) → IsElementWithin e → IsFaceWithin (length e.corners) f → IsElementWithin (with_face e f)
with_face_kept e f k w = record {
  number = k.number;
  frame = k.frame;
  corners = k.corners;
  faces = All-push (IsFaceWithin (length e.corners)) e.faces f k.faces w;
  volume = k.volume;
}

with_corner_kept : (e : Element) (p : Point) (v : Vector) → e.faces ≡ [] → IsElementWithin e → IsExactCorner p → IsPrintedCorner v → IsElementWithin (with_corner e p v)
with_corner_kept e p v bare k w u =
    let c : Corner = record { exact = p; printed = v } in
    let n = length (e.corners ++ c ∷ []) in
    let P : List Face → Type 0 = λ l. All (IsFaceWithin n) l in
    record {
      number = k.number;
      frame = k.frame;
      corners = All-push IsCornerWithin e.corners c k.corners (w, u);
      faces = subst P (sym bare) (All-nil (IsFaceWithin n));
      volume = k.volume;
    }

with_volume_kept : (e : Element) (six : Option ℤ) → IsElementWithin e → IfSome six IsVolume → IsElementWithin (with_volume e six)
with_volume_kept e six k w = record { number = k.number; frame = k.frame; corners = k.corners; faces = k.faces; volume = w }

bare_kept : (n : ℕ) (f : Transform) → IsShort n → IsFrame f → IsElementWithin (bare_element n f)
bare_kept n f k w = record { number = k; frame = w; corners = All-nil IsCornerWithin; faces = All-nil (IsFaceWithin 0); volume = tt }

pub nothing : {X : Type 0} (xs : List X) → eqb (length xs) 0 ≡ true → xs ≡ []
nothing [] e = refl
nothing (x ∷ xs) e = absurd (omega (arith, eqb-true (length (x ∷ xs)) 0 e))

pub not_nothing : {X : Type 0} (xs : List X) → false ≡ eqb (length xs) 0 → xs ≡ [] → ⊥
not_nothing xs e empty = let same = ap (λ l. eqb (length l) 0) empty in cc (e ∙ same)

-- a choice that gives something
pub chosen : (b : Bool) (x t : State) → cond b (Some x) None ≡ Some t → (b ≡ true) × (x ≡ t)
chosen true x t e = (refl, cc)
chosen false x t e = cc

grows_face : (grid : ℕ) (is : List Item) (e : Element) (h : Plane) (edges : List Plane) (ns : List ℕ) (t : State) → faced grid is e h edges ns ≡ Some t
    → IsKept (Faced grid is e h edges) → Grows (Faced grid is e h edges) (page.Indices ns) t
grows_face grid is e h edges ns t stepped k =
    let before = corners_before is in
    let f : Face = record { plane = h; edges = edges; corners = places_of before ns } in
    let parts = chosen (are_indices before (length e.corners) (length edges) ns) (Open grid is (with_face e f)) t stepped in
    let w = face_fits before (length e.corners) h edges ns parts.0 k.2 k.3 in
    let s = Faced grid is e h edges in
    let P : State → Type 0 = λ x. Grows s (page.Indices ns) x in
    subst P parts.1 (record {
      kept = (k.0, with_face_kept e f k.1 w);
      text = with_face_text grid is e f ∙ face_joined (open_text grid is e) (plane_line (codes "#p") h) (flat_map (plane_line (codes "#e")) edges) (indices_line before (places_of before ns))
          ∙ ap (λ l. open_text grid is e ++ plane_line (codes "#p") h ++ flat_map (plane_line (codes "#e")) edges ++ l) (indices_text before (length e.corners) (length edges) ns parts.0);
    })

pub grows : (s : State) (l : PageLine) (t : State) → step s l ≡ Some t → IsKept s → IsLineKept l → Grows s l t
grows Start page.Version t e k w = moved Start page.Version Headed t e (record { kept = tt; text = refl })
grows Headed (page.Grid n) t e k w =
    moved Headed (page.Grid n) (Among n []) t e (record { kept = record { grid_kept = w; items_kept = All-nil IsItemWithin }; text = append-nil (page_head n) })
grows (Among grid is) (page.Element n) t e k w = moved (Among grid is) (page.Element n) (Named grid is n) t e (record { kept = (k, w); text = refl })
grows (Among grid is) (page.Skipped n) t e k w =
    moved (Among grid is) (page.Skipped n) (Among grid (is ++ Skipped n ∷ [])) t e
    (record { kept = with_parts grid is (Skipped n) k w; text = items_text_push grid is (Skipped n) })
grows (Among grid is) (page.Refused n why) t e k w =
    moved (Among grid is) (page.Refused n why) (Among grid (is ++ Refused n why ∷ [])) t e
    (record { kept = with_parts grid is (Refused n why) k w; text = items_text_push grid is (Refused n why) })
grows (Among grid is) page.End t e k w = moved (Among grid is) page.End (Ended grid is) t e (record { kept = k; text = refl })
grows (Named grid is n) (page.Frame f) t e k w =
    moved (Named grid is n) (page.Frame f) (Open grid is (bare_element n f)) t e
    (record { kept = (k.0, bare_kept n f k.1 w); text = bare_text (items_text grid is) (number_line (codes "o ") n) (frame_line f) })
grows (Open grid is b) (page.Exact p) t e k w =
    let parts = chosen (eqb (length b.faces) 0) (Halved grid is b p) t e in
    let P : State → Type 0 = λ x. Grows (Open grid is b) (page.Exact p) x in
    subst P parts.1 (record { kept = (k.0, k.1, nothing b.faces parts.0, w); text = refl })
grows (Open grid is b) (page.Face h) t e k w =
    moved (Open grid is b) (page.Face h) (Faced grid is b h []) t e
    (record { kept = (k.0, k.1, w, All-nil IsPrintedPlane); text = append-nil (open_text grid is b ++ plane_line (codes "#p") h) })
grows (Open grid is b) (page.Volume six) t e k w =
    moved (Open grid is b) (page.Volume six) (Among grid (is ++ Printed (with_volume b six) ∷ [])) t e
    (record { kept = with_parts grid is (Printed (with_volume b six)) k.0 (with_volume_kept b six k.1 w); text = closed grid is b six })
grows (Halved grid is b p) (page.Printed v) t e k w =
    moved (Halved grid is b p) (page.Printed v) (Open grid is (with_corner b p v)) t e
    (record { kept = (k.0, with_corner_kept b p v k.2 k.1 k.3 w); text = cornered grid is b p v k.2 })
grows (Faced grid is b h edges) (page.Edge m) t e k w =
    moved (Faced grid is b h edges) (page.Edge m) (Faced grid is b h (edges ++ m ∷ [])) t e
    (record { kept = (k.0, k.1, k.2, All-push IsPrintedPlane edges m k.3 w); text = edged (open_text grid is b ++ plane_line (codes "#p") h) edges m })
grows (Faced grid is b h edges) (page.Indices ns) t e k w = grows_face grid is b h edges ns t e k
grows s l t e k w = cc
