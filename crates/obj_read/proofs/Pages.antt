-- The lines of a page, and those of a page that is cut off in a face, lead through it.
use Rattle.std.proofs.Common.{◌≡◌, ℕ, ◌+◌, cond, Some, None, List, [], ◌∷◌, ◌++◌, length, refl, sym, ap, ◌∙◌, append_assoc, append-nil, codes}
use Rattle.std.specs.List.{All, flat_map}
use Rattle.std.proofs.lemmas.List.Elements.{All-head, All-tail}
use Rattle.std.proofs.lemmas.List.Sums.{sum_by_push}
use Rattle.spec_space.specs.declared.Plane.{Plane}
use Rattle.spec_page.specs.declared.Corner.{Corner}
use Rattle.spec_page.specs.Element.{Face, Element}
use Rattle.spec_page.specs.Items.{Item, Printed, Skipped, Refused, corner_count}
use Rattle.spec_page.specs.Lines.{plane_line, volume_line, corner_lines, face_lines, indices_line, element_head, element_lines}
use Rattle.spec_page.specs.Page.{item_lines, items_lines, page_head, page_text}
use Rattle.spec_headline.specs.Reduced.{IsPrintedPlane, IsCornerWithin}
use Rattle.spec_check.specs.Limits.{IsPageGrid, IsFaceWithin, IsElementWithin, IsItemWithin}
use Rattle.spec_check.specs.Grammar.{IsPageText, IsCutPage}
use Rattle.obj_lines.specs.PageLines.{line_text}
use Rattle.obj_lines.specs.PageLines as page
use Rattle.obj_read.specs.States.{State, Start, Headed, Among, Named, Open, Halved, Faced, Ended, faced, corners_before, bare_element, with_corner, with_face, places_of}
use Rattle.obj_read.proofs.Indices.{indices_of, indices_back, places_back, face_back}
use Rattle.obj_read.proofs.Leads.{Leads, done, joined, one, to_same, of_same}

regrouped : (h c f v : List ℕ) → h ++ c ++ f ++ v ≡ h ++ (c ++ f ++ v)
regrouped h c f v = simp append_assoc

cut_regrouped : (t h c f p es : List ℕ) → t ++ (h ++ c ++ f) ++ p ++ es ≡ t ++ h ++ c ++ f ++ p ++ es
cut_regrouped t h c f p es = simp append_assoc

lead_edges : (grid : ℕ) (is : List Item) (e : Element) (h : Plane) (edges ms : List Plane) → All IsPrintedPlane ms
    → Leads (Faced grid is e h edges) (flat_map (plane_line (codes "#e")) ms) (Faced grid is e h (edges ++ ms))
lead_edges grid is e h edges [] all = done refl (ap (Faced grid is e h) (sym (append-nil edges)))
lead_edges grid is e h edges (m ∷ ms) all =
    let first = one (Faced grid is e h edges) (page.Edge m) (Faced grid is e h (edges ++ m ∷ [])) (All-head IsPrintedPlane m ms all) refl in
    let others = lead_edges grid is e h (edges ++ m ∷ []) ms (All-tail IsPrintedPlane m ms all) in
    to_same (Faced grid is e h (edges ++ m ∷ ms)) (joined first others) (ap (Faced grid is e h) (append_assoc edges (m ∷ []) ms))

taken : (grid : ℕ) (is : List Item) (e : Element) (f : Face) → IsFaceWithin (length e.corners) f
    → faced grid is e f.plane f.edges (indices_of (corners_before is) f.corners) ≡ Some (Open grid is (with_face e f))
taken grid is e f w =
    let before = corners_before is in
    let at : List ℕ → Face = λ l. record { plane = f.plane; edges = f.edges; corners = l } in
    ap (λ v. cond v (Some (Open grid is (with_face e (at (places_of before (indices_of before f.corners)))))) None) (face_back before (length e.corners) f w)
    ∙ ap (λ l. Some (Open grid is (with_face e (at l)))) (places_back before f.corners)

lead_face : (grid : ℕ) (is : List Item) (e : Element) (f : Face) → IsFaceWithin (length e.corners) f
    → Leads (Open grid is e) (face_lines (corners_before is) f) (Open grid is (with_face e f))
lead_face grid is e f w =
    let before = corners_before is in
    let ns = indices_of before f.corners in
    let first = one (Open grid is e) (page.Face f.plane) (Faced grid is e f.plane []) w.plane refl in
    let edges = lead_edges grid is e f.plane [] f.edges w.edges in
    let last = one (Faced grid is e f.plane f.edges) (page.Indices ns) (Open grid is (with_face e f)) tt (taken grid is e f w) in
    joined (joined first edges) (of_same (indices_line before f.corners) last (indices_back before f.corners))

-- the element with faces behind its faces
abbrev with_faces : Element → List Face → Element
with_faces e fs = record { number = e.number; frame = e.frame; corners = e.corners; faces = e.faces ++ fs; six = e.six }

lead_faces : (grid : ℕ) (is : List Item) (e : Element) (fs : List Face) → All (IsFaceWithin (length e.corners)) fs
    → Leads (Open grid is e) (flat_map (face_lines (corners_before is)) fs) (Open grid is (with_faces e fs))
lead_faces grid is e [] all =
    let at : List Face → Element = λ l. record { number = e.number; frame = e.frame; corners = e.corners; faces = l; six = e.six } in
    done refl (ap (λ l. Open grid is (at l)) (sym (append-nil e.faces)))
lead_faces grid is e (f ∷ fs) all =
    let at : List Face → Element = λ l. record { number = e.number; frame = e.frame; corners = e.corners; faces = l; six = e.six } in
    let first = lead_face grid is e f (All-head (IsFaceWithin (length e.corners)) f fs all) in
    let others = lead_faces grid is (with_face e f) fs (All-tail (IsFaceWithin (length e.corners)) f fs all) in
    to_same (Open grid is (with_faces e (f ∷ fs))) (joined first others) (ap (λ l. Open grid is (at l)) (append_assoc e.faces (f ∷ []) fs))

-- an element without faces and with these corners
abbrev cornered_element : Element → List Corner → Element
cornered_element e cs = record { number = e.number; frame = e.frame; corners = cs; faces = []; six = None }

lead_corners : (grid : ℕ) (is : List Item) (e : Element) (before cs : List Corner) → All IsCornerWithin cs
    → Leads (Open grid is (cornered_element e before)) (flat_map corner_lines cs) (Open grid is (cornered_element e (before ++ cs)))
lead_corners grid is e before [] all = done refl (ap (λ l. Open grid is (cornered_element e l)) (sym (append-nil before)))
lead_corners grid is e before (c ∷ cs) all =
    let w = All-head IsCornerWithin c cs all in
    let start = cornered_element e before in
    let exact = one (Open grid is start) (page.Exact c.exact) (Halved grid is start c.exact) w.0 refl in
    let printed = one (Halved grid is start c.exact) (page.Printed c.printed) (Open grid is (with_corner start c.exact c.printed)) w.1 refl in
    let others = lead_corners grid is e (before ++ c ∷ []) cs (All-tail IsCornerWithin c cs all) in
    to_same (Open grid is (cornered_element e (before ++ c ∷ cs))) (joined (joined exact printed) others)
    (ap (λ l. Open grid is (cornered_element e l)) (append_assoc before (c ∷ []) cs))

-- the element without its volume
abbrev pub without_volume : Element → Element
without_volume e = record { number = e.number; frame = e.frame; corners = e.corners; faces = e.faces; six = None }

lead_open : (grid : ℕ) (is : List Item) (e : Element) → IsElementWithin e
    → Leads (Among grid is) (element_head e ++ flat_map corner_lines e.corners ++ flat_map (face_lines (corners_before is)) e.faces) (Open grid is (without_volume e))
lead_open grid is e w =
    let number = one (Among grid is) (page.Element e.number) (Named grid is e.number) w.number refl in
    let frame = one (Named grid is e.number) (page.Frame e.frame) (Open grid is (bare_element e.number e.frame)) w.frame refl in
    let corners = lead_corners grid is e [] e.corners w.corners in
    let faces = lead_faces grid is (cornered_element e e.corners) e.faces w.faces in
    joined (joined (joined number frame) corners) faces

lead_element : (grid : ℕ) (is : List Item) (e : Element) → IsElementWithin e
    → Leads (Among grid is) (element_lines (corners_before is) e) (Among grid (is ++ Printed e ∷ []))
lead_element grid is e w =
    let volume = one (Open grid is (without_volume e)) (page.Volume e.six) (Among grid (is ++ Printed e ∷ [])) w.volume refl in
    of_same (element_lines (corners_before is) e) (joined (lead_open grid is e w) volume)
    (regrouped (element_head e) (flat_map corner_lines e.corners) (flat_map (face_lines (corners_before is)) e.faces) (volume_line e.six))

lead_item : (grid : ℕ) (is : List Item) (i : Item) → IsItemWithin i → Leads (Among grid is) (item_lines (corners_before is) i) (Among grid (is ++ i ∷ []))
lead_item grid is (Printed e) w = lead_element grid is e w
lead_item grid is (Skipped n) w = one (Among grid is) (page.Skipped n) (Among grid (is ++ Skipped n ∷ [])) w refl
lead_item grid is (Refused n why) w = one (Among grid is) (page.Refused n why) (Among grid (is ++ Refused n why ∷ [])) w refl

lead_items : (grid : ℕ) (is js : List Item) → All IsItemWithin js → Leads (Among grid is) (items_lines (corners_before is) js) (Among grid (is ++ js))
lead_items grid is [] all = done refl (ap (Among grid) (sym (append-nil is)))
lead_items grid is (j ∷ js) all =
    let first = lead_item grid is j (All-head IsItemWithin j js all) in
    let others = lead_items grid (is ++ j ∷ []) js (All-tail IsItemWithin j js all) in
    let text : items_lines (corners_before (is ++ j ∷ [])) js ≡ items_lines (corners_before is + corner_count j) js = ap (λ n. items_lines n js) (sum_by_push corner_count is j) in
    to_same (Among grid (is ++ j ∷ js)) (joined first (of_same (items_lines (corners_before is + corner_count j) js) others text)) (ap (Among grid) (append_assoc is (j ∷ []) js))

lead_front : (grid : ℕ) (is : List Item) → IsPageGrid grid → All IsItemWithin is → Leads Start (page_head grid ++ items_lines 0 is) (Among grid is)
lead_front grid is k all =
    let first = one Start page.Version Headed tt refl in
    let second = one Headed (page.Grid grid) (Among grid []) k refl in
    joined (of_same (page_head grid) (joined first second) refl) (lead_items grid [] is all)

-- a page leads to its end
pub lead_page : (grid : ℕ) (is : List Item) → IsPageGrid grid → All IsItemWithin is → Leads Start (page_text grid is) (Ended grid is)
lead_page grid is k all = joined (lead_front grid is k all) (one (Among grid is) page.End (Ended grid is) tt refl)

pub page_leads : (text : List ℕ) (grid : ℕ) (is : List Item) → IsPageText text grid is → Leads Start text (Ended grid is)
page_leads text grid is p = of_same text (lead_page grid is p.grid_kept p.kept) (sym p.printed)

-- a page that is cut off in a face leads to that face
pub cut_leads : (text : List ℕ) → IsCutPage text → (s : State) × Leads Start text s
cut_leads text p =
    let front = joined (lead_front p.grid p.items p.grid_kept p.kept) (lead_open p.grid p.items p.element p.element_kept) in
    let e = without_volume p.element in
    let plane = one (Open p.grid p.items e) (page.Face p.plane) (Faced p.grid p.items e p.plane []) p.plane_kept refl in
    let edges = lead_edges p.grid p.items e p.plane [] p.edges p.edges_kept in (
      Faced p.grid p.items e p.plane p.edges,
      of_same text (joined (joined front plane) edges)
          (cut_regrouped (page_head p.grid ++ items_lines 0 p.items) (element_head p.element) (flat_map corner_lines p.element.corners)
          (flat_map (face_lines (corners_before p.items)) p.element.faces) (plane_line (codes "#p") p.plane) (flat_map (plane_line (codes "#e")) p.edges) ∙ sym p.printed),
    )
