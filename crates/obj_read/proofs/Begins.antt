-- What was read begins a page, or one that is cut off in a face.
use Rattle.std.proofs.Common.{◌≡◌, ℕ, Some, None, List, [], ◌∷◌, ◌++◌, inl, inr, ◌⊎◌, rules, refl, subst, append_assoc, append-nil, arith}
use Rattle.spec_place.specs.Vectors.{origin}
use Rattle.spec_place.specs.Transforms.{identity, IsFrame}
use Rattle.spec_page.specs.Items.{Item, Printed}
use Rattle.spec_page.specs.Page.{page_text}
use Rattle.spec_page.specs.Element.{Element}
use Rattle.spec_check.specs.Limits.{IsPageGrid}
use Rattle.spec_headline.specs.Reduced.{IsPrintedCorner}
use Rattle.spec_check.specs.Grammar.{IsPageText, IsCutPage, BeginsPage}
use Rattle.obj_lines.specs.PageLines.{PageLine, line_text}
use Rattle.obj_lines.specs.PageLines as page
use Rattle.obj_read.specs.States.{State, Start, Headed, Among, Named, Open, Halved, Faced, Ended, step, bare_element, with_corner, with_volume}
use Rattle.obj_read.proofs.Texts.{IsKept, IsLineKept, text_of}
use Rattle.obj_read.proofs.Steps.{grows}

-- the text, with more behind it, is a page or cut off
abbrev Continues : List ℕ → Type 0
Continues text = ((grid : ℕ) × (items : List Item) × IsPageText text grid items) ⊎ IsCutPage text

earlier : (front line : List ℕ) → BeginsPage (front ++ line) → BeginsPage front
earlier front line b = (line ++ b.0, subst Continues (append_assoc front line b.0) b.1)

begins_before : (s : State) (l : PageLine) (t : State) → step s l ≡ Some t → IsKept s → IsLineKept l → (IsKept t → BeginsPage (text_of t)) → BeginsPage (text_of s)
begins_before s l t e k w later =
    let g = grows s l t e k w in
    earlier (text_of s) (line_text l) (subst BeginsPage g.text (later g.kept))

identity_kept : IsFrame identity
identity_kept = search rules

origin_kept : IsPrintedCorner origin
origin_kept = record { x = omega arith; y = omega arith; z = omega arith }

begins_ended : (grid : ℕ) (is : List Item) → IsKept (Ended grid is) → BeginsPage (page_text grid is)
begins_ended grid is k = ([], inl (grid, is, record { grid_kept = k.grid_kept; kept = k.items_kept; printed = append-nil (page_text grid is) }))

begins_among : (grid : ℕ) (is : List Item) → IsKept (Among grid is) → BeginsPage (text_of (Among grid is))
begins_among grid is k = begins_before (Among grid is) page.End (Ended grid is) refl k tt (begins_ended grid is)

begins_open : (grid : ℕ) (is : List Item) (e : Element) → IsKept (Open grid is e) → BeginsPage (text_of (Open grid is e))
begins_open grid is e k =
    let all = is ++ Printed (with_volume e None) ∷ [] in
    begins_before (Open grid is e) (page.Volume None) (Among grid all) refl k tt (begins_among grid all)

pub begins : (s : State) → IsKept s → BeginsPage (text_of s)
begins Start k =
    let grid_kept : IsPageGrid 1 = record { least = omega arith; most = omega arith } in
    begins_before Start page.Version Headed refl k tt (λ h. begins_before Headed (page.Grid 1) (Among 1 []) refl h grid_kept (begins_among 1 []))
begins Headed k =
    let grid_kept : IsPageGrid 1 = record { least = omega arith; most = omega arith } in
    begins_before Headed (page.Grid 1) (Among 1 []) refl k grid_kept (begins_among 1 [])
begins (Among grid is) k = begins_among grid is k
begins (Named grid is n) k =
    begins_before (Named grid is n) (page.Frame identity) (Open grid is (bare_element n identity)) refl k identity_kept (begins_open grid is (bare_element n identity))
begins (Open grid is e) k = begins_open grid is e k
begins (Halved grid is e p) k =
    begins_before (Halved grid is e p) (page.Printed origin) (Open grid is (with_corner e p origin)) refl k origin_kept (begins_open grid is (with_corner e p origin))
begins (Faced grid is e h edges) k = (
  [],
  inr (record {
    grid = grid;
    items = is;
    element = e;
    plane = h;
    edges = edges;
    grid_kept = k.0.grid_kept;
    kept = k.0.items_kept;
    element_kept = k.1;
    plane_kept = k.2;
    edges_kept = k.3;
    printed = append-nil (text_of (Faced grid is e h edges));
  }),
)
begins (Ended grid is) k = begins_ended grid is k
