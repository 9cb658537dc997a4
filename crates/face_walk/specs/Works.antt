-- The walk: sheets that go down a tree, and trees whose walk waits.
use Rattle.std.specs.Prelude.{◌≡◌, ◌≢◌, ◌≤◌, ◌<◌, ◌+◌, ◌*◌, ◌⊎◌, ℕ, zero, suc, Bool, true, false, not, cond, List, [], ◌∷◌, ◌++◌, length, take, nat_eq, Option, Some, None, All, sum_by}
use Rattle.std.specs.List.{list_all, AllPairs}
use Rattle.spec_space.specs.declared.Point.{Point}
use Rattle.spec_space.specs.declared.Plane.{Plane}
use Rattle.spec_space.specs.Points.{IsPoint}
use Rattle.spec_solid.specs.Planes.{front_of, back_of}
use Rattle.plane_core.specs.declared.numbers.Plane.{Plane as BookPlane}
use Rattle.plane_core.specs.declared.book.PlaneId.{PlaneId}
use Rattle.plane_core.specs.Books.{AreDistinct, BeginsWithWalls}
use Rattle.convex_cycles.specs.Sides.{is_in_front}
use Rattle.poly_frag.specs.Cubes.{IsInsideCube}
use Rattle.poly_frag.specs.Frags.{plane_at, IsInside}
use Rattle.poly_frag.specs.Cycles.{IsFragment}
use Rattle.poly_frag.specs.declared.frag.Frag.{Frag}
use Rattle.plane_cells.specs.Cells.{step_side, IsInCell}
use Rattle.plane_cells.specs.declared.steps.Step.{Step}
use Rattle.tree_pool.specs.declared.node.TreeId.{TreeId}
use Rattle.tree_pool.specs.declared.node.PoolNode.TheVariants.{Leaf, Node}
use Rattle.tree_pool.specs.Trees.{Tree, leaf, node, value_of, IsPlaneOf}
use Rattle.tree_pool.specs.Pools.{Slots, node_at, rank_at, IsLive, StandsFor}
use Rattle.face_walk.specs.Points.{holds}
use Rattle.face_walk.specs.Faces.{IsOfBook, IsTight, IsAloneOn, is_true_at, IsFace}
use Rattle.face_walk.specs.declared.faces.OutFace.{OutFace}
use Rattle.face_walk.specs.declared.work.Places.{Places}
use Rattle.face_walk.specs.declared.work.Sheet.{Sheet}
use Rattle.face_walk.specs.declared.work.Visit.{Visit}
use Rattle.face_walk.specs.declared.work.Meeting.{Meeting}
use Rattle.face_walk.specs.declared.work.Meeting.TheVariants.{Leaves, Crossing}

-- what is walked: a tight tree of a book's planes
pub record IsFit (planes : List BookPlane) (t : Tree) : Type 0 where
  pub distinct : AreDistinct planes
  pub walls : BeginsWithWalls planes
  pub of_book : IsOfBook planes t
  pub tight : IsTight planes t

-- ---- places
-- what is left of a tree on one side of a plane, where only its top is looked at
abbrev pub side_tree : ℕ → Bool → Tree → Tree
side_tree k in_front (leaf b) = leaf b
side_tree k in_front (node h f g) = cond (nat_eq h k) (cond in_front f g) (node h f g)

-- the neighbour on one side of a plane
abbrev pub neighbour : Bool → Plane → Point → Point
neighbour true h p = front_of h p
neighbour false h p = back_of h p

-- the number stands for a tree that has, at the neighbours on one side of points in some part of space, what t has there
pub record IsPlace (pool : Slots) (planes : List BookPlane) (t : Tree) (part : Point → Type 0) (side : Bool) (id : TreeId) : Type 0 where
  pub tree : Tree
  pub stands : StandsFor pool id tree
  pub among : (k : ℕ) → IsPlaneOf k tree → IsPlaneOf k t
  pub agrees : (h : PlaneId) (p : Point) → h.k < length planes → IsAloneOn planes t h p → part p
      → value_of planes t (neighbour side (plane_at planes h) p) ≡ value_of planes tree (neighbour side (plane_at planes h) p)

abbrev pub IsTop : ℕ → Tree → Type 0
IsTop k (leaf b) = ⊥
IsTop k (node h f g) = k ≡ h

abbrev pub IsCrossing : Slots → Places → ℕ → Type 0
IsCrossing pool at k = (f g : Tree) → StandsFor pool at.front f → StandsFor pool at.back g → IsTop k f ⊎ IsTop k g

abbrev pub AreLive : Slots → Places → Type 0
AreLive pool at = IsLive pool at.front × IsLive pool at.back

-- the front goes on with what is left on one side of the plane, and the back with what is left on the other, or on the same
pub record GoesOn (pool : Slots) (k : ℕ) (front back : Bool) (old new : Places) : Type 0 where
  pub front_stands : (t : Tree) → StandsFor pool old.front t → StandsFor pool new.front (side_tree k front t)
  pub back_stands : (t : Tree) → StandsFor pool old.back t → StandsFor pool new.back (side_tree k back t)

-- the two places are at leaves with these values, or one of them is at a node of this plane
abbrev pub IsMeeting : Slots → Places → Meeting → Type 0
IsMeeting pool at (Leaves in_front behind) = (node_at pool at.front ≡ Some (Leaf in_front)) × (node_at pool at.back ≡ Some (Leaf behind))
IsMeeting pool at (Crossing plane) = IsCrossing pool at plane.k

-- ---- sheets
-- the sheet is a part of a plane of t, inside the enclosing cube, between places that have what t has beside it
pub record IsSheetOf (pool : Slots) (planes : List BookPlane) (t : Tree) (s : Sheet) : Type 0 where
  pub fragment : IsFragment planes s.frag
  pub support : IsPlaneOf s.frag.support.k t
  pub no_wall : 6 ≤ s.frag.support.k
  pub in_cube : (p : Point) → IsPoint p → IsInside planes s.frag p → IsInsideCube p
  pub edges : All (λ e. IsPlaneOf e.plane.k t ⊎ (e.plane.k < 6)) s.frag.edges.items
  pub front : IsPlace pool planes t (IsInside planes s.frag) true s.places.front
  pub back : IsPlace pool planes t (IsInside planes s.frag) false s.places.back

-- what a step needs of a sheet, whatever the tree
pub record IsSafe (pool : Slots) (planes : List BookPlane) (s : Sheet) : Type 0 where
  pub fragment : IsFragment planes s.frag
  pub live : AreLive pool s.places

-- ---- how often a side is shown at a point, outside
-- by the values in front and behind
abbrev pub due : Bool → Bool → Bool → ℕ
due side true true = 0
due side false false = 0
due true false true = 1
due false false true = 0
due true true false = 0
due false true false = 1

abbrev pub due_at : List BookPlane → Tree → PlaneId → Bool → Point → ℕ
due_at planes t id side p = due side (is_true_at planes t (front_of (plane_at planes id) p)) (is_true_at planes t (back_of (plane_at planes id) p))

abbrev pub in_frag : List BookPlane → ℕ → Point → Frag → ℕ
in_frag planes d p f = cond (holds planes f p) d 0

-- by faces that are found
abbrev pub seen : List BookPlane → Bool → Point → List OutFace → ℕ
seen planes side p faces = sum_by (λ o. in_frag planes (due side (not o.front_out) o.front_out) p o.frag) faces

-- by sheets that wait, each of which with the point has d to show
abbrev pub waiting : List BookPlane → ℕ → Point → List Sheet → ℕ
waiting planes d p sheets = sum_by (λ s. in_frag planes d p s.frag) sheets

-- ---- how much is left to be done at most
abbrev pub weight_of : ℕ → ℕ
weight_of zero = 1
weight_of (suc n) = 1 + 2 * weight_of n

abbrev pub sheet_weight : Slots → Sheet → ℕ
sheet_weight pool s = weight_of (rank_at pool s.places.front + rank_at pool s.places.back)

abbrev pub sheets_weight : Slots → List Sheet → ℕ
sheets_weight pool sheets = sum_by (sheet_weight pool) sheets

-- ---- sheets that go down
abbrev pub IsOnSupport : PlaneId → Sheet → Type 0
IsOnSupport id s = s.frag.support ≡ id

abbrev pub IsFaceOnPlane : PlaneId → OutFace → Type 0
IsFaceOnPlane id o = o.frag.support ≡ id

abbrev pub IsFragmentFace : List BookPlane → OutFace → Type 0
IsFragmentFace planes o = IsFragment planes o.frag

-- the parts of a sheet wait in its place
pub record IsDivided (pool : Slots) (planes : List BookPlane) (sheet : Sheet) (old new : List Sheet) : Type 0 where
  pub sheets : (t : Tree) → IsFit planes t → IsSheetOf pool planes t sheet → All (IsSheetOf pool planes t) old → All (IsSheetOf pool planes t) new
  pub wait : (t : Tree) (id : PlaneId) (p : Point) (d : ℕ) → IsFit planes t → IsSheetOf pool planes t sheet → IsAloneOn planes t id p → waiting planes d p new ≡ waiting planes d p old + in_frag planes d p sheet.frag
  pub support : (id : PlaneId) → IsOnSupport id sheet → All (IsOnSupport id) old → All (IsOnSupport id) new
  pub safe : IsSafe pool planes sheet → All (IsSafe pool planes) old → All (IsSafe pool planes) new
  pub lower : sheets_weight pool new < sheets_weight pool old + sheet_weight pool sheet

-- the fragment between two leaves is a face where their values differ
abbrev pub IsSettled : Frag → Bool → Bool → List OutFace → List OutFace → Type 0
IsSettled frag in_front behind old new = (in_front ≡ behind → new ≡ old) × (in_front ≢ behind → new ≡ old ++ record { frag = frag; front_out = behind } ∷ [])

-- a sheet is taken one step down: its parts wait, or its face is found
pub record IsTurn (pool : Slots) (planes : List BookPlane) (sheet : Sheet) (old new : List Sheet) (found : List OutFace) (faces : List OutFace) : Type 0 where
  pub sheets : (t : Tree) → IsFit planes t → IsSheetOf pool planes t sheet → All (IsSheetOf pool planes t) old → All (IsSheetOf pool planes t) new
  pub are_faces : (t : Tree) → IsFit planes t → IsSheetOf pool planes t sheet → All (IsFace planes t) found → All (IsFace planes t) faces
  pub shown : (t : Tree) (id : PlaneId) (p : Point) (side : Bool) → IsFit planes t → id.k < length planes → IsSheetOf pool planes t sheet → IsAloneOn planes t id p
      → seen planes side p faces + waiting planes (due_at planes t id side p) p new
      ≡ seen planes side p found + (waiting planes (due_at planes t id side p) p old + in_frag planes (due_at planes t id side p) p sheet.frag)
  pub support : (id : PlaneId) → IsOnSupport id sheet → All (IsOnSupport id) old → All (IsOnSupport id) new
  pub on_plane : (id : PlaneId) → IsOnSupport id sheet → All (IsFaceOnPlane id) found → All (IsFaceOnPlane id) faces
  pub safe : IsSafe pool planes sheet → All (IsSafe pool planes) old → All (IsSafe pool planes) new
  pub fragments : IsSafe pool planes sheet → All (IsFragmentFace planes) found → All (IsFragmentFace planes) faces
  pub lower : sheets_weight pool new < sheets_weight pool old + sheet_weight pool sheet

-- the faces of a sheet are found
pub record AddsFaces (pool : Slots) (planes : List BookPlane) (sheet : Sheet) (old new : List OutFace) : Type 0 where
  pub are_faces : (t : Tree) → IsFit planes t → IsSheetOf pool planes t sheet → All (IsFace planes t) old → All (IsFace planes t) new
  pub shown : (t : Tree) (id : PlaneId) (p : Point) (side : Bool) → IsFit planes t → id.k < length planes → IsSheetOf pool planes t sheet → IsAloneOn planes t id p
      → seen planes side p new ≡ seen planes side p old + in_frag planes (due_at planes t id side p) p sheet.frag
  pub on_plane : (id : PlaneId) → IsOnSupport id sheet → All (IsFaceOnPlane id) old → All (IsFaceOnPlane id) new
  pub fragments : All (IsFragmentFace planes) old → All (IsFragmentFace planes) new

-- ---- trees whose walk waits
-- whether the point lies strictly on the kept side of each step
abbrev pub keeps : List BookPlane → List Step → Point → Bool
keeps planes steps p = list_all (λ s. is_in_front (step_side planes s) p) steps

abbrev pub in_path : List BookPlane → ℕ → Point → List Step → ℕ
in_path planes d p steps = cond (keeps planes steps p) d 0

-- the path of a walk that waits
abbrev pub steps_of : List Step → Visit → List Step
steps_of path v = take v.depth path ++ v.step ∷ []

abbrev pub waiting_visit : TreeId → ℕ → PlaneId → Bool → Visit
waiting_visit id depth plane in_front = record { id = id; depth = depth; step = record { plane = plane; in_front = in_front } }

-- the number stands for what t is in the cell of the path, whose planes are planes of t
pub record IsVisitAt (pool : Slots) (planes : List BookPlane) (t : Tree) (steps : List Step) (id : TreeId) : Type 0 where
  pub path : All (λ s. IsPlaneOf s.plane.k t) steps
  pub front : IsPlace pool planes t (IsInCell planes steps) true id
  pub back : IsPlace pool planes t (IsInCell planes steps) false id

abbrev pub IsVisitOf : Slots → List BookPlane → Tree → List Step → Visit → Type 0
IsVisitOf pool planes t path v = IsVisitAt pool planes t (steps_of path v) v.id

-- what a step needs of a walk that waits, whatever the tree
pub record IsSafeVisit (pool : Slots) (planes : List BookPlane) (v : Visit) : Type 0 where
  pub live : IsLive pool v.id
  pub given : v.step.plane.k < length planes

abbrev pub IsPathOf : List BookPlane → List Step → Type 0
IsPathOf planes path = All (λ s. s.plane.k < length planes) path

-- what the walks that wait have to show
abbrev pub pending : List BookPlane → ℕ → Point → List Step → List Visit → ℕ
pending planes d p path visits = sum_by (λ v. in_path planes d p (steps_of path v)) visits

abbrev pub visit_weight : Slots → Visit → ℕ
visit_weight pool v = weight_of (rank_at pool v.id)

abbrev pub visits_weight : Slots → List Visit → ℕ
visits_weight pool visits = sum_by (visit_weight pool) visits

-- each path that waits is one of the walk's steps and one step more, and no later one has fewer
pub record AreStacked (n : ℕ) (visits : List Visit) : Type 0 where
  pub within : All (λ v. v.depth ≤ n) visits
  pub rising : AllPairs (λ u v. u.depth ≤ v.depth) visits

-- whether the faces on this plane are sought
abbrev pub is_sought : Option PlaneId → PlaneId → Bool
is_sought None id = true
is_sought (Some h) id = nat_eq h.k id.k

abbrev pub IsSoughtOnly : Option PlaneId → PlaneId → Type 0
IsSoughtOnly only id = only ≡ Some id

-- the faces of a node's plane are found, if they are sought, in the cell of the node's path
pub record AddsOwn (pool : Slots) (planes : List BookPlane) (only : Option PlaneId) (steps : List Step) (plane : PlaneId) (front back : TreeId) (old new : List OutFace) : Type 0 where
  pub are_faces : (t : Tree) (id : TreeId) → IsFit planes t → node_at pool id ≡ Some (Node plane front back) → IsVisitAt pool planes t steps id → All (IsFace planes t) old → All (IsFace planes t) new
  pub shown : (t : Tree) (id : TreeId) (h : PlaneId) (p : Point) (side : Bool) → IsFit planes t → h.k < length planes → is_sought only h ≡ true → node_at pool id ≡ Some (Node plane front back)
      → IsVisitAt pool planes t steps id → IsAloneOn planes t h p
      → seen planes side p new ≡ seen planes side p old + cond (nat_eq plane.k h.k) (in_path planes (due_at planes t h side p) p steps) 0
  pub on_plane : (id : PlaneId) → IsSoughtOnly only id → All (IsFaceOnPlane id) old → All (IsFaceOnPlane id) new
  pub fragments : All (IsFragmentFace planes) old → All (IsFragmentFace planes) new

-- a tree is walked one step: the faces of its top's plane are found, if they are sought, and the walks of the parts wait
pub record IsOpened (pool : Slots) (planes : List BookPlane) (only : Option PlaneId) (path : List Step) (id : TreeId) (old new : List Visit) (found faces : List OutFace) : Type 0 where
  pub visits : (t : Tree) → IsFit planes t → IsVisitAt pool planes t path id → All (IsVisitOf pool planes t path) old → All (IsVisitOf pool planes t path) new
  pub are_faces : (t : Tree) → IsFit planes t → IsVisitAt pool planes t path id → All (IsFace planes t) found → All (IsFace planes t) faces
  pub shown : (t : Tree) (h : PlaneId) (p : Point) (side : Bool) → IsFit planes t → h.k < length planes → is_sought only h ≡ true → IsVisitAt pool planes t path id → IsAloneOn planes t h p
      → seen planes side p faces + pending planes (due_at planes t h side p) p path new
      ≡ seen planes side p found + (pending planes (due_at planes t h side p) p path old + in_path planes (due_at planes t h side p) p path)
  pub on_plane : (h : PlaneId) → IsSoughtOnly only h → All (IsFaceOnPlane h) found → All (IsFaceOnPlane h) faces
  pub fragments : All (IsFragmentFace planes) found → All (IsFragmentFace planes) faces
  pub safe : All (IsSafeVisit pool planes) old → All (IsSafeVisit pool planes) new
  pub stacked : AreStacked (length path) old → AreStacked (length path) new
  pub lower : visits_weight pool new < visits_weight pool old + weight_of (rank_at pool id)

-- ---- the whole walk
pub record IsWalked (planes : List BookPlane) (t : Tree) (only : Option PlaneId) (faces : List OutFace) : Type 0 where
  pub are_faces : All (IsFace planes t) faces
  pub shown : (h : PlaneId) (p : Point) (side : Bool) → h.k < length planes → is_sought only h ≡ true → IsAloneOn planes t h p → seen planes side p faces ≡ due_at planes t h side p
  pub on_plane : (h : PlaneId) → IsSoughtOnly only h → All (IsFaceOnPlane h) faces
