-- The table of keywords: each row has the keyword of its kind, and no word stands in it twice.
use Rattle.std.proofs.Common.{◌≡◌, ℕ, Bool, true, false, List, [], ◌∷◌, map, Option, Some, None, refl, sym, IfSome, ◌∙◌, ap, subst, cond}
use Rattle.std.proofs.lemmas.Bool.{and_parts}
use Rattle.std.proofs.lemmas.Slice.Eq.{bytes_eq-Decides}
use Rattle.std.specs.List.{find, list_all}
use Rattle.std.specs.Str.{bytes_eq, str_to_ascii_lowercase}
use Rattle.std.specs.Option.{option_map}
use Rattle.ifc_kinds.specs.Keywords.{keyword_of, is_spelling_of, is_keyword}
use Rattle.ifc_kinds.specs.Rows.{Row, Word, plain, kind_with}
use Rattle.ifc_kinds.specs.declared.kind.Kind.{Kind}
use Rattle.ifc_kinds.specs.declared.kind.Kind.TheVariants as kind
use Rattle.ifc_kinds.specs.declared.table.TheConstants.{ROWS}

first_or_later : {R : Type 0} (test right : R → Bool) (x : R) (xs : List R) (r : R) (b : Bool) → test x ≡ b → right x ≡ true
    → (find test xs ≡ Some r → (test r ≡ true) × (right r ≡ true)) → cond b (Some x) (find test xs) ≡ Some r → (test r ≡ true) × (right r ≡ true)
first_or_later test right x xs r true t h later e = let same : x ≡ r = cc in subst (λ y. (test y ≡ true) × (right y ≡ true)) same (t, h)
first_or_later test right x xs r false t h later e = later e

-- what is found passes the test, and whatever all pass
found : {R : Type 0} (test right : R → Bool) (rows : List R) (r : R) → list_all right rows ≡ true → find test rows ≡ Some r → (test r ≡ true) × (right r ≡ true)
found test right [] r all e = absurd (cc)
found test right (x ∷ xs) r all e =
    let parts = and_parts (right x) (list_all right xs) all in
    first_or_later test right x xs r (test x) refl parts.0 (found test right xs r parts.1) e

-- the words of the table
abbrev pub table : List Word
table = map (λ row. (row.0, row.1.now)) ROWS

right : list_all (λ w. bytes_eq w.1 (keyword_of w.0)) table ≡ true
right = refl

-- the kind of the first keyword that has these small letters
abbrev first_of : List ℕ → Option Kind
first_of small = option_map (λ w. w.0) (find (λ w. bytes_eq (str_to_ascii_lowercase w.1) small) table)

-- no earlier one is the keyword of a kind
one_kind : (k : Kind) → first_of (str_to_ascii_lowercase (keyword_of k)) ≡ Some k
one_kind kind.Beam = refl
one_kind kind.BeamStandardCase = refl
one_kind kind.BuildingElementPart = refl
one_kind kind.BuildingElementProxy = refl
one_kind kind.Chimney = refl
one_kind kind.Column = refl
one_kind kind.ColumnStandardCase = refl
one_kind kind.Covering = refl
one_kind kind.CurtainWall = refl
one_kind kind.Door = refl
one_kind kind.DoorStandardCase = refl
one_kind kind.ElementAssembly = refl
one_kind kind.Footing = refl
one_kind kind.FurnishingElement = refl
one_kind kind.Furniture = refl
one_kind kind.Member = refl
one_kind kind.MemberStandardCase = refl
one_kind kind.Pile = refl
one_kind kind.Plate = refl
one_kind kind.PlateStandardCase = refl
one_kind kind.Railing = refl
one_kind kind.Ramp = refl
one_kind kind.RampFlight = refl
one_kind kind.Roof = refl
one_kind kind.ShadingDevice = refl
one_kind kind.Slab = refl
one_kind kind.SlabElementedCase = refl
one_kind kind.SlabStandardCase = refl
one_kind kind.Stair = refl
one_kind kind.StairFlight = refl
one_kind kind.Wall = refl
one_kind kind.WallElementedCase = refl
one_kind kind.WallStandardCase = refl
one_kind kind.Window = refl
one_kind kind.WindowStandardCase = refl
one_kind kind.OpeningElement = refl
one_kind kind.OpeningStandardCase = refl
one_kind kind.RelVoidsElement = refl
one_kind kind.ProductDefinitionShape = refl
one_kind kind.ShapeRepresentation = refl
one_kind kind.LocalPlacement = refl
one_kind kind.Project = refl
one_kind kind.UnitAssignment = refl
one_kind kind.SiUnit = refl
one_kind kind.ConversionBasedUnit = refl
one_kind kind.MeasureWithUnit = refl
one_kind kind.CartesianPoint = refl
one_kind kind.Direction = refl
one_kind kind.Axis2Placement3d = refl
one_kind kind.Axis2Placement2d = refl
one_kind kind.CartesianTransformationOperator3d = refl
one_kind kind.CartesianTransformationOperator3dNonUniform = refl
one_kind kind.ExtrudedAreaSolid = refl
one_kind kind.Block = refl
one_kind kind.FacetedBrep = refl
one_kind kind.FacetedBrepWithVoids = refl
one_kind kind.ClosedShell = refl
one_kind kind.Face = refl
one_kind kind.FaceBound = refl
one_kind kind.FaceOuterBound = refl
one_kind kind.PolyLoop = refl
one_kind kind.HalfSpaceSolid = refl
one_kind kind.BoxedHalfSpace = refl
one_kind kind.PolygonalBoundedHalfSpace = refl
one_kind kind.Plane = refl
one_kind kind.BooleanResult = refl
one_kind kind.BooleanClippingResult = refl
one_kind kind.CsgSolid = refl
one_kind kind.MappedItem = refl
one_kind kind.RepresentationMap = refl
one_kind kind.ArbitraryClosedProfileDef = refl
one_kind kind.ArbitraryProfileDefWithVoids = refl
one_kind kind.RectangleProfileDef = refl
one_kind kind.RectangleHollowProfileDef = refl
one_kind kind.IShapeProfileDef = refl
one_kind kind.Polyline = refl
one_kind kind.IndexedPolyCurve = refl
one_kind kind.CartesianPointList2d = refl

named_word : (text : List ℕ) (o : Option Word) → find (λ w. is_spelling_of w.1 text) table ≡ o → IfSome (option_map (λ w. w.0) o) (λ k. is_keyword k text ≡ true)
named_word text None e = tt
named_word text (Some r) e =
    let f = found (λ w. is_spelling_of w.1 text) (λ w. bytes_eq w.1 (keyword_of w.0)) table r right e in
    subst (λ w. is_spelling_of w text ≡ true) ((bytes_eq-Decides r.1 (keyword_of r.0)).0 f.1) f.0

-- the kind that is found has the keyword
pub named : (text : List ℕ) → IfSome (kind_with table text) (λ k. is_keyword k text ≡ true)
named text = named_word text (find (λ w. is_spelling_of w.1 text) table) refl

-- the kind that has the keyword is found
pub known : (text : List ℕ) (k : Kind) → is_keyword k text ≡ true → kind_with table text ≡ Some k
known text k h = ap first_of (sym ((bytes_eq-Decides (str_to_ascii_lowercase (keyword_of k)) (str_to_ascii_lowercase text)).0 h)) ∙ one_kind k

plain_found : (text : List ℕ) (row : Row) (rows : List Row) (b : Bool) → is_spelling_of row.1.now text ≡ b
    → kind_with (map plain rows) text ≡ option_map (λ r. r.0) (find (λ r. is_spelling_of r.1.now text) rows)
    → option_map (λ w. w.0) (cond b (Some (plain row)) (find (λ w. is_spelling_of w.1 text) (map plain rows)))
    ≡ option_map (λ r. r.0) (cond b (Some row) (find (λ r. is_spelling_of r.1.now text) rows))
plain_found text row rows true e h = refl
plain_found text row rows false e h = h

-- the kind of a row that was found
pub same_kind : (text : List ℕ) (rows : List Row) → kind_with (map plain rows) text ≡ option_map (λ r. r.0) (find (λ r. is_spelling_of r.1.now text) rows)
same_kind text [] = refl
same_kind text (row ∷ rows) = plain_found text row rows (is_spelling_of row.1.now text) refl (same_kind text rows)
