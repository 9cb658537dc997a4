-- The keywords of the entities of IFC4 that are read, and the building elements among them.
use Rattle.std.specs.Prelude.{ℕ, Bool, List, [], ◌∷◌, codes}
use Rattle.std.specs.List.{list_any}
use Rattle.std.specs.Str.{bytes_eq, str_eq_ignore_ascii_case}
use Rattle.ifc_kinds.specs.declared.kind.Kind.{Kind}
use Rattle.ifc_kinds.specs.declared.kind.Kind.TheVariants as kind

-- the keyword of a kind
abbrev pub keyword_of : Kind → List ℕ
keyword_of kind.Beam = codes "IFCBEAM"
keyword_of kind.BeamStandardCase = codes "IFCBEAMSTANDARDCASE"
keyword_of kind.BuildingElementPart = codes "IFCBUILDINGELEMENTPART"
keyword_of kind.BuildingElementProxy = codes "IFCBUILDINGELEMENTPROXY"
keyword_of kind.Chimney = codes "IFCCHIMNEY"
keyword_of kind.Column = codes "IFCCOLUMN"
keyword_of kind.ColumnStandardCase = codes "IFCCOLUMNSTANDARDCASE"
keyword_of kind.Covering = codes "IFCCOVERING"
keyword_of kind.CurtainWall = codes "IFCCURTAINWALL"
keyword_of kind.Door = codes "IFCDOOR"
keyword_of kind.DoorStandardCase = codes "IFCDOORSTANDARDCASE"
keyword_of kind.ElementAssembly = codes "IFCELEMENTASSEMBLY"
keyword_of kind.Footing = codes "IFCFOOTING"
keyword_of kind.FurnishingElement = codes "IFCFURNISHINGELEMENT"
keyword_of kind.Furniture = codes "IFCFURNITURE"
keyword_of kind.Member = codes "IFCMEMBER"
keyword_of kind.MemberStandardCase = codes "IFCMEMBERSTANDARDCASE"
keyword_of kind.Pile = codes "IFCPILE"
keyword_of kind.Plate = codes "IFCPLATE"
keyword_of kind.PlateStandardCase = codes "IFCPLATESTANDARDCASE"
keyword_of kind.Railing = codes "IFCRAILING"
keyword_of kind.Ramp = codes "IFCRAMP"
keyword_of kind.RampFlight = codes "IFCRAMPFLIGHT"
keyword_of kind.Roof = codes "IFCROOF"
keyword_of kind.ShadingDevice = codes "IFCSHADINGDEVICE"
keyword_of kind.Slab = codes "IFCSLAB"
keyword_of kind.SlabElementedCase = codes "IFCSLABELEMENTEDCASE"
keyword_of kind.SlabStandardCase = codes "IFCSLABSTANDARDCASE"
keyword_of kind.Stair = codes "IFCSTAIR"
keyword_of kind.StairFlight = codes "IFCSTAIRFLIGHT"
keyword_of kind.Wall = codes "IFCWALL"
keyword_of kind.WallElementedCase = codes "IFCWALLELEMENTEDCASE"
keyword_of kind.WallStandardCase = codes "IFCWALLSTANDARDCASE"
keyword_of kind.Window = codes "IFCWINDOW"
keyword_of kind.WindowStandardCase = codes "IFCWINDOWSTANDARDCASE"
keyword_of kind.OpeningElement = codes "IFCOPENINGELEMENT"
keyword_of kind.OpeningStandardCase = codes "IFCOPENINGSTANDARDCASE"
keyword_of kind.RelVoidsElement = codes "IFCRELVOIDSELEMENT"
keyword_of kind.ProductDefinitionShape = codes "IFCPRODUCTDEFINITIONSHAPE"
keyword_of kind.ShapeRepresentation = codes "IFCSHAPEREPRESENTATION"
keyword_of kind.LocalPlacement = codes "IFCLOCALPLACEMENT"
keyword_of kind.Project = codes "IFCPROJECT"
keyword_of kind.UnitAssignment = codes "IFCUNITASSIGNMENT"
keyword_of kind.SiUnit = codes "IFCSIUNIT"
keyword_of kind.ConversionBasedUnit = codes "IFCCONVERSIONBASEDUNIT"
keyword_of kind.MeasureWithUnit = codes "IFCMEASUREWITHUNIT"
keyword_of kind.CartesianPoint = codes "IFCCARTESIANPOINT"
keyword_of kind.Direction = codes "IFCDIRECTION"
keyword_of kind.Axis2Placement3d = codes "IFCAXIS2PLACEMENT3D"
keyword_of kind.Axis2Placement2d = codes "IFCAXIS2PLACEMENT2D"
keyword_of kind.CartesianTransformationOperator3d = codes "IFCCARTESIANTRANSFORMATIONOPERATOR3D"
keyword_of kind.CartesianTransformationOperator3dNonUniform = codes "IFCCARTESIANTRANSFORMATIONOPERATOR3DNONUNIFORM"
keyword_of kind.ExtrudedAreaSolid = codes "IFCEXTRUDEDAREASOLID"
keyword_of kind.Block = codes "IFCBLOCK"
keyword_of kind.FacetedBrep = codes "IFCFACETEDBREP"
keyword_of kind.FacetedBrepWithVoids = codes "IFCFACETEDBREPWITHVOIDS"
keyword_of kind.ClosedShell = codes "IFCCLOSEDSHELL"
keyword_of kind.Face = codes "IFCFACE"
keyword_of kind.FaceBound = codes "IFCFACEBOUND"
keyword_of kind.FaceOuterBound = codes "IFCFACEOUTERBOUND"
keyword_of kind.PolyLoop = codes "IFCPOLYLOOP"
keyword_of kind.HalfSpaceSolid = codes "IFCHALFSPACESOLID"
keyword_of kind.BoxedHalfSpace = codes "IFCBOXEDHALFSPACE"
keyword_of kind.PolygonalBoundedHalfSpace = codes "IFCPOLYGONALBOUNDEDHALFSPACE"
keyword_of kind.Plane = codes "IFCPLANE"
keyword_of kind.BooleanResult = codes "IFCBOOLEANRESULT"
keyword_of kind.BooleanClippingResult = codes "IFCBOOLEANCLIPPINGRESULT"
keyword_of kind.CsgSolid = codes "IFCCSGSOLID"
keyword_of kind.MappedItem = codes "IFCMAPPEDITEM"
keyword_of kind.RepresentationMap = codes "IFCREPRESENTATIONMAP"
keyword_of kind.ArbitraryClosedProfileDef = codes "IFCARBITRARYCLOSEDPROFILEDEF"
keyword_of kind.ArbitraryProfileDefWithVoids = codes "IFCARBITRARYPROFILEDEFWITHVOIDS"
keyword_of kind.RectangleProfileDef = codes "IFCRECTANGLEPROFILEDEF"
keyword_of kind.RectangleHollowProfileDef = codes "IFCRECTANGLEHOLLOWPROFILEDEF"
keyword_of kind.IShapeProfileDef = codes "IFCISHAPEPROFILEDEF"
keyword_of kind.Polyline = codes "IFCPOLYLINE"
keyword_of kind.IndexedPolyCurve = codes "IFCINDEXEDPOLYCURVE"
keyword_of kind.CartesianPointList2d = codes "IFCCARTESIANPOINTLIST2D"

-- the letters are those of the word, in any case
abbrev pub is_spelling_of : List ℕ → List ℕ → Bool
is_spelling_of word text = str_eq_ignore_ascii_case word text

-- the word is the keyword of the kind
abbrev pub is_keyword : Kind → List ℕ → Bool
is_keyword k text = is_spelling_of (keyword_of k) text

-- the building elements
abbrev pub element_kinds : List Kind
element_kinds =
    kind.Beam ∷ kind.BeamStandardCase ∷ kind.BuildingElementPart ∷ kind.BuildingElementProxy ∷ kind.Chimney ∷ kind.Column ∷
    kind.ColumnStandardCase ∷ kind.Covering ∷ kind.CurtainWall ∷ kind.Door ∷ kind.DoorStandardCase ∷ kind.ElementAssembly ∷
    kind.Footing ∷ kind.FurnishingElement ∷ kind.Furniture ∷ kind.Member ∷ kind.MemberStandardCase ∷ kind.Pile ∷
    kind.Plate ∷ kind.PlateStandardCase ∷ kind.Railing ∷ kind.Ramp ∷ kind.RampFlight ∷ kind.Roof ∷
    kind.ShadingDevice ∷ kind.Slab ∷ kind.SlabElementedCase ∷ kind.SlabStandardCase ∷ kind.Stair ∷ kind.StairFlight ∷
    kind.Wall ∷ kind.WallElementedCase ∷ kind.WallStandardCase ∷ kind.Window ∷ kind.WindowStandardCase ∷ []

-- the kind is one of them; no two kinds have one keyword
abbrev pub is_element : Kind → Bool
is_element k = list_any (λ e. bytes_eq (keyword_of e) (keyword_of k)) element_kinds
