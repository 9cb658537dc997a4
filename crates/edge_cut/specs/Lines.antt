-- The corners on lines, in order along each.
use Rattle.std.specs.Prelude.{◌≡◌, ◌↔◌, true, Bool, ◌&&◌, nat_eq, List, AllPairs, Contains, IfSome}
use Rattle.indexmap.specs.IndexMap.{get}
use Rattle.plane_core.specs.declared.numbers.Plane.{Plane as BookPlane}
use Rattle.plane_core.specs.declared.numbers.Corner.{Corner}
use Rattle.edge_cut.specs.declared.lines.LineId.{LineId}
use Rattle.edge_cut.specs.declared.lines.Lines.{Lines}
use Rattle.edge_cut.specs.Stretches.{comes_before, lies_on_both}

-- the two lines have the same numbers
abbrev pub line_eq : LineId → LineId → Bool
line_eq a b = nat_eq a.first.k b.first.k && nat_eq a.second.k b.second.k

-- all corners of the list on the line, in order along it
pub record IsLineOf (planes : List BookPlane) (corners : List Corner) (id : LineId) (line : List Corner) : Type 0 where
  pub all : (c : Corner) → Contains line c ↔ (Contains corners c × (lies_on_both planes id.first id.second c ≡ true))
  pub rising : AllPairs (λ c d. comes_before c d ≡ true) line

-- each line has its corners of the list
abbrev pub AreLines : List BookPlane → List Corner → Lines → Type 0
AreLines planes corners ls = (id : LineId) → IfSome (get line_eq ls.lines id) (λ line. IsLineOf planes corners id line.items)
