-- The order of a mesh's corners (a rule of this project).
use Rattle.std.specs.Prelude.{◌≡◌, ℕ, ◌+◌, ◌≤◌, max, List, [], ◌∷◌, length}
use Rattle.std.specs.List.{flat_map}
use Rattle.spec_page.specs.Element.{Face}
use Rattle.plane_core.specs.declared.numbers.Corner.{Corner}

-- each number is one of those below n, or of those that came before, or the next one; m numbers are known behind them
abbrev pub NamesNext : ℕ → List ℕ → ℕ → Type 0
NamesNext n [] m = n ≡ m
NamesNext n (i ∷ is) m = (i ≤ n) × NamesNext (max n (i + 1)) is m

-- the corners stand in the order of their first use, over the faces in order and round each face, and each is used
abbrev pub AreInFirstUse : List Corner → List Face → Type 0
AreInFirstUse corners faces = NamesNext 0 (flat_map (λ f. f.corners) faces) (length corners)
