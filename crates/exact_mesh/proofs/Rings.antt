-- The edges round one face, one by one.
use Rattle.std.proofs.Common.{ℕ, List, [], ◌∷◌, ◌++◌}
use Rattle.std.specs.List.{count_by, zip}
use Rattle.spec_page.specs.Faces.{goes_between}

-- the edges from `from` through the rest to the first corner
abbrev pub edges_to : ℕ → ℕ → List ℕ → List (ℕ × ℕ)
edges_to first from rest = zip (from ∷ rest) (rest ++ first ∷ [])

-- those that go from u to v
abbrev pub count_to : ℕ → ℕ → ℕ → ℕ → List ℕ → ℕ
count_to u v first from rest = count_by (goes_between u v) (edges_to first from rest)
