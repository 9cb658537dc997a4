-- The places of the corners on planes.
use Rattle.std.specs.Prelude.{◌≡◌, Some, ℕ, pos, ◌+◌, Bool, ◌&&◌, List, [], ◌∷◌, ◌++◌, ◌-◌, map, take, length, false, slice_get, if◌then◌else◌}
use Rattle.std.specs.Option.{option_map_or}
use Rattle.std.specs.Ordering.{int_eq}
use Rattle.spec_space.specs.Points.{value}
use Rattle.plane_core.specs.declared.numbers.Plane.{Plane}
use Rattle.plane_core.specs.declared.numbers.Corner.{Corner}
use Rattle.plane_core.specs.Views.{plane_of, point_of}

-- the corner lies on the plane
abbrev pub is_on : Plane → Corner → Bool
is_on p c = int_eq (value (plane_of p) (point_of c)) (pos 0)

-- the corner lies on both planes
abbrev pub is_on_both : Plane → Plane → Corner → Bool
is_on_both p q c = is_on p c && is_on q c

-- the places, counted from n, of the corners that pass the test
abbrev pub places_from : (Corner → Bool) → ℕ → List Corner → List ℕ
places_from test n [] = []
places_from test n (c ∷ cs) = if test c then n ∷ places_from test (n + 1) cs else places_from test (n + 1) cs

-- the places of the corners that pass the test, rising
abbrev pub places_where : (Corner → Bool) → List Corner → List ℕ
places_where test cs = places_from test 0 cs

-- there is a corner at the place, and it passes the test
abbrev pub passes_at : (Corner → Bool) → List Corner → ℕ → Bool
passes_at test cs i = option_map_or test (slice_get cs i) false

-- for each plane the places of the corners on it
abbrev pub places_on_planes : List Plane → List Corner → List (List ℕ)
places_on_planes planes cs = map (λ p. places_where (is_on p) cs) planes

-- the places of the corners on the planes of two numbers, rising
abbrev pub AreOnLine : List Plane → ℕ → ℕ → List Corner → List ℕ → Type 0
AreOnLine planes i j cs places =
    (p q : Plane) → slice_get planes i ≡ Some p → slice_get planes j ≡ Some q → places ≡ places_where (is_on_both p q) cs

-- the lists of the planes on which the corner lies, each changed
abbrev pub changed_lists : (List ℕ → List ℕ) → List Plane → Corner → List (List ℕ) → List (List ℕ)
changed_lists f [] c ls = ls
changed_lists f (p ∷ ps) c [] = []
changed_lists f (p ∷ ps) c (l ∷ ls) = (if is_on p c then f l else l) ∷ changed_lists f ps c ls

-- the place behind each list of a plane on which the corner lies
abbrev pub listed : List Plane → Corner → ℕ → List (List ℕ) → List (List ℕ)
listed planes c place ls = changed_lists (λ l. l ++ place ∷ []) planes c ls

-- without the last place of each list of a plane on which the corner lies
abbrev pub unlisted : List Plane → Corner → List (List ℕ) → List (List ℕ)
unlisted planes c ls = changed_lists (λ l. take (length l - 1) l) planes c ls
