-- Loops of points.
use Rattle.std.specs.Prelude.{ℕ, Bool, false, not, ◌&&◌, ◌-◌, nat_lt, List, [], ◌∷◌, length, take, slice_index_or, if◌then◌else◌}
use Rattle.std.specs.List.{list_any}
use Rattle.std.specs.Ordering.{int_eq}
use Rattle.spec_space.specs.declared.Vector.{Vector}
use Rattle.spec_place.specs.Vectors.{origin}

abbrev pub is_same : Vector → Vector → Bool
is_same u v = int_eq u.x v.x && int_eq u.y v.y && int_eq u.z v.z

abbrev pub last_of : List Vector → Vector
last_of ps = slice_index_or ps (length ps - 1) origin

-- the loop has more points than one, and its last point equals its first
abbrev pub repeats_first : List Vector → Bool
repeats_first [] = false
repeats_first (p ∷ ps) = nat_lt 0 (length ps) && is_same p (last_of (p ∷ ps))

-- a loop without a last point that equals its first
abbrev pub open_loop : List Vector → List Vector
open_loop ps = if repeats_first ps then take (length ps - 1) ps else ps

abbrev pub are_different : Vector → Vector → Vector → Bool
are_different p q r = not (is_same p q) && not (is_same p r) && not (is_same q r)

-- three points of the loop are different
abbrev pub has_three : List Vector → Bool
has_three ps = list_any (λ p. list_any (λ q. list_any (λ r. are_different p q r) ps) ps) ps
