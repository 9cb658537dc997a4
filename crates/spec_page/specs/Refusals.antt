-- The texts of refusals.
use Rattle.std.specs.Prelude.{ℕ, ℤ, List, ◌∷◌, ◌++◌, codes}
use Rattle.std.specs.Fmt.{decimal, signed_decimal}
use Rattle.spec_space.specs.declared.Vector.{Vector}
use Rattle.spec_refusal.specs.declared.Refusal.{Refusal}
use Rattle.spec_page.specs.Lines.{spaced}
use Rattle.spec_refusal.specs.declared.Refusal.TheVariants.{Unsupported, Curved, BadAttribute, Dangling, NumberTooLarge, BadDirection, ScaleOutOfRange, TooDeep, ElementTooLarge, CornerTooFar, OpenShell, PlaneTooLarge, Unbounded}

-- a name, and behind it the number of an instance
abbrev pub named_at : List ℕ → ℕ → List ℕ
named_at name at = name ++ codes " #" ++ decimal at

-- a number behind a space
abbrev pub spaced_number : ℕ → List ℕ
spaced_number n = 32 ∷ decimal n

-- a whole number behind a comma
abbrev pub further : ℤ → List ℕ
further n = 44 ∷ signed_decimal n

-- three coordinates behind a space, with commas between them
abbrev pub spaced_corner : Vector → List ℕ
spaced_corner v = spaced v.x ++ further v.y ++ further v.z

-- code, name and numbers
abbrev pub refusal_text : Refusal → List ℕ
refusal_text (Unsupported at) = named_at (codes "E1 Unsupported") at
refusal_text (Curved at) = named_at (codes "E2 Curved") at
refusal_text (BadAttribute at position) = named_at (codes "E3 BadAttribute") at ++ spaced_number position
refusal_text (Dangling at number) = named_at (codes "E4 Dangling") at ++ spaced_number number
refusal_text (NumberTooLarge at) = named_at (codes "E5 NumberTooLarge") at
refusal_text (BadDirection at) = named_at (codes "E6 BadDirection") at
refusal_text (ScaleOutOfRange at) = named_at (codes "E7 ScaleOutOfRange") at
refusal_text (TooDeep at) = named_at (codes "E8 TooDeep") at
refusal_text (ElementTooLarge triangles) = codes "E9 ElementTooLarge" ++ spaced_number triangles
refusal_text (CornerTooFar at) = named_at (codes "E10 CornerTooFar") at
refusal_text (OpenShell at from to) = named_at (codes "E11 OpenShell") at ++ spaced_corner from ++ spaced_corner to
refusal_text (PlaneTooLarge at) = named_at (codes "E12 PlaneTooLarge") at
refusal_text (Unbounded at) = named_at (codes "E13 Unbounded") at
