-- Chains of placements (IfcLocalPlacement): lists from the root to the product.
use Rattle.std.specs.Prelude.{ℕ, List, [], ◌∷◌, map, nat_eq, Ok, if◌then◌else◌}
use Rattle.spec_place.specs.declared.transform.Transform.{Transform}
use Rattle.spec_place.specs.Transforms.{identity}
use Rattle.spec_place.specs.Frames.{Placed, next, frame_then, frame_inverse}

-- a frame, then each of a list in turn
abbrev pub then_each : Transform → List Transform → Placed
then_each a [] = Ok a
then_each a (b ∷ bs) = next (frame_then a b) (λ c. then_each c bs)

-- the frame of a chain: its first frame, then the second, and so on
abbrev pub chain_frame : List Transform → Placed
chain_frame [] = Ok identity
chain_frame (f ∷ fs) = then_each f fs

-- the frame of the second chain as seen from that of the first
abbrev pub relative_frame : List Transform → List Transform → Placed
relative_frame element opening =
    next (chain_frame element) (λ e. next (frame_inverse e) (λ back. next (chain_frame opening) (λ o. frame_then back o)))

-- a placement: the number of its instance, and its own frame
abbrev pub Link : Type 0
Link = ℕ × Transform

-- two chains without the placements that they share at their front
abbrev pub rests : List Link → List Link → List Link × List Link
rests (a ∷ ls) (b ∷ ms) = if nat_eq a.0 b.0 then rests ls ms else (a ∷ ls, b ∷ ms)
rests ls ms = (ls, ms)

abbrev pub frames_of : List Link → List Transform
frames_of links = map (λ l. l.1) links

-- the relative frame of an opening: that of the rests of the element's chain and of its own
abbrev pub relative_frame_of : List Link → List Link → Placed
relative_frame_of element opening = relative_frame (frames_of (rests element opening).0) (frames_of (rests element opening).1)
