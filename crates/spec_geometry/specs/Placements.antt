-- Placements (IfcLocalPlacement of IFC4): the chain of a product, from the root.
use Rattle.std.specs.Prelude.{ℕ, zero, suc, List, [], ◌∷◌, ◌++◌, Option, Some, None, Ok, Err}
use Rattle.spec_table.specs.Sections.{DataSection}
use Rattle.spec_table.specs.Attributes.{attr_ref}
use Rattle.ifc_kinds.specs.declared.kind.Kind.TheVariants as kind
use Rattle.spec_place.specs.declared.transform.Transform.{Transform}
use Rattle.spec_place.specs.Transforms.{identity}
use Rattle.spec_place.specs.Frames.{frame_then}
use Rattle.spec_place.specs.Chains.{Link, relative_frame_of}
use Rattle.spec_refusal.specs.declared.Refusal.TheVariants.{TooDeep}
use Rattle.spec_refusal.specs.Reads.{Read, next}
use Rattle.spec_entity.specs.Reads.{as_read, instance_of_kinds, each}
use Rattle.spec_geometry.specs.Files.{File, placed}
use Rattle.spec_geometry.specs.Axes.{named_axes}

-- the placement of a number and those to which it is relative, from the root, where so many may be
unfoldable pub placements_to : ℕ → DataSection → Option ℕ → Read (List ℕ)
placements_to more section None = Ok []
placements_to zero section (Some n) = Err (TooDeep n)
placements_to (suc more) section (Some n) =
    next (instance_of_kinds section (kind.LocalPlacement ∷ []) n) (λ p.
    next (as_read (attr_ref section p 1)) (λ parent.
    next (placements_to more section parent) (λ before. Ok (before ++ p ∷ []))))

-- a chain has at most so many placements
abbrev pub most_links : ℕ
most_links = 64

-- the placements of a product, from the root
abbrev pub placements : DataSection → ℕ → Read (List ℕ)
placements section product = next (as_read (attr_ref section product 6)) (placements_to most_links section)

-- a placement with its own frame
abbrev pub link : File → ℕ → Read Link
link file p = next (named_axes file p 2) (λ frame. Ok (p, frame))

-- the chain of a product, from the root
abbrev pub chain : File → ℕ → Read (List Link)
chain file product = next (placements file.section product) (each (link file))

-- a frame, then each of a chain in turn; a refusal names the placement that is being added
abbrev pub frame_after : Transform → List Link → Read Transform
frame_after a [] = Ok a
frame_after a (l ∷ ls) = next (placed l.0 (frame_then a l.1)) (λ b. frame_after b ls)

-- the frame of a chain in the world
abbrev pub world_frame : List Link → Read Transform
world_frame [] = Ok identity
world_frame (l ∷ ls) = frame_after l.1 ls

-- the frame of an opening's chain as seen from that of its element; a refusal names the opening
abbrev pub opening_frame : ℕ → List Link → List Link → Read Transform
opening_frame opening element own = placed opening (relative_frame_of element own)
