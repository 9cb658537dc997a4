-- A printed element keeps the limits of pages, and is sound.
use Rattle.std.proofs.Common.{◌≡◌, ℕ, ◌≤◌, ◌∷◌, length, All}
use Rattle.std.proofs.lemmas.List.Elements.{All-weaker}
use Rattle.spec_solid.specs.Solids.{Body}
use Rattle.spec_page.specs.declared.Corner.{Corner}
use Rattle.spec_page.specs.Element.{Face, Element}
use Rattle.spec_page.specs.Faces.{IsSound, IsFull}
use Rattle.spec_page.specs.World.{rounded_image, printed_volume}
use Rattle.spec_headline.specs.Reduced.{IsCornerWithin, IsPrintedPlane}
use Rattle.spec_headline.specs.Headline.{IsPrintOf}
use Rattle.spec_check.specs.Limits.{IsShort, IsFaceWithin, IsElementWithin}
use Rattle.spec_check.specs.Verdicts.{IsNearImage, IsSoundElement}
use Rattle.page_laws.proofs.Rounded.{corner_near, volume_within}
use Rattle.page_laws.proofs.Faces.{face_within}

pub print_sound : (body : Body) (grid : ℕ) (e : Element) → IsPrintOf body grid e → IsSoundElement grid e
print_sound body grid e print = record {
  near = λ i d lt. corner_near e.frame grid _ (print.corners i d lt).0.reduced.weight (print.rounded i d lt);
  faces = All-weaker (IsFull e) (IsSound e) (λ f full. full.sound) e.faces print.full;
  balanced = print.edges;
  volume = print.volume;
}

pub print_within : (body : Body) (grid : ℕ) (e : Element) → IsShort e.number → IsPrintOf body grid e → IsElementWithin e
print_within body grid e short print = record {
  number = short;
  frame = print.frame;
  corners = print.corners;
  faces = λ i d lt. face_within e _ (print.full i d lt) (print.reduced i d lt);
  volume = volume_within e.six (printed_volume e) print.volume;
}
