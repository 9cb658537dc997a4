-- Placements, if the numbers of the section are short.
use Rattle.std.proofs.Common.{ℕ, zero, suc, List, [], ◌∷◌, Option, Some, None, refl}
use Rattle.spec_table.specs.Sections.{DataSection}
use Rattle.ifc_kinds.specs.declared.kind.Kind.TheVariants as kind
use Rattle.spec_place.specs.declared.transform.Transform.{Transform}
use Rattle.spec_place.specs.Chains.{Link}
use Rattle.spec_geometry.specs.Files.{File}
use Rattle.spec_geometry.specs.Placements.{placements_to, placements, link, chain, frame_after, world_frame, opening_frame}
use Rattle.spec_check.specs.Limits.{IsShort}
use Rattle.table_limits.proofs.Kept.{IsKept, few_short, Each, each_read, read, refused, weaker, onward}
use Rattle.table_limits.proofs.Tables.{IsShortSection, Any, IfSet, attr_ref_kept}
use Rattle.table_limits.proofs.Entities.{kinds_kept}
use Rattle.refusal_limits.proofs.Points.{placed_kept, named_axes_kept}
use Rattle.refusal_limits.proofs.Breps.{each_append}

placements_to_kept : (more : ℕ) (section : DataSection) (o : Option ℕ) → IsShortSection section → IfSet IsShort o → IsKept (Each IsShort) (placements_to more section o)
unfolding placements_to
placements_to_kept more section None short h = read tt
placements_to_kept zero section (Some n) short h = refused h
placements_to_kept (suc more) section (Some n) short h =
    onward (kinds_kept section short (kind.LocalPlacement ∷ []) n h) (λ p s.
    onward (attr_ref_kept section short p 1 s (few_short refl)) (λ parent k.
    onward (placements_to_kept more section parent short k) (λ before b. read (each_append IsShort before (p ∷ []) b (s, tt)))))

abbrev pub IsShortLink : Link → Type 0
IsShortLink l = IsShort l.0

frame_after_kept : (a : Transform) (ls : List Link) → Each IsShortLink ls → IsKept Any (frame_after a ls)
frame_after_kept a [] h = read tt
frame_after_kept a (l ∷ ls) h = onward (placed_kept l.0 _ h.0) (λ b _. frame_after_kept b ls h.1)

pub world_frame_kept : (ls : List Link) → Each IsShortLink ls → IsKept Any (world_frame ls)
world_frame_kept [] h = read tt
world_frame_kept (l ∷ ls) h = frame_after_kept l.1 ls h.1

pub opening_frame_kept : (opening : ℕ) (element own : List Link) → IsShort opening → IsKept Any (opening_frame opening element own)
opening_frame_kept opening element own h = placed_kept opening _ h

module _ (file : File) (short : IsShortSection file.section) where
  placements_kept : (product : ℕ) → IsShort product → IsKept (Each IsShort) (placements file.section product)
  placements_kept product h =
      onward (attr_ref_kept file.section short product 6 h (few_short refl)) (λ o k. placements_to_kept 64 file.section o short k)

  link_kept : (p : ℕ) → IsShort p → IsKept IsShortLink (link file p)
  link_kept p h = onward (named_axes_kept file short p 2 h refl) (λ frame _. read h)

  pub chain_kept : (product : ℕ) → IsShort product → IsKept (Each IsShortLink) (chain file product)
  chain_kept product h = onward (placements_kept product h) (λ ps k. weaker (each_read (λ p s. link_kept p s) ps k) (λ ls a. a.each))
