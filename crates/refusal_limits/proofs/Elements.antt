-- Elements with their openings, if the numbers of the section are short.
use Rattle.std.proofs.Common.{ℕ, List, [], ◌∷◌, Option, Some, None, refl}
use Rattle.std.proofs.lemmas.Bool.{leb-true}
use Rattle.spec_step.specs.declared.tree.Param.{Param}
use Rattle.spec_place.specs.declared.transform.Transform.{Transform}
use Rattle.spec_place.specs.Transforms.{identity}
use Rattle.spec_place.specs.Chains.{Link}
use Rattle.spec_shape.specs.Shapes.{ShapeItem, ElementShape}
use Rattle.spec_entity.specs.Reads.{numbers_of}
use Rattle.spec_entity.specs.Elements.{Representation, voids}
use Rattle.spec_geometry.specs.Files.{File}
use Rattle.spec_geometry.specs.Elements.{item, items, voiding, opening_kinds, items_of_opening, opening_items, openings, shape_of_body, element_body}
use Rattle.spec_check.specs.Limits.{IsShort}
use Rattle.table_limits.proofs.Kept.{IsKept, Each, read, onward}
use Rattle.table_limits.proofs.Trees.{IsShortParam}
use Rattle.table_limits.proofs.Tables.{IsShortSection, IfSet}
use Rattle.table_limits.proofs.Entities.{IsShortRepresentation, filter_each, numbers_short, named_kept, member_kept, representation_kept}
use Rattle.refusal_limits.proofs.Profiles.{IsCount, IsCounted}
use Rattle.refusal_limits.proofs.Breps.{each_counted_kept, each_append}
use Rattle.refusal_limits.proofs.Solids.{IsShortShape, solid_kept}
use Rattle.refusal_limits.proofs.Placements.{chain_kept, world_frame_kept, opening_frame_kept}

-- an item that names instances by short numbers
pub record IsShortItem (i : ShapeItem) : Type 0 where
  pub number : IsShort i.at
  pub shape : IsShortShape i.shape

pub record IsShortElement (e : ElementShape) : Type 0 where
  pub items : Each IsShortItem e.items
  pub openings : Each IsShortItem e.openings

module _ (file : File) (short : IsShortSection file.section) where
  item_kept : (r : ℕ) (map : Transform) (q : Param) (count : ℕ) → IsShort r → IsShortParam q → IsCount count → IsKept (IsCounted IsShortItem) (item file r map q count)
  item_kept r map q count h s c =
      onward (member_kept file.section short r 4 q h refl s) (λ n a.
      onward (solid_kept file short 64 n map count a c) (λ shape k. read (record { value = record { number = a; shape = k.value }; count = k.count })))

  items_kept : (r : Representation) (map : Transform) (count : ℕ) → IsShortRepresentation r → IsCount count → IsKept (IsCounted (Each IsShortItem)) (items file r map count)
  items_kept r map count h c = each_counted_kept (λ q more s m. item_kept r.0 map q more h.number s m) r.1 count h.items.each c

  of_opening_kept : (element : List Link) (opening count : ℕ) (o : Option Representation) → IsShort opening → IsCount count → IfSet IsShortRepresentation o
      → IsKept (IsCounted (Each IsShortItem)) (items_of_opening file element opening count o)
  of_opening_kept element opening count None h c k = read (record { value = tt; count = c })
  of_opening_kept element opening count (Some r) h c k =
      onward (chain_kept file short opening h) (λ own _.
      onward (opening_frame_kept opening element own h) (λ frame _. items_kept r frame count k c))

  opening_items_kept : (element : List Link) (relation count : ℕ) → IsShort relation → IsCount count → IsKept (IsCounted (Each IsShortItem)) (opening_items file element relation count)
  opening_items_kept element relation count h c =
      onward (named_kept file.section short opening_kinds relation 6 h refl) (λ opening s.
      onward (representation_kept file.section short opening s) (λ o k. of_opening_kept element opening count o s c k))

  openings_kept : (element : List Link) (rs : List ℕ) (count : ℕ) → Each IsShort rs → IsCount count → IsKept (IsCounted (Each IsShortItem)) (openings file element rs count)
  openings_kept element [] count h c = read (record { value = tt; count = c })
  openings_kept element (r ∷ rs) count h c =
      onward (opening_items_kept element r count h.0 c) (λ own k.
      onward (openings_kept element rs own.1 h.1 k.count) (λ more m.
      read (record { value = each_append IsShortItem own.0 more.0 k.value m.value; count = m.count })))

  voiding_short : (element : ℕ) → Each IsShort (voiding file.section element)
  voiding_short element = filter_each IsShort (voids file.section element) (numbers_of file.section) (numbers_short file.section short)

  body_kept : (element : ℕ) (o : Option Representation) → IsShort element → IfSet IsShortRepresentation o → IsKept (IfSet IsShortElement) (shape_of_body file element o)
  body_kept element None h k = read tt
  body_kept element (Some r) h k =
      onward (chain_kept file short element h) (λ links a.
      onward (world_frame_kept links a) (λ frame _.
      onward (items_kept r identity 0 k (leb-true 0 4096 refl)) (λ own m.
      onward (openings_kept links (voiding file.section element) own.1 (voiding_short element) m.count) (λ cut v.
      read (record { items = m.value; openings = v.value })))))

  -- what is read of an element names instances by short numbers, and a refusal of it is within the limits
  pub element_kept : (element : ℕ) → IsShort element → IsKept (IfSet IsShortElement) (element_body file element)
  element_kept element h = onward (representation_kept file.section short element h) (λ o k. body_kept element o h k)
