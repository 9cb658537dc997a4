-- The parts of a union and the items of an element, one after another.
use Rattle.std.proofs.Common.{◌≡◌, ℕ, ◌+◌, ◌<◌, ◌≤◌, List, [], ◌∷◌, ◌++◌, length, map, drop, get_or, Ok, Err, refl, sym, ap, ◌∙◌}
use Rattle.std.proofs.lemmas.List.{drop_more, drop_all}
use Rattle.spec_solid.specs.declared.BoolOp.TheVariants.{Union}
use Rattle.spec_solid.specs.Solids.{Solid, Shell, Combined}
use Rattle.spec_shape.specs.Shapes.{united}
use Rattle.spec_refusal.specs.Reads.{Read, next}
use Rattle.spec_grid.specs.Rounded.{round_shape, round_items}
use Rattle.solid_expr.specs.declared.solid.Solid.{Solid as FileSolid}
use Rattle.solid_expr.specs.declared.solid.Item.{Item}
use Rattle.solid_expr.specs.Views.{item_of}
use Rattle.solid_expr.specs.Views as file
use Rattle.grid_solid.specs.declared.nodes.GridNode.{GridNode}
use Rattle.grid_solid.specs.Shapes.{union_of, shape_solid}
use Rattle.grid_solid.specs.Views.{shape_of, solid_of}

next_twice : {T U V : Type 0} (x : Read T) (f : T → Read U) (g : U → Read V) → next (next x f) g ≡ next x (λ y. next (f y) g)
next_twice (Ok y) f g = refl
next_twice (Err refusal) f g = refl

-- ---- the parts of a union
abbrev pub joined : List Solid → Solid → Solid
joined [] rest = rest
joined (s ∷ ss) rest = Combined Union s (joined ss rest)

-- what is rounded so far, and what the parts from one on are rounded to, make the union
abbrev pub parts_from : ℕ → List FileSolid → Read Solid
parts_from step parts = round_shape step (united (map file.shape_of parts))

pub record ArePartsSoFar (step : ℕ) (parts : List FileSolid) (i : ℕ) (done : List GridNode) : Type 0 where
  pub whole : parts_from step parts ≡ next (parts_from step (drop i parts)) (λ rest. Ok (joined (map solid_of done) rest))

joined_more : (done : List GridNode) (n : GridNode) (rest : Solid) → joined (map solid_of done) (Combined Union (solid_of n) rest) ≡ joined (map solid_of (done ++ n ∷ [])) rest
joined_more [] n rest = refl
joined_more (d ∷ done) n rest = ap (Combined Union (solid_of d)) (joined_more done n rest)

joined_nothing : (done : List GridNode) → joined (map solid_of done) (Shell []) ≡ shape_solid (union_of (map shape_of done))
joined_nothing [] = refl
joined_nothing (d ∷ done) = ap (Combined Union (solid_of d)) (joined_nothing done)

part_here : (step : ℕ) (parts : List FileSolid) (i : ℕ) (d : FileSolid) → i < length parts
    → parts_from step (drop i parts) ≡ next (round_shape step (file.shape_of (get_or parts i d))) (λ f. next (parts_from step (drop (i + 1) parts)) (λ s. Ok (Combined Union f s)))
part_here step parts i d l = ap (parts_from step) (drop_more parts i d l)

pub part_more : (step : ℕ) (parts : List FileSolid) (i : ℕ) (d : FileSolid) (done more : List GridNode) (n : GridNode) → i < length parts
    → round_shape step (file.shape_of (get_or parts i d)) ≡ Ok (solid_of n) → more ≡ done ++ n ∷ [] → ArePartsSoFar step parts i done → ArePartsSoFar step parts (i + 1) more
part_more step parts i d done more n l e m so_far = record {
  whole =
      so_far.whole
      ∙ ap (λ x. next x (λ rest. Ok (joined (map solid_of done) rest))) (part_here step parts i d l ∙ ap (λ x. next x (λ f. next (parts_from step (drop (i + 1) parts)) (λ s. Ok (Combined Union f s)))) e)
      ∙ next_twice (parts_from step (drop (i + 1) parts)) (λ s. Ok (Combined Union (solid_of n) s)) (λ rest. Ok (joined (map solid_of done) rest))
      ∙ (λ j. next (parts_from step (drop (i + 1) parts)) (λ rest. Ok ((joined_more done n rest ∙ ap (λ ns. joined (map solid_of ns) rest) (sym m)) j)));
}

pub all_parts : (step : ℕ) (parts : List FileSolid) (i : ℕ) (done : List GridNode) → length parts ≤ i → ArePartsSoFar step parts i done → parts_from step parts ≡ Ok (shape_solid (union_of (map shape_of done)))
all_parts step parts i done l so_far =
    so_far.whole
    ∙ ap (λ ps. next (parts_from step ps) (λ rest. Ok (joined (map solid_of done) rest))) (drop_all i parts l)
    ∙ ap Ok (joined_nothing done)

-- ---- items
pub record AreItemsSoFar (step : ℕ) (items : List Item) (i : ℕ) (done : List GridNode) : Type 0 where
  pub whole : round_items step (map item_of items) ≡ next (round_items step (map item_of (drop i items))) (λ rest. Ok (map solid_of done ++ rest))
