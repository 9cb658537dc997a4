-- Half-spaces on the grid, by the reduced forms of their planes.
use Rattle.std.proofs.Common.{◌≡◌, ℕ, Bool, true, Ok, Err, sym, ap, ◌∙◌}
use Rattle.spec_solid.specs.Solids.{Solid}
use Rattle.spec_place.specs.declared.half.HalfSpace.{HalfSpace as PlacedHalf}
use Rattle.spec_refusal.specs.declared.Refusal.TheVariants.{CornerTooFar, PlaneTooLarge}
use Rattle.spec_refusal.specs.Reads.{Read, only_if}
use Rattle.spec_grid.specs.Forms.{reduced_half}
use Rattle.spec_grid.specs.Rounded.{is_near, placed_half}
use Rattle.plane_core.specs.Numbers.{IsGcdOfFour, IsSmallOver}
use Rattle.plane_core.specs.declared.numbers.Plane.{Plane as BookPlane}
use Rattle.plane_core.specs.Planes.{IsReductionOf}
use Rattle.grid_forms.proofs.Forms.{side_of, form_fits, not_fitting, reduced_half_is}
use Rattle.grid_solid.specs.Shapes.{shape_solid}
use Rattle.grid_solid.specs.Views.{shape_of, solid_of}
use Rattle.grid_solid.specs.declared.nodes.GridNode.TheVariants as node
use Rattle.grid_solid.proofs.Folds.{shape-HalfSpace}

abbrev half_by : Bool → Bool → ℕ → Solid → Read Solid
half_by near fits at s = only_if near (CornerTooFar at) (only_if fits (PlaneTooLarge at) (Ok s))

pub half_large : (at : ℕ) (h : PlacedHalf) → is_near h.corner ≡ true → ((g : ℕ) → IsGcdOfFour h.plane.a h.plane.b h.plane.c h.plane.d g → IsSmallOver g h.plane.a h.plane.b h.plane.c h.plane.d → ⊥)
    → placed_half at h ≡ Err (PlaneTooLarge at)
half_large at h e none = λ i. half_by (e i) (not_fitting h.plane none i) at (reduced_half h.plane h.in_front)

pub half_found : (at : ℕ) (h : PlacedHalf) (p : BookPlane) (in_front : Bool) → is_near h.corner ≡ true → IsReductionOf p h.plane.a h.plane.b h.plane.c h.plane.d
    → in_front ≡ side_of h.plane h.in_front → placed_half at h ≡ Ok (solid_of (node.HalfSpace p in_front))
half_found at h p in_front e is same =
    (λ i. half_by (e i) (form_fits h.plane p is i) at (reduced_half_is h.plane p is h.in_front i))
    ∙ ap Ok (sym (ap shape_solid (ap (λ b. shape_of (node.HalfSpace p b)) same ∙ shape-HalfSpace p (side_of h.plane h.in_front))))
