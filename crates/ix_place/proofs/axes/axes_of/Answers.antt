use Rattle.std.proofs.Common.{◌≡◌, Bool, true, false, ap, ◌∙◌}
use Rattle.std.specs.Prelude.{Result, Ok, Err, if◌then◌else◌}
use Rattle.spec_space.specs.declared.Vector.{Vector}
use Rattle.spec_place.specs.declared.fault.PlaceFault.{PlaceFault}
use Rattle.spec_place.specs.declared.fault.PlaceFault.TheVariants.{Parallel}
use Rattle.spec_place.specs.declared.transform.Axes.{Axes}
use Rattle.spec_place.specs.Directions.{unit}
use Rattle.spec_place.specs.Axes.{is_parallel, reference_rest, axes_along}
use Rattle.ix_place.proofs.axes.axes_of.Goals as goal

abbrev as_axes : Axes → Result Axes PlaceFault
as_axes a = Ok a

abbrev as_vector : Vector → Result Vector PlaceFault
as_vector v = Ok v

-- what is left of the reference direction gives the axes
found : (parallel : Bool) (axis left v : Vector) (a : Axes) → as_vector left ≡ (if parallel then Err Parallel else Ok v) → a ≡ axes_along axis (unit left)
    → as_axes a ≡ (if parallel then Err Parallel else Ok (axes_along axis (unit v)))
found true axis left v a e is = cc
found false axis left v a e is = let same : left ≡ v = cc in ap as_axes (is ∙ ap (λ l. axes_along axis (unit l)) same)

pub returns-clause-value : goal.returns-clause-value
returns-clause-value c =
    found (is_parallel c.args.axis.now c.args.ref_dir) c.args.axis.now c.in_ok-left.left (reference_rest c.args.axis.now c.args.ref_dir) c.axes_along.result c.in_ok-left.ensures.value c.axes_along.ensures.value
