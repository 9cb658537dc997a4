use Rattle.std.proofs.Common.{◌∙◌, ◌^◌, ◌-◌, sym, ap, subst}
use Rattle.std.specs.List.{list_all}
use Rattle.spec_place.specs.Maps.{corner}
use Rattle.spec_grid.specs.Rounded.{is_near}
use Rattle.ix_profile.specs.Outlines.{IsOutline}
use Rattle.grid_round.proofs.NearCorners.{near_outline}
use Rattle.grid_round.proofs.faces.round_face.Goals as goal

pub of_loops-requires : goal.of_loops-requires
of_loops-requires c =
    near_outline (corner c.args.under.now c.args.step) c.as_slice.result.now c.in_ok-loops.loops c.in_ok-loops.ensures
    (ap (list_all (list_all is_near)) (sym c.as_slice-2.ensures) ∙ sym c.are_loops_near.ensures ∙ c.if-are_loops_near.true)
    (subst (λ ls. IsOutline (2 ^ 62 - 1) ls) (sym c.as_slice.ensures) c.loops.ensures.kept)
