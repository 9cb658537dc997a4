use Rattle.std.proofs.Common.{◌≡◌, ◌≤◌, ◌^◌, ℤ, ℕ, unsigned_abs, FitsSigned, to_z, of_z, ap, ◌∙◌}
use Rattle.std.proofs.lemmas.Int.{to_z-of_z}
use mir.Syntax.{w128}
use Rattle.integer_laws.proofs.Computed.{arg}
use Rattle.spec_num.specs.Rounding.{round_of}
use Rattle.spec_space.specs.declared.Point.{Point}
use Rattle.spec_space.specs.declared.Vector.{Vector}
use Rattle.spec_page.specs.World.{image_above, image_below}
use Rattle.plane_core.specs.Views.{point_of}
use Rattle.world_print.proofs.image.place_in.Goals as goal

-- a coordinate that was returned
coordinate_of : (result : ℤ) (row : Vector) (off : ℤ) (step : ℕ) (p : Point) → FitsSigned w128 result → unsigned_abs off ≤ 10 ^ 16
    → result ≡ round_of (image_above row (to_z w128 (of_z w128 off)) step p) (image_below p) → to_z w128 (of_z w128 result) ≡ round_of (image_above row off step p) (image_below p)
coordinate_of result row off step p fits small e = to_z-of_z w128 result fits ∙ e ∙ ap (λ o. round_of (image_above row o step p) (image_below p)) (arg off small tt).is

pub returns : goal.returns
returns c =
    let t = c.args.frame.now in
    let p = point_of c.args.corner.now in λ i. record {
      x = coordinate_of c.coordinate.result t.x t.off.x c.args.step p (record { sfits = c.coordinate.type_inv }) c.requires.frame.off.x c.coordinate.ensures i;
      y = coordinate_of c.coordinate-2.result t.y t.off.y c.args.step p (record { sfits = c.coordinate-2.type_inv }) c.requires.frame.off.y c.coordinate-2.ensures i;
      z = coordinate_of c.coordinate-3.result t.z t.off.z c.args.step p (record { sfits = c.coordinate-3.type_inv }) c.requires.frame.off.z c.coordinate-3.ensures i;
    }
