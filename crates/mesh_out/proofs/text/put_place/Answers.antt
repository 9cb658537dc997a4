use Rattle.std.proofs.Common.{[], ◌∷◌, FitsSigned}
use Rattle.std.proofs.lemmas.Int.{to_z-of_z}
use mir.Syntax.{w128}
use Rattle.spec_page.specs.Lines.{metres, spaced_metres}
use Rattle.mesh_out.proofs.Texts.{joined_four}
use Rattle.mesh_out.proofs.text.put_place.Goals as goal

pub returns : goal.returns
returns c =
    let x : FitsSigned w128 c.args.x = c.ranges.x in
    let y : FitsSigned w128 c.args.y = c.ranges.y in
    let z : FitsSigned w128 c.args.z = c.ranges.z in
    joined_four c.args.text.now.items c.metres.new.page.items c.put_spaced_metres.new.text.items c.put_spaced_metres-2.new.text.items c.push.new.self.items
    (metres c.args.x) (spaced_metres c.args.y) (spaced_metres c.args.z) (10 ∷ [])
    (simp to_z-of_z at c.in_ok-metres.ensures) (simp to_z-of_z at c.in_ok-put_spaced_metres.ensures) (simp to_z-of_z at c.in_ok-put_spaced_metres-2.ensures)
    c.in_ok-push.ensures.items
