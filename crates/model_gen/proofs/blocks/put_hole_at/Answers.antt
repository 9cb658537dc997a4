use Rattle.std.proofs.Common.{pos, ◌+◌, ◌-ℤ◌, ◌++◌, ap₂, ◌∙◌}
use Rattle.std.proofs.lemmas.Int.{to_z-of_z}
use mir.Syntax.{w64}
use Rattle.model_gen.specs.Lines.{opening_line, voids_line}
use Rattle.model_gen.specs.Model.{placement_in}
use Rattle.model_gen.proofs.Texts.{joined_three, on_ok}
use Rattle.model_gen.proofs.blocks.put_hole_at.Goals as goal

pub returns : goal.returns
returns c =
    let n = c.args.number in
    let old = c.args.page.now.items in
    on_ok c.put_voids.result
    (λ e. joined_three old c.put_place_in.new.page.items c.put_opening.new.page.items c.put_voids.new.page.items (placement_in 10002 n c.args.x c.args.y (pos 0 -ℤ pos 50)) (opening_line (n + 3) (n + 2) 10011) (voids_line (n + 4) 10007 (n + 3))
    (c.in_ok-put_place_in.ensures ∙ ap₂ (λ x y. old ++ placement_in 10002 n x y (pos 0 -ℤ pos 50)) (to_z-of_z w64 c.args.x c.ranges.x) (to_z-of_z w64 c.args.y c.ranges.y)) c.in_ok-put_opening.ensures e)
    c.put_voids.ensures
